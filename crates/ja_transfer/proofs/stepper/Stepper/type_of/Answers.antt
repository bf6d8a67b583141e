use Rattle.std.proofs.Common.{◌≡◌, Bool, ◌&&◌, ◌||◌, not, [], ◌∷◌, ap, ◌∙◌}
use Rattle.std.specs.List.{list_any}
use Rattle.std.proofs.lemmas.Result.{IfOk-weaker}
use lib.Chars.{codes}
use Rattle.ja_abstract.specs.AbstractState.{labels_of}
use Rattle.ja_abstract.specs.Resolved.{join_values}
use Rattle.ja_abstract.specs.Values.{text_if, is_function_label}
use Rattle.ja_value.specs.Value.{value_of}
use Rattle.ja_transfer.proofs.Filters.{any_filter}
use Rattle.ja_transfer.proofs.ValueLemmas.{joined_seven}
use Rattle.ja_transfer.proofs.stepper.Stepper.type_of.Goals as goal

pub returns : goal.returns
returns c =
    let s = c.args.self.now in
    let v = value_of c.args.value.now in
    let all = labels_of s.reader.program.now in
    let function = is_function_label s.reader.program.now in
    let types = λ (number text functions others : Bool).
    join_values (text_if v.flags.undefined (codes "undefined")
    ∷ text_if v.flags.null (codes "object")
    ∷ text_if (v.flags.is_true || v.flags.is_false) (codes "boolean")
    ∷ text_if (v.flags.nan || number) (codes "number")
    ∷ text_if text (codes "string")
    ∷ text_if functions (codes "function")
    ∷ text_if others (codes "object") ∷ []) in
    let functions : c.some_function-is_function.result
    ≡ list_any (λ l. v.label l && function l) all = c.some_function-is_function.ensures
    ∙ ap (list_any function) (c.deref.ensures.value ∙ c.in_ok-labels.ensures)
    ∙ any_filter v.label function all in
    let others : c.some_other-is_other.result
    ≡ list_any (λ l. v.label l && not (function l)) all = c.some_other-is_other.ensures
    ∙ ap (list_any (λ l. not (function l))) (c.deref-2.ensures.value ∙ c.in_ok-labels.ensures)
    ∙ any_filter v.label (λ l. not (function l)) all in
    IfOk-weaker c.join_text-7.result _ _ (λ r joined. joined_seven
    (text_if v.flags.undefined (codes "undefined")) (text_if v.flags.null (codes "object"))
    (text_if (v.flags.is_true || v.flags.is_false) (codes "boolean"))
    (text_if (v.flags.nan || c.has_number.result) (codes "number"))
    (text_if c.has_text.result (codes "string"))
    (text_if c.some_function-is_function.result (codes "function"))
    (text_if c.some_other-is_other.result (codes "object")) (value_of c.empty.result)
    (value_of c.in_ok-types.types) (value_of c.in_ok-types-2.types)
    (value_of c.in_ok-types-3.types) (value_of c.in_ok-types-4.types)
    (value_of c.in_ok-types-5.types) (value_of c.in_ok-types-6.types) (value_of r)
    c.empty.ensures c.in_ok-types.ensures c.in_ok-types-2.ensures c.in_ok-types-3.ensures
    c.in_ok-types-4.ensures c.in_ok-types-5.ensures c.in_ok-types-6.ensures joined
    ∙ (λ i. types (c.has_number.ensures i) (c.has_text.ensures i) (functions i) (others i)))
    c.join_text-7.ensures
