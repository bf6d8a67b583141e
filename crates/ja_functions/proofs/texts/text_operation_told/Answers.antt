use Rattle.std.specs.Prelude.{Option, Some}
use Rattle.std.proofs.Common.{◌≡◌, ◌∙◌, ◌++◌, List, ap, map, subst, sym}
use Rattle.std.specs.Option.{option_map, option_map_or}
use Rattle.ja_machine.specs.TextOperations.{row}
use Rattle.ja_abstract.specs.declared.abstraction.Sort.{Sort}
use Rattle.ja_abstract.specs.AbstractValue.{AbstractValue, no_value}
use Rattle.ja_abstract.specs.Operations.{looked}
use Rattle.ja_abstract.specs.PrimitiveOperations.{Taken, class, of_taken, operands, over_operands, sorts, text_operation}
use Rattle.ja_abstract.specs.Primitives.{Abstracted}
use Rattle.ja_absprim.specs.Primitives.{abstracted_of}
use Rattle.ja_rows.specs.Out.{at}
use Rattle.ja_transfer.specs.Outcomes.{at_view}
use Rattle.ja_value.specs.Value.{value_of}
use Rattle.ja_functions.specs.code.Told.{IsTold}
use Rattle.ja_functions.proofs.texts.text_operation_told.Goals as goal

pub returns : goal.returns
returns c =
    let op = c.args.operation in
    let vs : List AbstractValue = map (at (at_view c.args.stepper.now)) c.args.args.now in
    let f : List Taken → Abstracted = of_taken (row op) (class op) in
    let xss : List (List Taken) = map (λ v. v.items) c.in-Some.lists.items in
    let there : Some xss ≡ operands (sorts op) vs =
    sym (ap (option_map (λ v. map (λ list. list.items) v.items)) c.in-Some.is)
    ∙ (c.in_ok-lists.ensures ∙ ap (λ (ss : List Sort). operands ss vs)
    (c.deref.ensures.value ∙ c.in_ok-sorts.ensures)) in
    let given : abstracted_of c.in_ok-given.given ≡ over_operands f xss =
    c.in_ok-given.ensures
    ∙ (ap (λ (chosen : List Taken). over_operands (λ rest. f (chosen ++ rest))
    (map (λ v. v.items) c.deref-3.result.now))
    (c.deref-2.ensures.value ∙ c.new-chosen.ensures.items)
    ∙ ap (over_operands f) (ap (map (λ v. v.items)) c.deref-3.ensures.value)) in
    let value : value_of c.into_value.result ≡ text_operation op vs =
    ap value_of c.into_value.ensures ∙ (ap (λ (r : Abstracted). r.value) given
    ∙ ap (λ (o : Option (List (List Taken))). option_map_or
    (λ yss. (over_operands f yss).value) o no_value) there) in
    subst (λ (v : AbstractValue). IsTold (looked v) c.value.result) value c.value.ensures
