use Rattle.std.proofs.Common.{◌||◌, not, subst, ap, ◌∙◌}
use Rattle.std.specs.List.{list_any}
use Rattle.ja_abstract.specs.AbstractValue.{Labels, AbstractValue}
use Rattle.ja_abstract.specs.Operations.{looked, is_list_label}
use Rattle.ja_abstract.specs.Primitives.{of_bools}
use Rattle.ja_astate.specs.Looks.{view_of}
use Rattle.ja_value.specs.Value.{labels_in}
use Rattle.ja_functions.specs.code.Told.{IsTold}
use Rattle.ja_functions.proofs.Labels.{any_at}
use Rattle.ja_functions.proofs.internals.has_elements.Goals as goal

pub returns : goal.returns
returns c =
    let w = view_of c.args.reader.now in
    let listed : Labels = is_list_label w.program in
    let other : Labels = λ l. not (listed l) in
    let at = any_at w (labels_in c.args.value.now.labels) c.in_ok-members.members.items
    c.in_ok-members.ensures in
    let lists = c.some_list-is_list.ensures ∙ ap (list_any listed) c.deref.ensures.value
    ∙ at listed in
    let others = c.some_other.ensures ∙ ap (list_any other) c.deref-2.ensures.value ∙ at other in
    subst (λ (v : AbstractValue). IsTold (looked v) c.value.result)
    (c.of_bools.ensures ∙ (λ n. of_bools (lists n) (c.has_atoms.ensures n || others n)))
    c.value.ensures
