use Rattle.std.proofs.Common.{subst, ◌∙◌}
use Rattle.std.specs.List.{list_any}
use Rattle.ja_abstract.specs.AbstractValue.{AbstractValue}
use Rattle.ja_abstract.specs.AbstractState.{labels_below}
use Rattle.ja_abstract.specs.Operations.{looked}
use Rattle.ja_abstract.specs.Primitives.{of_bools}
use Rattle.ja_value.specs.Value.{value_of}
use Rattle.ja_functions.specs.code.Told.{IsTold}
use Rattle.ja_functions.proofs.internals.is_object.Goals as goal

pub returns : goal.returns
returns c =
    let v = value_of c.args.value.now in
    subst (λ (u : AbstractValue). IsTold (looked u) c.value.result)
    (c.of_bools-answer.ensures
    ∙ (λ n. of_bools ((c.has_labels.ensures
    ∙ (λ m. list_any v.label (labels_below (c.args.reader.now.sites_are m)))) n)
    (c.has_atoms.ensures n))) c.value.ensures
