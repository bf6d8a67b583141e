use Rattle.std.proofs.Common.{Bool, sym, ap, ◌∙◌}
use Rattle.ja_abstract.specs.AbstractValue.{Labels, join, of_label, of_labels}
use Rattle.ja_abstract.specs.Composed.{renamed_value}
use Rattle.ja_abstract.specs.Values.{value_if}
use Rattle.ja_astate.specs.State.{state_of}
use Rattle.ja_value.specs.Value.{value_of}
use Rattle.ja_flow.proofs.back.constructed.Goals as goal

pub returns-then-not-has_atoms : goal.returns-then-not-has_atoms
returns-then-not-has_atoms c =
    let q = value_of c.args.value.now in
    let this = renamed_value (state_of c.args.exit.now).mask (of_label c.args.receiver) in
    c.of_labels-objects.ensures ∙ ap (λ (s : Labels). of_labels s) c.in_ok-copy.ensures
    ∙ ap (λ (b : Bool). join (value_if b this) (of_labels q.label))
    (sym c.if-not-has_atoms.true ∙ c.has_atoms.ensures)
