use Rattle.std.proofs.Common.{Bool, sym, ap, ◌∙◌}
use Rattle.ja_graph.specs.declared.builtins.TheConstants as builtins
use Rattle.ja_abstract.specs.AbstractState.{new}
use Rattle.ja_abstract.specs.AbstractValue.{Labels, join, of_label, of_labels}
use Rattle.ja_abstract.specs.Values.{value_if}
use Rattle.ja_value.specs.Value.{value_of}
use Rattle.ja_flow.proofs.calling.inherited.Goals as goal

pub returns-then-not-has_non_object : goal.returns-then-not-has_non_object
returns-then-not-has_non_object c =
    let q = value_of c.args.prototype.now in
    c.of_labels-objects.ensures ∙ ap (λ (s : Labels). of_labels s) c.in_ok-copy.ensures
    ∙ ap (λ (b : Bool). join (value_if b (of_label (new builtins.OBJECT_PROTOTYPE)))
    (of_labels q.label)) (sym c.if-not-has_non_object.true ∙ c.has_non_object.ensures)
