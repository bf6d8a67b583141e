use Rattle.std.proofs.Common.{refl, ap, ◌∙◌}
use Rattle.ja_abstract.specs.AbstractValue.{AbstractValue, join, no_value}
use Rattle.ja_astate.specs.Looks.{view_of}
use Rattle.ja_value.specs.Value.{value_of}
use Rattle.ja_functions.specs.code.Told.{held}
use Rattle.ja_functions.proofs.Labels.{values_more, values_begun, values_end}
use Rattle.ja_functions.proofs.internals.all_held.Goals as goal

pub loop-label-preserved : goal.loop-label-preserved
loop-label-preserved c =
    values_more (held (view_of c.args.reader.now)) _ _ _ _ _ _ c.in-Some.ensures.steps
    (c.in_ok-join.ensures.joined
    ∙ ap (λ (v : AbstractValue). join v (value_of c.loop-label.sum)) c.in_ok-one.ensures)
    c.loop-label.invariant

pub returns : goal.returns
returns c =
    let of_label = held (view_of c.args.reader.now) in
    values_end of_label _ _ _ c.in-None.ensures.steps.0 c.loop-label.invariant
    ∙ values_begun of_label no_value c.args.members.now refl
