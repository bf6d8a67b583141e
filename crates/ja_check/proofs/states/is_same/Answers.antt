use Rattle.ja_astate.specs.State.{state_of}
use Rattle.ja_check.proofs.StateLemmas.{same_told, shape_turned}
use Rattle.ja_check.proofs.states.is_same.Goals as goal

pub is_leq-requires-2 : goal.is_leq-requires-2
is_leq-requires-2 c = shape_turned c.args.other.now c.args.state.now c.requires

pub returns : goal.returns
returns c =
    same_told (state_of c.args.state.now) (state_of c.args.other.now) c.in_ok-below.below
    c.in_ok-above.above c.in_ok-below.ensures c.in_ok-above.ensures
