use Rattle.ja_astate.specs.State.{state_of}
use Rattle.ja_table.proofs.JoinedStates.{shape_between}
use Rattle.ja_table.proofs.StateOrder.{leq_told}
use Rattle.ja_table.proofs.states.is_leq.Goals as goal

pub join-requires : goal.join-requires
join-requires c =
    shape_between c.args.other.now c.in_ok-joined.joined c.args.state.now
    c.in_ok-joined.ensures.shape c.requires

pub returns : goal.returns
returns c =
    leq_told (state_of c.args.state.now) (state_of c.args.other.now)
    (state_of c.in_ok-joined.joined) (state_of c.join.new.self) c.in_ok-changed.changed
    c.in_ok-joined.ensures.state c.in_ok-changed.ensures.joined c.in_ok-changed.ensures.changed
    c.in_ok-changed.ensures.same
