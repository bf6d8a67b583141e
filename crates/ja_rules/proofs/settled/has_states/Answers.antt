use Rattle.std.proofs.Common.{◌≡◌, List, map, refl, subst, sym}
use Rattle.std.specs.Prelude.{◌↔◌, IsTrue}
use Rattle.std.proofs.lemmas.List.{take_all}
use Rattle.ja_base.specs.declared.ids.NodeId.{NodeId}
use Rattle.ja_machine.specs.Frames.{registers_of}
use Rattle.ja_astate.specs.declared.state.AState.{AState}
use Rattle.ja_astate.specs.State.{IsStateOf}
use Rattle.ja_transfer.specs.Outcomes.{given_by}
use Rattle.ja_table.specs.Tables.{table_of}
use Rattle.ja_table.specs.code.Growing.{with_states_at}
use Rattle.ja_rules.proofs.Entered.{all_or}
use Rattle.ja_rules.proofs.Settling.{states_next}
use Rattle.ja_table.proofs.Told.{told_some}
use Rattle.ja_rules.proofs.settled.has_states.Goals as goal

pub loop-given-init : goal.loop-given-init
loop-given-init c = told_some refl

pub has_state-requires-clause-state : goal.has_state-requires-clause-state
has_state-requires-clause-state c =
    let P : NodeId × AState → Type 0 = λ s. IsStateOf c.args.program.now
    (registers_of c.args.program.now c.args.context.function) s.1 in
    subst P (sym c.given-item.is)
    (all_or P c.args.states.now c.requires.states c.loop-given.given-index
    c.loop-given-test.true c.given-item.result)

pub loop-given-preserved : goal.loop-given-preserved
loop-given-preserved c =
    states_next (table_of c.args.table.now) c.args.context c.args.states.now
    c.loop-given.given-index c.given-item.result c.loop-given.all c.in_ok-has.has
    c.loop-given-test.true c.given-item.is c.loop-given.invariant c.in_ok-has.ensures

pub returns : goal.returns
returns c =
    subst (λ (xs : List (NodeId × AState)). IsTrue c.loop-given.all
    ↔ (with_states_at (table_of c.args.table.now) c.args.context (map given_by xs)
    ≡ table_of c.args.table.now)) (take_all c.loop-given.given-index c.args.states.now
    c.loop-given-test.false) c.loop-given.invariant
