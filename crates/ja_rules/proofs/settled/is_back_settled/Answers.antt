use Rattle.std.proofs.Common.{◌≡◌, List, map, subst, sym}
use Rattle.std.specs.Prelude.{◌↔◌, IsTrue}
use Rattle.std.specs.List.{AllByRecursion}
use Rattle.ja_base.specs.declared.ids.NodeId.{NodeId}
use Rattle.ja_machine.specs.Frames.{registers_of}
use Rattle.ja_astate.specs.declared.state.AState.{AState}
use Rattle.ja_astate.specs.State.{IsStateOf}
use Rattle.ja_transfer.specs.Outcomes.{given_by}
use Rattle.ja_table.specs.Tables.{table_of}
use Rattle.ja_rules.specs.code.Exits.{IsGivenBack}
use Rattle.ja_table.specs.code.Growing.{with_states_at}
use Rattle.ja_rules.proofs.Lent.{edge_fits}
use Rattle.ja_rules.proofs.SettledItems.{back_settled}
use Rattle.ja_rules.proofs.Steps.{back_none}
use Rattle.ja_table.proofs.Told.{told_some}
use Rattle.ja_rules.proofs.settled.is_back_settled.Goals as goal

pub returns-in_default : goal.returns-in_default
returns-in_default c =
    let p = c.args.program.now in
    let t = table_of c.args.table.now in
    let e = c.args.edge in
    told_some (back_none p c.requires.program t e
    (subst (IsGivenBack p t e) c.in_default.is c.in_ok-states.ensures)).visited_is

pub has_states-requires-clause-states : goal.has_states-requires-clause-states
has_states-requires-clause-states c =
    let p = c.args.program.now in
    let t = table_of c.args.table.now in
    let e = c.args.edge in
    let h = subst (IsGivenBack p t e) c.in-Some.is c.in_ok-states.ensures in
    subst (AllByRecursion (λ (s : NodeId × AState). IsStateOf p
    (registers_of p e.caller.function) s.1)) (sym c.deref.ensures.value) h.6

pub has_demands-is_demanded-requires-clause-ordered : goal.has_demands-is_demanded-requires-clause-ordered
has_demands-is_demanded-requires-clause-ordered c = c.requires.fits.ordered

pub has_demands-is_demanded-requires-clause-context : goal.has_demands-is_demanded-requires-clause-context
has_demands-is_demanded-requires-clause-context c =
    (edge_fits c.args.program.now c.args.table.now c.args.edge c.requires.fits
    c.requires.item).caller

pub returns : goal.returns
returns c =
    let p = c.args.program.now in
    let t = table_of c.args.table.now in
    let e = c.args.edge in
    back_settled p t e c.in-Some.field-0 c.in_ok-is_joined.is_joined
    c.has_demands-is_demanded.result
    (subst (IsGivenBack p t e) c.in-Some.is c.in_ok-states.ensures)
    (subst (λ (xs : List (NodeId × AState)). IsTrue c.in_ok-is_joined.is_joined
    ↔ (with_states_at t e.caller (map given_by xs) ≡ t)) c.deref.ensures.value
    c.in_ok-is_joined.ensures)
    c.has_demands-is_demanded.ensures
