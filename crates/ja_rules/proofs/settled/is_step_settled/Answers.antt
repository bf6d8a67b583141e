use Rattle.std.proofs.Common.{◌≡◌, ◌∙◌, List, ap, is_some, map, subst, sym}
use Rattle.std.specs.Prelude.{◌↔◌, IsSome, IsTrue}
use Rattle.std.specs.List.{fold, AllByRecursion}
use Rattle.std.proofs.lemmas.Bool.{false≢true}
use Rattle.ja_base.specs.declared.ids.Context.{Context}
use Rattle.ja_base.specs.declared.ids.NodeId.{NodeId}
use Rattle.ja_graph.specs.Program.{node_at}
use Rattle.ja_machine.specs.Frames.{registers_of}
use Rattle.ja_astate.specs.declared.state.AState.{AState}
use Rattle.ja_astate.specs.State.{IsStateOf}
use Rattle.ja_transfer.specs.Outcomes.{given_by}
use Rattle.ja_rules.specs.declared.visits.Entry.{Entry}
use Rattle.ja_table.specs.Tables.{table_of}
use Rattle.ja_table.specs.code.Growing.{with_states_at}
use Rattle.ja_rules.specs.code.Settled.{LacksOneOf}
use Rattle.ja_rules.specs.code.Stepping.{with_entered, FitsEntered}
use Rattle.ja_table.proofs.Found.{at_none, at_some, found_context, found_entry, found_fits, found_kept, found_no_state, found_reached, missing_state, state_none, state_some}
use Rattle.ja_rules.proofs.SettledItems.{outcome_unsettled, step_settled}
use Rattle.ja_rules.proofs.Steps.{step_entries_at, step_states_at}
use Rattle.ja_rules.proofs.settled.is_step_settled.Goals as goal

pub returns-in_default : goal.returns-in_default
returns-in_default c =
    absurd (false≢true (ap is_some (sym (missing_state c.args.table.now c.args.context
    c.args.node.0 (at_none c.args.table.now c.args.context c.at.result c.at.ensures
    c.requires.fits.ordered c.in_default.is))) ∙ c.requires.item.1))

pub returns-in_default-state : goal.returns-in_default-state
returns-in_default-state c =
    let own = c.in-Some.own.now in
    let is = at_some c.args.table.now c.args.context c.at.result c.at.ensures
    c.requires.fits.ordered c.in-Some.own c.in-Some.is in
    absurd (false≢true (ap is_some (sym (found_no_state c.args.table.now c.args.context own is
    c.args.node.0 (state_none own.nodes.items c.args.node.0 c.state.result c.state.ensures
    c.in_default-state.is))) ∙ c.requires.item.1))

pub outcome_of-requires-clause-fits : goal.outcome_of-requires-clause-fits
outcome_of-requires-clause-fits c =
    found_fits c.args.table.now c.args.context c.in-Some.own.now
    (at_some c.args.table.now c.args.context c.at.result c.at.ensures c.requires.fits.ordered
    c.in-Some.own c.in-Some.is) c.args.program.now c.requires.fits

pub outcome_of-requires-clause-node : goal.outcome_of-requires-clause-node
outcome_of-requires-clause-node c =
    subst (λ (y : Context). IsSome (node_at c.args.program.now y.function c.args.node))
    (sym (found_context c.args.table.now c.args.context c.in-Some.own.now
    (at_some c.args.table.now c.args.context c.at.result c.at.ensures c.requires.fits.ordered
    c.in-Some.own c.in-Some.is))) c.requires.item.0

pub outcome_of-requires-clause-state : goal.outcome_of-requires-clause-state
outcome_of-requires-clause-state c =
    state_some c.in-Some.own.now.nodes.items c.args.node.0 c.state.result c.in-Some-state.state
    c.state.ensures c.in-Some-state.is

pub step_with-requires-clause-fits : goal.step_with-requires-clause-fits
step_with-requires-clause-fits c =
    found_fits c.args.table.now c.args.context c.in-Some.own.now
    (at_some c.args.table.now c.args.context c.at.result c.at.ensures c.requires.fits.ordered
    c.in-Some.own c.in-Some.is) c.args.program.now c.requires.fits

pub step_with-requires-clause-node : goal.step_with-requires-clause-node
step_with-requires-clause-node c =
    subst (λ (y : Context). IsSome (node_at c.args.program.now y.function c.args.node))
    (sym (found_context c.args.table.now c.args.context c.in-Some.own.now
    (at_some c.args.table.now c.args.context c.at.result c.at.ensures c.requires.fits.ordered
    c.in-Some.own c.in-Some.is))) c.requires.item.0

pub step_with-requires-clause-state : goal.step_with-requires-clause-state
step_with-requires-clause-state c =
    state_some c.in-Some.own.now.nodes.items c.args.node.0 c.state.result c.in-Some-state.state
    c.state.ensures c.in-Some-state.is

-- the table lacks an edge of the node
pub returns-then-not-has_edges : goal.returns-then-not-has_edges
returns-then-not-has_edges c =
    let t = c.args.table.now in
    let own = c.in-Some.own.now in
    let is = at_some t c.args.context c.at.result c.at.ensures c.requires.fits.ordered
    c.in-Some.own c.in-Some.is in
    let here = found_context t c.args.context own is in
    let kept = state_some own.nodes.items c.args.node.0 c.state.result c.in-Some-state.state
    c.state.ensures c.in-Some-state.is in (
      λ wrong. absurd (false≢true wrong),
      λ same. absurd (outcome_unsettled c.args.program.now (table_of t) own c.args.node
          c.in-Some-state.state.now c.in_ok-outcome.outcome c.in_ok-outcome.ensures c.args.context
          here (found_entry t c.args.context own is)
          (found_kept t c.args.context own is c.args.node.0 c.in-Some-state.state.now kept)
          (subst (LacksOneOf (table_of t)) c.deref.ensures.value
          (c.has_edges.ensures c.if-not-has_edges.true)) same),
    )

pub has_states-requires-clause-states : goal.has_states-requires-clause-states
has_states-requires-clause-states c =
    let p = c.args.program.now in
    let t = c.args.table.now in
    let own = c.in-Some.own.now in
    let is = at_some t c.args.context c.at.result c.at.ensures c.requires.fits.ordered
    c.in-Some.own c.in-Some.is in
    subst (AllByRecursion (λ (s : NodeId × AState). IsStateOf p
    (registers_of p c.args.context.function) s.1)) (sym c.deref-2.ensures.value)
    (step_states_at p c.requires.program own c.args.node c.in_ok-step.step
    c.in_ok-step.ensures.1 c.args.context (found_context t c.args.context own is)
    (found_fits t c.args.context own is p c.requires.fits))

pub has_demands-is_demanded-requires-clause-ordered : goal.has_demands-is_demanded-requires-clause-ordered
has_demands-is_demanded-requires-clause-ordered c = c.requires.fits.ordered

pub has_demands-is_demanded-requires-clause-context : goal.has_demands-is_demanded-requires-clause-context
has_demands-is_demanded-requires-clause-context c =
    found_reached c.args.table.now c.args.context c.in-Some.own.now
    (at_some c.args.table.now c.args.context c.at.result c.at.ensures c.requires.fits.ordered
    c.in-Some.own c.in-Some.is)

pub has_entries-requires-clause-entries : goal.has_entries-requires-clause-entries
has_entries-requires-clause-entries c =
    let p = c.args.program.now in
    let t = c.args.table.now in
    let own = c.in-Some.own.now in
    let is = at_some t c.args.context c.at.result c.at.ensures c.requires.fits.ordered
    c.in-Some.own c.in-Some.is in
    subst (AllByRecursion (FitsEntered p (table_of t))) (sym c.deref-3.ensures.value)
    (step_entries_at p c.requires.program own c.args.node c.in_ok-step.step
    c.in_ok-step.ensures.1 c.args.context (found_context t c.args.context own is) (table_of t)
    (found_reached t c.args.context own is))

pub returns : goal.returns
returns c =
    let p = c.args.program.now in
    let t = c.args.table.now in
    let x = c.args.context in
    let own = c.in-Some.own.now in
    let is = at_some t x c.at.result c.at.ensures c.requires.fits.ordered c.in-Some.own
    c.in-Some.is in
    step_settled p c.requires.program own c.args.node c.in_ok-step.step
    c.in_ok-step.ensures.1 x (found_context t x own is) (table_of t) (found_entry t x own is)
    (λ a kept. found_kept t x own is c.args.node.0 a kept) c.in_ok-is_joined.is_joined
    c.has_demands-is_demanded.result c.in_ok-is_taken.is_taken
    (subst (λ (xs : List (NodeId × AState)). IsTrue c.in_ok-is_joined.is_joined
    ↔ (with_states_at (table_of t) x (map given_by xs) ≡ table_of t)) c.deref-2.ensures.value
    c.in_ok-is_joined.ensures)
    c.has_demands-is_demanded.ensures
    (subst (λ (es : List Entry). IsTrue c.in_ok-is_taken.is_taken
    ↔ (fold with_entered (table_of t) es ≡ table_of t)) c.deref-3.ensures.value
    c.in_ok-is_taken.ensures)
