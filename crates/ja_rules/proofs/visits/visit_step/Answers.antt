use Rattle.std.proofs.Common.{◌∙◌, ap, is_some, map, subst, sym}
use Rattle.std.specs.Prelude.{IsSome, IsTrue}
use Rattle.std.proofs.lemmas.Bool.{false≢true}
use Rattle.ja_base.specs.declared.ids.Context.{Context}
use Rattle.ja_graph.specs.Program.{node_at}
use Rattle.ja_rows.specs.Table.{Table}
use Rattle.ja_transfer.specs.Outcomes.{given_by}
use Rattle.ja_table.specs.Tables.{table_of}
use Rattle.ja_table.proofs.Found.{at_none, at_some, found_context, found_entry, found_fits, found_kept, found_no_state, found_reached, missing_state, state_none, state_some}
use Rattle.ja_rules.proofs.Steps.{step_demands, step_done_at, step_entries_at, step_nodes_at, step_states_at}
use Rattle.ja_rules.proofs.Visiting.{states_reached}
use Rattle.ja_rules.proofs.visits.visit_step.Goals as goal

pub returns-in_default-clause-visited : goal.returns-in_default-clause-visited
returns-in_default-clause-visited c =
    absurd (false≢true (ap is_some (sym (missing_state c.args.table.now c.args.context
    c.args.node.0 (at_none c.args.table.now c.args.context c.at.result c.at.ensures
    c.requires.fits.ordered c.in_default.is))) ∙ c.requires.item.1))

pub returns-in_default-state-clause-visited : goal.returns-in_default-state-clause-visited
returns-in_default-state-clause-visited c =
    let own = c.in-Some.own.now in
    let is = at_some c.args.table.now c.args.context c.at.result c.at.ensures
    c.requires.fits.ordered c.in-Some.own c.in-Some.is in
    absurd (false≢true (ap is_some (sym (found_no_state c.args.table.now c.args.context own is
    c.args.node.0 (state_none own.nodes.items c.args.node.0 c.state.result c.state.ensures
    c.in_default-state.is))) ∙ c.requires.item.1))

pub step_of-requires-clause-fits : goal.step_of-requires-clause-fits
step_of-requires-clause-fits c =
    found_fits c.args.table.now c.args.context c.in-Some.own.now
    (at_some c.args.table.now c.args.context c.at.result c.at.ensures c.requires.fits.ordered
    c.in-Some.own c.in-Some.is) c.args.program.now c.requires.fits

pub step_of-requires-clause-node : goal.step_of-requires-clause-node
step_of-requires-clause-node c =
    subst (λ (y : Context). IsSome (node_at c.args.program.now y.function c.args.node))
    (sym (found_context c.args.table.now c.args.context c.in-Some.own.now
    (at_some c.args.table.now c.args.context c.at.result c.at.ensures c.requires.fits.ordered
    c.in-Some.own c.in-Some.is))) c.requires.item.0

pub step_of-requires-clause-state : goal.step_of-requires-clause-state
step_of-requires-clause-state c =
    state_some c.in-Some.own.now.nodes.items c.args.node.0 c.state.result c.in-Some-state.state
    c.state.ensures c.in-Some-state.is

pub join_states-requires-clause-context : goal.join_states-requires-clause-context
join_states-requires-clause-context c =
    found_reached c.args.table.now c.args.context c.in-Some.own.now
    (at_some c.args.table.now c.args.context c.at.result c.at.ensures c.requires.fits.ordered
    c.in-Some.own c.in-Some.is)

pub join_states-requires-clause-nodes : goal.join_states-requires-clause-nodes
join_states-requires-clause-nodes c =
    step_nodes_at c.args.program.now c.requires.program c.in-Some.own.now c.args.node
    c.in_ok-outcome.field-0 c.in_ok-outcome.ensures c.args.context
    (found_context c.args.table.now c.args.context c.in-Some.own.now
    (at_some c.args.table.now c.args.context c.at.result c.at.ensures c.requires.fits.ordered
    c.in-Some.own c.in-Some.is))

pub join_states-requires-clause-states : goal.join_states-requires-clause-states
join_states-requires-clause-states c =
    let is = at_some c.args.table.now c.args.context c.at.result c.at.ensures
    c.requires.fits.ordered c.in-Some.own c.in-Some.is in
    step_states_at c.args.program.now c.requires.program c.in-Some.own.now c.args.node
    c.in_ok-outcome.field-0 c.in_ok-outcome.ensures c.args.context
    (found_context c.args.table.now c.args.context c.in-Some.own.now is)
    (found_fits c.args.table.now c.args.context c.in-Some.own.now is c.args.program.now
    c.requires.fits)

pub demand_at-requires-clause-ordered : goal.demand_at-requires-clause-ordered
demand_at-requires-clause-ordered c = c.in_ok-is_joined.ensures.fits.ordered

pub demand_at-requires-clause-context : goal.demand_at-requires-clause-context
demand_at-requires-clause-context c =
    states_reached (table_of c.args.table.now) (table_of c.join_states.new.table) c.args.context
    c.args.context (map given_by c.in_ok-outcome.field-0.outcome.states.list.items)
    c.in_ok-is_joined.ensures.joined
    (found_reached c.args.table.now c.args.context c.in-Some.own.now
    (at_some c.args.table.now c.args.context c.at.result c.at.ensures c.requires.fits.ordered
    c.in-Some.own c.in-Some.is))

pub take_entries-requires-clause-fits : goal.take_entries-requires-clause-fits
take_entries-requires-clause-fits c =
    c.in_ok-is_demanded.ensures.fits c.args.program.now
    (step_demands c.args.program.now c.requires.program c.in-Some.own.now c.args.node
    c.in_ok-outcome.field-0 c.in_ok-outcome.ensures) c.in_ok-is_joined.ensures.fits

pub take_entries-requires-clause-entries : goal.take_entries-requires-clause-entries
take_entries-requires-clause-entries c =
    let is = at_some c.args.table.now c.args.context c.at.result c.at.ensures
    c.requires.fits.ordered c.in-Some.own c.in-Some.is in
    step_entries_at c.args.program.now c.requires.program c.in-Some.own.now c.args.node
    c.in_ok-outcome.field-0 c.in_ok-outcome.ensures c.args.context
    (found_context c.args.table.now c.args.context c.in-Some.own.now is)
    (table_of c.demand_at.new.table)
    (subst (λ (t : Table). IsTrue (t.context c.args.context))
    (sym c.in_ok-is_demanded.ensures.demanded)
    (states_reached (table_of c.args.table.now) (table_of c.join_states.new.table) c.args.context
    c.args.context (map given_by c.in_ok-outcome.field-0.outcome.states.list.items)
    c.in_ok-is_joined.ensures.joined
    (found_reached c.args.table.now c.args.context c.in-Some.own.now is)))

pub returns-clause-visited : goal.returns-clause-visited
returns-clause-visited c =
    let t = c.args.table.now in
    let own = c.in-Some.own.now in
    let is = at_some t c.args.context c.at.result c.at.ensures c.requires.fits.ordered
    c.in-Some.own c.in-Some.is in
    let h = c.in_ok-outcome.ensures in
    step_done_at c.args.program.now c.requires.program own c.args.node c.in_ok-outcome.field-0 h
    c.args.context (found_context t c.args.context own is) (table_of t)
    (table_of c.join_states.new.table) (table_of c.demand_at.new.table)
    (table_of c.take_entries.new.table) c.in_ok-is_joined.is_joined
    c.in_ok-is_demanded.is_demanded c.in_ok-is_taken.is_taken
    (found_entry t c.args.context own is)
    (λ a kept. found_kept t c.args.context own is c.args.node.0 a kept)
    c.in_ok-is_joined.ensures.joined c.in_ok-is_joined.ensures.changed
    c.in_ok-is_joined.ensures.same c.in_ok-is_demanded.ensures.demanded
    c.in_ok-is_demanded.ensures.changed c.in_ok-is_demanded.ensures.same
    c.in_ok-is_taken.ensures.taken c.in_ok-is_taken.ensures.changed
    c.in_ok-is_taken.ensures.same
