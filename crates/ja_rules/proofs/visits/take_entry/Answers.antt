use Rattle.std.proofs.Common.{◌∙◌, ap, subst, sym}
use Rattle.std.specs.Prelude.{◌||◌, IsTrue}
use Rattle.ja_rows.specs.Table.{Table}
use Rattle.ja_aheap.specs.Objects.{demands_in}
use Rattle.ja_astate.specs.State.{state_of}
use Rattle.ja_table.specs.Tables.{table_of}
use Rattle.ja_rules.specs.code.Entries.{with_demands_at}
use Rattle.ja_table.specs.code.Growing.{with_edge, with_state_at}
use Rattle.ja_height.proofs.Grows.{grown_both, IsGrown}
use Rattle.ja_rules.proofs.NodeFacts.{first_node}
use Rattle.ja_rules.proofs.Visiting.{context_grown, demands_grown, edge_grown, reached_more, reached_there, state_grown}
use Rattle.ja_rules.proofs.visits.take_entry.Goals as goal

pub add_context-requires-clause-context : goal.add_context-requires-clause-context
add_context-requires-clause-context c = c.requires.entry.callee

pub join_state-requires-clause-context : goal.join_state-requires-clause-context
join_state-requires-clause-context c =
    reached_there (table_of c.args.table.now) (table_of c.add_context.new.self)
    c.args.entry.edge.callee c.in_ok-is_reached.ensures.added

pub join_state-requires-clause-node : goal.join_state-requires-clause-node
join_state-requires-clause-node c =
    first_node c.args.program.now c.requires.program c.args.entry.edge.callee.function
    c.requires.entry.callee.function

pub join_state-requires-clause-state : goal.join_state-requires-clause-state
join_state-requires-clause-state c = c.requires.entry.state

pub demand_at-requires-clause-ordered : goal.demand_at-requires-clause-ordered
demand_at-requires-clause-ordered c = c.in_ok-is_joined.ensures.fits.ordered

pub demand_at-requires-clause-context : goal.demand_at-requires-clause-context
demand_at-requires-clause-context c =
    subst (λ (t : Table). IsTrue (t.context c.args.entry.edge.caller))
    (sym c.in_ok-is_joined.ensures.joined)
    (reached_more (table_of c.args.table.now) (table_of c.add_context.new.self)
    c.args.entry.edge.callee c.args.entry.edge.caller c.in_ok-is_reached.ensures.added
    c.requires.entry.caller)

pub add_edge-requires-clause-edge : goal.add_edge-requires-clause-edge
add_edge-requires-clause-edge c = record {
  caller = subst (λ (t : Table). IsTrue (t.context c.args.entry.edge.caller))
      (sym c.in_ok-is_demanded.ensures.demanded)
      (subst (λ (t : Table). IsTrue (t.context c.args.entry.edge.caller))
      (sym c.in_ok-is_joined.ensures.joined)
      (reached_more (table_of c.args.table.now) (table_of c.add_context.new.self)
      c.args.entry.edge.callee c.args.entry.edge.caller c.in_ok-is_reached.ensures.added
      c.requires.entry.caller));
  node = c.requires.entry.node;
  callee = subst (λ (t : Table). IsTrue (t.context c.args.entry.edge.callee))
      (sym c.in_ok-is_demanded.ensures.demanded)
      (subst (λ (t : Table). IsTrue (t.context c.args.entry.edge.callee))
      (sym c.in_ok-is_joined.ensures.joined)
      (reached_there (table_of c.args.table.now) (table_of c.add_context.new.self)
      c.args.entry.edge.callee c.in_ok-is_reached.ensures.added));
}

pub add_edge-requires-clause-fits : goal.add_edge-requires-clause-fits
add_edge-requires-clause-fits c =
    c.in_ok-is_demanded.ensures.fits c.args.program.now c.requires.entry.demands
    c.in_ok-is_joined.ensures.fits

pub returns-clause-taken : goal.returns-clause-taken
returns-clause-taken c =
    let e = c.args.entry.edge in
    let a = state_of c.args.entry.entered.state in
    let d = demands_in c.args.entry.entered.demands in
    c.in_ok-is_called.ensures.added
    ∙ ap (λ (t : Table). with_edge t e) (c.in_ok-is_demanded.ensures.demanded
    ∙ ap (λ (t : Table). with_demands_at t e.caller d) (c.in_ok-is_joined.ensures.joined
    ∙ ap (λ (t : Table). with_state_at t e.callee 0 a) c.in_ok-is_reached.ensures.added))

grown : (c : goal.In_ok-note_edge) → IsGrown (table_of c.args.table.now)
    (table_of c.add_edge.new.self) (((c.in_ok-is_reached.is_reached
    || c.in_ok-is_joined.is_joined) || c.in_ok-is_demanded.is_demanded)
    || c.in_ok-is_called.is_called)
grown c =
    let e = c.args.entry.edge in
    let t = table_of c.args.table.now in
    let u = table_of c.add_context.new.self in
    let v = table_of c.join_state.new.table in
    let w = table_of c.demand_at.new.table in
    let z = table_of c.add_edge.new.self in
    grown_both t w z ((c.in_ok-is_reached.is_reached || c.in_ok-is_joined.is_joined)
    || c.in_ok-is_demanded.is_demanded) c.in_ok-is_called.is_called
    (grown_both t v w (c.in_ok-is_reached.is_reached || c.in_ok-is_joined.is_joined)
    c.in_ok-is_demanded.is_demanded
    (grown_both t u v c.in_ok-is_reached.is_reached c.in_ok-is_joined.is_joined
    (context_grown t u e.callee c.in_ok-is_reached.is_reached c.in_ok-is_reached.ensures.added
    c.in_ok-is_reached.ensures.told)
    (state_grown u v e.callee 0 (state_of c.args.entry.entered.state)
    c.in_ok-is_joined.is_joined c.in_ok-is_joined.ensures.joined
    c.in_ok-is_joined.ensures.changed c.in_ok-is_joined.ensures.same))
    (demands_grown v w e.caller (demands_in c.args.entry.entered.demands)
    c.in_ok-is_demanded.is_demanded c.in_ok-is_demanded.ensures.demanded
    c.in_ok-is_demanded.ensures.changed c.in_ok-is_demanded.ensures.same))
    (edge_grown w z e c.in_ok-is_called.is_called c.in_ok-is_called.ensures.added
    c.in_ok-is_called.ensures.told)

pub returns-clause-changed : goal.returns-clause-changed
returns-clause-changed c = (grown c).other

pub returns-clause-same : goal.returns-clause-same
returns-clause-same c = (grown c).same
