-- What is left is joined in, and the table is the one that it makes of what was given.
use Rattle.std.specs.Prelude.{◌≡◌, ◌≢◌, IsSome, map, true, false}
use Rattle.std.specs.List.{AllByRecursion}
use Rattle.ja_base.specs.declared.ids.NodeId.{NodeId}
use Rattle.ja_graph.specs.Program.{node_at}
use Rattle.ja_machine.specs.Frames.{registers_of}
use Rattle.ja_astate.specs.declared.state.AState.{AState}
use Rattle.ja_astate.specs.State.{IsStateOf}
use Rattle.ja_transfer.specs.Outcomes.{given_by}
use Rattle.ja_table.specs.Tables.{table_of, Fits}
use Rattle.ja_table.specs.code.Growing.{with_states_at, HasSameKeys}
use Rattle.ja_height.proofs.Grows.{Grows}
use Rattle.ja_rules.proofs.joins.join_states.Given as goal

abbrev pub invariant-loop-node : goal.invariant-loop-node
invariant-loop-node l = record {
  joined : with_states_at (table_of l.table) l.context (map given_by l.node-iterator.rest.items)
      ≡ with_states_at (table_of l.fn.table) l.context (map given_by l.fn.states.items);
  nodes : AllByRecursion (λ (s : NodeId × AState).
      IsSome (node_at l.program l.context.function s.0)) l.node-iterator.rest.items;
  states : AllByRecursion (λ (s : NodeId × AState). IsStateOf l.program
      (registers_of l.program l.context.function) s.1) l.node-iterator.rest.items;
  kept : HasSameKeys l.fn.table l.table;
  fits : Fits l.program l.table;
  rises : Grows (table_of l.fn.table) (table_of l.table);
  changed : l.changed ≡ true → table_of l.table ≢ table_of l.fn.table;
  same : l.changed ≡ false → table_of l.table ≡ table_of l.fn.table;
}
