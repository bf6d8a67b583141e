-- The context has no other nodes, and where no visit was added those so far are settled.
use Rattle.std.proofs.Common.{◌<◌}
use Rattle.ja_base.specs.declared.ids.NodeId.{NodeId}
use Rattle.ja_rows.specs.declared.table.Item.TheVariants.{Step}
use Rattle.ja_rows.specs.Table.{IsItem}
use Rattle.ja_table.specs.Tables.{table_of}
use Rattle.ja_solve.specs.code.Sweeps.{program_of, GoesOn, HasBuilt, IsUnchanged}
use Rattle.ja_solve.proofs.Sweeps.{AreSteppedBelow}
use Rattle.ja_solve.proofs.solver.Work.settle_context.Given as goal

abbrev pub invariant-loop-node : goal.invariant-loop-node
invariant-loop-node l = record {
  built : HasBuilt l.self;
  goes_on : GoesOn l.fn.self l.self;
  few : l.nodes < 4294967296;
  all : (n : NodeId)
      → IsItem (program_of l.fn.self) (table_of l.fn.self.table) (Step l.context n)
      → n.0 < l.nodes;
  settled : IsUnchanged l.fn.self l.self
      → AreSteppedBelow (program_of l.self) (table_of l.self.table) l.context l.node;
}
