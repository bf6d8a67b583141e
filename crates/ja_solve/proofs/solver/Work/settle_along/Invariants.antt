-- The edges stay, and where no visit was added those so far are settled.
use Rattle.ja_table.specs.Tables.{table_of}
use Rattle.ja_table.specs.code.Growing.{HasSameKeys}
use Rattle.ja_solve.specs.code.Sweeps.{program_of, GoesOn, HasBuilt, IsUnchanged}
use Rattle.ja_solve.proofs.Sweeps.{AreSettledEdges}
use Rattle.ja_solve.proofs.solver.Work.settle_along.Given as goal

abbrev pub invariant-loop-place : goal.invariant-loop-place
invariant-loop-place l = record {
  built : HasBuilt l.self;
  goes_on : GoesOn l.fn.self l.self;
  keys : HasSameKeys l.fn.self.table l.self.table;
  settled : IsUnchanged l.fn.self l.self
      → AreSettledEdges (program_of l.self) (table_of l.self.table) l.along
      l.fn.self.table.edges.items l.place;
}
