-- Where no visit was added, the contexts before this one are settled.
use Rattle.ja_solve.specs.code.Sweeps.{program_of, GoesOn, HasBuilt, IsUnchanged}
use Rattle.ja_solve.proofs.Sweeps.{left_from, AreSteppedBefore}
use Rattle.ja_solve.proofs.solver.Work.settle_steps.Given as goal

abbrev pub invariant-contexts : goal.invariant-contexts
invariant-contexts l = record {
  built : HasBuilt l.self;
  goes_on : GoesOn l.fn.self l.self;
  settled : IsUnchanged l.fn.self l.self
      → AreSteppedBefore (program_of l.self) l.self.table l.place;
}

abbrev pub decreases-contexts : goal.decreases-contexts
decreases-contexts l =
    left_from (program_of l.fn.self) l.self.table.contexts.items l.place
