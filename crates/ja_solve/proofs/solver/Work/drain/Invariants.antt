-- With each turn there are fewer visits left.
use Rattle.std.proofs.Common.{◌-◌, vec_len}
use Rattle.ja_solve.specs.code.Sweeps.{GoesOn, HasBuilt}
use Rattle.ja_solve.proofs.solver.Work.drain.Given as goal

abbrev pub invariant-changes : goal.invariant-changes
invariant-changes l = record {
  built : HasBuilt l.self;
  goes_on : GoesOn l.fn.self l.self;
}

abbrev pub decreases-changes : goal.decreases-changes
decreases-changes l = l.self.budget - vec_len l.self.visits
