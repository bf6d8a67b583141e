-- Each sweep begins with a table that the visits built, and but for the last one adds a visit.
use Rattle.std.proofs.Common.{◌-◌, vec_len}
use Rattle.ja_solve.specs.code.Sweeps.{GoesOn, HasBuilt}
use Rattle.ja_solve.proofs.solver.Work.close.Given as goal

abbrev pub invariant-sweeps : goal.invariant-sweeps
invariant-sweeps l =
    record { built : HasBuilt l.self; goes_on : GoesOn l.fn.self l.self }

abbrev pub decreases-sweeps : goal.decreases-sweeps
decreases-sweeps l = l.self.budget - vec_len l.self.visits
