-- The queue stays.
use Rattle.std.proofs.Common.{◌≡◌}
use Rattle.ja_solve.proofs.agenda.Agenda.keep_reads.Given as goal

abbrev pub invariant-loop-pair : goal.invariant-loop-pair
invariant-loop-pair l = l.self.queue ≡ l.fn.self.queue
