use Rattle.std.proofs.Common.{take}
use Rattle.ja_transfer.specs.code.Callees.{some_run, IsNext}
use Rattle.ja_transfer.proofs.callees.next_run.Given as goal

abbrev pub invariant-loop-callee : goal.invariant-loop-callee
invariant-loop-callee l =
    IsNext (some_run l.entry l.program (take l.callee-index l.callees)) l.from l.end l.next
