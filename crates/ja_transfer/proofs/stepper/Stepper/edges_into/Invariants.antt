use Rattle.std.proofs.Common.{◌≡◌, ◌≤◌, ◌-◌}
use Rattle.ja_transfer.specs.Outcomes.{point_of}
use Rattle.ja_transfer.specs.code.Callees.{some_run, edges_below}
use Rattle.ja_transfer.proofs.stepper.Stepper.edges_into.Given as goal

abbrev pub invariant-loop-function : goal.invariant-loop-function
invariant-loop-function l =
    (l.from ≤ l.end) × (l.edges.items ≡ edges_below (point_of l.self)
    (some_run l.entry l.program l.callees) l.receivers l.from)

abbrev pub decreases-loop-function : goal.decreases-loop-function
decreases-loop-function l = l.end - l.from
