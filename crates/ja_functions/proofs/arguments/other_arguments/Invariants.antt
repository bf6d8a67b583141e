use Rattle.std.proofs.Common.{◌≡◌, ◌≤◌, ◌+◌, ◌-◌, Some, length}
use Rattle.ja_abstract.specs.Made.{parameter_ids}
use Rattle.ja_transfer.specs.Outcomes.{at_view}
use Rattle.ja_value.specs.Value.{property_of}
use Rattle.ja_functions.specs.code.Aged.{aged_at, arguments_from}
use Rattle.ja_functions.proofs.arguments.other_arguments.Given as goal

abbrev pub invariant-loop-left : goal.invariant-loop-left
invariant-loop-left l =
    let p = l.stepper.reader.program.now in
    let f = l.stepper.context.function in
    let count = length (parameter_ids p f) + 1 in
    (l.left ≤ count)
    × (property_of l.sum ≡ arguments_from p f (aged_at (at_view l.stepper).state l.site
    (Some l.list)) l.left (count - l.left))

abbrev pub decreases-loop-left : goal.decreases-loop-left
decreases-loop-left l = l.left
