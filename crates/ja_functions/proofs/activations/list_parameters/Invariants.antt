use Rattle.std.proofs.Common.{◌≡◌, ◌≤◌, ◌++◌, length, map, drop}
use Rattle.ja_abstract.specs.Made.{parameter_properties}
use Rattle.ja_aheap.specs.Objects.{listed_of}
use Rattle.ja_transfer.specs.Outcomes.{at_view}
use Rattle.ja_functions.specs.code.Aged.{aged_at}
use Rattle.ja_functions.proofs.activations.list_parameters.Given as goal

abbrev pub invariant-loop-left : goal.invariant-loop-left
invariant-loop-left l =
    (l.left ≤ length l.names)
    × (map listed_of l.listed.items ≡ map listed_of l.initial.listed.items ++ parameter_properties
    (aged_at (at_view l.stepper).state l.site l.arguments) l.left (drop l.left l.names))

abbrev pub decreases-loop-left : goal.decreases-loop-left
decreases-loop-left l = l.left
