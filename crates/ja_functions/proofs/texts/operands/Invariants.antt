use Rattle.std.proofs.Common.{◌≡◌, ◌++◌, List, drop, map}
use Rattle.std.specs.Option.{option_map}
use Rattle.ja_abstract.specs.PrimitiveOperations.{Taken, operands}
use Rattle.ja_rows.specs.Out.{at}
use Rattle.ja_transfer.specs.Outcomes.{at_view}
use Rattle.ja_functions.proofs.texts.operands.Given as goal

abbrev pub invariant-loop-place : goal.invariant-loop-place
invariant-loop-place l =
    option_map (λ (xss : List (List Taken)). map (λ list. list.items) l.lists.items ++ xss)
    (operands (drop l.place l.sorts) (map (at (at_view l.stepper)) (drop l.place l.args)))
    ≡ operands l.sorts (map (at (at_view l.stepper)) l.args)
