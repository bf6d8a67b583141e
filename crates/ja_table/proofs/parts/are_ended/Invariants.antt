-- Both ends of each edge so far are among the contexts.
use Rattle.std.proofs.Common.{take}
use Rattle.std.specs.Prelude.{All}
use Rattle.ja_table.specs.Parts.{HasEnds}
use Rattle.ja_table.proofs.parts.are_ended.Given as goal

abbrev pub invariant-loop-kept : goal.invariant-loop-kept
invariant-loop-kept l = All (HasEnds l.table.contexts.items) (take l.kept-index l.edges)
