-- The pairs so far are demanded.
use Rattle.std.proofs.Common.{take}
use Rattle.std.specs.Prelude.{All}
use Rattle.ja_aheap.specs.Entries.{entries_of}
use Rattle.ja_rules.specs.code.Entries.{IsDemanded}
use Rattle.ja_rules.proofs.entries.are_demanded.Given as goal

abbrev pub invariant-loop-pair : goal.invariant-loop-pair
invariant-loop-pair l =
    All (IsDemanded (entries_of l.entries)) (take l.pair-index l.pairs)
