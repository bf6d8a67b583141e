-- The pairs so far have the same values.
use Rattle.std.proofs.Common.{take}
use Rattle.ja_aheap.specs.Entries.{entries_of}
use Rattle.ja_check.specs.code.Checking.{AreSameAt}
use Rattle.ja_check.proofs.same_contexts.are_same_values.Given as goal

abbrev pub invariant-loop-pair : goal.invariant-loop-pair
invariant-loop-pair l =
    AreSameAt (entries_of l.own) (entries_of l.other) (take l.pair-index l.pairs)
