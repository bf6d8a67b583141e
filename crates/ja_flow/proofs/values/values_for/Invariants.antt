use Rattle.std.proofs.Common.{take}
use Rattle.ja_aheap.specs.Entries.{entries_of}
use Rattle.ja_flow.proofs.Changes.{AreChanges}
use Rattle.ja_flow.proofs.values.values_for.Given as goal

abbrev pub invariant-loop-pair : goal.invariant-loop-pair
invariant-loop-pair g l =
    AreChanges (entries_of l.entries) (g.V.Values.value_at l.values) (take l.pair-index l.pairs)
    l.listed.items
