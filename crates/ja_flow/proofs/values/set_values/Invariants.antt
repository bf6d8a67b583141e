use Rattle.std.proofs.Common.{◌≡◌, vec_len}
use Rattle.ja_aheap.specs.Entries.{entries_of}
use Rattle.ja_flow.specs.code.Pairs.{with_set}
use Rattle.ja_flow.proofs.values.set_values.Given as goal

abbrev pub invariant-values : goal.invariant-values
invariant-values l =
    with_set (entries_of l.entries) l.left.items
    ≡ with_set (entries_of l.fn.entries) l.fn.values.items

abbrev pub decreases-values : goal.decreases-values
decreases-values l = vec_len l.left
