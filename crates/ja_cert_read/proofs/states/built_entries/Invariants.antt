use Rattle.std.proofs.Common.{◌≡◌, vec_len}
use Rattle.ja_aheap.specs.Entries.{entries_of}
use Rattle.ja_cert_read.specs.code.Building.{entries_with}
use Rattle.ja_cert_read.proofs.states.built_entries.Given as goal

abbrev pub invariant-loop-listed : goal.invariant-loop-listed
invariant-loop-listed l =
    entries_with l.entries.items (entries_of l.demanded)
    ≡ entries_with l.initial.entries.items (entries_of l.initial.demanded)

abbrev pub decreases-loop-listed : goal.decreases-loop-listed
decreases-loop-listed l = vec_len l.entries
