use Rattle.std.proofs.Common.{take}
use Rattle.ja_aheap.specs.Entries.{entries_of}
use Rattle.ja_report.specs.code.Output.{Adds}
use Rattle.ja_report.proofs.EntryLemmas.{pair_lines}
use Rattle.ja_report.proofs.table.push_entries.Given as goal

abbrev pub invariant-loop-pair : goal.invariant-loop-pair
invariant-loop-pair l =
    Adds l.program (pair_lines (entries_of l.entries) (take l.pair-index l.pairs)) l.initial.out
    l.out
