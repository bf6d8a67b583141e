use Rattle.std.proofs.Common.{◌≡◌, ◌++◌, take}
use Rattle.std.specs.List.{flat_map}
use Rattle.ja_base.specs.declared.ids.Label.{Label}
use Rattle.ja_abstract.specs.declared.abstraction.Key.{Key}
use Rattle.ja_aheap.specs.Entries.{entries_of}
use Rattle.ja_report.specs.Lines.{entry_line}
use Rattle.ja_cert.specs.code.Writing.{lines_text}
use Rattle.ja_cert.proofs.write_contexts.push_pairs.Given as goal

abbrev pub invariant-loop-pair : goal.invariant-loop-pair
invariant-loop-pair l =
    l.text.items ≡ l.initial.text.items ++ flat_map (λ (pair : Label × Key). lines_text l.program
    (entry_line (entries_of l.entries) pair.0 pair.1)) (take l.pair-index l.pairs)
