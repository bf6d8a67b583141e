use Rattle.ja_base.specs.declared.ids.Label.{Label}
use Rattle.ja_abstract.specs.declared.abstraction.Key.{Key}
use Rattle.ja_aheap.specs.Entries.{entries_of}
use Rattle.ja_report.specs.Lines.{entry_line}
use Rattle.ja_cert.proofs.Commas.{lines_listed}
use Rattle.ja_cert.proofs.write_contexts.push_pairs.Goals as goal

pub returns : goal.returns
returns c =
    lines_listed c.args.program.now
    (λ (pair : Label × Key). entry_line (entries_of c.args.entries.now) pair.0 pair.1) _ _ _ _
    c.loop-pair.invariant c.loop-pair-test.false
