use Rattle.std.proofs.Common.{◌≡◌, ◌++◌, map, take}
use Rattle.ja_report.specs.Texts.{label_text}
use Rattle.ja_report.specs.code.Texts.{with_bars}
use Rattle.ja_report.specs.Lines.{label_sites}
use Rattle.ja_report.proofs.values.push_label_parts.Given as goal

-- the labels so far are written, and their sites named
abbrev pub invariant-loop-label : goal.invariant-loop-label
invariant-loop-label l =
    (l.out.text.items ≡ l.initial.out.text.items
    ++ with_bars (map (label_text l.program) (take l.label-index l.label-items)))
    × (l.out.named.items ≡ l.initial.out.named.items
    ++ label_sites (take l.label-index l.label-items))
