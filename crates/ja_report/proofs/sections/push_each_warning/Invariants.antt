use Rattle.std.proofs.Common.{◌≡◌, ◌++◌, take}
use Rattle.std.specs.List.{flat_map}
use Rattle.ja_report.specs.Report.{warning_text}
use Rattle.ja_report.proofs.sections.push_each_warning.Given as goal

abbrev pub invariant-loop-warning : goal.invariant-loop-warning
invariant-loop-warning l =
    l.text.items ≡ l.initial.text.items ++ flat_map warning_text (take l.warning-index l.warnings)
