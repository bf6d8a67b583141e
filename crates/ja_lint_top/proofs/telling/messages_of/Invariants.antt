-- The warnings before this one are told, but for those that are only counted.
use Rattle.std.proofs.Common.{filter, not, take}
use Rattle.ja_table.specs.Tables.{table_of}
use Rattle.ja_warn.specs.Told.{warnings_in}
use Rattle.ja_lint_top.specs.Ending.{is_counted}
use Rattle.ja_lint_top.specs.Telling.{AreTold}
use Rattle.ja_lint_top.proofs.telling.messages_of.Given as goal

abbrev pub invariant-loop-told : goal.invariant-loop-told
invariant-loop-told l =
    AreTold l.source.files.now l.source.program.now (table_of l.table)
    (filter (λ w. not (is_counted l.rows w)) (warnings_in (take l.told-index l.warnings)))
    l.messages.items
