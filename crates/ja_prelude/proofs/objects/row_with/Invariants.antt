use Rattle.std.proofs.Common.{◌≡◌, drop, map}
use Rattle.ja_prelude.specs.Table.{row_with}
use Rattle.ja_prelude.specs.code.Table.{seen_row}
use Rattle.ja_prelude.proofs.objects.row_with.Given as goal

abbrev pub invariant-loop-row : goal.invariant-loop-row
invariant-loop-row l =
    row_with (map seen_row (drop l.row-index l.table)) l.site
    ≡ row_with (map seen_row l.table) l.site
