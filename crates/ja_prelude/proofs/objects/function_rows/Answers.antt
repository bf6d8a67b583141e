use Rattle.std.proofs.Common.{List, map, ap}
use Rattle.ja_prelude.specs.code.Table.{SeenRow, seen_row}
use Rattle.ja_prelude.proofs.objects.function_rows.Goals as goal

pub returns : goal.returns
returns c = ap (λ (rows : List SeenRow). map seen_row rows) c.in_ok-from_slice.ensures.items
