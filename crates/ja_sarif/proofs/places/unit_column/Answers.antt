-- No more characters take two units than stand before the column.
use Rattle.std.proofs.Common.{arith}
use Rattle.ja_sarif.specs.Sarif.{is_astral}
use Rattle.ja_sarif.proofs.Columns.{filter_short}
use Rattle.ja_sarif.proofs.places.unit_column.Goals as goal

pub overflow_add-result : goal.overflow_add-result
overflow_add-result c =
    omega (
      arith,
      c.astral_in.ensures,
      filter_short is_astral c.front-before.result.now,
      c.front-before.ensures.short,
      c.saturating_sub.ensures,
    )
