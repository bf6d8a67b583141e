use Rattle.std.proofs.Common.{arith}
use Rattle.ja_cert.proofs.Names.{small_at}
use Rattle.ja_cert.proofs.strings.name_text.Goals as goal

pub overflow_cast-unit : goal.overflow_cast-unit
overflow_cast-unit c =
    omega (
      arith,
      small_at c.args.units.now c.loop-unit.unit-index 0 c.requires
          c.loop-unit-test.true,
    )

pub push_ascii-requires : goal.push_ascii-requires
push_ascii-requires c =
    small_at c.args.units.now c.loop-unit.unit-index 0 c.requires c.loop-unit-test.true
