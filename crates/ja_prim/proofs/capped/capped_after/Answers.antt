use Rattle.std.proofs.Common.{◌∙◌, arith}
use Rattle.ja_prim.proofs.Capping.{cap_next}
use Rattle.ja_prim.proofs.capped.capped_after.Goals as goal

pub digits-preserved : goal.digits-preserved
digits-preserved c =
    record {
      within = omega arith;
      same =
          cap_next c.args.radix c.digits.value c.min-value.result c.digit.result
          c.saturating_mul.result c.saturating_add.result c.args.cap c.args.digits.now
          c.digits.unit-index
          c.requires.low c.digits-test.true (omega arith) c.digit.ensures.value
          c.saturating_mul.ensures c.saturating_add.ensures c.min-value.ensures
          ∙ c.digits.invariant.same;
    }
