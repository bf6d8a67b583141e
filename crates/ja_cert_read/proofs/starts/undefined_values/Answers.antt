use Rattle.std.proofs.Common.{ap, length, rules, arith}
use Rattle.std.proofs.lemmas.List.{length-append}
use Rattle.ja_value.specs.declared.value.AValue.{AValue}
use Rattle.ja_cert_read.proofs.Setting.{undefined_more}
use Rattle.ja_cert_read.proofs.starts.undefined_values.Goals as goal

pub loop-register-preserved : goal.loop-register-preserved
loop-register-preserved c = record {
  values =
      rw c.in_ok-push.ensures.items (undefined_more c.loop-register.values.items _ (search rules)
      c.loop-register.invariant.values);
  len =
      omega (
        arith,
        ap length c.in_ok-push.ensures.items,
        length-append {A = AValue},
        c.loop-register.invariant.len,
      );
}

pub returns-clause-values : goal.returns-clause-values
returns-clause-values c = λ i r. c.loop-register.invariant.values r i
