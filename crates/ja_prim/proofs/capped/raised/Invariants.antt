use Rattle.std.proofs.Common.{◌≡◌, ◌*◌, ◌^◌}
use Rattle.ja_prim.specs.code.Capped as spec
use Rattle.ja_prim.proofs.capped.raised.Given as goal

abbrev pub invariant-times : goal.invariant-times
invariant-times l = l.product ≡ spec.capped (l.value * 10 ^ l._time)
