use Rattle.std.proofs.Common.{◌≡◌, ◌<◌, ◌^◌, drop}
use Rattle.ja_prim.specs.Index as spec
use Rattle.ja_prim.proofs.index.digits_value.Given as goal

abbrev pub invariant-units : goal.invariant-units
invariant-units l = record {
  below : l.value < 10 ^ l.unit-index;
  same : spec.with_digits l.value (drop l.unit-index l.units) ≡ spec.with_digits 0 l.units;
}
