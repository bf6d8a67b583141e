use Rattle.std.proofs.Common.{◌≡◌, ◌≤◌, drop, min}
use Rattle.std.specs.Str.Parse.{digits_value_after}
use Rattle.ja_prim.proofs.capped.capped_after.Given as goal

abbrev pub invariant-digits : goal.invariant-digits
invariant-digits l = record {
  within : l.value ≤ l.cap;
  same : min (digits_value_after l.radix l.value (drop l.unit-index l.digits)) l.cap
      ≡ min (digits_value_after l.radix l.start l.digits) l.cap;
}
