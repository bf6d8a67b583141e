use Rattle.std.proofs.Common.{◌≡◌, ◌-◌, ◌+◌, false, length}
use Rattle.std.specs.Fmt.{digits, digits_onto}
use Rattle.ja_operations.proofs.digits.digits.Given as goal

abbrev pub invariant-loop-place : goal.invariant-loop-place
invariant-loop-place l = record {
  spelled : digits_onto (64 - l._place) l.radix false l.rest l.units.items
      ≡ digits l.radix false l.n;
  places : length l.units.items + (64 - l._place) ≡ 64;
}
