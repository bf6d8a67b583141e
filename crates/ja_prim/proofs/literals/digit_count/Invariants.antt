use Rattle.std.proofs.Common.{◌≡◌, ◌+◌, drop}
use Rattle.std.specs.List.{prefix_len}
use Rattle.ja_prim.specs.Characters.{is_digit}
use Rattle.ja_prim.proofs.literals.digit_count.Given as goal

abbrev pub invariant-units : goal.invariant-units
invariant-units l = l.i + prefix_len is_digit (drop l.i l.units) ≡ prefix_len is_digit l.units
