use Rattle.std.proofs.Common.{◌≡◌, ◌+◌, drop}
use Rattle.std.specs.List.{prefix_len}
use Rattle.ja_prim.specs.Characters.{is_blank}
use Rattle.ja_prim.proofs.blanks.blanks_before.Given as goal

abbrev pub invariant-units : goal.invariant-units
invariant-units l = l.i + prefix_len is_blank (drop l.i l.units) ≡ prefix_len is_blank l.units
