use Rattle.std.proofs.Common.{◌≡◌, ◌≤◌, ◌+◌, length, take}
use Rattle.std.specs.List.{suffix_len}
use Rattle.ja_prim.specs.Characters.{is_blank}
use Rattle.ja_prim.proofs.blanks.without_blanks_behind.Given as goal

abbrev pub invariant-count : goal.invariant-count
invariant-count l = record {
  within : l.count ≤ length l.units;
  same : l.count + suffix_len is_blank l.units ≡ length l.units
      + suffix_len is_blank (take l.count l.units);
}

abbrev pub decreases-count : goal.decreases-count
decreases-count l = l.count
