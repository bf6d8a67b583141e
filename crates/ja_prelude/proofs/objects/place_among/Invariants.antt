use Rattle.std.proofs.Common.{◌≡◌, ◌+◌, length, map}
use Rattle.std.specs.List.{position_or_len}
use Rattle.std.specs.Str.{bytes_eq}
use Rattle.ja_prelude.proofs.objects.place_among.Given as goal

abbrev pub invariant-loop-left : goal.invariant-loop-left
invariant-loop-left l = record {
  rest : l.number + position_or_len (bytes_eq l.name) (map (λ n. n.now) l.left)
      ≡ position_or_len (bytes_eq l.name) (map (λ n. n.now) l.initial.left);
  count : l.number + length l.left ≡ length l.initial.left;
}

abbrev pub decreases-loop-left : goal.decreases-loop-left
decreases-loop-left l = length l.left
