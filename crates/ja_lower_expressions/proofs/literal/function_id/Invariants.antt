use Rattle.std.proofs.Common.{◌≡◌, ◌+◌, drop}
use Rattle.std.specs.List.{position_or_len}
use Rattle.ja_lower_expressions.specs.Literals.{same_place}
use Rattle.ja_lower_expressions.proofs.literal.function_id.Given as goal

abbrev pub invariant-loop-function : goal.invariant-loop-function
invariant-loop-function l = record {
  counted : l.number ≡ l.function-index + 1;
  left : l.number + position_or_len (same_place l.place) (drop l.function-index l.scene.functions)
      ≡ 1 + position_or_len (same_place l.place) l.scene.functions;
}
