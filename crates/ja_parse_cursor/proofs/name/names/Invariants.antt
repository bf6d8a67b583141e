use Rattle.std.proofs.Common.{◌≡◌, ℕ, ◌-◌}
use Rattle.ja_grammar.specs.Input.{separated, strict}
use Rattle.ja_parse_cursor.proofs.Turns.{commas_from}
use Rattle.ja_grammar.specs.ReadExpression as spec
use Rattle.ja_parse_cursor.proofs.name.names.Given as goal

abbrev pub invariant-loop-turn : goal.invariant-loop-turn
invariant-loop-turn l =
    (depth : ℕ) → separated (spec.declared (strict depth)) l.fn.cursor
    ≡ commas_from (spec.declared (strict depth)) (l._turn-end - l._turn) l.found l.cursor
