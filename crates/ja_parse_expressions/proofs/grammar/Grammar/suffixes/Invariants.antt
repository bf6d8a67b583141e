use Rattle.std.proofs.Common.{◌≡◌, ◌-◌}
use Rattle.ja_grammar.specs.Input.{until, strict}
use Rattle.ja_parse_cursor.proofs.Turns.{until_from}
use Rattle.ja_grammar.specs.ReadExpression as spec
use Rattle.ja_grammar.specs.ReadStatement.{below}
use Rattle.ja_grammar.specs.Forms as forms
use Rattle.std.proofs.Common.{not}
use Rattle.ja_parse_expressions.proofs.grammar.Grammar.suffixes.Given as goal

abbrev pub invariant-loop-turn : goal.invariant-loop-turn
invariant-loop-turn g l =
    until (λ found. not (forms.begins_suffix found))
    (spec.any_suffix (strict l.self.depth) (below strict l.self.depth)) l.fn.cursor
    ≡ until_from (λ found. not (forms.begins_suffix found))
    (spec.any_suffix (strict l.self.depth) (below strict l.self.depth)) (l._turn-end - l._turn)
    l.found l.cursor
