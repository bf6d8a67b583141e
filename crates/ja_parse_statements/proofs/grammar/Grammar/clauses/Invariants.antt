use Rattle.std.proofs.Common.{◌≡◌, ◌-◌}
use Rattle.ja_grammar.specs.code.Contexts.{context_of}
use Rattle.ja_grammar.specs.Input.{strict}
use Rattle.ja_grammar.specs.ReadStatement.{below}
use Rattle.ja_parse_statements.specs.code.Clauses.{clauses_from, clauses_behind}
use Rattle.ja_parse_statements.proofs.grammar.Grammar.clauses.Given as goal

abbrev pub invariant-loop-turn : goal.invariant-loop-turn
invariant-loop-turn g l =
    clauses_behind (strict l.self.depth) (below strict l.self.depth) (context_of l.context)
    l.fn.cursor
    ≡ clauses_from (strict l.self.depth) (below strict l.self.depth) (context_of l.context)
    (l._turn-end - l._turn) (record { defaulted = l.defaulted; found = l.found }) l.cursor
