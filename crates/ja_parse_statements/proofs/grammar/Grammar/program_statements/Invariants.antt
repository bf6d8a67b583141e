use Rattle.std.proofs.Common.{◌≡◌, ◌-◌}
use Rattle.ja_grammar.specs.Input.{until, strict}
use Rattle.ja_parse_cursor.proofs.Turns.{until_from}
use Rattle.ja_grammar.specs.ReadStatement as statements
use Rattle.ja_grammar.specs.ReadStatement.{below}
use Rattle.ja_grammar.specs.code.Contexts.{context_of}
use Rattle.std.proofs.Common.{true}
use Rattle.ja_parse_statements.proofs.grammar.Grammar.program_statements.Given as goal

abbrev pub invariant-loop-turn : goal.invariant-loop-turn
invariant-loop-turn g l =
    until statements.is_end (statements.single (strict l.self.depth) (below strict l.self.depth)
    (context_of l.context) 0 true) l.fn.cursor
    ≡ until_from statements.is_end (statements.single (strict l.self.depth)
    (below strict l.self.depth) (context_of l.context) 0 true) (l._turn-end - l._turn) l.found
    l.cursor
