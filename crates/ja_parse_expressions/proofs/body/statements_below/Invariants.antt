use Rattle.std.proofs.Common.{◌≡◌, ◌-◌}
use Rattle.ja_grammar.specs.Input.{until, strict}
use Rattle.ja_parse_cursor.proofs.Turns.{until_from}
use Rattle.ja_grammar.specs.ReadStatement.{below}
use Rattle.ja_grammar.specs.declared.part.StatementPart.TheVariants as of_statement
use Rattle.ja_grammar.specs.code.Contexts.{context_of}
use Rattle.ja_parse_expressions.specs.code.Ends.{ends}
use Rattle.ja_parse_expressions.proofs.body.statements_below.Given as goal

abbrev pub invariant-loop-turn : goal.invariant-loop-turn
invariant-loop-turn g l =
    until (ends l.end) ((below strict l.depth).statement (context_of l.context)
    (of_statement.Whole 0 l.outermost)) l.fn.cursor
    ≡ until_from (ends l.end) ((below strict l.depth).statement (context_of l.context)
    (of_statement.Whole 0 l.outermost)) (l._turn-end - l._turn) l.found l.cursor
