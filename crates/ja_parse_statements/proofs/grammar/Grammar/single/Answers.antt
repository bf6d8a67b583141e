use Rattle.std.proofs.Common.{◌∙◌, sym, subst}
use Rattle.ja_grammar.specs.code.Contexts.{context_of}
use Rattle.ja_grammar.specs.Input.{strict}
use Rattle.ja_grammar.specs.code.Input.{Follows}
use Rattle.ja_grammar.specs.ReadStatement.{below}
use Rattle.ja_parse_statements.proofs.Keywords.{continue_is, break_is, return_is, try_is}
use Rattle.ja_parse_statements.proofs.grammar.Grammar.single.Goals as goal

pub returns-in-Continue : goal.returns-in-Continue
returns-in-Continue g c =
    subst (λ o. Follows o c.continue_statement.result c.continue_statement.new.cursor)
    (sym (continue_is (strict c.args.self.now.depth) (below strict c.args.self.now.depth)
    (context_of c.args.context.now) c.args.labels c.args.outermost c.args.cursor.now
    (sym c.symbol.ensures ∙ c.in-Continue.is)))
    (c.continue_statement.ensures c.args.self.now.depth (below strict c.args.self.now.depth))

pub returns-in-Break : goal.returns-in-Break
returns-in-Break g c =
    subst (λ o. Follows o c.break_statement.result c.break_statement.new.cursor)
    (sym (break_is (strict c.args.self.now.depth) (below strict c.args.self.now.depth)
    (context_of c.args.context.now) c.args.labels c.args.outermost c.args.cursor.now
    (sym c.symbol.ensures ∙ c.in-Break.is)))
    (c.break_statement.ensures c.args.self.now.depth (below strict c.args.self.now.depth))

pub returns-in-Return : goal.returns-in-Return
returns-in-Return g c =
    subst (λ o. Follows o c.return_statement.result c.return_statement.new.cursor)
    (sym (return_is (strict c.args.self.now.depth) (below strict c.args.self.now.depth)
    (context_of c.args.context.now) c.args.labels c.args.outermost c.args.cursor.now
    (sym c.symbol.ensures ∙ c.in-Return.is))) c.return_statement.ensures

pub returns-in-Try : goal.returns-in-Try
returns-in-Try g c =
    subst (λ o. Follows o c.try_statement.result c.try_statement.new.cursor)
    (sym (try_is (strict c.args.self.now.depth) (below strict c.args.self.now.depth)
    (context_of c.args.context.now) c.args.labels c.args.outermost c.args.cursor.now
    (sym c.symbol.ensures ∙ c.in-Try.is))) c.try_statement.ensures
