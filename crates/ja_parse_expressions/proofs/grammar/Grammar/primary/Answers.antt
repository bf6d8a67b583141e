use Rattle.std.proofs.Common.{◌∙◌, sym}
use Rattle.ja_grammar.specs.Input.{strict}
use Rattle.ja_grammar.specs.ReadStatement.{below}
use Rattle.ja_parse_expressions.proofs.Refusals.{at_divide, at_divide_assign}
use Rattle.ja_parse_expressions.proofs.grammar.Grammar.primary.Goals as goal

pub returns-in-Divide : goal.returns-in-Divide
returns-in-Divide g c =
    at_divide c.args.self.now.depth (below strict c.args.self.now.depth) c.args.cursor.now
    (sym c.symbol.ensures ∙ c.in-Divide.is)

pub returns-in-DivideAssign : goal.returns-in-DivideAssign
returns-in-DivideAssign g c =
    at_divide_assign c.args.self.now.depth (below strict c.args.self.now.depth) c.args.cursor.now
    (sym c.symbol.ensures ∙ c.in-DivideAssign.is)
