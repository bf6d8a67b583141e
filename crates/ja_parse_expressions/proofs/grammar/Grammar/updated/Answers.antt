use Rattle.std.proofs.Common.{◌∙◌, sym, ap}
use Rattle.ja_grammar.specs.Forms.{is_prefix}
use Rattle.ja_grammar.specs.Input.{strict}
use Rattle.ja_grammar.specs.ReadStatement.{below}
use Rattle.ja_parse_expressions.proofs.Refusals.{at_prefix}
use Rattle.ja_parse_expressions.proofs.grammar.Grammar.updated.Goals as goal

pub returns-then-is_prefix : goal.returns-then-is_prefix
returns-then-is_prefix g c =
    at_prefix c.args.self.now.depth (below strict c.args.self.now.depth) c.args.cursor.now
    c.args.place
    (sym (ap is_prefix c.symbol.ensures) ∙ sym c.is_prefix.ensures ∙ c.if-is_prefix.true)
