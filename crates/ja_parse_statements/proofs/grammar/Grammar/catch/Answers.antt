use Rattle.std.proofs.Common.{rules, arith}
use Rattle.std.proofs.lemmas.Grind.{common_steps}
use Rattle.ja_grammar.specs.ReadStatement.{catch}
use Rattle.ja_parse_statements.proofs.grammar.Grammar.catch.Goals as goal

pub returns-in_err-parameter : goal.returns-in_err-parameter
unfolding catch
returns-in_err-parameter g c = let h = c.in_err-parameter.ensures c.args.self.now.depth in
    first_of (search rules, grind (arith, common_steps))
