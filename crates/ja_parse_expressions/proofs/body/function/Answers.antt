use Rattle.std.proofs.Common.{rules, arith}
use Rattle.std.proofs.lemmas.Grind.{common_steps}
use Rattle.ja_grammar.specs.ReadExpression.{function}
use Rattle.ja_parse_expressions.proofs.body.function.Goals as goal

pub returns-in_err-name : goal.returns-in_err-name
unfolding function
returns-in_err-name g c = let h = c.in_err-name.ensures c.args.depth in
    first_of (search rules, grind (arith, common_steps))
