use Rattle.std.proofs.Common.{rules, arith}
use Rattle.std.proofs.lemmas.Grind.{common_steps}
use Rattle.ja_grammar.specs.ReadExpression.{function_name}
use Rattle.ja_parse_cursor.proofs.name.function_name.Goals as goal

pub returns-in_err-declared-in-Name : goal.returns-in_err-declared-in-Name
unfolding function_name
returns-in_err-declared-in-Name c depth =
    let h = c.in_err-declared-in-Name.ensures depth in
    first_of (search rules, grind (arith, common_steps))
