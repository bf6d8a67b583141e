use Rattle.std.proofs.Common.{rules, arith}
use Rattle.std.proofs.lemmas.Grind.{common_steps}
use Rattle.ja_grammar.specs.Input.{listed}
use Rattle.ja_parse_cursor.proofs.name.parameters_list.Goals as goal

pub returns-in_err-found : goal.returns-in_err-found
unfolding listed
returns-in_err-found c depth =
    let h = c.in_err-found.ensures depth in first_of (search rules, grind (arith, common_steps))
