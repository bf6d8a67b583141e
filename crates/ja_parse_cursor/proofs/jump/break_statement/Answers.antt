use Rattle.std.proofs.Common.{rules, arith}
use Rattle.std.proofs.lemmas.Grind.{common_steps}
use Rattle.ja_syntax.specs.declared.tree.Statement.TheVariants as s
use Rattle.ja_grammar.specs.code.Contexts.{context_of}
use Rattle.ja_grammar.specs.Input.{head, behind}
use Rattle.ja_parse_cursor.proofs.Jumps.{nothing_to_leave}
use Rattle.ja_parse_cursor.proofs.jump.break_statement.Goals as goal

pub returns-then-not-may_break : goal.returns-then-not-may_break
returns-then-not-may_break c depth below =
    let h = nothing_to_leave depth below (λ x. s.Break x (head c.args.cursor.now).place)
    (context_of c.args.context.now) (head (behind c.args.cursor.now)) c.args.cursor.now in
    first_of (search rules, grind (arith, common_steps))

pub returns-in_err-label : goal.returns-in_err-label
returns-in_err-label c depth below =
    let h = c.in_err-label.ensures depth in first_of (search rules, grind (arith, common_steps))
