use Rattle.std.proofs.Common.{rules, arith}
use Rattle.std.proofs.lemmas.Grind.{common_steps}
use Rattle.ja_grammar.specs.Contexts.{has_label}
use Rattle.ja_grammar.specs.code.Contexts.{context_of}
use Rattle.ja_parse_cursor.proofs.Jumps.{leaves_nothing}
use Rattle.ja_parse_cursor.proofs.target.break_target.Goals as goal

pub returns-else-context : goal.returns-else-context
returns-else-context c depth =
    let known = has_label (context_of c.args.context.now) in
    let h = leaves_nothing depth known known c.args.place c.args.cursor.now in
    first_of (search rules, grind (arith, common_steps))
