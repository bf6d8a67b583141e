use Rattle.std.proofs.Common.{rules, arith}
use Rattle.std.proofs.lemmas.Grind.{common_steps}
use Rattle.ja_grammar.specs.code.Contexts.{context_of}
use Rattle.ja_grammar.specs.Input.{strict}
use Rattle.ja_grammar.specs.ReadStatement.{below}
use Rattle.ja_parse_cursor.proofs.Jumps.{inside_itself}
use Rattle.ja_parse_cursor.proofs.target.label.Goals as goal

pub returns-then-has_label : goal.returns-then-has_label
returns-then-has_label c =
    let h = inside_itself c.args.depth (below strict c.args.depth) (context_of c.args.context.now)
    c.args.cursor.now in first_of (search rules, grind (arith, common_steps))
