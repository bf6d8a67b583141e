use Rattle.std.proofs.Common.{rules, arith}
use Rattle.std.proofs.lemmas.Grind.{common_steps}
use Rattle.ja_parse_expressions.proofs.reading.+expressions.Goals as goal

pub expression_part-requires : goal.expression_part-requires
expression_part-requires g t c = let e = c.in-Part.is in
    first_of (search rules, grind (arith, common_steps))
