use Rattle.ja_grammar.proofs.Rows as rows
use Rattle.ja_grammar.proofs.laws.these_are_right.Goals as goal

pub returns : goal.returns
returns c = record {
  division = rows.division_is;
  expression = rows.regular_expression_is;
  lookup = rows.lookup_is;
  declaration = rows.declaration_is;
  operand = rows.operand_is;
  name = rows.name_is;
  jump = rows.jump_is;
  deep = rows.deep_is;
  deeper = rows.deeper_is;
}
