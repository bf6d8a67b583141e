use Rattle.ja_grammar.proofs.Rows as rows
use Rattle.ja_grammar.proofs.laws.others_are_wrong.Goals as goal

pub returns : goal.returns
returns c = record {
  division = rows.no_regular_expression;
  lookup = rows.no_declaration;
  operand = rows.operator_first;
  name = rows.no_label;
  jump = rows.no_jump;
  deep = rows.first_too_deep;
  deeper = rows.deep_before_wrong;
}
