use Rattle.ja_lower_expressions.proofs.SpecialLemmas.{are_special_forms}
use Rattle.ja_lower_expressions.proofs.special.special_forms_list_their_nodes.Goals as goal

pub returns : goal.returns
returns c = are_special_forms
