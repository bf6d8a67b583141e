use Rattle.ja_prelude.proofs.Trees.{prelude_only, prelude_spelled}
use Rattle.ja_prelude.proofs.laws.trees_are_the_grammars.Goals as goal

pub returns-clause-trees : goal.returns-clause-trees
returns-clause-trees c = prelude_spelled

pub returns-clause-no_others : goal.returns-clause-no_others
returns-clause-no_others c = prelude_only
