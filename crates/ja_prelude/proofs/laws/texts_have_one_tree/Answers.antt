use Rattle.ja_prelude.proofs.Trees.{one}
use Rattle.ja_prelude.proofs.laws.texts_have_one_tree.Goals as goal

pub returns : goal.returns
returns c = one
