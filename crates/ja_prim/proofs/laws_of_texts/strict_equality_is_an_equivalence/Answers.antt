use Rattle.ja_prim.proofs.Equalities.{symmetric, transitive, reflexive}
use Rattle.ja_prim.proofs.laws_of_texts.strict_equality_is_an_equivalence.Goals as goal

pub returns-clause-symmetric : goal.returns-clause-symmetric
returns-clause-symmetric c = symmetric

pub returns-clause-transitive : goal.returns-clause-transitive
returns-clause-transitive c = transitive

pub returns-clause-reflexive : goal.returns-clause-reflexive
returns-clause-reflexive c = reflexive
