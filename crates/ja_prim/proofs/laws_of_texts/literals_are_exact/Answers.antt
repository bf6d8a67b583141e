use Rattle.ja_prim.proofs.Exact.{exact, found}
use Rattle.ja_prim.proofs.laws_of_texts.literals_are_exact.Goals as goal

pub returns-clause-exact : goal.returns-clause-exact
returns-clause-exact c = exact

pub returns-clause-found : goal.returns-clause-found
returns-clause-found c = found
