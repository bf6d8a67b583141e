use Rattle.ja_prim.proofs.Integers.{remainder_exact, remainder_found}
use Rattle.ja_prim.proofs.laws.remainders_are_exact.Goals as goal

pub returns-clause-exact : goal.returns-clause-exact
returns-clause-exact c = remainder_exact

pub returns-clause-found : goal.returns-clause-found
returns-clause-found c = remainder_found
