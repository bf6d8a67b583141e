use Rattle.ja_prim.proofs.Integers.{quotient_exact, quotient_found, fraction_of_none}
use Rattle.ja_prim.proofs.laws.quotients_are_exact.Goals as goal

pub returns-clause-exact : goal.returns-clause-exact
returns-clause-exact c = quotient_exact

pub returns-clause-found : goal.returns-clause-found
returns-clause-found c = quotient_found

pub returns-clause-fraction : goal.returns-clause-fraction
returns-clause-fraction c = fraction_of_none
