-- The constants have these numbers.
use Rattle.std.proofs.Common.{refl}
use Rattle.ja_laws.proofs.Numbers.{behind_fixed}
use Rattle.ja_laws.proofs.number_laws.registers_are_named.Goals as goal

pub returns-clause-callee : goal.returns-clause-callee
returns-clause-callee c = refl

pub returns-clause-count : goal.returns-clause-count
returns-clause-count c = refl

pub returns-clause-parameters : goal.returns-clause-parameters
returns-clause-parameters c = λ i. refl

pub returns-clause-rest : goal.returns-clause-rest
returns-clause-rest c = λ parameters. refl

pub returns-clause-thrown_first : goal.returns-clause-thrown_first
returns-clause-thrown_first c = λ p. refl

pub returns-clause-this_first : goal.returns-clause-this_first
returns-clause-this_first c = λ p. refl

pub returns-clause-scope_first : goal.returns-clause-scope_first
returns-clause-scope_first c = λ p. refl

pub returns-clause-callee_first : goal.returns-clause-callee_first
returns-clause-callee_first c = λ p. refl

pub returns-clause-count_first : goal.returns-clause-count_first
returns-clause-count_first c = λ p. refl

pub returns-clause-rest_first : goal.returns-clause-rest_first
returns-clause-rest_first c = behind_fixed
