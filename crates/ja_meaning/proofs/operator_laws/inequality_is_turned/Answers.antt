-- By what is made of the result.
use Rattle.std.proofs.Common.{refl}
use Rattle.ja_meaning.proofs.operator_laws.inequality_is_turned.Goals as goal

pub returns-clause-loose : goal.returns-clause-loose
returns-clause-loose c = λ w a b. refl

pub returns-clause-strict : goal.returns-clause-strict
returns-clause-strict c = λ w a b. refl
