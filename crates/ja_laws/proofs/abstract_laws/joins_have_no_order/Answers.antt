-- What is least is one.
use Rattle.ja_laws.proofs.abstract_laws.joins_have_no_order.Goals as goal
use Rattle.ja_abstract.proofs.Least.{states_grouped, states_turned, state_twice}

pub returns : goal.returns
returns c = record {
  turned = λ a b. states_turned a b;
  grouped = λ a b d. states_grouped a b d;
  twice = λ a. state_twice a;
}
