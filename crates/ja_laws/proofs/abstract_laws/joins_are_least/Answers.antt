-- A join is above each of two, and below what is.
use Rattle.ja_laws.proofs.abstract_laws.joins_are_least.Goals as goal
use Rattle.ja_abstract.proofs.Least.{property_least, property-join_right, state_least, state-join_right, value_least, value-join_right}
use Rattle.ja_abstract.proofs.Order.{property-join, state-join, value-join}

pub returns : goal.returns
returns c = record {
  values =
      λ a b. record {
        left = value-join a b;
        right = value-join_right a b;
        least = value_least a b;
      };
  properties =
      λ a b. record {
        left = property-join a b;
        right = property-join_right a b;
        least = property_least a b;
      };
  states =
      λ a b. record {
        left = state-join a b;
        right = state-join_right a b;
        least = state_least a b;
      };
}
