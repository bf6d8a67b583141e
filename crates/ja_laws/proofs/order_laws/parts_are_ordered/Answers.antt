-- By parts, as proved in Order.
use Rattle.ja_laws.proofs.order_laws.parts_are_ordered.Goals as goal
use Rattle.ja_laws.proofs.Ordered.{value_order, property_order, state_order}

pub returns-clause-values : goal.returns-clause-values
returns-clause-values c = value_order

pub returns-clause-properties : goal.returns-clause-properties
returns-clause-properties c = property_order

pub returns-clause-states : goal.returns-clause-states
returns-clause-states c = state_order
