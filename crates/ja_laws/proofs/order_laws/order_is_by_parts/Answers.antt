-- By the kinds of primitives.
use Rattle.ja_laws.proofs.order_laws.order_is_by_parts.Goals as goal
use Rattle.ja_laws.proofs.Ordered.{has_all, leq_from}

pub returns-clause-below : goal.returns-clause-below
returns-clause-below c = has_all

pub returns-clause-above : goal.returns-clause-above
returns-clause-above c = leq_from
