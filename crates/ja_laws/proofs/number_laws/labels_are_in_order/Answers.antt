-- By the sites, two labels each.
use Rattle.ja_laws.proofs.Numbers.{two_of_each, labels_in_order}
use Rattle.ja_laws.proofs.number_laws.labels_are_in_order.Goals as goal

pub returns-clause-all : goal.returns-clause-all
returns-clause-all c = two_of_each

pub returns-clause-each : goal.returns-clause-each
returns-clause-each c = labels_in_order
