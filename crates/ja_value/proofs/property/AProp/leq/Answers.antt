use Rattle.ja_abstract.proofs.Least.{property_by_join}
use Rattle.ja_value.specs.Value.{property_of}
use Rattle.ja_value.proofs.OrderLemmas.{by_way_of, property_joined_by_parts}
use Rattle.ja_value.proofs.property.AProp.leq.Goals as goal

pub returns-clause-joined : goal.returns-clause-joined
returns-clause-joined c =
    property_joined_by_parts (property_of c.args.self.now) (property_of c.args.other.now) _ _
    c.leq.ensures.joined c.leq_attrs.ensures

pub returns-clause-order : goal.returns-clause-order
returns-clause-order c =
    by_way_of (returns-clause-joined c)
    (property_by_join (property_of c.args.self.now) (property_of c.args.other.now))
