use Rattle.ja_abstract.proofs.Least.{value_by_join}
use Rattle.ja_value.specs.Value.{value_of}
use Rattle.ja_value.proofs.OrderLemmas.{by_way_of, joined_by_parts}
use Rattle.ja_value.proofs.value.AValue.leq.Goals as goal

pub returns-clause-joined : goal.returns-clause-joined
returns-clause-joined c =
    joined_by_parts (value_of c.args.self.now) (value_of c.args.other.now) _ _ _ _
    c.leq_flags.ensures c.leq_numbers.ensures c.leq_texts.ensures c.is_subset.ensures

pub returns-clause-order : goal.returns-clause-order
returns-clause-order c =
    by_way_of (returns-clause-joined c)
    (value_by_join (value_of c.args.self.now) (value_of c.args.other.now))
