use Rattle.std.proofs.Common.{rules}
use Rattle.std.proofs.lemmas.Iterator.{items_from_collect, YieldsList-from_map}
use Rattle.std.proofs.lemmas.Iterator.Consumers.{YieldsList-at, YieldsList-from_filter, YieldsList-from_rest}
use borrow.Author.Tests.{tests}
use Rattle.ja_warn.specs.declared.reached.Reached.{Reached}
use Rattle.ja_warn.specs.code.Faults.{Spot, told_by}
use Rattle.ja_warn.proofs.faults.told_of.Goals as goal

pub returns-clause-told : goal.returns-clause-told
returns-clause-told c =
    items_from_collect c.collect.result c.collect.ensures.ran
    (YieldsList-from_map _ told_by (YieldsList-at c.map.ensures.source
    (YieldsList-from_filter _ (λ (e : Spot × Reached). e.1.fault)
    (YieldsList-at c.filter.ensures.source
    (YieldsList-from_rest c.args.found.entries c.into_iter.ensures.into_iter_gives.0))
    c.filter.ensures.closure (λ x r q k. search (rules, tests)))) c.map.ensures.closure
    (λ x r q k. search rules))
