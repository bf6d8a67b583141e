use Rattle.std.proofs.Common.{◌<◌, rules}
use Rattle.std.specs.Ordering.{nat_cmp}
use Rattle.std.specs.BTreeMap.{get}
use Rattle.ja_abstract.specs.Order.{LeqProperty}
use Rattle.ja_aheap.specs.Objects.{at}
use Rattle.ja_aheap.proofs.MapLemmas.{listed_decides}
use Rattle.ja_aheap.proofs.object.AObject.leq_at_listed.Goals as goal

pub returns : goal.returns
returns c =
    listed_decides _ (get nat_cmp c.args.self.now.listed)
    (λ q. q < c.args.end → LeqProperty (at c.args.self.now q) (at c.args.other.now q))
    c.all_listed.result c.all_listed.ensures (λ q v is says below. search rules)
    (λ q v is says all. search rules)
