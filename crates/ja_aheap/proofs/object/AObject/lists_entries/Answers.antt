use Rattle.std.proofs.Common.{◌≡◌, ◌<◌, rules}
use Rattle.std.specs.Ordering.{nat_cmp}
use Rattle.std.specs.BTreeMap.{get}
use Rattle.ja_abstract.specs.AbstractValue.{entry_property}
use Rattle.ja_aheap.specs.Objects.{at}
use Rattle.ja_aheap.proofs.MapLemmas.{listed_decides}
use Rattle.ja_aheap.proofs.object.AObject.lists_entries.Goals as goal

pub returns : goal.returns
returns c =
    listed_decides _ (get nat_cmp c.args.self.now.listed)
    (λ q. q < c.args.end → at c.args.self.now q ≡ entry_property)
    c.all_listed.result c.all_listed.ensures (λ q v is says below. search rules)
    (λ q v is says all. search rules)
