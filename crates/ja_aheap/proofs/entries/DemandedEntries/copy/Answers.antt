use Rattle.std.proofs.Common.{ap, rules}
use Rattle.std.specs.Ordering.{nat_cmp}
use Rattle.std.specs.BTreeMap.{get}
use Rattle.ja_abstract.specs.AbstractState.{label_number, key_number}
use Rattle.ja_aheap.specs.Numbers.{property_in}
use Rattle.ja_aheap.proofs.MapLemmas.{found}
use Rattle.ja_aheap.proofs.EntryLemmas.{copied}
use Rattle.ja_aheap.proofs.entries.DemandedEntries.copy.Goals as goal

pub returns : goal.returns
returns c =
    λ i l k. copied _ (λ m. property_in m (key_number k))
    (get nat_cmp c.args.self.now.objects (label_number l))
    (get nat_cmp c.new-objects.result (label_number l))
    (get nat_cmp c.fill.new.into (label_number l))
    (ap (λ es. found es (label_number l)) c.new-objects.ensures.empty)
    (c.in_ok-fill.ensures (label_number l)) (λ v w is makes. search rules) i
