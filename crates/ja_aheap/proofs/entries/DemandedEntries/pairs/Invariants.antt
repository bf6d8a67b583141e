use Rattle.std.proofs.Common.{ℕ, ◌*◌, map}
use Rattle.std.specs.BTreeMap.{BTreeMap}
use Rattle.ja_abstract.specs.declared.abstraction.Key.{Key}
use Rattle.ja_value.specs.declared.property.AProp.{AProp}
use Rattle.ja_value.specs.Labels.{label_at}
use Rattle.ja_aheap.specs.Numbers.{keys_in}
use Rattle.ja_aheap.proofs.ListLemmas.{Listing}
use Rattle.ja_aheap.proofs.entries.DemandedEntries.pairs.Given as goal

abbrev pub invariant-loop-number : goal.invariant-loop-number
invariant-loop-number l =
    Listing (λ q (m : BTreeMap ℕ AProp). map (λ (k : Key). (label_at q, k)) (keys_in m l.names)) 0
    (2 * l.sites) l.self.objects.entries l.number-iterator l.pairs.items
