-- What the values at entry that were demanded stand for.
use Rattle.std.specs.Prelude.{◌≡◌, is_some, map, filter, List, Option, Some, None}
use Rattle.std.specs.List.{flat_map}
use denote.Ref.{Bor}
use Rattle.ja_base.specs.declared.ids.Label.{Label}
use Rattle.ja_abstract.specs.declared.abstraction.Key.{Key}
use Rattle.ja_abstract.specs.AbstractState.{label_number, key_number}
use Rattle.ja_abstract.specs.Resolved.{Entries}
use Rattle.ja_value.specs.declared.property.AProp.{AProp}
use Rattle.ja_value.specs.Value.{property_of}
use Rattle.ja_aheap.specs.Numbers.{entry_in}
use Rattle.ja_aheap.specs.declared.entries.DemandedEntries.{DemandedEntries}

-- the values at entry that were demanded
abbrev pub entries_of : DemandedEntries → Entries
entries_of e l k = entry_in e.objects (label_number l) (key_number k)

abbrev pub IsEntryAt : DemandedEntries → Label → Key → Option (Bor AProp) → Type 0
IsEntryAt e l k None = entries_of e l k ≡ None
IsEntryAt e l k (Some q) = entries_of e l k ≡ Some (property_of q.now)

-- the demanded pairs of these labels and keys, in order
abbrev pub pairs_of : Entries → List Label → List Key → List (Label × Key)
pairs_of entries labels keys =
    flat_map (λ (l : Label). map (λ (k : Key). (l, k))
    (filter (λ (k : Key). is_some (entries l k)) keys)) labels
