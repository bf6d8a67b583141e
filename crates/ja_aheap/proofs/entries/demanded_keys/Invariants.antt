use Rattle.std.proofs.Common.{[], ◌∷◌, ◌-◌}
use Rattle.ja_abstract.specs.AbstractState.{name_key}
use Rattle.ja_value.specs.declared.property.AProp.{AProp}
use Rattle.ja_aheap.proofs.ListLemmas.{Listing}
use Rattle.ja_aheap.proofs.entries.demanded_keys.Given as goal

abbrev pub invariant-loop-number : goal.invariant-loop-number
invariant-loop-number l =
    Listing (λ q (p : AProp). name_key (q - 6) ∷ []) 6 (l.names) l.properties.entries
    l.number-iterator l.keys.items
