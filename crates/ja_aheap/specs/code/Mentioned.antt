-- The labels that the properties of a heap may be.
use Rattle.std.specs.Prelude.{◌≡◌, ℕ, true, List}
use Rattle.ja_base.specs.declared.ids.Label.{Label}
use Rattle.ja_abstract.specs.declared.abstraction.Key.{Key}
use Rattle.ja_abstract.specs.AbstractValue.{Labels}
use Rattle.ja_aheap.specs.declared.object.AObject.{AObject}
use Rattle.ja_aheap.specs.code.Own.{own_in_place}

-- each label of one set is in another
abbrev pub AreAmong : Labels → Labels → Type 0
AreAmong some set = (l : Label) → some l ≡ true → set l ≡ true

-- each label that a property of an object may be is in a set
abbrev pub AreMentioned : ℕ → List AObject → Labels → Type 0
AreMentioned names objects set =
    (n : ℕ) (k : Key) → AreAmong (own_in_place names objects n k).value.label set
