-- Masks by the numbers of sites.
use Rattle.std.specs.Prelude.{◌≡◌, ◌≤◌, ℕ, Some}
use Rattle.std.specs.Ordering.{nat_cmp}
use Rattle.std.specs.BTreeMap.{BTreeMap, get}
use Rattle.ja_abstract.specs.declared.abstraction.Mask.{Mask}
use Rattle.ja_abstract.specs.AbstractState.{exactly_none}
use Rattle.ja_abstract.specs.Composed.{composed_mask}
use Rattle.ja_value.specs.Labels.{mask_in}

-- nothing is made at what is no site of the program
abbrev pub NothingBeyond : ℕ → (ℕ → Mask) → Type 0
NothingBeyond sites mask = (s : ℕ) → sites ≤ s → mask s ≡ exactly_none

-- the masks that are kept are these
abbrev pub AreMasks : (ℕ → Mask) → BTreeMap ℕ Mask → Type 0
AreMasks f masks = (q : ℕ) (m : Mask) → get nat_cmp masks q ≡ Some m → m ≡ f q

-- what was made in two times after each other
abbrev pub both_masks : BTreeMap ℕ Mask → BTreeMap ℕ Mask → ℕ → Mask
both_masks first later s = composed_mask (mask_in first s) (mask_in later s)
