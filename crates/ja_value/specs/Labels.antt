-- The labels as numbers, and sets of them as tests.
use Rattle.std.specs.Prelude.{◌≡◌, ◌≤◌, ◌<◌, ℕ, ◌+◌, ◌/◌, ◌%◌, Bool, true, false, ◌&&◌, ◌||◌, ◌==◌, if◌then◌else◌, List, Option, IfSome, unwrap_or}
use Rattle.std.specs.List.{list_any}
use Rattle.std.specs.Ordering.{nat_cmp}
use Rattle.std.specs.BTreeMap.{BTreeMap, get}
use Rattle.ja_base.specs.declared.ids.Label.{Label}
use Rattle.ja_base.specs.declared.ids.Site.{Site}
use Rattle.ja_abstract.specs.declared.abstraction.Mask.{Mask}
use Rattle.ja_abstract.specs.AbstractValue.{Labels}
use Rattle.ja_abstract.specs.AbstractState.{site_of, new, old, exactly_none}

-- the label whose number is n
abbrev pub label_at : ℕ → Label
label_at n = record { site = site_of (n / 2); old = n % 2 == 1 }

-- a list of numbers as a test
abbrev pub has : List ℕ → ℕ → Bool
has ks q = list_any (λ k. q == k) ks

-- the first number from another one on that passes a test, or none where none does
pub record IsNext (test : ℕ → Bool) (n : ℕ) (next : Option ℕ) : Type 0 where
  pub there : IfSome next (λ r. (n ≤ r) × (test r ≡ true))
  pub before : (q : ℕ) → n ≤ q → IfSome next (λ r. q < r) → test q ≡ false

-- a set of labels after an object more was made at a site
abbrev pub aged_labels : Site → Labels → Labels
aged_labels s set l = if l.site.0 == s.0 then l.old && (set (old s) || set (new s)) else set l

-- a site without a mask of its own has exactly none
abbrev pub mask_in : BTreeMap ℕ Mask → ℕ → Mask
mask_in masks s = unwrap_or (get nat_cmp masks s) exactly_none

-- the mask by which a label is renamed, by its number: an old label stays as it is
abbrev pub number_mask : (ℕ → Mask) → ℕ → Mask
number_mask mask n = if n % 2 == 1 then exactly_none else mask (n / 2)

-- whether objects whose label at the entry has the number n may now have the label of the number q
abbrev pub leads : (ℕ → Mask) → ℕ → ℕ → Bool
leads mask n q =
    ((number_mask mask n).none && q == n)
    || ((number_mask mask n).some && q == n + 1)
