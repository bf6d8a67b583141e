-- Masks by site.
use Rattle.std.proofs.Common.{◌≡◌, ◌==◌, ◌<◌, ◌≤◌, ◌≢◌, ℕ, arith, List, [], ◌∷◌, ◌++◌, Bool, true, false, if◌then◌else◌, subst, Option, Some, None, unwrap_or, refl, ap, sym, ◌∙◌}
use Rattle.std.proofs.Math.Bool.{or_comm}
use Rattle.std.proofs.lemmas.Bool.{cond-false, ne_eqb}
use Rattle.std.specs.List.{AllByRecursion}
use Rattle.std.specs.BTreeMap.{BTreeMap, get}
use Rattle.std.specs.Option.{option_map_or}
use Rattle.std.specs.Ordering.{nat_cmp}
use Rattle.ja_base.specs.declared.ids.Site.{Site}
use Rattle.ja_abstract.specs.declared.abstraction.Mask.{Mask}
use Rattle.ja_abstract.specs.AbstractState.{exactly_some, join_masks, exactly_none}
use Rattle.ja_value.specs.Labels.{mask_in}
use Rattle.ja_aheap.specs.Heap.{masks_with}
use Rattle.ja_aheap.specs.code.Maps.{IsFilled}
use Rattle.ja_aheap.proofs.MapLemmas.{filled_once}

pub by_default : {X : Type 0} (o : Option X) (d : X)
    → unwrap_or o d ≡ option_map_or (λ (x : X). x) o d
by_default None d = refl
by_default (Some x) d = refl

pub turned : (a b : Mask) → join_masks a b ≡ join_masks b a
turned a b = λ i. record {
  none = or_comm a.none b.none i;
  some = or_comm a.some b.some i;
}

-- of equal masks the same is said
pub same_order : {a a' b b' : BTreeMap ℕ Mask} → a ≡ a' → b ≡ b' → (s : ℕ)
    → join_masks (mask_in a s) (mask_in b s) ≡ mask_in b s
    → join_masks (mask_in a' s) (mask_in b' s) ≡ mask_in b' s
same_order {a} {a'} {b} {b'} e f s h =
    subst (λ m. join_masks (mask_in m s) (mask_in b' s) ≡ mask_in b' s) e
    (subst (λ m. join_masks (mask_in a s) (mask_in m s) ≡ mask_in m s) f h)

-- ---- masks that are set

-- masks once more
pub masks_filled : (Makes : Mask → Mask → Type 0) (a start new : Option Mask) → start ≡ None
    → IsFilled Makes start a new → ((v w : Mask) → a ≡ Some v → Makes v w → w ≡ v)
    → unwrap_or new exactly_none ≡ unwrap_or a exactly_none
masks_filled Makes a start new none filled same =
    by_default new exactly_none
    ∙ filled_once Makes (λ (m : Mask). m) (λ (m : Mask). m) a start new exactly_none exactly_none
    none filled same refl ∙ sym (by_default a exactly_none)

-- the last of a list is set before the others
set_last : (xs : List (Site × Mask)) (x : Site × Mask) (mask : ℕ → Mask) (s : ℕ)
    → masks_with (xs ++ x ∷ []) mask s
    ≡ masks_with xs (λ (t : ℕ). if x.0.0 == t then x.1 else mask t) s
set_last [] x mask s = refl
set_last (y ∷ ys) x mask s =
    ap (λ (m : Mask). if y.0.0 == s then y.1 else m) (set_last ys x mask s)

put_mask : (b : Bool) (m d : Mask) (o : Option Mask)
    → unwrap_or (if b then Some m else o) d ≡ (if b then m else unwrap_or o d)
put_mask true m d o = refl
put_mask false m d o = refl

-- One turn of a loop that takes out the last of a list and sets it.
pub set_turn : (all rest : List (Site × Mask)) (x : Site × Mask) (now next : BTreeMap ℕ Mask)
    (number : ℕ) → all ≡ rest ++ x ∷ [] → number ≡ x.0.0 → ((q : ℕ) → get nat_cmp next q
    ≡ (if number == q then Some x.1 else get nat_cmp now q))
    → (s : ℕ) → masks_with rest (mask_in next) s ≡ masks_with all (mask_in now) s
set_turn all rest x now next number last same step s =
    (λ i. masks_with rest (λ (q : ℕ). (ap (λ (o : Option Mask). unwrap_or o exactly_none) (step q)
    ∙ put_mask (number == q) x.1 exactly_none (get nat_cmp now q)
    ∙ ap (λ (n : ℕ). if n == q then x.1 else mask_in now q) same) i) s)
    ∙ sym (set_last rest x (mask_in now) s)
    ∙ ap (λ (xs : List (Site × Mask)). masks_with xs (mask_in now) s) (sym last)

-- nothing is set beyond the sites
pub set_beyond : (sites : ℕ) (xs : List (Site × Mask)) (mask : ℕ → Mask) (s : ℕ)
    → AllByRecursion (λ (m : Site × Mask). m.0.0 < sites) xs → sites ≤ s
    → mask s ≡ exactly_none → masks_with xs mask s ≡ exactly_none
set_beyond sites [] mask s all beyond none = none
set_beyond sites (x ∷ xs) mask s all beyond none =
    let below : x.0.0 < sites = all.0 in
    let apart : x.0.0 ≢ s = omega arith in
    cond-false (x.0.0 == s) x.1 (masks_with xs mask s) (ne_eqb x.0.0 s apart)
    ∙ set_beyond sites xs mask s all.1 beyond none

pub made_beyond : (sites site s : ℕ) (mask : ℕ → Mask) → site < sites → sites ≤ s
    → mask s ≡ exactly_none → (if site == s then exactly_some else mask s) ≡ exactly_none
made_beyond sites site s mask below beyond none =
    let apart : site ≢ s = omega arith in
    cond-false (site == s) exactly_some (mask s) (ne_eqb site s apart) ∙ none
