-- A state that begins as another one of which nothing is listed that isn't listed again.
use Rattle.std.proofs.Common.{◌≡◌, ◌==◌, ◌<◌, ◌≤◌, ◌+◌, ℕ, Bool, true, false, if◌then◌else◌, ◌||◌, List, [], ◌∷◌, length, get_or, take, refl, ap, sym, subst, ◌∙◌}
use Rattle.std.specs.Prelude.{IsTrue}
use Rattle.std.specs.List.{list_any, AllByRecursion}
use Rattle.std.proofs.lemmas.Bool.{and_parts, eqb-true, false≢true}
use Rattle.std.proofs.lemmas.List.{take_all, take_more}
use Rattle.ja_base.proofs.Lists.{all_append}
use Rattle.ja_base.specs.declared.ids.Label.{Label}
use Rattle.ja_base.specs.declared.ids.Site.{Site}
use Rattle.ja_abstract.specs.declared.abstraction.Key.{Key}
use Rattle.ja_abstract.specs.AbstractValue.{same_label, entry_property}
use Rattle.ja_abstract.specs.AbstractState.{AbstractState, same_key, exactly_none}
use Rattle.ja_abstract.proofs.Keys.{same_key-true}
use Rattle.ja_abstract.proofs.Labels.{same_label-true}
use Rattle.ja_abstract.specs.declared.abstraction.Mask.{Mask}
use Rattle.ja_cert_parts.specs.declared.listed.MaskAt.{MaskAt}
use Rattle.ja_cert_parts.specs.declared.listed.Pair.{Pair}
use Rattle.ja_cert_parts.specs.declared.listed.PropertyAt.{PropertyAt}
use Rattle.ja_cert_read.specs.code.Building.{first_at, is_mask, is_pair, is_property, lists_pair, lists_site, mask_sites, mask_value, plain_state, property_in, property_pairs, with_heap_of, with_masks, with_properties, with_registers, SaysAll}
use Rattle.ja_cert_parts.specs.declared.listed.RegisterAt.{RegisterAt}

-- ---- what stands first at a place

-- goes by what stands elsewhere only where nothing stands there
pub first_at-same : {X K V : Type 0} (is_at : X → K → Bool) (give : X → V) (f g : K → V)
    (xs : List X) (k : K) → (list_any (λ (x : X). is_at x k) xs ≡ false → f k ≡ g k)
    → first_at is_at give f xs k ≡ first_at is_at give g xs k
first_at-same is_at give f g [] k same = same refl
first_at-same {X} {K} {V} is_at give f g (x ∷ xs) k same =
    by_test (is_at x k) refl (first_at-same is_at give f g xs k)
  where
    by_test : (b : Bool) → is_at x k ≡ b
        → ((list_any (λ (y : X). is_at y k) xs ≡ false → f k ≡ g k)
        → first_at is_at give f xs k ≡ first_at is_at give g xs k)
        → (if is_at x k then give x else first_at is_at give f xs k)
        ≡ (if is_at x k then give x else first_at is_at give g xs k)
    by_test true is others = rw is refl
    by_test false is others = rw is (others (λ none. same (rw is none)))

-- is what stands elsewhere where nothing stands there
pub first_at-none_at : {X K V : Type 0} (is_at : X → K → Bool) (give : X → V) (f : K → V)
    (xs : List X) (k : K) → list_any (λ (x : X). is_at x k) xs ≡ false
    → first_at is_at give f xs k ≡ f k
first_at-none_at is_at give f [] k none = refl
first_at-none_at {X} {K} {V} is_at give f (x ∷ xs) k none =
    by_test (is_at x k) refl (first_at-none_at is_at give f xs k)
  where
    by_test : (b : Bool) → is_at x k ≡ b
        → (list_any (λ (y : X). is_at y k) xs ≡ false → first_at is_at give f xs k ≡ f k)
        → (if is_at x k then give x else first_at is_at give f xs k) ≡ f k
    by_test true is others = absurd (false≢true (sym (rw is at none)))
    by_test false is others = rw is (others (rw is at none))

-- ---- labels with keys, and sites

pair_true : (pair : Pair) (l : Label) (k : Key) → is_pair pair l k ≡ true
    → (pair.label ≡ l) × (pair.key ≡ k)
pair_true pair l k is =
    let parts = and_parts (same_label pair.label l) (same_key pair.key k) is in
    (same_label-true pair.label l parts.0, same_key-true pair.key k parts.1)

lists_other : (heap : List PropertyAt) (pair : Pair) (l : Label) (k : Key)
    → (pair.label ≡ l) × (pair.key ≡ k) → IsTrue (lists_pair heap pair)
    → list_any (λ (x : PropertyAt). is_property x (l, k)) heap ≡ true
lists_other heap pair l k same listed =
    ap (λ m. list_any (λ (x : PropertyAt). is_property x (m, k)) heap) (sym same.0)
    ∙ ap (λ j. list_any (λ (x : PropertyAt). is_property x (pair.label, j)) heap) (sym same.1)
    ∙ listed

none_among : (heap : List PropertyAt) (l : Label) (k : Key)
    → list_any (λ (x : PropertyAt). is_property x (l, k)) heap ≡ false → (pairs : List Pair)
    → AllByRecursion (λ (pair : Pair). IsTrue (lists_pair heap pair)) pairs
    → list_any (λ (pair : Pair). is_pair pair l k) pairs ≡ false
none_among heap l k none [] all = refl
none_among heap l k none (pair ∷ pairs) all =
    by_test (is_pair pair l k) refl (none_among heap l k none pairs all.1)
  where
    by_test : (b : Bool) → is_pair pair l k ≡ b
        → list_any (λ (other : Pair). is_pair other l k) pairs ≡ false
        → list_any (λ (pair : Pair). is_pair pair l k) (pair ∷ pairs) ≡ false
    by_test true is others = absurd (false≢true
        (sym none ∙ lists_other heap pair l k (pair_true pair l k is) all.0))
    by_test false is others = rw is others

no_site_among : (masks : List MaskAt) (s : ℕ)
    → list_any (λ (x : MaskAt). is_mask x s) masks ≡ false → (sites : List Site)
    → AllByRecursion (λ (site : Site). IsTrue (lists_site masks site)) sites
    → list_any (λ (site : Site). site.0 == s) sites ≡ false
no_site_among masks s none [] all = refl
no_site_among masks s none (site ∷ sites) all =
    by_test (site.0 == s) refl (no_site_among masks s none sites all.1)
  where
    by_test : (b : Bool) → (site.0 == s) ≡ b
        → list_any (λ (other : Site). other.0 == s) sites ≡ false
        → list_any (λ (site : Site). site.0 == s) (site ∷ sites) ≡ false
    by_test true is others = absurd (false≢true (sym none
        ∙ ap (λ n. list_any (λ (x : MaskAt). is_mask x n) masks) (sym (eqb-true site.0 s is))
        ∙ all.0))
    by_test false is others = rw is others

-- ---- the beginning

pub starts_so : (a : AbstractState) (pairs : List Pair) (sites : List Site)
    (heap : List PropertyAt) (masks : List MaskAt) → SaysAll pairs sites a
    → AllByRecursion (λ (pair : Pair). IsTrue (lists_pair heap pair)) pairs
    → AllByRecursion (λ (site : Site). IsTrue (lists_site masks site)) sites
    → with_masks masks (with_properties heap (with_heap_of a))
    ≡ with_masks masks (with_properties heap plain_state)
starts_so a pairs sites heap masks says again known = λ i. record plain_state {
  property = λ l k. (at_pair l k) i;
  mask = λ s. (at_site s) i;
}
  where
    at_pair : (l : Label) (k : Key)
        → first_at is_property property_in (λ (pair : Label × Key). a.property pair.0 pair.1) heap
        (l, k) ≡ first_at is_property property_in (λ (pair : Label × Key). entry_property) heap (l, k)
    at_pair l k =
        first_at-same is_property property_in
        (λ (pair : Label × Key). a.property pair.0 pair.1) (λ (pair : Label × Key). entry_property)
        heap (l, k) (λ none. says.properties l k (none_among heap l k none pairs again))

    at_site : (s : ℕ)
        → first_at is_mask mask_value a.mask masks s
        ≡ first_at is_mask mask_value (λ (t : ℕ). exactly_none) masks s
    at_site s =
        first_at-same is_mask mask_value a.mask (λ (t : ℕ). exactly_none) masks s
        (λ none. says.masks s (no_site_among masks s none sites known))

-- once registers, properties and masks are set
pub started_all : (xs : List RegisterAt) (heap : List PropertyAt) (masks : List MaskAt)
    (a : AbstractState)
    → with_masks masks (with_properties heap a) ≡ with_masks masks (with_properties heap plain_state)
    → with_masks masks (with_properties heap (with_registers xs a))
    ≡ with_masks masks (with_properties heap (with_registers xs plain_state))
started_all xs heap masks a same = ap (with_registers xs) same

-- ---- what is listed of a state that was built

pairs_listed : (heap : List PropertyAt) (l : Label) (k : Key)
    → list_any (λ (pair : Pair). is_pair pair l k) (property_pairs heap)
    ≡ list_any (λ (x : PropertyAt). is_property x (l, k)) heap
pairs_listed [] l k = refl
pairs_listed (x ∷ xs) l k = ap (λ b. is_property x (l, k) || b) (pairs_listed xs l k)

sites_listed : (masks : List MaskAt) (s : ℕ)
    → list_any (λ (site : Site). site.0 == s) (mask_sites masks)
    ≡ list_any (λ (x : MaskAt). is_mask x s) masks
sites_listed [] s = refl
sites_listed (x ∷ xs) s = ap (λ b. is_mask x s || b) (sites_listed xs s)

pub says_all : (xs : List RegisterAt) (heap : List PropertyAt) (masks : List MaskAt)
    (a : AbstractState)
    → a ≡ with_masks masks (with_properties heap (with_registers xs plain_state))
    → SaysAll (property_pairs heap) (mask_sites masks) a
says_all xs heap masks a is = record {
  properties = λ l k none. ap (λ (b : AbstractState). b.property l k) is
      ∙ first_at-none_at is_property property_in (λ (pair : Label × Key). entry_property) heap (l, k)
      (sym (pairs_listed heap l k) ∙ none);
  masks = λ s none. ap (λ (b : AbstractState). b.mask s) is
      ∙ first_at-none_at is_mask mask_value (λ (t : ℕ). exactly_none) masks s
      (sym (sites_listed masks s) ∙ none);
}

-- ---- lists up to a place

pub all_next : {X : Type 0} (P : X → Type 0) (xs : List X) (i : ℕ) (d : X) → i < length xs
    → AllByRecursion P (take i xs) → P (get_or xs i d) → AllByRecursion P (take (i + 1) xs)
all_next P xs i d within all here =
    subst (AllByRecursion P) (sym (take_more xs i d within))
    (all_append P (take i xs) (get_or xs i d ∷ []) all (here, tt))

pub all_taken : {X : Type 0} (P : X → Type 0) (xs : List X) (i : ℕ) → length xs ≤ i
    → AllByRecursion P (take i xs) → AllByRecursion P xs
all_taken P xs i past all = subst (AllByRecursion P) (take_all i xs past) all

-- ---- masks that are set already

masks_there : (xs : List MaskAt) (mask : ℕ → Mask)
    → AllByRecursion (λ (x : MaskAt). mask x.site.0 ≡ x.mask) xs → (s : ℕ)
    → first_at is_mask mask_value mask xs s ≡ mask s
masks_there [] mask all s = refl
masks_there (x ∷ xs) mask all s =
    by_test (x.site.0 == s) refl (masks_there xs mask all.1 s)
  where
    by_test : (b : Bool) → (x.site.0 == s) ≡ b
        → first_at is_mask mask_value mask xs s ≡ mask s
        → (if x.site.0 == s then x.mask else first_at is_mask mask_value mask xs s) ≡ mask s
    by_test true is others = rw is (sym all.0 ∙ ap mask (eqb-true x.site.0 s is))
    by_test false is others = rw is others

pub no_masks_set : (xs : List MaskAt) (a : AbstractState)
    → AllByRecursion (λ (x : MaskAt). a.mask x.site.0 ≡ x.mask) xs → with_masks xs a ≡ a
no_masks_set xs a all = λ i. record a { mask = λ s. (masks_there xs a.mask all s) i }

-- .. as it is kept
pub own_says : (heap : List PropertyAt) (masks : List MaskAt) (pairs : List Pair)
    (sites : List Site) (a : AbstractState) → pairs ≡ property_pairs heap → sites ≡ mask_sites masks
    → SaysAll (property_pairs heap) (mask_sites masks) a → SaysAll pairs sites a
own_says heap masks pairs sites a pairs_are sites_are says =
    subst (λ (ps : List Pair). SaysAll ps sites a) (sym pairs_are)
    (subst (λ (ss : List Site). SaysAll (property_pairs heap) ss a) (sym sites_are) says)
