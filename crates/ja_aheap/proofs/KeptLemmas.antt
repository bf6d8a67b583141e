-- Properties that stay as they are at a later moment, since no object that they name has another
-- label then.
use Rattle.std.proofs.Common.{◌≡◌, ◌≢◌, subst, ◌||◌, ◌&&◌, ◌<◌, ◌≤◌, ℕ, Bool, true, false, List, [], Option, Some, None, refl, ap, sym, ◌∙◌, ◌⊎◌, inl, inr, ⊎_elim, arith}
use Rattle.std.specs.Option.{unwrap_or}
use Rattle.std.specs.BTreeMap.{BTreeMap}
use Rattle.std.specs.Map.Iter.{deref_pair, TakesFirst}
use Rattle.std.proofs.lemmas.Bool.{cases_eq, cases_lt}
use Rattle.std.proofs.lemmas.Map.Iter.{rest_more}
use denote.Ref.{Bor}
use Rattle.std.specs.List.{list_any}
use Rattle.ja_base.specs.declared.ids.Label.{Label}
use Rattle.ja_base.specs.declared.ids.Site.{Site}
use Rattle.ja_abstract.specs.declared.abstraction.Mask.{Mask}
use Rattle.ja_abstract.specs.AbstractValue.{Labels, AbstractProperty}
use Rattle.ja_abstract.specs.AbstractState.{new, old, site_of, labels_below, exactly_none}
use Rattle.ja_abstract.specs.Resolved.{renamed, renamed_labels}
use Rattle.ja_abstract.proofs.Labels.{among_range, some_among}
use Rattle.ja_aheap.specs.code.Composed.{AreUnmoved, HasMoved}
use Rattle.ja_aheap.specs.code.Masks.{NothingBeyond}
use Rattle.ja_value.specs.Labels.{mask_in}
use Rattle.ja_aheap.proofs.MapLemmas.{Passing, found, later, passing_turn}

pub or_nothing : (a b : Bool) → b ≡ false → (a || b) ≡ a
or_nothing true b none = refl
or_nothing false b none = none

pub or_turned : (a b : Bool) → (a || b) ≡ (b || a)
or_turned true true = refl
or_turned true false = refl
or_turned false true = refl
or_turned false false = refl

and_nothing : (a b : Bool) → b ≡ false → (a && b) ≡ false
and_nothing true b none = none
and_nothing false b none = refl

and_all : (a b : Bool) → b ≡ true → (a && b) ≡ a
and_all true b all = all
and_all false b all = refl

unmoved_at : (mask : ℕ → Mask) (set : Labels) → AreUnmoved mask set → (s : Site) (o : Bool)
    → renamed_labels mask set (record { site = s; old = o }) ≡ set (record { site = s; old = o })
unmoved_at mask set unmoved s true =
    or_nothing (set (old s)) _ (⊎_elim
    (λ (none : mask s.0 ≡ exactly_none). and_nothing (set (new s)) _
    (ap (λ (m : Mask). m.some) none))
    (λ (none : set (new s) ≡ false). ap (λ (b : Bool). b && (mask s.0).some) none) (unmoved s))
unmoved_at mask set unmoved s false =
    ⊎_elim
    (λ (none : mask s.0 ≡ exactly_none). and_all (set (new s)) _ (ap (λ (m : Mask). m.none) none))
    (λ (none : set (new s) ≡ false). ap (λ (b : Bool). b && (mask s.0).none) none ∙ sym none)
    (unmoved s)

pub unmoved : (mask : ℕ → Mask) (q : AbstractProperty) → AreUnmoved mask q.value.label
    → renamed mask q ≡ q
unmoved mask q h =
    let each = unmoved_at mask q.value.label h in
    λ i. record q { value = record q.value { label = λ l. (each l.site l.old) i } }

-- where none of the labels is one of those that may be another one
pub unmoved_apart : (mask : ℕ → Mask) (set moved : Labels) (sites : ℕ) → NothingBeyond sites mask
    → HasMoved sites mask moved
    → list_any (λ l. set l && moved l) (labels_below sites) ≡ false → AreUnmoved mask set
unmoved_apart mask set moved sites beyond has none s =
    ⊎_elim
    (λ (below : s.0 < sites). ⊎_elim (λ (exact : mask s.0 ≡ exactly_none). inl exact)
    (λ (among : moved (new s) ≡ true). inr (pick below among (set (new s)) refl)) (has s below))
    (λ (above : sites ≤ s.0). inl (beyond s.0 above)) (cases_lt s.0 sites)
  where
    pick : s.0 < sites → moved (new s) ≡ true → (b : Bool) → set (new s) ≡ b → set (new s) ≡ false
    pick below among false in_set = in_set
    pick below among true in_set =
        let both : (set (new s) && moved (new s)) ≡ true = rw (in_set, among) refl in
        let clash : true ≡ false = sym (some_among (λ (l : Label). set l && moved l)
        (labels_below sites) (new s) (among_range 0 sites (new s) (omega arith) (omega arith)) both)
        ∙ none in
        absurd (cc)

-- a label of the site of a number
pub by_number : (set : Labels) (s : Site) (n : ℕ) → s.0 ≡ n → set (new (site_of n)) ≡ true
    → set (new s) ≡ true
by_number set s n same there = subst (λ k. set (new (site_of k)) ≡ true) (sym same) there

-- The masks that are still ahead; of the sites of the others the labels are among the set.
pub record Moving (sites : ℕ) (masks : BTreeMap ℕ Mask) (rest : List (ℕ × Mask)) (set : Labels)
    : Type 0 where
  pub passing : Passing masks.entries rest
  pub moved : (s : Site) → s.0 < sites → found rest s.0 ≡ None
      → (mask_in masks s.0 ≡ exactly_none) ⊎ (set (new s) ≡ true)

-- one mask more
pub moving_turn : (sites : ℕ) (masks : BTreeMap ℕ Mask) (set more : Labels)
    (s t : List (ℕ × Mask)) (r : Option (Bor ℕ × Bor Mask)) (x : Bor ℕ × Bor Mask) → r ≡ Some x
    → TakesFirst (deref_pair {K = ℕ} {X = Mask}) s r t
    → ((l : Site) → l.0 ≡ x.0.now → l.0 < sites
    → (x.1.now ≡ exactly_none) ⊎ (more (new l) ≡ true))
    → ((l : Site) → set (new l) ≡ true → more (new l) ≡ true)
    → Moving sites masks s set → Moving sites masks t more
moving_turn sites masks set more s t r x is step here kept h =
    let all = masks.entries in
    let turn = passing_turn all s t r x is step h.passing in
    record {
      passing = turn.1;
      moved =
          λ l below over. ⊎_elim
          (λ (same : x.0.now ≡ l.0). ⊎_elim
          (λ (exact : x.1.now ≡ exactly_none). inl (ap (λ o. unwrap_or o exactly_none)
          (subst (λ n. found all n ≡ Some x.1.now) same turn.0) ∙ exact))
          (λ (among : more (new l) ≡ true). inr among)
          (here l (sym same) below))
          (λ (apart : x.0.now ≢ l.0). ⊎_elim
          (λ (exact : mask_in masks l.0 ≡ exactly_none). inl exact)
          (λ (among : set (new l) ≡ true). inr (kept l among))
          (h.moved l below (ap (λ rest. found rest l.0) (rest_more deref_pair s t r x is step)
          ∙ later (deref_pair x) t l.0 apart ∙ over)))
          (cases_eq x.0.now l.0);
    }

-- all masks are passed
pub moving_end : (sites : ℕ) (masks : BTreeMap ℕ Mask) (set : Labels) (rest : List (ℕ × Mask))
    → rest ≡ [] → Moving sites masks rest set → HasMoved sites (mask_in masks) set
moving_end sites masks set rest over h s below =
    h.moved s below (ap (λ left. found left s.0) over)
