-- Lists of which each member is right behind the last one before it.
use Rattle.std.proofs.Common.{◌≡◌, ◌≤◌, ◌-◌, ℕ, suc, true, List, [], ◌∷◌, ◌++◌, map, length, Option, Some, None, refl, sym, ap, subst, ◌∙◌, arith}
use Rattle.std.specs.Prelude.{slice_get}
use Rattle.std.specs.List.{flat_map, AllByRecursion}
use Rattle.std.specs.Option.{option_map}
use Rattle.std.specs.Ordering.{is_lt}
use Rattle.std.proofs.lemmas.List.{length_push}
use Rattle.serde_json.specs.Data.{Data}
use Rattle.ja_base.proofs.Lists.{all_append, all_weaker}
use Rattle.ja_table.proofs.Ascending.{Ascends}
use Rattle.ja_cert.specs.Certificate.{listed}
use Rattle.ja_cert.specs.Wrong.{MemberWrong, at, is_above, is_behind, is_less, list_wrong, members_wrong, or_else}
use Rattle.ja_cert_laws.proofs.Members.{list_is}
use Rattle.ja_cert_laws.proofs.Picked.{AreAt, Precedes}
use Rattle.ja_cert_read.proofs.Below.{IsBelow, below_first}
use Rattle.ja_cert_read.proofs.Right.{last_is}

pub less_from_below : (a b : List ℕ) → IsBelow a b → is_less a b ≡ true
less_from_below a b h = ap is_lt h

-- nothing is wrong of members, whatever stands before them
pub all_fine : (f : MemberWrong) (before ds : List Data)
    → AllByRecursion (λ (d : Data). (others : List Data) → f others d ≡ None) ds
    → members_wrong f before ds ≡ None
unfolding members_wrong
all_fine f before [] all = refl
all_fine f before (d ∷ ds) all =
    ap (λ w. or_else (at (length before) w) (members_wrong f (before ++ d ∷ []) ds))
    (all.0 before) ∙ all_fine f (before ++ d ∷ []) ds all.1

pub fine_list : (f : MemberWrong) (ds : List Data)
    → AllByRecursion (λ (d : Data). (others : List Data) → f others d ≡ None) ds
    → list_wrong f (listed ds) ≡ None
fine_list f ds all = ap (members_wrong f []) (list_is ds) ∙ all_fine f [] ds all

module _ (f : MemberWrong) (number : Data → List ℕ) where
  -- nothing is wrong of a member that stands above the one before it
  abbrev pub IsRight : Data → Type 0
  IsRight d = (before : List Data) → is_above number before d ≡ true → f before d ≡ None

  abbrev pub Climbs : Option (List ℕ) → List Data → Type 0
  Climbs last [] = Unit {0}
  Climbs last (d ∷ ds) =
      (is_behind last (number d) ≡ true) × IsRight d × Climbs (Some (number d)) ds

  climbs_right : (before ds : List Data) → Climbs (option_map number
      (slice_get before (length before - 1))) ds → members_wrong f before ds ≡ None
  unfolding members_wrong
  climbs_right before [] h = refl
  climbs_right before (d ∷ ds) h =
      ap (λ w. or_else (at (length before) w) (members_wrong f (before ++ d ∷ []) ds))
      (h.1 before h.0)
      ∙ climbs_right (before ++ d ∷ []) ds
      (subst (λ o. Climbs (option_map number o) ds) (sym (last_is before d)) h.2)

  pub list_right : (ds : List Data) → Climbs None ds → list_wrong f (listed ds) ≡ None
  list_right ds h = ap (members_wrong f []) (list_is ds) ∙ climbs_right [] ds h

  -- members from a number on
  abbrev pub AreFrom : ℕ → List Data → Type 0
  AreFrom k ds =
      (last : Option (List ℕ)) → ((r : ℕ) → k ≤ r → is_behind last (r ∷ []) ≡ true)
      → Climbs last ds

  pub later_from : (i j : ℕ) (ds : List Data) → i ≤ j → AreFrom j ds → AreFrom i ds
  later_from i j ds le h last bound = h last (λ r more. bound r (omega arith))

  behind_one : (k r : ℕ) → suc k ≤ r → is_behind (Some (k ∷ [])) (r ∷ []) ≡ true
  behind_one k r more = less_from_below (k ∷ []) (r ∷ []) (below_first k r [] [] (omega arith))

  pub one_from : (k : ℕ) (d : Data) (ds : List Data) → number d ≡ k ∷ [] → IsRight d
      → AreFrom (suc k) ds → AreFrom k (d ∷ ds)
  one_from k d ds same right rest last bound = (
    ap (is_behind last) same ∙ bound k (omega arith),
    right,
    subst (λ (n : List ℕ). Climbs (Some n) ds) (sym same) (rest (Some (k ∷ [])) (behind_one k)),
  )

  pub from_first : (ds : List Data) → AreFrom 0 ds → Climbs None ds
  from_first ds from = from None (λ r low. refl)

  -- a place gives at most one member
  abbrev pub IsOne : List Data → Type 0
  IsOne [] = Unit {0}
  IsOne (d ∷ []) = IsRight d
  IsOne (d ∷ e ∷ ds) = ⊥

  module _ {K : Type 0} (rank : K → List ℕ) (g : K → List Data) where
    abbrev AreBehind : Option (List ℕ) → List K → Type 0
    AreBehind last ks = AllByRecursion (λ (k : K). is_behind last (rank k) ≡ true) ks

    climbs_one : (last : Option (List ℕ)) (k : K) (ks : List K) (ds : List Data)
        → is_behind last (rank k) ≡ true → AreBehind last ks
        → AllByRecursion (Precedes rank number k) ks
        → AllByRecursion (λ (d : Data). number d ≡ rank k) ds → IsOne ds
        → ((other : Option (List ℕ)) → AreBehind other ks → Climbs other (flat_map g ks))
        → Climbs last (ds ++ flat_map g ks)
    climbs_one last k ks [] here later all own one rest = rest last later
    climbs_one last k ks (d ∷ []) here later all own one rest = (
      ap (is_behind last) own.0 ∙ here,
      one,
      rest (Some (number d)) (all_weaker (Precedes rank number k)
          (λ (j : K). is_behind (Some (number d)) (rank j) ≡ true)
          (λ j below. ap (λ (n : List ℕ). is_less n (rank j)) own.0
          ∙ less_from_below (rank k) (rank j) below) ks all),
    )
    climbs_one last k ks (d ∷ e ∷ ds) here later all own one rest = absurd one

    climbs_each : (ks : List K) → Ascends (Precedes rank number) ks → AreAt rank number g ks
        → AllByRecursion (λ (k : K). IsOne (g k)) ks → (last : Option (List ℕ))
        → AreBehind last ks → Climbs last (flat_map g ks)
    climbs_each [] up own one last all = tt
    climbs_each (k ∷ ks) up own one last all =
        climbs_one last k ks (g k) all.0 all.1 up.0 own.0 one.0
        (climbs_each ks up.1 own.1 one.1)

    none_before : (ks : List K) → AreBehind None ks
    none_before [] = tt
    none_before (k ∷ ks) = (refl, none_before ks)

    pub places_climb : (ks : List K) → Ascends (Precedes rank number) ks → AreAt rank number g ks
        → AllByRecursion (λ (k : K). IsOne (g k)) ks → Climbs None (flat_map g ks)
    places_climb ks up own one = climbs_each ks up own one None (none_before ks)

-- of a list each of which gives one
pub singles : {X : Type 0} (shown : X → Data) (xs : List X)
    → flat_map (λ (x : X). shown x ∷ []) xs ≡ map shown xs
singles shown [] = refl
singles shown (x ∷ xs) = ap (λ ds. shown x ∷ ds) (singles shown xs)

pub all_given : {K : Type 0} (P : Data → Type 0) (g : K → List Data) (ks : List K)
    → AllByRecursion (λ (k : K). AllByRecursion P (g k)) ks → AllByRecursion P (flat_map g ks)
all_given P g [] all = tt
all_given P g (k ∷ ks) all =
    all_append P (g k) (flat_map g ks) all.0 (all_given P g ks all.1)
