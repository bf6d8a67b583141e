-- What is listed of places that are in order, one place after another: of two such lists that are
-- the same, each place has the same in both.
use Rattle.std.proofs.Common.{◌≡◌, ℕ, Bool, true, false, cond, List, [], ◌∷◌, ◌++◌, filter, refl, ap, sym, subst, ◌∙◌, inl, inr}
use Rattle.std.specs.List.{flat_map, AllByRecursion}
use Rattle.std.proofs.lemmas.Bool.{cases_Bool}
use Rattle.std.proofs.lemmas.List.Elements.{filter-append}
use Rattle.serde_json.specs.Data.{Data}
use Rattle.ja_prim.specs.Texts.{same_text}
use Rattle.ja_base.proofs.Lists.{all_left, all_right}
use Rattle.ja_abstract.specs.Lists.{Member}
use Rattle.ja_abstract.proofs.Texts.{same_text_refl, text_same}
use Rattle.ja_table.proofs.Ascending.{of_member, Ascends}
use Rattle.ja_cert_read.proofs.Below.{IsBelow, below_one_way}

-- what holds of each element of a list of lists holds of each element of one of them
pub all_of_one : {K X : Type 0} (P : X → Type 0) (g : K → List X) (ks : List K) (k : K)
    → AllByRecursion P (flat_map g ks) → Member k ks → AllByRecursion P (g k)
all_of_one P g [] k all m = elim m [ ]
all_of_one P g (j ∷ ks) k all (inl e) =
    subst (λ i. AllByRecursion P (g i)) e (all_left P (g j) (flat_map g ks) all)
all_of_one P g (j ∷ ks) k all (inr m) =
    all_of_one P g ks k (all_right P (g j) (flat_map g ks) all) m

module _ {K : Type 0} (rank : K → List ℕ) (number : Data → List ℕ) where
  -- what stands at a place has its numbers
  abbrev pub IsAt : K → Data → Type 0
  IsAt k d = number d ≡ rank k

  abbrev at : K → Data → Bool
  at k d = same_text (number d) (rank k)

  abbrev pub Precedes : K → K → Type 0
  Precedes j k = IsBelow (rank j) (rank k)

  kept : (k : K) (ds : List Data) → AllByRecursion (IsAt k) ds → filter (at k) ds ≡ ds
  kept k [] all = refl
  kept k (d ∷ ds) all =
      let here : at k d ≡ true =
      ap (λ (n : List ℕ). same_text n (rank k)) all.0 ∙ same_text_refl (rank k) in
      ap (λ b. cond b (d ∷ filter (at k) ds) (filter (at k) ds)) here
      ∙ ap (λ es. d ∷ es) (kept k ds all.1)

  left : (j k : K) (ds : List Data) → (rank j ≡ rank k → ⊥) → AllByRecursion (IsAt j) ds
      → filter (at k) ds ≡ []
  left j k [] other all = refl
  left j k (d ∷ ds) other all =
      let away : at k d ≡ false = elim (cases_Bool (at k d)) [
        | inl is ↦ absurd (other (sym all.0 ∙ text_same (number d) (rank k) is))
        | inr not ↦ not
      ] in
      ap (λ b. cond b (d ∷ filter (at k) ds) (filter (at k) ds)) away ∙ left j k ds other all.1

  apart : (j k : K) → Precedes j k → rank j ≡ rank k → ⊥
  apart j k before same =
      let self : IsBelow (rank j) (rank j) = subst (IsBelow (rank j)) (sym same) before in
      below_one_way (rank j) (rank j) self self

  -- what each place of a list gives stands at that place
  abbrev pub AreAt : (K → List Data) → List K → Type 0
  AreAt g ks = AllByRecursion (λ (k : K). AllByRecursion (IsAt k) (g k)) ks

  module _ (g : K → List Data) where
    behind : (k : K) (js : List K) → AllByRecursion (Precedes k) js → AreAt g js
        → filter (at k) (flat_map g js) ≡ []
    behind k [] all own = refl
    behind k (j ∷ js) all own =
        filter-append (at k) (g j) (flat_map g js)
        ∙ (λ i. left j k (g j) (λ same. apart k j all.0 (sym same)) own.0 i
        ++ behind k js all.1 own.1 i)

    none_behind : (ds : List Data) → ds ++ [] ≡ ds
    none_behind [] = refl
    none_behind (d ∷ ds) = ap (λ es. d ∷ es) (none_behind ds)

    found : (ks : List K) (k : K) → Ascends Precedes ks → AreAt g ks → Member k ks
        → filter (at k) (flat_map g ks) ≡ g k
    found [] k up own m = elim m [ ]
    found (j ∷ ks) k up own (inl e) =
        subst (λ i. filter (at i) (flat_map g (j ∷ ks)) ≡ g i) e
        (filter-append (at j) (g j) (flat_map g ks)
        ∙ (λ i. kept j (g j) own.0 i ++ behind j ks up.0 own.1 i) ∙ none_behind (g j))
    found (j ∷ ks) k up own (inr m) =
        filter-append (at k) (g j) (flat_map g ks)
        ∙ (λ i. left j k (g j) (apart j k (of_member (Precedes j) ks k up.0 m)) own.0 i
        ++ found ks k up.1 own.1 m i)

  pub same_at : (g h : K → List Data) (ks : List K) (k : K) → Ascends Precedes ks
      → AreAt g ks → AreAt h ks → Member k ks → flat_map g ks ≡ flat_map h ks → g k ≡ h k
  same_at g h ks k up own mine m same =
      sym (found g ks k up own m) ∙ ap (filter (at k)) same ∙ found h ks k up mine m
