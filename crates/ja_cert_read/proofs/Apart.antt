-- Properties of which no two are of one label and key, and those of them that change a state.
use Rattle.std.proofs.Common.{◌≡◌, ℕ, Bool, true, false, if◌then◌else◌, List, [], ◌∷◌, ◌++◌, refl, ap, sym, subst, ◌∙◌, append_assoc, append-nil}
use Rattle.std.specs.List.{AllByRecursion}
use Rattle.std.proofs.lemmas.Bool.{and_parts}
use Rattle.ja_base.proofs.Lists.{all_append, all_weaker}
use Rattle.ja_base.specs.declared.ids.Label.{Label}
use Rattle.ja_abstract.specs.declared.abstraction.Key.{Key}
use Rattle.ja_abstract.specs.AbstractValue.{AbstractProperty, same_label}
use Rattle.ja_abstract.specs.AbstractState.{AbstractState, same_key}
use Rattle.ja_abstract.proofs.Keys.{same_key-true}
use Rattle.ja_abstract.proofs.Labels.{same_label-true}
use Rattle.ja_table.proofs.Ascending.{Ascends}
use Rattle.ja_cert_parts.specs.declared.listed.PropertyAt.{PropertyAt}
use Rattle.ja_cert_read.specs.code.Building.{first_at, is_property, property_in, with_properties, AreApart}
use Rattle.ja_cert_read.proofs.Below.{IsBelow}
use Rattle.ja_cert_read.proofs.Listing.{before_self}
use Rattle.ja_cert_read.proofs.Pairs.{pair_rank}

abbrev Pair : Type 0
Pair = Label × Key

abbrev pub place : PropertyAt → Pair
place x = (x.label, x.key)

at_place : (x : PropertyAt) (pair : Pair) → is_property x pair ≡ true → place x ≡ pair
at_place x pair is =
    let parts = and_parts (same_label x.label pair.0) (same_key x.key pair.1) is in
    (λ i. (same_label-true x.label pair.0 parts.0 i, same_key-true x.key pair.1 parts.1 i))

-- properties in order are apart
pub apart_in_order : (names : ℕ) (xs : List PropertyAt)
    → Ascends (λ (x y : PropertyAt). IsBelow (pair_rank names (place x)) (pair_rank names (place y)))
    xs → AreApart xs
apart_in_order names [] order = tt
apart_in_order names (x ∷ xs) order = (
  all_weaker (λ (y : PropertyAt). IsBelow (pair_rank names (place x)) (pair_rank names (place y)))
      (λ (y : PropertyAt). is_property y (place x) ≡ false) other xs order.0,
  apart_in_order names xs order.1,
)
  where
    other : (y : PropertyAt) → IsBelow (pair_rank names (place x)) (pair_rank names (place y))
        → is_property y (place x) ≡ false
    other y below = by_test (is_property y (place x)) refl
      where
        by_test : (b : Bool) → is_property y (place x) ≡ b → b ≡ false
        by_test true is = absurd (before_self place (pair_rank names) (place x) (place y)
            (sym (at_place y (place x) is)) below)
        by_test false is = refl

-- ---- without one that a state has already

module _ (a : AbstractState) where
  abbrev given : Pair → AbstractProperty
  given pair = a.property pair.0 pair.1

  missing : (xs : List PropertyAt) (pair : Pair)
      → AllByRecursion (λ (y : PropertyAt). is_property y pair ≡ false) xs
      → first_at is_property property_in given xs pair ≡ given pair
  missing [] pair none = refl
  missing (x ∷ xs) pair none = rw none.0 (missing xs pair none.1)

  left_out : (x : PropertyAt) (rest : List PropertyAt) → given (place x) ≡ property_in x
      → AllByRecursion (λ (y : PropertyAt). is_property y (place x) ≡ false) rest → (pair : Pair)
      → first_at is_property property_in given (x ∷ rest) pair
      ≡ first_at is_property property_in given rest pair
  left_out x rest has apart pair = by_test (is_property x pair) refl
    where
      by_test : (b : Bool) → is_property x pair ≡ b
          → (if is_property x pair then property_in x
          else first_at is_property property_in given rest pair)
          ≡ first_at is_property property_in given rest pair
      by_test true is =
          rw is (sym (subst (λ (p : Pair). first_at is_property property_in given rest p
          ≡ property_in x) (at_place x pair is) (missing rest (place x) apart ∙ has)))
      by_test false is = rw is refl

  same_rest : (left xs ys : List PropertyAt)
      → ((pair : Pair) → first_at is_property property_in given xs pair
      ≡ first_at is_property property_in given ys pair) → (pair : Pair)
      → first_at is_property property_in given (left ++ xs) pair
      ≡ first_at is_property property_in given (left ++ ys) pair
  same_rest [] xs ys same pair = same pair
  same_rest (z ∷ left) xs ys same pair =
      ap (λ (q : AbstractProperty). if is_property z pair then property_in z else q)
      (same_rest left xs ys same pair)

  pub without : (left rest : List PropertyAt) (x : PropertyAt)
      → a.property x.label x.key ≡ property_in x
      → AllByRecursion (λ (y : PropertyAt). is_property y (x.label, x.key) ≡ false) rest
      → with_properties (left ++ x ∷ rest) a ≡ with_properties (left ++ rest) a
  without left rest x has apart = λ i. record a {
    property = λ l k. (same_rest left (x ∷ rest) rest (left_out x rest has apart) (l, k)) i;
  }

-- ---- the loop

module _ (a : AbstractState) (P : PropertyAt → Type 0) (all : List PropertyAt) where
  pub record AreLeft (rest left : List PropertyAt) : Type 0 where
    pub same : with_properties (left ++ rest) a ≡ with_properties all a
    pub apart : AreApart rest
    pub in_left : AllByRecursion P left
    pub in_rest : AllByRecursion P rest

  pub left_start : (rest left : List PropertyAt) → AreApart all → AllByRecursion P all
      → rest ≡ all → left ≡ [] → AreLeft rest left
  left_start rest left apart each from none =
      subst (λ (xs : List PropertyAt). AreLeft xs left) (sym from)
      (subst (λ (xs : List PropertyAt). AreLeft all xs) (sym none)
      (record { same = refl; apart = apart; in_left = tt; in_rest = each }))

  -- one that the state has
  pub left_dropped : (old : List PropertyAt) (x : PropertyAt) (rest left : List PropertyAt)
      → AreLeft old left → old ≡ x ∷ rest → a.property x.label x.key ≡ property_in x
      → AreLeft rest left
  left_dropped old x rest left before next has =
      let was : AreLeft (x ∷ rest) left =
      subst (λ (xs : List PropertyAt). AreLeft xs left) next before in
      record {
        same = sym (without a left rest x has was.apart.0) ∙ was.same;
        apart = was.apart.1;
        in_left = was.in_left;
        in_rest = was.in_rest.1;
      }

  -- another one
  pub left_pushed : (old : List PropertyAt) (x : PropertyAt) (rest left more : List PropertyAt)
      → AreLeft old left → old ≡ x ∷ rest → more ≡ left ++ x ∷ [] → AreLeft rest more
  left_pushed old x rest left more before next push =
      let was : AreLeft (x ∷ rest) left =
      subst (λ (xs : List PropertyAt). AreLeft xs left) next before in
      record {
        same =
            ap (λ (xs : List PropertyAt). with_properties (xs ++ rest) a) push
            ∙ ap (λ (xs : List PropertyAt). with_properties xs a) (append_assoc left (x ∷ []) rest)
            ∙ was.same;
        apart = was.apart.1;
        in_left =
            subst (AllByRecursion P) (sym push)
            (all_append P left (x ∷ []) was.in_left (was.in_rest.0, tt));
        in_rest = was.in_rest.1;
      }

  pub left_all : (rest left : List PropertyAt) → AreLeft rest left → rest ≡ []
      → with_properties left a ≡ with_properties all a
  left_all rest left was none =
      ap (λ (xs : List PropertyAt). with_properties xs a) (sym (append-nil left)
      ∙ ap (λ (xs : List PropertyAt). left ++ xs) (sym none)) ∙ was.same
