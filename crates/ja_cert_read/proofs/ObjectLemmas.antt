-- The members of objects, and the elements of short lists.
use Rattle.std.specs.Prelude.{◌≡◌, ℕ, List, [], ◌∷◌, length, get_or, Option, Some, None}
use Rattle.std.specs.Option.{option_map}
use Rattle.std.proofs.Common.{refl, sym, ap, ◌∙◌, inl, inr, arith}
use Rattle.std.proofs.lemmas.Bool.{cases_Bool, cond-false, cond-true}
use Rattle.serde_json.specs.Data.{Data, null, boolean, number, string, array, object, unsigned, negative, float, Members, no_members, member}
use Rattle.serde_json.specs.Find.{as_str}
use Rattle.serde_json.specs.View.{items_of}
use Rattle.ja_prim.specs.Texts.{same_text}
use Rattle.ja_abstract.proofs.Texts.{text_same}
use Rattle.ja_cert.specs.Certificate.{listed, whole}
use Rattle.ja_cert.specs.Wrong.{list_in, list_of, members_in, members_of, whole_of}
use Rattle.ja_cert_parts.proofs.ListLemmas.{list_in_items}

-- ---- objects

abbrev members_from : List (List ℕ) → List Data → Members
members_from [] ds = no_members
members_from (k ∷ ks) [] = no_members
members_from (k ∷ ks) (d ∷ ds) = member k d (members_from ks ds)

some_more : (d : Data) (o : Option (List Data)) (ds : List Data)
    → option_map (λ (es : List Data). d ∷ es) o ≡ Some ds
    → (es : List Data) × (o ≡ Some es) × (ds ≡ d ∷ es)
some_more d None ds h = absurd (cc)
some_more d (Some es) ds h = (es, refl, cc)

-- the members are those of the names
members_are : (keys : List (List ℕ)) (ms : Members) (ds : List Data)
    → members_in keys ms ≡ Some ds → ms ≡ members_from keys ds
members_are [] no_members ds h = refl
members_are [] (member l d ms) ds h = absurd (cc)
members_are (k ∷ ks) no_members ds h = absurd (cc)
members_are (k ∷ ks) (member l d ms) ds h = elim (cases_Bool (same_text l k)) [
  | inl same ↦
      let r = some_more d (members_in ks ms) ds (sym (cond-true (same_text l k) _ None same) ∙ h) in
      let rest = members_are ks ms r.0 r.1 in
      let name = text_same l k same in
      ap (λ w. member w d ms) name ∙ ap (member k d) rest ∙ ap (members_from (k ∷ ks)) (sym r.2)
  | inr other ↦
      let none : None ≡ Some ds = sym (cond-false (same_text l k) (option_map (λ (es : List Data).
      d ∷ es) (members_in ks ms)) None other) ∙ h in
      absurd (cc)
]

pub object_is : (keys : List (List ℕ)) (d : Data) (ds : List Data) → members_of keys d ≡ Some ds
    → d ≡ object (members_from keys ds)
object_is keys null ds h = absurd (cc)
object_is keys (boolean b) ds h = absurd (cc)
object_is keys (number n) ds h = absurd (cc)
object_is keys (string s) ds h = absurd (cc)
object_is keys (array items) ds h = absurd (cc)
object_is keys (object ms) ds h = ap object (members_are keys ms ds h)

-- ---- lists, numbers, texts

pub text_is : (d : Data) (s : List ℕ) → as_str d ≡ Some s → string s ≡ d
text_is null s h = absurd (cc)
text_is (boolean b) s h = absurd (cc)
text_is (number n) s h = absurd (cc)
text_is (string t) s h = cc
text_is (array items) s h = absurd (cc)
text_is (object ms) s h = absurd (cc)

pub number_is : (d : Data) (n : ℕ) → whole_of d ≡ Some n → whole n ≡ d
number_is null n h = absurd (cc)
number_is (boolean b) n h = absurd (cc)
number_is (number (unsigned m)) n h = cc
number_is (number (negative z)) n h = absurd (cc)
number_is (number (float x)) n h = absurd (cc)
number_is (string t) n h = absurd (cc)
number_is (array items) n h = absurd (cc)
number_is (object ms) n h = absurd (cc)

-- ---- short lists by their elements

module _ {X : Type 0} where
  pub one_read : (xs : List X) (a : X) → length xs ≡ 1
      → a ≡ get_or xs 0 a
      → xs ≡ a ∷ []
  one_read [] a size h0 = absurd (omega (arith, size))
  one_read (x0 ∷ []) a size h0 = cc
  one_read (x0 ∷ x1 ∷ xs) a size h0 =
      absurd (omega (arith, size))

  pub two_read : (xs : List X) (a b : X) → length xs ≡ 2
      → a ≡ get_or xs 0 a
      → b ≡ get_or xs 1 b
      → xs ≡ a ∷ b ∷ []
  two_read [] a b size h0 h1 = absurd (omega (arith, size))
  two_read (x0 ∷ []) a b size h0 h1 = absurd (omega (arith, size))
  two_read (x0 ∷ x1 ∷ []) a b size h0 h1 = cc
  two_read (x0 ∷ x1 ∷ x2 ∷ xs) a b size h0 h1 =
      absurd (omega (arith, size))

  pub three_read : (xs : List X) (a b c : X) → length xs ≡ 3
      → a ≡ get_or xs 0 a
      → b ≡ get_or xs 1 b
      → c ≡ get_or xs 2 c
      → xs ≡ a ∷ b ∷ c ∷ []
  three_read [] a b c size h0 h1 h2 = absurd (omega (arith, size))
  three_read (x0 ∷ []) a b c size h0 h1 h2 = absurd (omega (arith, size))
  three_read (x0 ∷ x1 ∷ []) a b c size h0 h1 h2 = absurd (omega (arith, size))
  three_read (x0 ∷ x1 ∷ x2 ∷ []) a b c size h0 h1 h2 = cc
  three_read (x0 ∷ x1 ∷ x2 ∷ x3 ∷ xs) a b c size h0 h1 h2 =
      absurd (omega (arith, size))

  pub five_read : (xs : List X) (a b c d e : X) → length xs ≡ 5
      → a ≡ get_or xs 0 a
      → b ≡ get_or xs 1 b
      → c ≡ get_or xs 2 c
      → d ≡ get_or xs 3 d
      → e ≡ get_or xs 4 e
      → xs ≡ a ∷ b ∷ c ∷ d ∷ e ∷ []
  five_read [] a b c d e size h0 h1 h2 h3 h4 = absurd (omega (arith, size))
  five_read (x0 ∷ []) a b c d e size h0 h1 h2 h3 h4 = absurd (omega (arith, size))
  five_read (x0 ∷ x1 ∷ []) a b c d e size h0 h1 h2 h3 h4 = absurd (omega (arith, size))
  five_read (x0 ∷ x1 ∷ x2 ∷ []) a b c d e size h0 h1 h2 h3 h4 = absurd (omega (arith, size))
  five_read (x0 ∷ x1 ∷ x2 ∷ x3 ∷ []) a b c d e size h0 h1 h2 h3 h4 = absurd (omega (arith, size))
  five_read (x0 ∷ x1 ∷ x2 ∷ x3 ∷ x4 ∷ []) a b c d e size h0 h1 h2 h3 h4 = cc
  five_read (x0 ∷ x1 ∷ x2 ∷ x3 ∷ x4 ∷ x5 ∷ xs) a b c d e size h0 h1 h2 h3 h4 =
      absurd (omega (arith, size))
