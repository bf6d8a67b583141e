-- The keys of a value: those of its classes, into which its one text, its one number and NaN are
-- put.
use Rattle.std.specs.Prelude.{◌≡◌, ◌<◌, ◌≤◌, ◌+◌, ℕ, ℤ, Bool, true, false, cond, ◌||◌, ◌&&◌, nat_eq, length, List, [], ◌∷◌, ◌++◌, map, filter, Option, Some, None}
use Rattle.std.specs.Option.{option_map_or}
use Rattle.std.specs.List.{AllByRecursion, range_with_len}
use Rattle.std.specs.Cmp.Lexicographic.{pointwise, bytes_decides}
use Rattle.std.proofs.Common.{refl, sym, subst, ap, ◌∙◌, arith, zero, suc, inl, inr}
use Rattle.std.proofs.lemmas.Bool.{lt-ltb, cases_eq, cond_both}
use Rattle.std.proofs.lemmas.Bool.Decides.{same_from_decides}
use Rattle.std.proofs.lemmas.List.Elements.{filter-append, filter_agree}
use Rattle.std.proofs.lemmas.List.Quantifiers.{position-Some}
use lib.Chars.{codes}
use Rattle.ja_prim.specs.Index.{is_index_text}
use Rattle.ja_prim.specs.Texts.{same_text}
use Rattle.ja_graph.specs.declared.program.Program.{Program}
use Rattle.ja_machine.specs.Nodes.{name_text}
use Rattle.ja_abstract.specs.declared.abstraction.Key.{Key}
use Rattle.ja_abstract.specs.declared.abstraction.Key.TheVariants as key
use Rattle.ja_abstract.specs.declared.abstraction.NumberPart.{NumberPart}
use Rattle.ja_abstract.specs.declared.abstraction.NumberPart.TheVariants as number_part
use Rattle.ja_abstract.specs.declared.abstraction.TextPart.{TextPart}
use Rattle.ja_abstract.specs.declared.abstraction.TextPart.TheVariants as text_part
use Rattle.ja_abstract.specs.AbstractValue.{AbstractValue}
use Rattle.ja_abstract.specs.AbstractState.{name_key, same_key, keys_of}
use Rattle.ja_abstract.specs.Keys.{name_of, text_key, whole_text, number_text_has, has_key_text, text_has_rest, number_has_rest, has_key, has_rest, keys_of_value}
use Rattle.ja_abstract.specs.Parts.{text_has}
use Rattle.ja_abstract.proofs.Keys.{same_key-true, same_key-self, text_of_key}
use Rattle.ja_astate.specs.Keys.{name_id, of_parts, AreApart}
use Rattle.ja_astate.specs.code.Insertion.{is_before, insert_key, class_of_text, class_of_number, classes_of, with_text, with_number, with_nan}
use Rattle.ja_astate.proofs.NameLemmas.{key_at}
use Rattle.ja_astate.proofs.InsertionLemmas.{AreAscending, IsAmong, insert_filtered, filter_alike}
use Rattle.ja_aheap.proofs.KeptLemmas.{or_turned}

-- ---- the keys of texts, in the program's order

abbrev rest_keys : List Key
rest_keys = key.OtherIndex ∷ key.OtherName ∷ []

abbrev names_from : ℕ → ℕ → List Key
names_from a n = map name_key (range_with_len a n) ++ rest_keys

before_names : (m a n : ℕ) → m < a
    → AllByRecursion (λ k. is_before (name_key m) k ≡ true) (names_from a n)
before_names m a zero below = (refl, (refl, tt))
before_names m a (suc n) below = (lt-ltb m a below, before_names m (a + 1) n (omega arith))

ascending_names : (a n : ℕ) → AreAscending (names_from a n)
ascending_names a zero = ((refl, tt), (tt, tt))
ascending_names a (suc n) = (before_names a (a + 1) n (omega arith), ascending_names (a + 1) n)

among_names : (m a n : ℕ) → a ≤ m → m < a + n → IsAmong (name_key m) (names_from a n)
among_names m a zero above below = absurd (omega arith)
among_names m a (suc n) above below =
    elim (cases_eq a m) [
      | inl same ↦ inl (ap name_key same)
      | inr other ↦ inr (among_names m (a + 1) n (omega (arith, other)) (omega arith))
    ]

among_rest : (k : Key) (a n : ℕ) → IsAmong k rest_keys → IsAmong k (names_from a n)
among_rest k a zero among = among
among_rest k a (suc n) among = inr (among_rest k (a + 1) n among)

-- ---- a test of a value's texts and one text more

module _ (p : Program) where
  abbrev kept : List Key
  kept = names_from 0 (length p.names)

  -- no value has the key of a slot
  kept_keys : (v : AbstractValue) → keys_of_value p v ≡ filter (has_key p v) kept
  kept_keys v =
      filter-append (has_key p v) (map name_key (range_with_len 0 (length p.names))) _
      ∙ sym (filter-append (has_key p v) (map name_key (range_with_len 0 (length p.names)))
      rest_keys)

  among_by : (o : Option ℕ) (b : Bool) → ((n : ℕ) → o ≡ Some n → n < length p.names)
      → IsAmong (option_map_or name_key o (cond b key.OtherIndex key.OtherName)) kept
  among_by None true within = among_rest key.OtherIndex 0 (length p.names) (inl refl)
  among_by None false within = among_rest key.OtherName 0 (length p.names) (inr (inl refl))
  among_by (Some n) b within =
      among_names n 0 (length p.names) (omega arith) (let h = within n refl in omega arith)

  text_among : (t : List ℕ) → IsAmong (text_key p t) kept
  text_among t =
      among_by (name_of p t) (is_index_text t)
      (λ n is. (position-Some (λ name. same_text name t) p.names n [] is).0)

module _ (p : Program) (apart : AreApart p) where
  -- a name is a text exactly if the text's key is the name's
  name_is_text : (t : List ℕ) (n : ℕ) → n < length p.names
      → pointwise nat_eq t (name_text p (name_id n)) ≡ same_key (text_key p t) (name_key n)
  name_is_text t n h =
      same_from_decides {P = t ≡ name_text p (name_id n)} _ _
      (bytes_decides t (name_text p (name_id n))) (
        (λ e. sym (text_of_key p t (name_id n) (same_key-true (text_key p t) (name_key n) e))),
        (λ e. subst (λ k. same_key k (name_key n) ≡ true)
            (sym (ap (text_key p) e ∙ key_at p apart n h)) (same_key-self (name_key n))),
      )

  module _ (v w : AbstractValue) (t : List ℕ)
      (texts : (u : List ℕ) → has_key_text v u ≡ (has_key_text w u || pointwise nat_eq t u))
      (rest : (k : Key) → has_rest p v k ≡ (has_rest p w k || same_key (text_key p t) k)) where
    abbrev Agrees : Key → Type 0
    Agrees k = has_key p v k ≡ (has_key p w k || same_key (text_key p t) k)

    names_agree : (a n : ℕ) → a + n ≡ length p.names → AllByRecursion Agrees (names_from a n)
    names_agree a zero e = (rest key.OtherIndex, (rest key.OtherName, tt))
    names_agree a (suc n) e = (
      texts (name_text p (name_id a))
          ∙ ap (λ b. has_key_text w (name_text p (name_id a)) || b)
          (name_is_text t a (omega arith)),
      names_agree (a + 1) n (omega arith),
    )

    -- the keys of a value with one text more
    inserted : insert_key (text_key p t) (keys_of_value p w) ≡ keys_of_value p v
    inserted =
        ap (insert_key (text_key p t)) (kept_keys p w)
        ∙ insert_filtered (has_key p w) (text_key p t) (kept p)
        (ascending_names 0 (length p.names)) (text_among p t)
        ∙ sym (kept_keys p v ∙ filter_alike _ _ (kept p) (names_agree 0 (length p.names)
        (omega arith)))

-- ---- one text, one number, NaN

number_turned : (a b : Bool) → (a || (b || false)) ≡ ((a || false) || b)
number_turned true b = refl
number_turned false true = refl
number_turned false false = refl

nan_turned : (nan a b c : Bool) → nan ≡ true
    → (a || (b || (nan && c))) ≡ ((a || (b || false)) || c)
nan_turned false a b c is = cc
nan_turned true true b c is = refl
nan_turned true false true c is = refl
nan_turned true false false c is = refl

nan_left : (nan a b c : Bool) → nan ≡ false → (a || (b || (nan && c))) ≡ (a || (b || false))
nan_left true a b c is = cc
nan_left false a b c is = refl

-- no one text, and no one number
pub no_text : (p : Program) (t : TextPart) (ks : List Key)
    → ((u : List ℕ) → t ≡ text_part.One u → ⊥) → ks ≡ with_text p t ks
no_text p text_part.Nothing ks other = refl
no_text p (text_part.One u) ks other = absurd (other u refl)
no_text p text_part.IndexText ks other = refl
no_text p text_part.OtherText ks other = refl
no_text p text_part.Text ks other = refl

pub no_number : (p : Program) (n : NumberPart) (ks : List Key)
    → ((z : ℤ) → n ≡ number_part.One z → ⊥) → ks ≡ with_number p n ks
no_number p number_part.Nothing ks other = refl
no_number p (number_part.One z) ks other = absurd (other z refl)
no_number p number_part.Index ks other = refl
no_number p number_part.OtherWhole ks other = refl
no_number p number_part.Whole ks other = refl

module _ (p : Program) (apart : AreApart p) where
  text_inserted : (t : TextPart) (n : NumberPart)
      → with_text p t (keys_of_value p (of_parts (class_of_text t) n))
      ≡ keys_of_value p (of_parts t n)
  text_inserted text_part.Nothing n = refl
  text_inserted (text_part.One t) n =
      inserted p apart (of_parts (text_part.One t) n) (of_parts text_part.Nothing n) t
      (λ u. or_turned (pointwise nat_eq t u) (number_text_has n u || false))
      (λ k. or_turned (same_key (text_key p t) k) (number_has_rest p n k || false))
  text_inserted text_part.IndexText n = refl
  text_inserted text_part.OtherText n = refl
  text_inserted text_part.Text n = refl

  number_inserted : (t : TextPart) (n : NumberPart)
      → with_number p n (keys_of_value p (of_parts t (class_of_number n)))
      ≡ keys_of_value p (of_parts t n)
  number_inserted t number_part.Nothing = refl
  number_inserted t (number_part.One z) =
      inserted p apart (of_parts t (number_part.One z)) (of_parts t number_part.Nothing)
      (whole_text z)
      (λ u. number_turned (text_has t u) (same_text (whole_text z) u))
      (λ k. number_turned (text_has_rest p t k) (same_key (text_key p (whole_text z)) k))
  number_inserted t number_part.Index = refl
  number_inserted t number_part.OtherWhole = refl
  number_inserted t number_part.Whole = refl

  module _ (v : AbstractValue) where
    no_nan : v.flags.nan ≡ false → (k : Key) → has_key p (of_parts v.text v.number) k ≡ has_key p v k
    no_nan is (key.Name n) = sym (nan_left v.flags.nan _ _ _ is)
    no_nan is key.OtherIndex = sym (nan_left v.flags.nan _ _ _ is)
    no_nan is key.OtherName = sym (nan_left v.flags.nan _ _ _ is)
    no_nan is (key.Slot s) = refl

    nan_inserted : with_nan p v.flags.nan (keys_of_value p (of_parts v.text v.number))
        ≡ keys_of_value p v
    nan_inserted =
        cond_both v.flags.nan (insert_key (text_key p (codes "NaN"))
        (keys_of_value p (of_parts v.text v.number))) (keys_of_value p (of_parts v.text v.number))
        (λ ks. ks ≡ keys_of_value p v)
        (λ is. inserted p apart v (of_parts v.text v.number) (codes "NaN")
        (λ u. nan_turned v.flags.nan (text_has v.text u) (number_text_has v.number u)
        (same_text (codes "NaN") u) is)
        (λ k. nan_turned v.flags.nan (text_has_rest p v.text k) (number_has_rest p v.number k)
        (same_key (text_key p (codes "NaN")) k) is))
        (λ is. filter_agree _ (has_key p v) (no_nan is) (keys_of p))

    -- a value's one text, one number and NaN, put into the keys of its classes
    pub all_inserted : with_nan p v.flags.nan (with_number p v.number
        (with_text p v.text (keys_of_value p (classes_of v)))) ≡ keys_of_value p v
    all_inserted =
        ap (λ ks. with_nan p v.flags.nan (with_number p v.number ks))
        (text_inserted v.text (class_of_number v.number))
        ∙ ap (with_nan p v.flags.nan) (number_inserted v.text v.number) ∙ nan_inserted
