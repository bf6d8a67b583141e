-- Keys among a list of keys: the key of each text is among those of the program.
use Rattle.std.specs.Prelude.{Bool, IsTrue, List, [], ◌∷◌, ◌≡◌, ◌<◌, ◌≤◌, ◌+◌, ◌++◌, ℕ, suc, filter, map, length, Option, Some, None, nat_eq, zero}
use Rattle.std.specs.List.{list_any, range_with_len}
use Rattle.std.proofs.Common.{sym, subst, inl, inr, refl, ap, ◌∙◌, arith}
use Rattle.std.proofs.lemmas.Bool.{or_left, or_right, or_cases, false≢true, cond-true, cond-false, cases_Bool, cases_eq, cond_both}
use Rattle.std.specs.Option.{option_map_or}
use Rattle.std.proofs.lemmas.List.Quantifiers.{position-Some}
use lib.Pointwise.{pointwise}
use Rattle.ja_prim.specs.Index.{is_index_text}
use Rattle.ja_graph.specs.declared.program.Program.{Program}
use Rattle.ja_abstract.specs.declared.abstraction.Key.{Key}
use Rattle.ja_abstract.specs.AbstractState.{same_key, name_key, keys_of}
use Rattle.ja_abstract.specs.Keys.{is_among_keys, named, key_of, name_of, rest_key}
use Rattle.ja_abstract.specs.declared.abstraction.Slot.TheVariants as slot
use Rattle.ja_abstract.specs.declared.abstraction.Key.TheVariants as key
use Rattle.ja_abstract.proofs.Keys.{same_key-true, same_key_from}

-- ---- lists of keys

-- a test that a key of the list passes is passed by some key of it
pub some_key : (test : Key → Bool) (keys : List Key) (k : Key) → IsTrue (is_among_keys keys k)
    → IsTrue (test k) → IsTrue (list_any test keys)
some_key test [] k a e = absurd (false≢true a)
some_key test (j ∷ js) k a e =
    elim (or_cases (same_key j k) (list_any (λ i. same_key i k) js) a) [
      | inl s ↦
          or_left (test j) (list_any test js) (subst (λ i. IsTrue (test i))
          (sym (same_key-true j k s)) e)
      | inr r ↦ or_right (test j) (list_any test js) (some_key test js k r e)
    ]

-- ---- keys of a program

-- what of a list passes a test is kept by it
pub among-filter : (keep : Key → Bool) (keys : List Key) (k : Key) → IsTrue (is_among_keys keys k)
    → IsTrue (keep k) → IsTrue (is_among_keys (filter keep keys) k)
among-filter keep [] k a h = absurd (false≢true a)
among-filter keep (j ∷ js) k a h =
    elim (cases_Bool (keep j)) [
      | inl in_ ↦
          subst (λ ks. IsTrue (is_among_keys ks k))
          (sym (cond-true (keep j) (j ∷ filter keep js) (filter keep js) in_))
          (elim (or_cases (same_key j k) (list_any (λ i. same_key i k) js) a) [
            | inl s ↦ or_left (same_key j k) _ s
            | inr r ↦ or_right (same_key j k) _ (among-filter keep js k r h)
          ])
      | inr out_ ↦
          subst (λ ks. IsTrue (is_among_keys ks k))
          (sym (cond-false (keep j) (j ∷ filter keep js) (filter keep js) out_))
          (elim (or_cases (same_key j k) (list_any (λ i. same_key i k) js) a) [
            | inl s ↦
                absurd (false≢true (sym out_ ∙ subst (λ i. IsTrue (keep i))
                (sym (same_key-true j k s)) h))
            | inr r ↦ among-filter keep js k r h
          ])
    ]

pub among-append_left : (xs ys : List Key) (k : Key) → IsTrue (is_among_keys xs k)
    → IsTrue (is_among_keys (xs ++ ys) k)
among-append_left [] ys k a = absurd (false≢true a)
among-append_left (j ∷ js) ys k a =
    elim (or_cases (same_key j k) (list_any (λ i. same_key i k) js) a) [
      | inl s ↦ or_left (same_key j k) _ s
      | inr r ↦
          or_right (same_key j k) _ (among-append_left js ys k r)
    ]

pub among-append_right : (xs ys : List Key) (k : Key) → IsTrue (is_among_keys ys k)
    → IsTrue (is_among_keys (xs ++ ys) k)
among-append_right [] ys k a = a
among-append_right (j ∷ js) ys k a = or_right (same_key j k) _ (among-append_right js ys k a)

pub among-names : (a n i : ℕ) → a ≤ i → i < a + n
    → IsTrue (is_among_keys (map name_key (range_with_len a n)) (name_key i))
among-names a zero i l m = absurd (omega arith)
among-names a (suc n) i l m = elim (cases_eq a i) [
  | inl e ↦
      or_left (same_key (name_key a) (name_key i)) _
      (same_key_from (name_key a) (name_key i) (ap name_key e))
  | inr ne ↦
      or_right (same_key (name_key a) (name_key i)) _
      (among-names (a + 1) n i (omega arith) (omega arith))
]

-- the key of a text is one of the program's
module _ (p : Program) (t : List ℕ) where
  abbrev Among : Key → Type 0
  Among k = IsTrue (is_among_keys (keys_of p) k)

  among_by : (o : Option ℕ) → name_of p t ≡ o → Among (option_map_or name_key o (rest_key t))
  among_by (Some n) is =
      let l : n < length p.names =
      (position-Some (λ name. pointwise nat_eq name t) p.names n [] is).0 in
      among-append_left (map name_key (range_with_len 0 (length p.names))) _ (name_key n)
      (among-names 0 (length p.names) n (omega arith) (omega arith))
  among_by None is =
      among-append_right (map name_key (range_with_len 0 (length p.names))) _ (rest_key t)
      (cond_both (is_index_text t) key.OtherIndex key.OtherName
      (λ k. IsTrue (is_among_keys (key.OtherIndex ∷ key.OtherName ∷ key.Slot slot.Prototype ∷
      key.Slot slot.Outer ∷ key.Slot slot.Scope ∷ key.Slot slot.Value ∷ []) k)) (λ a. refl)
      (λ b. refl))

  pub text_among : Among (key_of p (named t))
  text_among = among_by (name_of p t) refl
