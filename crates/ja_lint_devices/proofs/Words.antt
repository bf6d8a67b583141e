-- Words of kinds, one after another.
use Rattle.std.proofs.Common.{Bor, ◌≡◌, ℕ, ◌+◌, ◌<◌, ◌&&◌, ◌||◌, not, Bool, true, false, List, [], ◌∷◌, ◌++◌, take, length, get_or, Some, refl, ap, sym, ◌∙◌}
use Rattle.std.specs.Prelude.{map, slice_get}
use Rattle.std.specs.Option.{option_map}
use Rattle.std.specs.List.{list_any, list_all}
use Rattle.std.specs.Str.{bytes_eq}
use Rattle.std.proofs.lemmas.Cmp.{nat_list_eq_equiv}
use Rattle.std.proofs.lemmas.List.{take_more, take-map}
use Rattle.std.proofs.lemmas.List.Folds.{list_any-append, list_any_at, list_all-append}
use Rattle.std.proofs.lemmas.Bool.{false≢true}
use Rattle.std.proofs.lemmas.Option.{slice_get_within, get_or_from_slice_get, slice_get-map, slice_get-get_or}
use Rattle.ja_lint_devices.specs.Devices.{kind_words, is_among, are_distinct, are_kinds, IsFirstFault}

-- a front with the next
pub front_with : {X : Type 0} (xs : List X) (i : ℕ) (x : X) → slice_get xs i ≡ Some x
    → take (i + 1) xs ≡ take i xs ++ x ∷ []
front_with xs i x at =
    take_more xs i x (slice_get_within xs i x at)
    ∙ ap (λ y. take i xs ++ y ∷ []) (get_or_from_slice_get xs i x x at)

-- ---- what is found

module _ {X : Type 0} (p : X → Bool) (xs : List X) (i : ℕ) (x : X) (at : slice_get xs i ≡ Some x)
  where
    -- it is here
    pub any_here : p x ≡ true → list_any p xs ≡ true
    any_here is =
        list_any_at p xs i x (slice_get_within xs i x at)
        (ap p (get_or_from_slice_get xs i x x at) ∙ is)

    -- .. or not up to here
    pub none_more : list_any p (take i xs) ≡ false → p x ≡ false
        → list_any p (take (i + 1) xs) ≡ false
    none_more before isnt =
        ap (list_any p) (front_with xs i x at) ∙ list_any-append p (take i xs) (x ∷ [])
        ∙ (λ j. before j || (isnt j || false))

-- ---- one word more

distinct_tests : (a b c d : Bool)
    → (not (a || (b || false)) && (c && not d)) ≡ ((not a && c) && not (b || d))
distinct_tests true b c d = refl
distinct_tests false true true true = refl
distinct_tests false true true false = refl
distinct_tests false true false d = refl
distinct_tests false false true true = refl
distinct_tests false false true false = refl
distinct_tests false false false d = refl

distinct_more : (words : List (List ℕ)) (word : List ℕ)
    → are_distinct (words ++ word ∷ []) ≡ (are_distinct words && not (is_among words word))
distinct_more [] word = refl
distinct_more (first ∷ words) word =
    ap (λ b. not b && are_distinct (words ++ word ∷ []))
    (list_any-append (bytes_eq first) words (word ∷ []))
    ∙ ap (λ b. not (is_among words first || (bytes_eq first word || false)) && b)
    (distinct_more words word)
    ∙ ap (λ b. not (is_among words first || (b || false))
    && (are_distinct words && not (is_among words word))) (nat_list_eq_equiv.symm first word)
    ∙ distinct_tests (is_among words first) (bytes_eq word first) (are_distinct words)
    (is_among words word)

kinds_tests : (a b c d : Bool) → ((a && (b && true)) && (c && not d)) ≡ ((a && c) && (b && not d))
kinds_tests true true true true = refl
kinds_tests true true true false = refl
kinds_tests true true false d = refl
kinds_tests true false true d = refl
kinds_tests true false false d = refl
kinds_tests false b c d = refl

kinds_more : (words : List (List ℕ)) (word : List ℕ)
    → are_kinds (words ++ word ∷ [])
    ≡ (are_kinds words && (is_among kind_words word && not (is_among words word)))
kinds_more words word =
    ap (λ b. b && are_distinct (words ++ word ∷ []))
    (list_all-append (is_among kind_words) words (word ∷ []))
    ∙ ap (λ b. (list_all (is_among kind_words) words && (is_among kind_words word && true)) && b)
    (distinct_more words word)
    ∙ kinds_tests (list_all (is_among kind_words) words) (is_among kind_words word)
    (are_distinct words) (is_among words word)

module _ (words : List (List ℕ)) (i : ℕ) (word : List ℕ) (at : slice_get words i ≡ Some word)
    (before : are_kinds (take i words) ≡ true) where
  with_next : (known among : Bool) → is_among kind_words word ≡ known
      → is_among (take i words) word ≡ among
      → are_kinds (take (i + 1) words) ≡ (known && not among)
  with_next known among is_known is_in =
      ap are_kinds (front_with words i word at) ∙ kinds_more (take i words) word
      ∙ (λ j. before j && (is_known j && not (is_in j)))

  -- a word of a kind that didn't stand before
  pub one_kind_more : (not (is_among kind_words word) || is_among (take i words) word) ≡ false
      → are_kinds (take (i + 1) words) ≡ true
  one_kind_more right = of (is_among kind_words word) (is_among (take i words) word) refl refl right
    where
      of : (known among : Bool) → is_among kind_words word ≡ known
          → is_among (take i words) word ≡ among → (not known || among) ≡ false
          → are_kinds (take (i + 1) words) ≡ true
      of true true is_known is_in e = absurd (false≢true (sym e))
      of true false is_known is_in e = with_next true false is_known is_in
      of false among is_known is_in e = absurd (false≢true (sym e))

  -- .. and the first that is none, or stood before
  pub first_wrong : (not (is_among kind_words word) || is_among (take i words) word) ≡ true
      → IsFirstFault are_kinds words i word
  first_wrong wrong = record {
    at = at;
    before = before;
    here = of (is_among kind_words word) (is_among (take i words) word) refl refl wrong;
  }
    where
      of : (known among : Bool) → is_among kind_words word ≡ known
          → is_among (take i words) word ≡ among → (not known || among) ≡ true
          → are_kinds (take (i + 1) words) ≡ false
      of true true is_known is_in e = with_next true true is_known is_in
      of true false is_known is_in e = absurd (false≢true e)
      of false among is_known is_in e = with_next false among is_known is_in

-- ---- words as they are kept

abbrev pub texts_of : List (Bor (List ℕ)) → List (List ℕ)
texts_of words = map (λ (w : Bor (List ℕ)). w.now) words

module _ (words : List (Bor (List ℕ))) (i : ℕ) (d : Bor (List ℕ)) (within : i < length words) where
  -- what is read is what stands there
  pub text_at : slice_get (texts_of words) i ≡ Some (get_or words i d).now
  text_at =
      slice_get-map (λ (w : Bor (List ℕ)). w.now) words i
      ∙ ap (option_map (λ (w : Bor (List ℕ)). w.now)) (slice_get-get_or words i d within)

  -- whether what is read is wrong behind those before it
  is_wrong_at : List (List ℕ) → Bool
  is_wrong_at before =
      not (is_among kind_words (get_or words i d).now) || is_among before (get_or words i d).now

  module _ (so_far : are_kinds (take i (texts_of words)) ≡ true) (b : Bool)
      (told : b ≡ (not (is_among kind_words (get_or words i d).now)
      || is_among (texts_of (take i words)) (get_or words i d).now)) where
    told_of_texts : is_wrong_at (take i (texts_of words)) ≡ b
    unfolding is_wrong_at
    told_of_texts =
        ap is_wrong_at (take-map (λ (w : Bor (List ℕ)). w.now) i words) ∙ sym told

    pub wrong_here : b ≡ true → IsFirstFault are_kinds (texts_of words) i (get_or words i d).now
    unfolding is_wrong_at
    wrong_here is =
        first_wrong (texts_of words) i (get_or words i d).now text_at so_far (told_of_texts ∙ is)

    pub right_here : b ≡ false → are_kinds (take (i + 1) (texts_of words)) ≡ true
    unfolding is_wrong_at
    right_here is =
        one_kind_more (texts_of words) i (get_or words i d).now text_at so_far (told_of_texts ∙ is)
