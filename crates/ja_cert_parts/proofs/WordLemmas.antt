-- Words as data, and their positions among others.
use Rattle.std.proofs.Common.{◌≡◌, ℕ, suc, ◌+◌, ◌<◌, ◌≤◌, Bool, true, false, cond, List, [], ◌∷◌, map, drop, length, get_or, Option, Some, None, refl, ap, sym, ◌∙◌, subst, arith}
use Rattle.std.specs.Option.{option_map, option_and_then}
use Rattle.std.proofs.lemmas.List.{drop_more, drop_all, get_or-map, length-map}
use Rattle.serde_json.specs.Data.{Data, null, boolean, number, string, array, object}
use Rattle.serde_json.specs.Find.{as_str}
use Rattle.ja_prim.specs.Texts.{same_text}
use Rattle.ja_abstract.proofs.Texts.{text_same}
use Rattle.ja_cert.specs.Wrong.{position, position_of}

-- ---- words as data

pub string_is : (d : Data) (w : List ℕ) → Some w ≡ as_str d → string w ≡ d
string_is null w is = absurd (cc)
string_is (boolean b) w is = absurd (cc)
string_is (number n) w is = absurd (cc)
string_is (string v) w is = cc
string_is (array ds) w is = absurd (cc)
string_is (object ms) w is = absurd (cc)

-- ---- going over the words

-- the position of a word from the i-th on
abbrev pub position_from : ℕ → List (List ℕ) → List ℕ → Option ℕ
position_from i words w = option_map (λ (n : ℕ). i + n) (position (drop i words) w)

next_position : (i : ℕ) (o : Option ℕ)
    → option_map (λ (n : ℕ). i + n) (option_map suc o) ≡ option_map (λ (n : ℕ). i + 1 + n) o
next_position i None = refl
next_position i (Some n) =
    let e : i + suc n ≡ i + 1 + n = omega arith in ap (λ (m : ℕ). Some m) e

position_cons : (v w : List ℕ) (words : List (List ℕ)) (i : ℕ) (b : Bool) → same_text v w ≡ b
    → option_map (λ (n : ℕ). i + n) (position (v ∷ words) w)
    ≡ cond b (Some i) (option_map (λ (n : ℕ). i + 1 + n) (position words w))
unfolding position
position_cons v w words i b is =
    ap (λ (t : Bool). option_map (λ (n : ℕ). i + n) (cond t (Some 0)
    (option_map suc (position words w)))) is
    ∙ elim b as (λ t. option_map (λ (n : ℕ). i + n) (cond t (Some 0)
    (option_map suc (position words w)))
    ≡ cond t (Some i) (option_map (λ (n : ℕ). i + 1 + n) (position words w))) [
      | true ↦ (let e : i + 0 ≡ i = omega arith in ap (λ (m : ℕ). Some m) e)
      | false ↦ next_position i (position words w)
    ]

position_step : (words : List (List ℕ)) (w : List ℕ) (i : ℕ) (b : Bool) → i < length words
    → same_text (get_or words i []) w ≡ b
    → position_from i words w ≡ cond b (Some i) (position_from (i + 1) words w)
position_step words w i b within is =
    ap (λ (vs : List (List ℕ)). option_map (λ (n : ℕ). i + n) (position vs w))
    (drop_more words i [] within)
    ∙ position_cons (get_or words i []) w (drop (i + 1) words) i b is

-- the same of the words of a list's elements, one after another
step_at : {X : Type 0} (f : X → List ℕ) (xs : List X) (w : List ℕ) (i : ℕ) (d : X) (b : Bool)
    → i < length xs → same_text (f (get_or xs i d)) w ≡ b
    → position_from i (map f xs) w ≡ cond b (Some i) (position_from (i + 1) (map f xs) w)
step_at f xs w i d b within is =
    position_step (map f xs) w i b (omega (arith, length-map xs f))
    (ap (λ (v : List ℕ). same_text v w) (get_or-map f xs i d [] within) ∙ is)

pub position_hit : {X : Type 0} (f : X → List ℕ) (xs : List X) (w : List ℕ) (i : ℕ) (d : X)
    → i < length xs → same_text (f (get_or xs i d)) w ≡ true
    → position_from i (map f xs) w ≡ position (map f xs) w → Some i ≡ position (map f xs) w
position_hit f xs w i d within is so_far = sym (step_at f xs w i d true within is) ∙ so_far

pub position_miss : {X : Type 0} (f : X → List ℕ) (xs : List X) (w : List ℕ) (i : ℕ) (d : X)
    → i < length xs → same_text (f (get_or xs i d)) w ≡ false
    → position_from i (map f xs) w ≡ position (map f xs) w
    → position_from (i + 1) (map f xs) w ≡ position (map f xs) w
position_miss f xs w i d within is so_far = sym (step_at f xs w i d false within is) ∙ so_far

pub position_end : {X : Type 0} (f : X → List ℕ) (xs : List X) (w : List ℕ) (i : ℕ)
    → length xs ≤ i → position_from i (map f xs) w ≡ position (map f xs) w
    → None ≡ position (map f xs) w
unfolding position
position_end f xs w i past so_far =
    sym (ap (λ (vs : List (List ℕ)). option_map (λ (n : ℕ). i + n) (position vs w))
    (drop_all i (map f xs) (omega (arith, length-map xs f)))) ∙ so_far

-- ---- the word at a position

position_found : (v w : List ℕ) (words : List (List ℕ)) (n : ℕ) (b : Bool) → same_text v w ≡ b
    → ((m : ℕ) → position words w ≡ Some m → (m < length words) × (get_or words m [] ≡ w))
    → cond b (Some 0) (option_map suc (position words w)) ≡ Some n
    → (n < length (v ∷ words)) × (get_or (v ∷ words) n [] ≡ w)
position_found v w words n true same rest is =
    let zero : 0 ≡ n = cc in
    let P : ℕ → Type 0 = λ m. (m < length (v ∷ words)) × (get_or (v ∷ words) m [] ≡ w) in
    subst P zero (omega arith, text_same v w same)
position_found v w words n false same rest is =
    found_behind v w words n (position words w) refl rest is
  where
    found_behind : (v w : List ℕ) (words : List (List ℕ)) (n : ℕ) (o : Option ℕ)
        → position words w ≡ o
        → ((m : ℕ) → position words w ≡ Some m → (m < length words) × (get_or words m [] ≡ w))
        → option_map suc o ≡ Some n → (n < length (v ∷ words)) × (get_or (v ∷ words) n [] ≡ w)
    found_behind v w words n None at rest is = absurd (cc)
    found_behind v w words n (Some m) at rest is =
        let next : suc m ≡ n = cc in
        let P : ℕ → Type 0 = λ k. (k < length (v ∷ words)) × (get_or (v ∷ words) k [] ≡ w) in
        let found : (m < length words) × (get_or words m [] ≡ w) = rest m at in
        subst P next (omega (arith, found.0), found.1)

pub position_is : (words : List (List ℕ)) (w : List ℕ) (n : ℕ) → position words w ≡ Some n
    → (n < length words) × (get_or words n [] ≡ w)
unfolding position
position_is [] w n is = absurd (cc)
position_is (v ∷ words) w n is =
    position_found v w words n (same_text v w) refl (position_is words w) is

-- a word of the data
pub word_is : (words : List (List ℕ)) (d : Data) (n : ℕ) → position_of words d ≡ Some n
    → (n < length words) × (string (get_or words n []) ≡ d)
word_is words d n is = word_at words d n (as_str d) refl is
  where
    word_at : (words : List (List ℕ)) (d : Data) (n : ℕ) (o : Option (List ℕ)) → o ≡ as_str d
        → option_and_then (position words) o ≡ Some n
        → (n < length words) × (string (get_or words n []) ≡ d)
    word_at words d n None at is = absurd (cc)
    word_at words d n (Some w) at is =
        let found : (n < length words) × (get_or words n [] ≡ w) = position_is words w n is in
        (found.0, ap string found.1 ∙ string_is d w at)
