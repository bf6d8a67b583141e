-- What a word is, by what clap's lexer makes of it.
use Rattle.std.proofs.Common.{◌≡◌, ◌⊎◌, ◌==◌, ◌∙◌, ℕ, Bool, true, false, cond, List, [], ◌∷◌}
use Rattle.std.proofs.Common.{◌++◌, Option, Some, None, refl, sym, ap, ap₂, subst, inl, inr}
use Rattle.std.proofs.Common.{arith, suc, zero}
use Rattle.std.proofs.lemmas.Option.{same_Some}
use Rattle.std.proofs.lemmas.Bool.{eqb-true, eqb-false}
use Rattle.std.specs.Prelude.{option_and_then}
use Rattle.std.specs.Str.{bytes_eq}
use Rattle.std.specs.Char.{encode_utf8}
use Rattle.std.specs.Prelude.{IsUtf8}
use Rattle.std.specs.Str.{chars, encode_utf8_all}
use Rattle.std.proofs.Common.{slice_get, subst}
use Rattle.std.proofs.lemmas.Str.{encodes-chars, IsUtf8-past_char}
use Rattle.clap.specs.Lexer.{long_of, long_of_rest, name_and_value, short_of, short_of_rest}
use Rattle.clap.specs.Lexer.{strip_byte}
use Rattle.clap.proofs.CutLemmas.{Lacks}
use Rattle.clap.proofs.LexerLemmas.{name_and_value-at, name_and_value-without}
use Rattle.ja_lint_words.specs.Words.{IsPlain}

-- what stands behind the hyphens of a long option
abbrev pub after_hyphens : List ℕ → Option (List ℕ) → List ℕ
after_hyphens name None = name
after_hyphens name (Some value) = name ++ (61 ∷ value)

-- the word of a long option
abbrev pub long_word : List ℕ → Option (List ℕ) → List ℕ
long_word name value = 45 ∷ 45 ∷ after_hyphens name value

stripped : (c : ℕ) (bs rest : List ℕ) → strip_byte c bs ≡ Some rest → bs ≡ c ∷ rest
stripped c [] rest e = absurd (cc e)
stripped c (x ∷ xs) rest e = go (x == c) refl e
  where
    go : (t : Bool) → (x == c) ≡ t → cond t (Some xs) None ≡ Some rest → x ∷ xs ≡ c ∷ rest
    go true same is = ap₂ (λ (y : ℕ) (ys : List ℕ). y ∷ ys) (eqb-true x c same)
        (same_Some xs rest is)
    go false same is = absurd (cc is)

-- ---- a text has no `=`, or it has a first one

Lacks-cons : (x : ℕ) (xs : List ℕ) → (x == 61) ≡ false → Lacks 61 xs → Lacks 61 (x ∷ xs)
Lacks-cons x xs e lacks zero lt same = eqb-false x 61 e same
Lacks-cons x xs e lacks (suc i) lt same = lacks i (omega arith) same

abbrev Parts : List ℕ → Type 0
Parts text = Lacks 61 text
    ⊎ ((before : List ℕ) × (after : List ℕ) × Lacks 61 before × (text ≡ before ++ (61 ∷ after)))

parts : (text : List ℕ) → Parts text
parts [] = inl (λ i lt. absurd (omega arith))
parts (x ∷ xs) = go (x == 61) refl (parts xs)
  where
    go : (t : Bool) → (x == 61) ≡ t → Parts xs → Parts (x ∷ xs)
    go true e rest = inr (
      [],
      xs,
      (λ i lt. absurd (omega arith)),
      ap (λ (y : ℕ). y ∷ xs)
          (eqb-true x 61 e),
    )
    go false e (inl lacks) = inl (Lacks-cons x xs e lacks)
    go false e (inr p) = inr (
      x ∷ p.0,
      p.1,
      Lacks-cons x p.0 e p.2,
      ap
          (λ (ys : List ℕ). x ∷ ys) p.3,
    )

abbrev joined : List ℕ × Option (List ℕ) → List ℕ
joined p = after_hyphens p.0 p.1

by_parts : (text : List ℕ) (p : List ℕ × Option (List ℕ)) → Parts text → name_and_value text ≡ p
    → text ≡ joined p
by_parts text p (inl lacks) e = ap joined (sym (name_and_value-without text lacks) ∙ e)
by_parts text p (inr at) e = at.3
    ∙ ap joined (sym (ap name_and_value at.3 ∙ name_and_value-at at.0 at.1 at.2) ∙ e)

rest_is : (text : List ℕ) (p : List ℕ × Option (List ℕ)) → long_of_rest text ≡ Some p
    → text ≡ joined p
rest_is [] p e = absurd (cc e)
rest_is (x ∷ xs) p e = by_parts (x ∷ xs) p (parts (x ∷ xs))
    (same_Some (name_and_value (x ∷ xs)) p e)

behind_one : (bs : List ℕ) (p : List ℕ × Option (List ℕ)) (o : Option (List ℕ))
    → ((rest : List ℕ) → o ≡ Some rest → bs ≡ 45 ∷ rest)
    → option_and_then long_of_rest o ≡ Some p → bs ≡ 45 ∷ joined p
behind_one bs p None back e = absurd (cc e)
behind_one bs p (Some rest) back e = back rest refl ∙ ap (λ (t : List ℕ). 45 ∷ t) (rest_is rest p e)

behind_two : (word : List ℕ) (p : List ℕ × Option (List ℕ)) (o : Option (List ℕ))
    → ((rest : List ℕ) → o ≡ Some rest → word ≡ 45 ∷ rest)
    → option_and_then long_of_rest (option_and_then (strip_byte 45) o) ≡ Some p
    → word ≡ 45 ∷ 45 ∷ joined p
behind_two word p None back e = absurd (cc e)
behind_two word p (Some rest) back e = back rest refl
    ∙ ap (λ (t : List ℕ). 45 ∷ t) (behind_one rest p (strip_byte 45 rest) (stripped 45 rest) e)

-- the word of a long option, by its name and its value
pub long_is : (word : List ℕ) (p : List ℕ × Option (List ℕ)) → long_of word ≡ Some p
    → word ≡ long_word p.0 p.1
long_is word p e = behind_two word p (strip_byte 45 word) (stripped 45 word) e

-- ---- words that are no options

pub record IsNoOption (word : List ℕ) : Type 0 where
  pub long : long_of word ≡ None
  pub short : short_of word ≡ None
  pub dashes : bytes_eq word (45 ∷ 45 ∷ []) ≡ false

-- such a word is lexed as no option
pub plain_is_no_option : (word : List ℕ) → IsPlain word → IsNoOption word
plain_is_no_option [] plain = record { long = refl; short = refl; dashes = refl }
plain_is_no_option (x ∷ xs) plain = go (x == 45) refl
  where
    hyphen : (xs : List ℕ) → xs ≡ [] → IsNoOption (45 ∷ xs)
    hyphen [] none = record { long = refl; short = refl; dashes = refl }
    hyphen (y ∷ ys) none = absurd (cc none)

    go : (b : Bool) → (x == 45) ≡ b → IsNoOption (x ∷ xs)
    go true e =
        let is = eqb-true x 45 e in
        subst (λ (y : ℕ). IsNoOption (y ∷ xs)) (sym is)
        (hyphen xs (plain xs (ap (λ (y : ℕ). y ∷ xs) is)))
    go false e = record { long = rw e refl; short = rw e refl; dashes = rw e refl }

-- and the other way round
pub no_option_is_plain : (word : List ℕ) → IsNoOption word → IsPlain word
no_option_is_plain word is rest e =
    go rest (subst (λ (w : List ℕ). IsNoOption w) e is)
  where
    second : (y : ℕ) (ys : List ℕ) (b : Bool) → (y == 45) ≡ b → IsNoOption (45 ∷ y ∷ ys) → ⊥
    second y ys false other is =
        let short : short_of (45 ∷ y ∷ ys) ≡ Some (y ∷ ys) = rw other refl in
        cc (sym short ∙ is.short)
    second y ys true same is = third ys
        (subst (λ (z : ℕ). IsNoOption (45 ∷ z ∷ ys)) (eqb-true y 45 same) is)
      where
        third : (ys : List ℕ) → IsNoOption (45 ∷ 45 ∷ ys) → ⊥
        third [] is = cc is.dashes
        third (z ∷ zs) is = cc is.long

    go : (rest : List ℕ) → IsNoOption (45 ∷ rest) → rest ≡ []
    go [] is = refl
    go (y ∷ ys) is = absurd (second y ys (y == 45) refl is)

-- the word of short options: what stands behind the hyphen
short_rest : (text rest : List ℕ) → short_of_rest rest ≡ Some text
    → (rest ≡ text) × ((x : ℕ) × (xs : List ℕ) × (text ≡ x ∷ xs) × ((x == 45) ≡ false))
short_rest text [] e = absurd (cc e)
short_rest text (x ∷ xs) e = go (x == 45) refl e
  where
    go : (b : Bool) → (x == 45) ≡ b → cond b None (Some (x ∷ xs)) ≡ Some text
        → (x ∷ xs ≡ text)
        × ((y : ℕ) × (ys : List ℕ) × (text ≡ y ∷ ys) × ((y == 45) ≡ false))
    go true same e = absurd (cc e)
    go false other e =
        let is = same_Some (x ∷ xs) text e in (is, (x, xs, sym is, other))

pub short_is : (word text : List ℕ) → short_of word ≡ Some text
    → (word ≡ 45 ∷ text) × ((x : ℕ) × (xs : List ℕ) × (text ≡ x ∷ xs))
short_is word text e = go (strip_byte 45 word) refl e
  where
    go : (o : Option (List ℕ)) → strip_byte 45 word ≡ o
        → option_and_then short_of_rest o ≡ Some text
        → (word ≡ 45 ∷ text) × ((x : ℕ) × (xs : List ℕ) × (text ≡ x ∷ xs))
    go None is e = absurd (cc e)
    go (Some rest) is e =
        let parts = short_rest text rest e in (
          stripped 45 word rest is ∙ ap (λ (t : List ℕ). 45 ∷ t) parts.0,
          (parts.1.0, parts.1.1, parts.1.2),
        )

-- what stands behind the hyphen has a first character
pub has_first : (text : List ℕ) (x : ℕ) (xs : List ℕ) → text ≡ x ∷ xs → IsUtf8 (45 ∷ text)
    → slice_get (chars text) 0 ≡ None → ⊥
unfolding encode_utf8
has_first text x xs is utf8 none =
    let rest = IsUtf8-past_char (45 ∷ text) text 45 utf8 refl in
    go (chars text) (encodes-chars text rest) none
  where
    go : (cs : List ℕ) → encode_utf8_all cs ≡ text → slice_get cs 0 ≡ None → ⊥
    go [] e none = cc (e ∙ is)
    go (c ∷ cs) e none = cc none
