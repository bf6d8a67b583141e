-- What a word is that clap takes for a long option, and that a number is none.
use Rattle.std.proofs.Common.{◌≡◌, ◌⊎◌, ◌==◌, ◌∙◌, ◌<◌, ℕ, Bool, true, false, cond, List, [], ◌∷◌}
use Rattle.std.proofs.Common.{◌++◌, Option, Some, None, refl, sym, ap, ap₂, subst, inl, inr}
use Rattle.std.proofs.Common.{arith, suc, zero}
use Rattle.std.proofs.lemmas.Option.{same_Some}
use Rattle.std.proofs.lemmas.Bool.{eqb-true, eqb-false, ne_eqb}
use Rattle.std.specs.Prelude.{option_and_then}
use Rattle.std.specs.Char.{digit_value}
use Rattle.std.specs.Str.{bytes_eq}
use Rattle.std.specs.Str.Parse.{IsNumeral}
use Rattle.clap.specs.Lexer.{long_of, long_of_rest, name_and_value, short_of, strip_byte}
use Rattle.clap.proofs.CutLemmas.{Lacks}
use Rattle.clap.proofs.LexerLemmas.{name_and_value-at, name_and_value-without}

-- what stands behind the hyphens of a long option
abbrev pub after_hyphens : List ℕ → Option (List ℕ) → List ℕ
after_hyphens name None = name
after_hyphens name (Some value) = name ++ (61 ∷ value)

-- the word of a long option
abbrev pub long_word : List ℕ → Option (List ℕ) → List ℕ
long_word name value = 45 ∷ 45 ∷ after_hyphens name value

stripped : (c : ℕ) (bs rest : List ℕ) → strip_byte c bs ≡ Some rest → bs ≡ c ∷ rest
stripped c [] rest e = absurd (cc e)
stripped c (x ∷ xs) rest e = go (x == c) refl e
  where
    go : (t : Bool) → (x == c) ≡ t → cond t (Some xs) None ≡ Some rest → x ∷ xs ≡ c ∷ rest
    go true same is = ap₂ (λ (y : ℕ) (ys : List ℕ). y ∷ ys) (eqb-true x c same)
        (same_Some xs rest is)
    go false same is = absurd (cc is)

-- ---- a text has no `=`, or it has a first one

Lacks-cons : (x : ℕ) (xs : List ℕ) → (x == 61) ≡ false → Lacks 61 xs → Lacks 61 (x ∷ xs)
Lacks-cons x xs e lacks zero lt same = eqb-false x 61 e same
Lacks-cons x xs e lacks (suc i) lt same = lacks i (omega arith) same

abbrev Parts : List ℕ → Type 0
Parts text = Lacks 61 text
    ⊎ ((before : List ℕ) × (after : List ℕ) × Lacks 61 before × (text ≡ before ++ (61 ∷ after)))

parts : (text : List ℕ) → Parts text
parts [] = inl (λ i lt. absurd (omega arith))
parts (x ∷ xs) = go (x == 61) refl (parts xs)
  where
    go : (t : Bool) → (x == 61) ≡ t → Parts xs → Parts (x ∷ xs)
    go true e rest = inr (
      [],
      xs,
      (λ i lt. absurd (omega arith)),
      ap (λ (y : ℕ). y ∷ xs)
          (eqb-true x 61 e),
    )
    go false e (inl lacks) = inl (Lacks-cons x xs e lacks)
    go false e (inr p) = inr (
      x ∷ p.0,
      p.1,
      Lacks-cons x p.0 e p.2,
      ap
          (λ (ys : List ℕ). x ∷ ys) p.3,
    )

abbrev joined : List ℕ × Option (List ℕ) → List ℕ
joined p = after_hyphens p.0 p.1

by_parts : (text : List ℕ) (p : List ℕ × Option (List ℕ)) → Parts text → name_and_value text ≡ p
    → text ≡ joined p
by_parts text p (inl lacks) e = ap joined (sym (name_and_value-without text lacks) ∙ e)
by_parts text p (inr at) e = at.3
    ∙ ap joined (sym (ap name_and_value at.3 ∙ name_and_value-at at.0 at.1 at.2) ∙ e)

rest_is : (text : List ℕ) (p : List ℕ × Option (List ℕ)) → long_of_rest text ≡ Some p
    → text ≡ joined p
rest_is [] p e = absurd (cc e)
rest_is (x ∷ xs) p e = by_parts (x ∷ xs) p (parts (x ∷ xs))
    (same_Some (name_and_value (x ∷ xs)) p e)

behind_one : (bs : List ℕ) (p : List ℕ × Option (List ℕ)) (o : Option (List ℕ))
    → ((rest : List ℕ) → o ≡ Some rest → bs ≡ 45 ∷ rest)
    → option_and_then long_of_rest o ≡ Some p → bs ≡ 45 ∷ joined p
behind_one bs p None back e = absurd (cc e)
behind_one bs p (Some rest) back e = back rest refl ∙ ap (λ (t : List ℕ). 45 ∷ t) (rest_is rest p e)

behind_two : (word : List ℕ) (p : List ℕ × Option (List ℕ)) (o : Option (List ℕ))
    → ((rest : List ℕ) → o ≡ Some rest → word ≡ 45 ∷ rest)
    → option_and_then long_of_rest (option_and_then (strip_byte 45) o) ≡ Some p
    → word ≡ 45 ∷ 45 ∷ joined p
behind_two word p None back e = absurd (cc e)
behind_two word p (Some rest) back e = back rest refl
    ∙ ap (λ (t : List ℕ). 45 ∷ t) (behind_one rest p (strip_byte 45 rest) (stripped 45 rest) e)

-- the word of a long option, by its name and its value
pub long_is : (word : List ℕ) (p : List ℕ × Option (List ℕ)) → long_of word ≡ Some p
    → word ≡ long_word p.0 p.1
long_is word p e = behind_two word p (strip_byte 45 word) (stripped 45 word) e

-- a number is no option, and it isn't `--`
pub record IsNoOption (word : List ℕ) : Type 0 where
  pub long : long_of word ≡ None
  pub short : short_of word ≡ None
  pub dashes : bytes_eq word (45 ∷ 45 ∷ []) ≡ false

pub numeral_is_no_option : (word : List ℕ) → IsNumeral 10 word → IsNoOption word
numeral_is_no_option [] h = absurd (omega (arith, h.0))
numeral_is_no_option (x ∷ xs) h =
    let differs : x ≡ 45 → ⊥ = λ e.
    let small : digit_value 45 < 10 = subst (λ (y : ℕ). digit_value y < 10) e h.1.0 in
    absurd (omega (arith, small)) in
    let other : (x == 45) ≡ false = ne_eqb x 45 differs in
    record { long = rw other refl; short = rw other refl; dashes = rw other refl }
