-- What is read of a number is a decimal literal.
use Rattle.std.proofs.Common.{◌≡◌, ◌≤◌, ◌⊎◌, inl, inr, ℕ, ◌+◌, ◌-◌, Bool, true, false, ◌||◌, ◌==◌, if◌then◌else◌, List, [], ◌∷◌, ◌++◌, append_assoc, length, length-append, take, arith, refl, ap, ◌∙◌, sym, subst}
use Rattle.std.specs.List.{list_all, prefix_len}
use Rattle.std.proofs.Math.Seq.{take-append_seam}
use Rattle.std.proofs.lemmas.List.{take-append-drop}
use Rattle.std.proofs.lemmas.Bool.{and_parts}
use Rattle.std.proofs.lemmas.Bool.Decides.{nat_tests}
use Rattle.ja_prim.specs.Characters.{char_at, is_digit}
use Rattle.ja_prim.specs.Numerals.{digits, behind_digits, behind_fraction, is_sign, is_exponent_letter, power, exponent, behind_exponent, behind_decimal}
use Rattle.ja_prim.proofs.Digits.{split}
use Rattle.ja_lex.specs.Numbers.{decimal_length}
use Rattle.ja_lex.specs.Tokens.{begins_number}
use Rattle.ja_lex.specs.Laws.{IsFraction, IsSign, IsExponent, IsDecimal}
use Rattle.ja_lex.proofs.Classed.{run_all}
use Rattle.ja_lex.proofs.Longest.{if_true, some_digits, no_digits, digits_past, digits_within, append_parts}

all_digits : (cs : List ℕ) → list_all is_digit (digits cs) ≡ true
unfolding digits
all_digits cs = run_all is_digit is_digit (λ _ h. h) cs

-- ---- the parts of a literal, and what stands behind them

digits_parted : (cs : List ℕ) → cs ≡ digits cs ++ behind_digits cs
unfolding digits behind_digits
digits_parted cs = sym (take-append-drop (prefix_len is_digit cs) cs)

-- some characters are a first part, which is what it is to be, and the rest
record Parted (IsPart : List ℕ → Type 0) (cs rest : List ℕ) : Type 0 where
  pub part : List ℕ
  pub sum : cs ≡ part ++ rest
  pub is_part : IsPart part

fraction_parted : (cs : List ℕ) → Parted IsFraction cs (behind_fraction cs)
unfolding behind_fraction
fraction_parted [] = record { part = []; sum = refl; is_part = tt }
fraction_parted (c ∷ cs) = go (c == 46) refl
  where
    go : (b : Bool) → c == 46 ≡ b → Parted IsFraction (c ∷ cs)
        (if b then behind_digits cs else c ∷ cs)
    go true e =
        record {
          part = c ∷ digits cs;
          sum = ap (λ (v : List ℕ). c ∷ v) (digits_parted cs);
          is_part = (grind (arith, nat_tests), all_digits cs);
        }
    go false e = record { part = []; sum = refl; is_part = tt }

sign_parted : (c : ℕ) (cs : List ℕ) → Parted IsSign cs (power (c ∷ cs))
unfolding power
sign_parted c [] = record { part = []; sum = refl; is_part = tt }
sign_parted c (b ∷ bs) = go (is_sign b) refl
  where
    go : (s : Bool) → is_sign b ≡ s → Parted IsSign (b ∷ bs) (if s then bs else b ∷ bs)
    go true e = record { part = b ∷ []; sum = refl; is_part = (e, refl) }
    go false e = record { part = []; sum = refl; is_part = tt }

exponent_is : (letter : ℕ) (sign ds : List ℕ) → is_exponent_letter letter ≡ true → IsSign sign
    → list_all is_digit ds ≡ true → 1 ≤ length ds → IsExponent (letter ∷ (sign ++ ds))
exponent_is letter sign [] l s a n = absurd (omega arith)
exponent_is letter sign (d ∷ ds) l s a n = record {
  letter = letter;
  sign = sign;
  first = d;
  others = ds;
  split = refl;
  is_letter = l;
  is_sign = s;
  first_digit = (and_parts (is_digit d) (list_all is_digit ds) a).0;
  other_digits = (and_parts (is_digit d) (list_all is_digit ds) a).1;
}

some : (b : Bool) (ds : List ℕ) → (length (if b then ds else []) == 0) ≡ false
    → (b ≡ true) × (1 ≤ length ds)
some true ds h = (refl, grind (arith, nat_tests))
some false ds h = cc

abbrev MayBeExponent : List ℕ → Type 0
MayBeExponent w = (w ≡ []) ⊎ IsExponent w

exponent_parted : (cs : List ℕ) → Parted MayBeExponent cs (behind_exponent cs)
unfolding exponent behind_exponent
exponent_parted [] = record { part = []; sum = refl; is_part = inl refl }
exponent_parted (c ∷ cs) = go (length (exponent (c ∷ cs)) == 0) refl
  where
    go : (b : Bool) → (length (exponent (c ∷ cs)) == 0) ≡ b
        → Parted MayBeExponent (c ∷ cs) (if b then c ∷ cs else behind_digits (power (c ∷ cs)))
    go true e = record { part = []; sum = refl; is_part = inl refl }
    go false e =
        let p : List ℕ = power (c ∷ cs) in
        let s = sign_parted c cs in
        let l = some (is_exponent_letter c) (digits p) e in
        record {
          part = c ∷ (s.part ++ digits p);
          sum =
              ap (λ (v : List ℕ). c ∷ v) (s.sum ∙ ap (λ (v : List ℕ). s.part ++ v) (digits_parted p)
              ∙ sym (append_assoc s.part (digits p) (behind_digits p)));
          is_part = inr (exponent_is c s.part (digits p) l.0 s.is_part (all_digits p) l.1);
        }

-- ---- the literal

either : (a b : Bool) → a || b ≡ true → a ≡ false → b ≡ true
either true b h e = cc
either false b h e = h

pointed : (c : ℕ) (cs : List ℕ) → c == 46 ≡ true → is_digit (char_at cs 0) ≡ true
    → 2 + length (behind_fraction (c ∷ cs)) ≤ length (c ∷ cs)
unfolding behind_fraction
pointed c [] p h = cc
pointed c (d ∷ ds) p h =
    let e : behind_fraction (c ∷ d ∷ ds) ≡ behind_digits ds = if_true (behind_digits (d ∷ ds))
    (c ∷ d ∷ ds) p ∙ digits_past (d ∷ []) ds (rw h refl) in
    omega (arith, ap (length {A = ℕ}) e, digits_within ds)

digit_first : (cs : List ℕ) → begins_number cs ≡ true
    → (1 ≤ length (digits cs)) ⊎ (2 + length (behind_fraction (behind_digits cs))
    ≤ length (behind_digits cs))
unfolding begins_number
digit_first [] h = cc
digit_first (c ∷ cs) h = split (is_digit c)
    (λ d. inl (some_digits c cs d))
    (λ n. let e = and_parts (c == 46) (is_digit (char_at cs 0)) (either (is_digit c) _ h n) in
    inr (subst (λ (v : List ℕ). 2 + length (behind_fraction v) ≤ length v) (sym (no_digits c cs n))
    (pointed c cs e.0 e.1)))

front_is : (cs front rest : List ℕ) → cs ≡ front ++ rest → take (length cs - length rest) cs ≡ front
front_is cs front rest e =
    let n : length cs - length rest ≡ length front = omega
    (arith, ap (length {A = ℕ}) e, length-append front rest) in
    ap (λ (k : ℕ). take k cs) n ∙ ap (take (length front)) e ∙ take-append_seam front rest

pub decimal_is : (cs : List ℕ) → begins_number cs ≡ true → IsDecimal (take (decimal_length cs) cs)
unfolding behind_decimal
decimal_is cs h =
    let r : List ℕ = behind_digits cs in
    let f = fraction_parted r in
    let x = exponent_parted (behind_fraction r) in
    let n : length r ≡ length f.part + length (behind_fraction r) = ap (length {A = ℕ}) f.sum
    ∙ length-append f.part (behind_fraction r) in
    let s : cs ≡ (digits cs ++ (f.part ++ x.part)) ++ behind_decimal cs =
    digits_parted cs ∙ ap (λ (v : List ℕ). digits cs ++ v)
    (f.sum ∙ ap (λ (v : List ℕ). f.part ++ v) x.sum)
    ∙ sym (append_parts (digits cs) f.part x.part (behind_decimal cs)) in
    record {
      whole = digits cs;
      point = f.part;
      power = x.part;
      split = front_is cs (digits cs ++ (f.part ++ x.part)) (behind_decimal cs) s;
      whole_digits = all_digits cs;
      is_fraction = f.is_part;
      has_digit = has_digit _ _ _ _ (digit_first cs h) n;
      is_power = x.is_part;
    }
  where
    has_digit : (a b c p : ℕ) → (1 ≤ a) ⊎ (2 + b ≤ c) → c ≡ p + b → (1 ≤ a) ⊎ (2 ≤ p)
    has_digit a b c p (inl l) e = inl l
    has_digit a b c p (inr l) e = inr (omega arith)
