-- What the classes of characters say about codes and digits.
use Rattle.std.proofs.Common.{◌≡◌, ◌≤◌, ◌<◌, ℕ, Bool, true, List, [], ◌∷◌, arith, refl, ap, ◌∙◌}
use Rattle.std.specs.Char.{digit_value}
use Rattle.std.specs.Char.Escape.{encode_utf16}
use Rattle.std.specs.List.{flat_map, list_all, take_while}
use Rattle.std.specs.Str.Parse.{AllDigits}
use Rattle.std.proofs.lemmas.Bool.{and_parts}
use Rattle.std.proofs.lemmas.Bool.Decides.{nat_tests}
use Rattle.std.proofs.lemmas.List.Concat.{flat_map-cons}
use Rattle.std.proofs.lemmas.List.Sums.{take_while-cons}
use Rattle.ja_prim.specs.Characters.{char_at, is_ascii, is_hexadecimal, is_part, is_escape}
use Rattle.ja_prim.proofs.Digits.{split}

pub hex_small : (c : ℕ) → is_hexadecimal c ≡ true → digit_value c ≤ 15
unfolding is_hexadecimal
hex_small c h = grind (arith, nat_tests)

pub record Hexadecimals (cs : List ℕ) : Type 0 where
  pub first : is_hexadecimal (char_at cs 2) ≡ true
  pub second : is_hexadecimal (char_at cs 3) ≡ true
  pub third : is_hexadecimal (char_at cs 4) ≡ true
  pub fourth : is_hexadecimal (char_at cs 5) ≡ true

pub escape_digits : (cs : List ℕ) → is_escape cs 0 ≡ true → Hexadecimals cs
unfolding is_escape
escape_digits cs h =
    record {
      first = grind (arith, nat_tests);
      second = grind (arith, nat_tests);
      third = grind (arith, nat_tests);
      fourth = grind (arith, nat_tests);
    }

-- ---- runs of ASCII, and their units

pub run_all : (p q : ℕ → Bool) → ((c : ℕ) → p c ≡ true → q c ≡ true) → (cs : List ℕ)
    → list_all q (take_while p cs) ≡ true
run_all p q f [] = refl
run_all p q f (c ∷ cs) = split (p c)
    (λ h. let e : take_while p (c ∷ cs) ≡ c ∷ take_while p cs = take_while-cons p c cs
    ∙ rw h refl in ap (list_all q) e ∙ rw (f c h, run_all p q f cs) refl)
    (λ h. let e : take_while p (c ∷ cs) ≡ [] = take_while-cons p c cs ∙ rw h refl in
    ap (list_all q) e)

part_ascii : (c : ℕ) → is_part c ≡ true → is_ascii c ≡ true
unfolding is_part
part_ascii c h = grind (arith, nat_tests)

hexadecimal_ascii : (c : ℕ) → is_hexadecimal c ≡ true → is_ascii c ≡ true
unfolding is_hexadecimal
hexadecimal_ascii c h = grind (arith, nat_tests)

digit_ascii : (c : ℕ) → digit_value c < 10 → is_ascii c ≡ true
digit_ascii c h = grind (arith, nat_tests)

pub all_part : (cs : List ℕ) → list_all is_ascii (take_while is_part cs) ≡ true
all_part cs = run_all is_part is_ascii part_ascii cs

pub all_hexadecimal : (cs : List ℕ) → list_all is_ascii (take_while is_hexadecimal cs) ≡ true
all_hexadecimal cs = run_all is_hexadecimal is_ascii hexadecimal_ascii cs

pub all_digits : (cs : List ℕ) → AllDigits 10 cs → list_all is_ascii cs ≡ true
all_digits [] h = refl
all_digits (c ∷ cs) h = rw (digit_ascii c h.0, all_digits cs h.1) refl

one_unit : (c : ℕ) → is_ascii c ≡ true → encode_utf16 c ≡ c ∷ []
one_unit c h = grind (arith, nat_tests)

pub ascii_units : (cs : List ℕ) → list_all is_ascii cs ≡ true → flat_map encode_utf16 cs ≡ cs
ascii_units [] h = refl
ascii_units (c ∷ cs) h =
    let e : (is_ascii c ≡ true) × (list_all is_ascii cs ≡ true) = and_parts (is_ascii c)
    (list_all is_ascii cs) h in
    flat_map-cons encode_utf16 c cs ∙ rw (one_unit c e.0)
    (ap (λ (v : List ℕ). c ∷ v) (ascii_units cs e.1))
