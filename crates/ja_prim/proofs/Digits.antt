-- Runs of decimal digits.
use Rattle.std.proofs.Common.{◌≡◌, ◌<◌, ℕ, Bool, true, false, List, [], ◌∷◌, ◌++◌, arith, refl, sym, ◌∙◌, subst}
use Rattle.std.specs.Char.{digit_value}
use Rattle.std.specs.List.{take_while}
use Rattle.std.specs.Str.Parse.{AllDigits}
use Rattle.std.proofs.lemmas.Bool.Decides.{nat_tests}
use Rattle.std.proofs.lemmas.List.Sums.{take_while-cons}
use Rattle.ja_prim.specs.Characters.{is_digit}

pub digit_small : (c : ℕ) → is_digit c ≡ true → digit_value c < 10
digit_small c h = grind (arith, nat_tests)

pub split : (b : Bool) {P : Type 0} → (b ≡ true → P) → (b ≡ false → P) → P
split true f g = f refl
split false f g = g refl

pub all_digits : (cs : List ℕ) → AllDigits 10 (take_while is_digit cs)
all_digits [] = tt
all_digits (c ∷ cs) = split (is_digit c)
    (λ h. let e : take_while is_digit (c ∷ cs) ≡ c
    ∷ take_while is_digit cs = take_while-cons is_digit c cs ∙ rw h refl in
    subst (AllDigits 10) (sym e) (digit_small c h, all_digits cs))
    (λ h. let e : take_while is_digit (c ∷ cs) ≡ [] = take_while-cons is_digit c cs ∙ rw h refl in
    subst (AllDigits 10) (sym e) tt)

pub all_digits_append : (xs ys : List ℕ) → AllDigits 10 xs → AllDigits 10 ys
    → AllDigits 10 (xs ++ ys)
all_digits_append [] ys f g = g
all_digits_append (x ∷ xs) ys f g = (f.0, all_digits_append xs ys f.1 g)
