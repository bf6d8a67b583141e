-- How many characters of a line take two units of UTF-16.
use Rattle.std.specs.Prelude.{◌≤◌, ℕ, Bool, not, List, filter, length}
use Rattle.std.proofs.Common.{arith, refl}
use Rattle.std.proofs.lemmas.List.Filters.{length-filter_both}

pub filter_short : (p : ℕ → Bool) (xs : List ℕ) → length (filter p xs) ≤ length xs
filter_short p xs =
    let both = length-filter_both p (λ (x : ℕ). not (p x)) (λ (x : ℕ). refl) xs in
    omega (arith, both)
