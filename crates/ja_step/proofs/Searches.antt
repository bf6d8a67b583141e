-- The first object of a site, looked for one after another.
use Rattle.std.proofs.Common.{◌≡◌, ℕ, ◌+◌, ◌<◌, List, drop, length, Bool, true, false, Some, refl, drop-cons, add-one, get_or, arith}
use Rattle.std.specs.Prelude.{find, if◌then◌else◌, ◌==◌}
use Rattle.std.proofs.lemmas.Bool.Decides.{nat_tests}
use Rattle.ja_graph.specs.declared.program.ObjectSpec.{ObjectSpec}

abbrev pub is_of_site : ℕ → ObjectSpec → Bool
is_of_site site o = o.site.0 == site

-- the first among some is that of the rest behind so many
abbrev pub IsFurther : ℕ → List ObjectSpec → ℕ → Type 0
IsFurther site xs n = find (is_of_site site) xs ≡ find (is_of_site site) (drop n xs)

module _ (site : ℕ) (xs : List ObjectSpec) (n : ℕ) (o : ObjectSpec) (within : n < length xs)
    (at : o ≡ get_or xs n o) (further : IsFurther site xs n) where
  -- from the next one on
  opened : find (is_of_site site) xs ≡ (if o.site.0 == site then Some o
      else find (is_of_site site) (drop (n + 1) xs))
  opened = rw (further, drop-cons xs n o within, ← at, add-one) refl

  pub found_here : o.site.0 ≡ site → find (is_of_site site) xs ≡ Some o
  found_here here =
      let test : (o.site.0 == site) ≡ true = grind (arith, nat_tests) in
      rw (opened, test) refl

  pub found_further : (o.site.0 ≡ site → ⊥) → IsFurther site xs (n + 1)
  found_further other =
      let test : (o.site.0 == site) ≡ false = grind (arith, nat_tests) in
      rw (opened, test) refl
