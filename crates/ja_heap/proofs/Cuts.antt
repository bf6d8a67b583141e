-- The elements that a new length of an array deletes.
use Rattle.std.proofs.Common.{◌≡◌, ℕ, ℤ, pos, Bool, false, not, List, [], ◌∷◌, Some, None, Option, refl, arith}
use Rattle.std.specs.Prelude.{filter, nat_le, int_lt, ◌&&◌}
use Rattle.std.specs.Option.{option_map_or}
use Rattle.std.proofs.lemmas.Bool.Decides.{nat_tests}
use Rattle.std.proofs.lemmas.Int.{ints}
use Rattle.ja_prim.specs.Conversions.{index_of}
use Rattle.ja_machine.specs.declared.machine.Property.{Property}
use Rattle.ja_machine.specs.Writes.{is_cut}

-- nothing is deleted where nothing is to be
pub none_cut : (test : Property → Bool) (qs : List Property) → ((q : Property) → test q ≡ false)
    → filter (λ q. not (test q)) qs ≡ qs
none_cut test [] h = refl
none_cut test (q ∷ qs) h = simp (h q, none_cut test qs h)

-- a length that isn't lower deletes nothing
above : (new index : ℕ) (old : ℤ) → int_lt (pos new) old ≡ false
    → (nat_le new index && int_lt (pos index) old) ≡ false
above new index old h = grind (arith, ints, nat_tests)

pub not_lower : (new : ℕ) (old : ℤ) (q : Property) → int_lt (pos new) old ≡ false
    → is_cut new (Some old) q ≡ false
not_lower new old q h = at (index_of q.name)
  where
    at : (r : Option ℕ) → option_map_or (λ index. nat_le new index && int_lt (pos index) old) r
        false ≡ false
    at None = refl
    at (Some index) = above new index old h
