-- Which numbers and texts are array indices (ES3 15.4): 0 to 4,294,967,294, and their decimal
-- texts.
use Rattle.std.specs.Prelude.{ℕ, ◌+◌, ◌-◌, ◌*◌, ℤ, pos, negsuc, Bool, false, not, ◌&&◌, ◌||◌, ◌==◌, nat_lt, nat_le, List, [], ◌∷◌, length}
use Rattle.std.specs.List.{list_all}
use Rattle.ja_prim.specs.Characters.{is_digit}

-- the number behind the last array index: 2^32 - 1
abbrev pub index_end : ℕ
index_end = 4294967295

abbrev pub is_index : ℤ → Bool
is_index (pos n) = nat_lt n index_end
is_index (negsuc n) = false

-- the number that the digits write, from the first on
abbrev pub with_digits : ℕ → List ℕ → ℕ
with_digits n [] = n
with_digits n (c ∷ cs) = with_digits (10 * n + (c - 48)) cs

abbrev pub starts_with_zero : List ℕ → Bool
starts_with_zero [] = false
starts_with_zero (c ∷ cs) = c == 48

-- one to ten digits, the first not 0 unless it stands alone, of a number that is an index
abbrev pub is_index_text : List ℕ → Bool
is_index_text t =
    nat_lt 0 (length t) && nat_le (length t) 10 && list_all is_digit t
    && (not (starts_with_zero t) || (length t == 1)) && nat_lt (with_digits 0 t) index_end
