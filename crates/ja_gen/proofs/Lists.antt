-- Lists that are added one behind another, and numbers from 1.
use Rattle.std.proofs.Common.{◌≡◌, ◌+◌, ◌++◌, ℕ, List, [], ◌∷◌, append_assoc, map-id, arith}
use Rattle.std.specs.List.{range_with_len}
use Rattle.std.proofs.lemmas.List.FromFn.{map-range_with_len_more}

pub four_added : (a b c d s t u v w : List ℕ) → t ≡ s ++ a → u ≡ t ++ b → v ≡ u ++ c → w ≡ v ++ d
    → w ≡ s ++ (a ++ b ++ c ++ d)
four_added a b c d s t u v w to_t to_u to_v to_w =
    rw (to_w, to_v, to_u, to_t) (simp append_assoc)

pub range_more : (n : ℕ) → range_with_len 1 (n + 1) ≡ range_with_len 1 n ++ (n + 1) ∷ []
range_more n = simp map-id at (map-range_with_len_more (λ (k : ℕ). k) 1 n (n + 1) (omega arith))
