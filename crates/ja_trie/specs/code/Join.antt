-- The first places of two lists joined, as a node goes through them.
use Rattle.std.specs.Prelude.{◌≡◌, ℕ, zero, suc, ◌+◌, Option, List, [], ◌∷◌}
use Rattle.ja_trie.specs.Join.{kept_or, put_by}

-- the same as `Joined`, of the first n places alone: behind them stands what stood there
abbrev pub JoinedTo : {T : Type 0} → (T → T → Option T → Type 0)
    → ℕ → List T → List T → List T → ℕ → Type 0
JoinedTo R n [] ys zs puts = (zs ≡ []) × (puts ≡ 0)
JoinedTo R zero (x ∷ xs) ys zs puts = (zs ≡ x ∷ xs) × (puts ≡ 0)
JoinedTo R (suc n) (x ∷ xs) [] zs puts = ⊥
JoinedTo R (suc n) (x ∷ xs) (y ∷ ys) [] puts = ⊥
JoinedTo {T} R (suc n) (x ∷ xs) (y ∷ ys) (z ∷ zs) puts =
    (answer : Option T) × (rest : ℕ) × R x y answer × (z ≡ kept_or x answer)
    × (puts ≡ put_by answer + rest) × JoinedTo R n xs ys zs rest
