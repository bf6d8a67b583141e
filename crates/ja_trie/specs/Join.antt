-- Two lists joined place by place.
use Rattle.std.specs.Prelude.{◌≡◌, ℕ, ◌+◌, Option, None, Some, List, [], ◌∷◌}
use Rattle.std.specs.Borrow.{Bor}
use Rattle.std.specs.Fn.{FnReturnsAtPair, Shared}
use Rattle.std.specs.declared.result.Result.{Result}
use Rattle.std.specs.declared.result.Result.TheVariants.{Ok}

-- a call of a function at two values may give this answer
abbrev pub MayAnswer : {F T E : Type 0}
    → Shared F (Bor T × (Bor T × Unit {0})) (Result (Option T) E)
    → F → T → T → Option T → Type 0
MayAnswer g f x y answer = FnReturnsAtPair g f x y (Ok answer)

-- what stands at a place behind an answer: what it gives, and where it gives none what stood there
abbrev pub kept_or : {T : Type 0} → T → Option T → T
kept_or x None = x
kept_or x (Some y) = y

-- how many places an answer puts
abbrev pub put_by : {T : Type 0} → Option T → ℕ
put_by None = 0
put_by (Some y) = 1

-- the third list is the first one joined with the second, where `R` says what the join of two
-- values may answer; so many places were put
abbrev pub Joined : {T : Type 0} → (T → T → Option T → Type 0)
    → List T → List T → List T → ℕ → Type 0
Joined R [] [] [] puts = puts ≡ 0
Joined R [] [] (z ∷ zs) puts = ⊥
Joined R [] (y ∷ ys) zs puts = ⊥
Joined R (x ∷ xs) [] zs puts = ⊥
Joined R (x ∷ xs) (y ∷ ys) [] puts = ⊥
Joined {T} R (x ∷ xs) (y ∷ ys) (z ∷ zs) puts =
    (answer : Option T) × (rest : ℕ) × R x y answer × (z ≡ kept_or x answer)
    × (puts ≡ put_by answer + rest) × Joined R xs ys zs rest
