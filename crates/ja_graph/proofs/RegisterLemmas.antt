-- Registers that are among as many as it takes.
use Rattle.std.proofs.Common.{ℕ, ◌+◌, ◌<◌, ◌≤◌, ◌↔◌, max, List, [], ◌∷◌, arith}
use Rattle.std.specs.List.{AllByRecursion}
use Rattle.ja_base.specs.declared.ids.Reg.{Reg}
use Rattle.ja_graph.specs.Node.{registers_with}

-- there are as many as there were
pub first_stay : (first : ℕ) (rs : List Reg) → first ≤ registers_with first rs
first_stay first [] = omega arith
first_stay first (r ∷ rs) = omega (arith, first_stay (max first (r.0 + 1)) rs)

-- each is among as many as it takes, so also among as many as that or more
pub each_among : (first limit : ℕ) (rs : List Reg) → registers_with first rs ≤ limit
    → AllByRecursion (λ (r : Reg). r.0 < limit) rs
each_among first limit [] few = tt
each_among first limit (r ∷ rs) few = (
  omega (arith, first_stay (max first (r.0 + 1)) rs, few),
  each_among (max first (r.0 + 1)) limit rs few,
)

few_where_each : (first limit : ℕ) (rs : List Reg) → first ≤ limit
    → AllByRecursion (λ (r : Reg). r.0 < limit) rs → registers_with first rs ≤ limit
few_where_each first limit [] few each = few
few_where_each first limit (r ∷ rs) few each =
    let here : r.0 < limit = each.0 in
    few_where_each (max first (r.0 + 1)) limit rs (omega (arith, here, few)) each.1

-- no more are needed than a limit exactly where each is below it
pub few_exactly : (limit : ℕ) (rs : List Reg)
    → registers_with 0 rs ≤ limit ↔ AllByRecursion (λ (r : Reg). r.0 < limit) rs
few_exactly limit rs =
    (λ few. each_among 0 limit rs few, λ each. few_where_each 0 limit rs (omega arith) each)
