use Rattle.std.proofs.Common.{◌≡◌, ℕ, ◌&&◌, nat_lt, drop}
use Rattle.std.specs.List.{list_any}
use Rattle.ja_value.specs.Labels.{has}
use Rattle.ja_value.proofs.label_set.LabelSet.intersects.Given as goal

-- what is still to come decides
abbrev pub invariant-loop-number : goal.invariant-loop-number
invariant-loop-number l =
    list_any (λ (n : ℕ). nat_lt n l.end && has l.other.numbers n)
    (drop l.number-index l.self.numbers)
    ≡ list_any (λ (n : ℕ). nat_lt n l.end && has l.other.numbers n) l.self.numbers
