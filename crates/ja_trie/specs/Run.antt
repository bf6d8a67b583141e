-- Runs of one value in a list.
use Rattle.std.specs.Prelude.{◌≡◌, ℕ, ◌<◌, ◌≤◌, List, length, get_or}

-- each place from i up to an end behind it has the value at i
pub record IsRun {T : Type 0} (xs : List T) (i end : ℕ) : Type 0 where
  pub ahead : i < end
  pub within : end ≤ length xs
  pub same : (k : ℕ) → i ≤ k → k < end → (d : T) → get_or xs k d ≡ get_or xs i d
