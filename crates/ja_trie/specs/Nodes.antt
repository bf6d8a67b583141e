-- How many nodes a change of a shared list may make.
use Rattle.std.specs.Prelude.{ℕ, ◌+◌, ◌*◌, ◌^◌, ◌≤◌}

-- a count rose by at most depth + 1 for each of so many places of a list of that length; it is said
-- of each depth with room for the list, so of the least
abbrev pub ArePaths : ℕ → ℕ → ℕ → ℕ → Type 0
ArePaths long places from to =
    (depth : ℕ) → long ≤ 8 ^ (depth + 1) → to ≤ from + (depth + 1) * places
