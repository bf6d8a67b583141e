-- The first places of two lists tested, as a node goes through them.
use Rattle.std.specs.Prelude.{◌≡◌, ℕ, ◌<◌, Bool, true, false, List, length, get_or}

-- a test said true of the values at each of the first n places of two lists, as far as the first
-- list goes, or false of those at one of them
pub record SaysOfFirst {T : Type 0} (Says : T → T → Bool → Type 0) (n : ℕ) (xs ys : List T)
    (all : Bool) : Type 0 where
  pub held : all ≡ true → (k : ℕ) → k < n → k < length xs → (d : T)
      → Says (get_or xs k d) (get_or ys k d) true
  pub failed : all ≡ false → (k : ℕ) × (k < n) × (k < length xs)
      × ((d : T) → Says (get_or xs k d) (get_or ys k d) false)
