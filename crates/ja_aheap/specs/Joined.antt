-- What it says that a map from numbers was joined with another.
use Rattle.std.specs.Prelude.{◌≡◌, ◌≢◌, ℕ, Bool, true, false}

-- each place is joined, and it is known whether one changed
pub record IsJoined {Z : Type 0} (j : Z → Z → Z) (old other new : ℕ → Z) (changed : Bool) : Type
    0 where
  pub joined : (q : ℕ) → new q ≡ j (old q) (other q)
  pub differs : changed ≡ true → (q : ℕ) × (new q ≢ old q)
  pub same : changed ≡ false → (q : ℕ) → new q ≡ old q
