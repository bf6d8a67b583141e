-- What loops over maps from numbers answer.
use Rattle.std.specs.Prelude.{◌≡◌, ℕ, Bool, true, false, Option, None, Some, MatchOption, IsSomeAnd}
use Rattle.std.specs.Borrow.{Bor}
use Rattle.std.specs.Fn.{FnReturns, Shared}

-- a call of a function at a number and a reference to a value may give this
pub record GivesAt {F V R : Type 0} (g : Shared F (ℕ × (Bor V × Unit {0})) R) (f : F) (q : ℕ)
    (v : V) (r : R) : Type 0 where
  pub shown : Bor V
  pub shows : shown.now ≡ v
  pub says : FnReturns g f (q, (shown, tt)) r

-- a call of a function at references to two values may give this
pub record GivesOfBoth {F V R : Type 0} (g : Shared F (Bor V × (Bor V × Unit {0})) R) (f : F)
    (v w : V) (r : R) : Type 0 where
  pub first : Bor V
  pub second : Bor V
  pub shows_first : first.now ≡ v
  pub shows_second : second.now ≡ w
  pub says : FnReturns g f (first, (second, tt)) r

-- two maps have values of which this is true at a number, or neither has one there
abbrev pub AreBeside : {V : Type 0} → (V → V → Type 0) → Option V → Option V → Type 0
AreBeside Of one other = MatchOption one (other ≡ None) (λ v. IsSomeAnd other (Of v))

-- a test answered true at each number that has a value, or false at one of them
pub record SaysOfAll {V : Type 0} (Says : ℕ → V → Bool → Type 0) (at : ℕ → Option V) (all : Bool)
    : Type 0 where
  pub held : all ≡ true → (q : ℕ) (v : V) → at q ≡ Some v → Says q v true
  pub failed : all ≡ false → (q : ℕ) × (v : V) × (at q ≡ Some v) × Says q v false

-- what stands at a number once a map is filled from another: what stood there, or what was made of
-- the value that the other has there
pub record IsFilled {V W : Type 0} (Makes : V → W → Type 0) (old : Option W) (other : Option V)
    (new : Option W) : Type 0 where
  pub kept : (w : W) → old ≡ Some w → new ≡ Some w
  pub nothing : old ≡ None → other ≡ None → new ≡ None
  pub made : (v : V) → old ≡ None → other ≡ Some v → (w : W) × Makes v w × (new ≡ Some w)
