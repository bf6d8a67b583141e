-- Two lists tested place by place.
use Rattle.std.specs.Prelude.{◌≡◌, ℕ, Bool, true, false, List, Some, slice_get}
use Rattle.std.specs.Borrow.{Bor}
use Rattle.std.specs.Fn.{FnReturnsAtPair, Shared}

-- a call of a test at two values may say this
abbrev pub MaySay : {F T : Type 0} → Shared F (Bor T × (Bor T × Unit {0})) Bool
    → F → T → T → Bool → Type 0
MaySay g f x y said = FnReturnsAtPair g f x y said

-- a test said true of the values at each place of two lists, or false of those at one place
pub record SaysOfPlaces {T : Type 0} (Says : T → T → Bool → Type 0) (xs ys : List T) (all : Bool)
    : Type 0 where
  pub held : all ≡ true → (n : ℕ) (x y : T) → slice_get xs n ≡ Some x → slice_get ys n ≡ Some y
      → Says x y true
  pub failed : all ≡ false → (n : ℕ) × (x y : T) × (slice_get xs n ≡ Some x)
      × (slice_get ys n ≡ Some y) × Says x y false
