-- The parts of tests that hold or fail together.
use Rattle.std.proofs.Common.{◌≡◌, Bool, true, false, ◌&&◌, ◌||◌, refl}
use Rattle.std.proofs.lemmas.Bool.{or_parts, or_right}

pub and_left_true : (a b : Bool) → (a && b) ≡ true → a ≡ true
and_left_true true b h = refl
and_left_true false b h = cc h

pub and_right_true : (a b : Bool) → (a && b) ≡ true → b ≡ true
and_right_true true b h = h
and_right_true false b h = cc h

pub or_left_false : (a b : Bool) → (a || b) ≡ false → a ≡ false
or_left_false a b h = (or_parts a b h).0

pub or_right_false : (a b : Bool) → (a || b) ≡ false → b ≡ false
or_right_false a b h = (or_parts a b h).1

pub or_right_true : (a : Bool) {b : Bool} → b ≡ true → (a || b) ≡ true
or_right_true a {b} h = or_right a b h
