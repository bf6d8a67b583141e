-- What conversions, equality, order and literals come to.
use Rattle.std.specs.Prelude.{◌≡◌, ◌≤◌, ◌+◌, ◌*◌, ◌^◌, ℕ, pos, neg_ℤ, ◌≤ℤ◌, Bool, true, false, Option, Some, Result, Ok}
use Rattle.ja_prim.specs.declared.primitive.Num.{Num}
use Rattle.ja_prim.specs.declared.primitive.Num.TheVariants.{NaN, Whole}
use Rattle.ja_prim.specs.declared.primitive.Primitive.{Primitive}
use Rattle.ja_prim.specs.declared.primitive.Primitive.TheVariants.{Number, Text}
use Rattle.ja_prim.specs.declared.stop.Stop.{Stop}
use Rattle.ja_prim.specs.Comparison.{strict_equal, less}
use Rattle.ja_prim.specs.Conversions.{to_number, to_text}
use Rattle.ja_prim.specs.Judged.{max_magnitude}

-- the number of the text of a number is that number
abbrev pub IsReadBack : Num → Type 0
IsReadBack NaN = to_number (Text (to_text (Number NaN))) ≡ Ok NaN
IsReadBack (Whole z) =
    neg_ℤ (pos max_magnitude) ≤ℤ z → z ≤ℤ pos max_magnitude
    → to_number (Text (to_text (Number (Whole z)))) ≡ Ok (Whole z)

abbrev pub is_nan : Primitive → Bool
is_nan (Number NaN) = true
is_nan _ = false

-- a is less than b
abbrev pub is_yes : Result (Option Bool) Stop → Bool
is_yes (Ok (Some b)) = b
is_yes _ = false

abbrev pub is_less : Primitive → Primitive → Bool
is_less a b = is_yes (less a b)

-- what is less than a lesser one is less
abbrev pub IsTransitive : Primitive → Primitive → Primitive → Type 0
IsTransitive a b c = is_less a b ≡ true → is_less b c ≡ true → is_less a c ≡ true

-- just one of the three
abbrev pub just_one : Bool → Bool → Bool → Bool
just_one true false false = true
just_one false true false = true
just_one false false true = true
just_one _ _ _ = false

-- less, equal or greater
abbrev pub IsRanked : Primitive → Primitive → Type 0
IsRanked a b = just_one (is_less a b) (strict_equal a b) (is_less b a) ≡ true

-- v is m * 10^up / 10^down, and the profile has it
pub record IsValue (m up down v : ℕ) : Type 0 where
  pub exact : v * 10 ^ down ≡ m * 10 ^ up
  pub small : v ≤ max_magnitude

-- the value of the literal of digits m, of which f stand behind the point, and of the exponent e or
-- -e
abbrev pub IsLiteralValue : Bool → ℕ → ℕ → ℕ → ℕ → Type 0
IsLiteralValue true m e f v = IsValue m 0 (e + f) v
IsLiteralValue false m e f v = IsValue m e f v
