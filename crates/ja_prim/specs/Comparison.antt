-- When two primitive values are equal, which of them is less, and their sum (ES3 11.6.1, 11.8.5,
-- 11.9.3, 11.9.6).
use Rattle.std.specs.Prelude.{ℕ, int_lt, Bool, true, false, not, ◌&&◌, ◌||◌, if◌then◌else◌, List, ◌++◌, Option, Some, None, Result, Ok, Err}
use Rattle.std.specs.Cmp.Lexicographic.{slice_cmp}
use Rattle.std.specs.Ordering.{int_eq, nat_cmp, is_lt}
use Rattle.ja_prim.specs.declared.primitive.Num.{Num}
use Rattle.ja_prim.specs.declared.primitive.Num.TheVariants.{Whole}
use Rattle.ja_prim.specs.declared.primitive.Primitive.{Primitive}
use Rattle.ja_prim.specs.declared.primitive.Primitive.TheVariants.{Undefined, Null, Number, Text}
use Rattle.ja_prim.specs.declared.primitive.Primitive.TheVariants as kind
use Rattle.ja_prim.specs.declared.stop.Stop.{Stop}
use Rattle.ja_prim.specs.Arithmetic as numbers
use Rattle.ja_prim.specs.Conversions.{to_number, to_text}
use Rattle.ja_prim.specs.Texts.{same_text, limited_text}

-- NaN is equal to no number, not to itself either
abbrev pub same_number : Num → Num → Bool
same_number (Whole m) (Whole n) = int_eq m n
same_number _ _ = false

abbrev pub same_truth : Bool → Bool → Bool
same_truth true b = b
same_truth false b = not b

-- equal values of one type (11.9.6)
abbrev pub strict_equal : Primitive → Primitive → Bool
strict_equal Undefined Undefined = true
strict_equal Null Null = true
strict_equal (kind.Bool a) (kind.Bool b) = same_truth a b
strict_equal (Number m) (Number n) = same_number m n
strict_equal (Text a) (Text b) = same_text a b
strict_equal _ _ = false

-- what two numbers come to, of which the left one is converted first
abbrev pub of_both : {A : Type 0} → (Num → Num → Result A Stop) → Result Num Stop → Result Num Stop
    → Result A Stop
of_both f (Err stop) right = Err stop
of_both f (Ok m) (Err stop) = Err stop
of_both f (Ok m) (Ok n) = f m n

-- whether m is less than n: neither where one is NaN
abbrev pub less_number : Num → Num → Option Bool
less_number (Whole m) (Whole n) = Some (int_lt m n)
less_number _ _ = None

-- whether the first text comes first: by the first unit that differs, or as a beginning of the
-- other
abbrev pub less_text : List ℕ → List ℕ → Bool
less_text a b = is_lt (slice_cmp nat_cmp a b)

-- whether a is less than b (11.8.5)
abbrev pub less : Primitive → Primitive → Result (Option Bool) Stop
less (Text a) (Text b) = Ok (Some (less_text a b))
less a b = of_both (λ m n. Ok (less_number m n)) (to_number a) (to_number b)

-- undefined or null
abbrev pub is_nothing : Primitive → Bool
is_nothing Undefined = true
is_nothing Null = true
is_nothing _ = false

abbrev pub is_text : Primitive → Bool
is_text (Text units) = true
is_text _ = false

-- both booleans, both numbers or both texts
abbrev pub are_alike : Primitive → Primitive → Bool
are_alike (kind.Bool a) (kind.Bool b) = true
are_alike (Number m) (Number n) = true
are_alike (Text a) (Text b) = true
are_alike _ _ = false

-- undefined and null are equal to each other and to nothing else; values of one type as such;
-- others as numbers (11.9.3)
abbrev pub loose_equal : Primitive → Primitive → Result Bool Stop
loose_equal a b =
    if is_nothing a || is_nothing b then Ok (is_nothing a && is_nothing b)
    else if are_alike a b then Ok (strict_equal a b)
    else of_both (λ m n. Ok (same_number m n)) (to_number a) (to_number b)

abbrev pub to_primitive : {A : Type 0} → (A → Primitive) → Result A Stop → Result Primitive Stop
to_primitive f (Ok x) = Ok (f x)
to_primitive f (Err stop) = Err stop

-- the sum of two numbers, if both are some
abbrev pub sum_of : Result Num Stop → Result Num Stop → Result Num Stop
sum_of = of_both numbers.add

-- the joined texts where one is a text, and else the sum of the numbers (11.6.1)
abbrev pub add : Primitive → Primitive → Result Primitive Stop
add a b =
    if is_text a || is_text b then to_primitive Text (limited_text (to_text a ++ to_text b))
    else to_primitive Number (sum_of (to_number a) (to_number b))
