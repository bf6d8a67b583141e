-- The number at the front of a text (ES3 15.1.2.2, 15.1.2.3).
use Rattle.std.specs.Prelude.{ℕ, ◌+◌, ◌==◌, ◌&&◌, nat_eq, nat_le, nat_lt, Bool, if◌then◌else◌, List, length, drop, codes, Result, Ok, Err}
use Rattle.std.specs.Char.{digit_value}
use Rattle.std.specs.List.{starts_with, take_while}
use Rattle.std.specs.Str.Parse.{digits_value}
use Rattle.ja_prim.specs.declared.primitive.Num.{Num}
use Rattle.ja_prim.specs.declared.primitive.Num.TheVariants.{NaN}
use Rattle.ja_prim.specs.declared.stop.Stop.{Stop}
use Rattle.ja_prim.specs.declared.stop.Stop.TheVariants as stop
use Rattle.ja_prim.specs.Blanks.{behind_blanks}
use Rattle.ja_prim.specs.Characters.{char_at}
use Rattle.ja_prim.specs.Judged.{judged}
use Rattle.ja_prim.specs.Numerals.{digits, behind_digits, fraction, decimal_value, begins_hexadecimal}
use Rattle.ja_prim.specs.TextToNumber.{unsigned}

-- digits of a radix, as many as stand first: none are NaN
unfoldable pub integer : Bool → ℕ → List ℕ → Result Num Stop
integer negative radix t =
    let ds = take_while (λ c. nat_lt (digit_value c) radix) t in
    if length ds == 0 then Ok NaN else judged negative (digits_value radix ds) 1

-- behind `0x` or `0X`, where it stands first
unfoldable pub behind_prefix : List ℕ → List ℕ
behind_prefix t = if begins_hexadecimal t then drop 2 t else t

-- the radix 0 is none given
unfoldable pub integer_by : Bool → ℕ → List ℕ → Result Num Stop
integer_by negative radix t =
    if radix == 0 then integer negative (if begins_hexadecimal t then 16 else 10) (behind_prefix t)
    else if radix == 16 then integer negative 16 (behind_prefix t)
    else if nat_le 2 radix && nat_le radix 36 then integer negative radix t else Ok NaN

-- behind blanks and a sign (15.1.2.2)
unfoldable pub front_integer : ℕ → List ℕ → Result Num Stop
front_integer radix t =
    integer_by (char_at (behind_blanks t) 0 == 45) radix (unsigned (behind_blanks t))

-- the longest decimal literal; `Infinity` is past every number
unfoldable pub decimal_front : Bool → List ℕ → Result Num Stop
decimal_front negative t =
    if starts_with nat_eq t (codes "Infinity") then Err stop.Range
    else if length (digits t) + length (fraction (behind_digits t)) == 0 then Ok NaN
    else decimal_value negative t

-- behind blanks and a sign (15.1.2.3)
unfoldable pub front_decimal : List ℕ → Result Num Stop
front_decimal t = decimal_front (char_at (behind_blanks t) 0 == 45) (unsigned (behind_blanks t))
