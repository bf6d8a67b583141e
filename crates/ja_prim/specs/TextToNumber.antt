-- The number of a text (ES3 9.3.1).
use Rattle.std.specs.Prelude.{ℕ, pos, ◌+◌, Bool, false, not, ◌&&◌, ◌||◌, ◌==◌, if◌then◌else◌, List, length, drop, codes, Result, Ok, Err}
use Rattle.std.specs.Char.{is_ascii_hexdigit}
use Rattle.std.specs.List.{list_all}
use Rattle.std.specs.Str.Parse.{digits_value}
use Rattle.ja_prim.specs.declared.primitive.Num.{Num}
use Rattle.ja_prim.specs.declared.primitive.Num.TheVariants.{NaN, Whole}
use Rattle.ja_prim.specs.declared.stop.Stop.{Stop}
use Rattle.ja_prim.specs.declared.stop.Stop.TheVariants.{Range}
use Rattle.ja_prim.specs.Blanks.{behind_blanks, before_blanks}
use Rattle.ja_prim.specs.Texts.{same_text}
use Rattle.ja_prim.specs.Characters.{char_at}
use Rattle.ja_prim.specs.Numerals.{digits, behind_digits, fraction, is_sign, behind_decimal, decimal_value, begins_hexadecimal}
use Rattle.ja_prim.specs.Judged.{judged}

-- a decimal literal with no sign, with a digit before the exponent, and nothing behind it; what
-- isn't one is NaN
unfoldable pub decimal : Bool → List ℕ → Result Num Stop
decimal negative t =
    if length (digits t) + length (fraction (behind_digits t)) == 0
    || not (length (behind_decimal t) == 0) then Ok NaN
    else decimal_value negative t

-- behind a sign, if there is one: `Infinity`, which is past every number, or a decimal literal
unfoldable pub unsigned : List ℕ → List ℕ
unsigned t = if is_sign (char_at t 0) then drop 1 t else t

unfoldable pub signed_literal : List ℕ → Result Num Stop
signed_literal t =
    if same_text (unsigned t) (codes "Infinity") then Err Range
    else decimal (char_at t 0 == 45) (unsigned t)

-- `0x` or `0X` and hexadecimal digits
unfoldable pub is_hexadecimal : List ℕ → Bool
is_hexadecimal t =
    begins_hexadecimal t && not (length (drop 2 t) == 0) && list_all is_ascii_hexdigit (drop 2 t)

-- a text without white space at its ends: nothing is 0
unfoldable pub literal : List ℕ → Result Num Stop
literal t =
    if length t == 0 then Ok (Whole (pos 0))
    else if is_hexadecimal t then judged false (digits_value 16 (drop 2 t)) 1
    else signed_literal t

unfoldable pub text_to_number : List ℕ → Result Num Stop
text_to_number t = literal (before_blanks (behind_blanks t))
