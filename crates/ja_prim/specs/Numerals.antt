-- Parts of numeric literals and their exact values (ES3 7.8.3, 9.3.1), over characters or units.
use Rattle.std.specs.Prelude.{ℕ, ◌+◌, ◌*◌, ◌^◌, Bool, ◌&&◌, ◌||◌, ◌==◌, if◌then◌else◌, List, [], ◌++◌, length, drop, Result}
use Rattle.std.specs.List.{prefix_len, take_while}
use Rattle.std.specs.Str.Parse.{digits_value}
use Rattle.ja_prim.specs.declared.primitive.Num.{Num}
use Rattle.ja_prim.specs.declared.stop.Stop.{Stop}
use Rattle.ja_prim.specs.Characters.{char_at, is_digit}
use Rattle.ja_prim.specs.Judged.{judged}

-- the longest beginning of digits, and what stands behind it
unfoldable pub digits : List ℕ → List ℕ
digits cs = take_while is_digit cs

unfoldable pub behind_digits : List ℕ → List ℕ
behind_digits cs = drop (prefix_len is_digit cs) cs

-- of what may begin with `.`: the digits behind it, and what stands behind both
unfoldable pub fraction : List ℕ → List ℕ
fraction cs = if char_at cs 0 == 46 then digits (drop 1 cs) else []

unfoldable pub behind_fraction : List ℕ → List ℕ
behind_fraction cs = if char_at cs 0 == 46 then behind_digits (drop 1 cs) else cs

-- `+` or `-`
abbrev pub is_sign : ℕ → Bool
is_sign c = c == 43 || c == 45

-- `e` or `E`
abbrev pub is_exponent_letter : ℕ → Bool
is_exponent_letter c = c == 101 || c == 69

-- what stands behind an exponent's letter and its sign, if it has one
unfoldable pub power : List ℕ → List ℕ
power cs = if is_sign (char_at cs 1) then drop 2 cs else drop 1 cs

-- of what may begin with an exponent, `e` or `E`, a sign or none, and digits: these digits, and
-- what stands behind it
unfoldable pub exponent : List ℕ → List ℕ
exponent cs = if is_exponent_letter (char_at cs 0) then digits (power cs) else []

unfoldable pub behind_exponent : List ℕ → List ℕ
behind_exponent cs = if length (exponent cs) == 0 then cs else behind_digits (power cs)

-- what stands behind the longest decimal literal: digits, a fraction or none, and an exponent or
-- none
unfoldable pub behind_decimal : List ℕ → List ℕ
behind_decimal cs = behind_exponent (behind_fraction (behind_digits cs))

-- m * 10^e, or m * 10^-e, with a point before the last f digits of m
unfoldable pub placed : Bool → Bool → ℕ → ℕ → ℕ → Result Num Stop
placed negative below m e f =
    if below then judged negative m (10 ^ (e + f)) else judged negative (m * 10 ^ e) (10 ^ f)

-- the exact value of the longest decimal literal, or its opposite
unfoldable pub decimal_value : Bool → List ℕ → Result Num Stop
decimal_value negative cs =
    let places = fraction (behind_digits cs) in
    let rest = behind_fraction (behind_digits cs) in
    placed negative (char_at rest 1 == 45) (digits_value 10 (digits cs ++ places))
    (digits_value 10 (exponent rest)) (length places)

-- `0x` or `0X` stands first
abbrev pub begins_hexadecimal : List ℕ → Bool
begins_hexadecimal cs = char_at cs 0 == 48 && (char_at cs 1 == 120 || char_at cs 1 == 88)
