-- Characters and units of texts by their codes, and the classes that the lexical grammar speaks of
-- (ES3 7).
use Rattle.std.specs.Prelude.{ℕ, ◌+◌, Bool, ◌&&◌, ◌||◌, ◌==◌, nat_lt, nat_le, List, slice_index}
use Rattle.std.specs.Char.{is_ascii_hexdigit, is_ascii_alphanumeric}
use Rattle.std.specs.Int.{is_in_range}

-- The character or unit at an index. Past the end it is 0, which no rule asks for.
abbrev pub char_at : List ℕ → ℕ → ℕ
char_at cs i = slice_index cs i

abbrev pub is_ascii : ℕ → Bool
is_ascii c = nat_lt c 128

-- LF, CR, U+2028, U+2029 (7.3)
unfoldable pub is_terminator : ℕ → Bool
is_terminator c = c == 0xA || c == 0xD || c == 0x2028 || c == 0x2029

-- TAB, VT, FF, SP, NBSP, and the others of Unicode's category Zs (7.2)
unfoldable pub is_white : ℕ → Bool
is_white c =
    c == 0x9 || c == 0xB || c == 0xC || c == 0x20 || c == 0xA0 || c == 0x1680
    || is_in_range 0x2000 0x200A c || c == 0x202F || c == 0x205F || c == 0x3000

abbrev pub is_blank : ℕ → Bool
is_blank c = is_white c || is_terminator c

-- 0 to 9 (7.8.3)
abbrev pub is_digit : ℕ → Bool
is_digit c = nat_le 48 c && nat_le c 57

-- 0 to 9, a to f, A to F (7.8.3)
unfoldable pub is_hexadecimal : ℕ → Bool
is_hexadecimal c = is_ascii_hexdigit c

-- a letter, a digit, `_` or `$`: what an identifier is made of (7.6, of ASCII alone)
unfoldable pub is_part : ℕ → Bool
is_part c = is_ascii_alphanumeric c || c == 95 || c == 36

-- `\u` and four hexadecimal digits stand at an index (7.8.4)
unfoldable pub is_escape : List ℕ → ℕ → Bool
is_escape cs i = char_at cs i == 92 && char_at cs (i + 1) == 117
    && is_hexadecimal (char_at cs (i + 2)) && is_hexadecimal (char_at cs (i + 3))
    && is_hexadecimal (char_at cs (i + 4)) && is_hexadecimal (char_at cs (i + 5))
