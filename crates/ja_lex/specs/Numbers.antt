-- Numeric literals (7.8.3).
use Rattle.std.specs.Prelude.{ℕ, ◌+◌, ◌-◌, Bool, false, ◌&&◌, ◌||◌, ◌==◌, if◌then◌else◌, List, [], length, drop, Result, Ok}
use Rattle.std.specs.List.{take_while}
use Rattle.std.specs.Str.Parse.{digits_value}
use Rattle.ja_base.specs.declared.ids.ScopeKind.TheVariants as scope
use Rattle.ja_prim.specs.declared.primitive.Num.{Num}
use Rattle.ja_prim.specs.declared.primitive.Num.TheVariants.{Whole}
use Rattle.ja_prim.specs.declared.stop.Stop.{Stop}
use Rattle.ja_lex.specs.declared.token.TokenFault.TheVariants.{Scope, Lexical}
use Rattle.ja_lex.specs.declared.token.TokenKind.TheVariants as kind
use Rattle.ja_lex.specs.declared.element.Element.{Element}
use Rattle.ja_lex.specs.declared.element.Element.TheVariants as element
use Rattle.ja_prim.specs.Characters.{char_at, is_digit, is_hexadecimal, is_part, is_escape}
use Rattle.ja_prim.specs.Numerals.{behind_decimal, decimal_value, begins_hexadecimal}
use Rattle.ja_prim.specs.Judged.{judged}
use Rattle.ja_lex.specs.Marks.{bad}

-- how many characters the longest decimal literal is
abbrev pub decimal_length : List ℕ → ℕ
decimal_length cs = length cs - length (behind_decimal cs)

-- the hexadecimal digits behind `0x` or `0X`, if these stand there
unfoldable pub hexadecimal_digits : List ℕ → List ℕ
hexadecimal_digits cs = if begins_hexadecimal cs then take_while is_hexadecimal (drop 2 cs) else []

-- 0 and a digit
abbrev pub is_octal : List ℕ → Bool
is_octal cs = char_at cs 0 == 48 && is_digit (char_at cs 1)

-- a token of n characters, if the profile has their exact value
abbrev pub of_value : ℕ → Result Num Stop → Element
of_value n (Ok (Whole value)) = element.Token (kind.Number value) n
of_value n _ = bad (Scope scope.Number)

-- at an index an identifier or a digit goes on
abbrev pub is_run_into : List ℕ → ℕ → Bool
is_run_into cs i = is_part (char_at cs i) || is_escape cs i

-- A literal of n characters and its exact value. No identifier and no digit may stand right behind
-- it.
abbrev pub literal : List ℕ → ℕ → Result Num Stop → Element
literal cs n value = if is_run_into cs n then bad Lexical else of_value n value

unfoldable pub number : List ℕ → Element
number cs =
    let hex = hexadecimal_digits cs in
    if is_octal cs then bad (Scope scope.Octal)
    else if length hex == 0 then literal cs (decimal_length cs) (decimal_value false cs)
    else literal cs (2 + length hex) (judged false (digits_value 16 hex) 1)
