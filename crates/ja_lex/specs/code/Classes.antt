-- The classes of characters whose longest beginnings the lexer looks for.
use Rattle.std.specs.Prelude.{ℕ, Bool}
use Rattle.ja_lex.specs.declared.characters.Class.{Class}
use Rattle.ja_lex.specs.declared.characters.Class.TheVariants.{InLine, Part, Digit, Hexadecimal}
use Rattle.ja_prim.specs.Characters.{is_part, is_digit, is_hexadecimal}
use Rattle.ja_lex.specs.Blanks.{is_in_line}

abbrev pub passes : Class → ℕ → Bool
passes InLine = is_in_line
passes Part = is_part
passes Digit = is_digit
passes Hexadecimal = is_hexadecimal
