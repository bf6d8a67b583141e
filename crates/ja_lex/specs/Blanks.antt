-- Comments (7.4).
use Rattle.std.specs.Prelude.{ℕ, suc, ◌+◌, Bool, not, ◌&&◌, ◌==◌, if◌then◌else◌, List, [], ◌∷◌, drop, Option, Some, None}
use Rattle.std.specs.Option.{option_map}
use Rattle.ja_lex.specs.declared.token.TokenFault.TheVariants.{Lexical}
use Rattle.ja_lex.specs.declared.element.Element.{Element}
use Rattle.ja_lex.specs.declared.element.Element.TheVariants as element
use Rattle.ja_prim.specs.Characters.{char_at, is_terminator}
use Rattle.ja_lex.specs.Marks.{bad}

-- no line terminator
unfoldable pub is_in_line : ℕ → Bool
is_in_line c = not (is_terminator c)

-- how many characters there are up to the first `*/`, with it
unfoldable pub closing : List ℕ → Option ℕ
closing [] = None
closing (c ∷ cs) = if c == 42 && char_at cs 0 == 47 then Some 2 else option_map suc (closing cs)

abbrev pub closed : Option ℕ → Element
closed None = bad Lexical
closed (Some n) = element.Blank (2 + n)

-- a comment that begins with `/*`
unfoldable pub long_comment : List ℕ → Element
long_comment cs = closed (closing (drop 2 cs))
