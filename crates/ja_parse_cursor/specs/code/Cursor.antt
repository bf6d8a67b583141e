-- What a `Cursor` shows, and what it keeps ready.
use Rattle.std.specs.Prelude.{◌≡◌}
use Rattle.ja_parse_cursor.specs.declared.cursor.Cursor.TheInside.{Inside}
use Rattle.ja_grammar.specs.Input.{Tokens, next}

-- the tokens that are left
abbrev pub tokens_of : Inside → Tokens
tokens_of c = c.rest.now

-- the symbol is that of the next token
abbrev pub IsReady : Inside → Type 0
IsReady c = c.symbol ≡ next c.rest.now
