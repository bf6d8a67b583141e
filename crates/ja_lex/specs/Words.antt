-- Identifiers and reserved words (7.5, 7.6).
use Rattle.std.specs.Prelude.{ℕ, nat_lt, if◌then◌else◌, List}
use Rattle.std.specs.List.{prefix_len, take_while}
use Rattle.ja_base.specs.declared.ids.ScopeKind.TheVariants as scope
use Rattle.ja_lex.specs.declared.token.TokenFault.TheVariants.{Scope}
use Rattle.ja_lex.specs.declared.token.TokenKind.TheVariants as kind
use Rattle.ja_lex.specs.declared.element.Element.{Element}
use Rattle.ja_lex.specs.declared.element.Element.TheVariants as element
use Rattle.ja_prim.specs.Characters.{is_part, is_escape}
use Rattle.ja_prim.specs.Texts.{max_units}
use Rattle.ja_lex.specs.Marks.{bad}

-- The longest beginning of letters, digits, `_` and `$`. An escape right behind it goes on with the
-- identifier, and is refused.
unfoldable pub word : List ℕ → Element
word cs =
    if is_escape cs (prefix_len is_part cs) then bad (Scope scope.IdentifierEscape)
    else if nat_lt max_units (prefix_len is_part cs) then bad (Scope scope.TextLength)
    else element.Token (kind.Word (take_while is_part cs)) (prefix_len is_part cs)
