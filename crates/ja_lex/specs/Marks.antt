-- Punctuators (7.7), and what stands where nothing of the lexical grammar does.
use Rattle.std.specs.Prelude.{ℕ, Bool, true, false, ◌&&◌, ◌==◌, nat_lt, if◌then◌else◌, List, [], ◌∷◌, length, codes}
use Rattle.ja_base.specs.declared.ids.ScopeKind.TheVariants as scope
use Rattle.ja_lex.specs.declared.token.TokenFault.{TokenFault}
use Rattle.ja_lex.specs.declared.token.TokenFault.TheVariants.{Scope, Lexical}
use Rattle.ja_lex.specs.declared.token.TokenKind.TheVariants as kind
use Rattle.ja_lex.specs.declared.element.Element.{Element}
use Rattle.ja_lex.specs.declared.element.Element.TheVariants as element
use Rattle.ja_prim.specs.Characters.{char_at, is_ascii}

-- a refusal, whose span is its first character
abbrev pub bad : TokenFault → Element
bad fault = element.Token (kind.Bad fault) 1

-- the characters begin with those of a mark
unfoldable pub begins_with : List ℕ → List ℕ → Bool
begins_with [] cs = true
begins_with (m ∷ ms) [] = false
begins_with (m ∷ ms) (c ∷ cs) = m == c && begins_with ms cs

-- the longer of a list and a mark, if the characters begin with the mark
abbrev pub longer : List ℕ → List ℕ → List ℕ → List ℕ
longer best m cs = if nat_lt (length best) (length m) && begins_with m cs then m else best

-- the longest of a list and the marks of a table that the characters begin with
abbrev pub longest : List ℕ → List (List ℕ) → List ℕ → List ℕ
longest best [] cs = best
longest best (m ∷ ms) cs = longest (longer best m cs) ms cs

-- the punctuators and the div punctuators (7.7)
unfoldable pub marks : List (List ℕ)
marks =
    codes "{" ∷ codes "}" ∷ codes "(" ∷ codes ")" ∷ codes "[" ∷ codes "]" ∷ codes "." ∷ codes ";"
    ∷ codes "," ∷ codes "<" ∷ codes ">" ∷ codes "<=" ∷
    codes ">=" ∷ codes "==" ∷ codes "!=" ∷ codes "===" ∷ codes "!==" ∷ codes "+" ∷ codes "-"
    ∷ codes "*" ∷ codes "%" ∷ codes "++" ∷ codes "--" ∷
    codes "<<" ∷ codes ">>" ∷ codes ">>>" ∷ codes "&" ∷ codes "|" ∷ codes "^" ∷ codes "!"
    ∷ codes "~" ∷ codes "&&" ∷ codes "||" ∷ codes "?" ∷
    codes ":" ∷ codes "=" ∷ codes "+=" ∷ codes "-=" ∷ codes "*=" ∷ codes "%=" ∷ codes "<<="
    ∷ codes ">>=" ∷ codes ">>>=" ∷ codes "&=" ∷ codes "|=" ∷
    codes "^=" ∷ codes "/" ∷ codes "/=" ∷ []

-- why no token begins with a character that no rule takes: past ASCII it leaves the profile
abbrev pub stranger : ℕ → TokenFault
stranger c = if is_ascii c then Lexical else Scope scope.NonAscii

abbrev pub mark_or : Element → List ℕ → Element
mark_or other [] = other
mark_or other (m ∷ ms) = element.Token (kind.Mark (m ∷ ms)) (length (m ∷ ms))

-- the longest mark that stands there
unfoldable pub mark : List ℕ → Element
mark cs = mark_or (bad (stranger (char_at cs 0))) (longest [] marks cs)
