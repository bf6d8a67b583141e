-- The trees of the built-in functions' texts. They are written as what reading comes to, so that
-- they compute. `trees_are_the_grammars` of laws.rt says that by the grammar the texts are these
-- statements (`AreSpelled`), and no others: so nothing of reading has to be believed.
use Rattle.std.specs.Prelude.{◌≡◌, ℕ, suc, Bool, true, false, ◌&&◌, nat_le}
use Rattle.std.specs.Prelude.{List, [], ◌∷◌, ◌++◌, length}
use Rattle.ja_grammar.specs.Input.{strict, Outcome, Done, Refused}
use Rattle.ja_grammar.specs.Language.{Spells, max_levels}
use Rattle.ja_grammar.specs.ReadStatement.{program}
use Rattle.ja_lex.specs.declared.token.Token.{Token}
use Rattle.ja_lex.specs.Tokens.{tokens}
use Rattle.ja_syntax.specs.declared.tree.Statement.{Statement}

-- The tokens of a text with their numbers as places: what no text of a user has stands at line 0.
unfoldable pub numbered : ℕ → List Token → List Token
numbered n [] = []
numbered n (t ∷ ts) = record t { place = record { line = 0; column = n } } ∷ numbered (suc n) ts

abbrev pub outcome_of : List ℕ → Outcome (List Statement)
outcome_of text = program strict max_levels (numbered 1 (tokens text))

abbrev pub is_read : Outcome (List Statement) → Bool
is_read (Done statements rest) = true
is_read (Refused why rest) = false

abbrev pub statements_in : Outcome (List Statement) → List Statement
statements_in (Done statements rest) = statements
statements_in (Refused why rest) = []

-- whether the bytes are a text of the language, and its statements
unfoldable pub is_text : List ℕ → Bool
is_text text = is_read (outcome_of text)

unfoldable pub tree_of : List ℕ → List Statement
tree_of text = statements_in (outcome_of text)

-- by the grammar, a text is these statements
abbrev pub IsSpelled : List ℕ → List Statement → Type 0
IsSpelled text statements = Spells max_levels (numbered 1 (tokens text)) statements

-- .. and texts, one behind the other, are these
abbrev pub AreSpelled : List (List ℕ) → List Statement → Type 0
AreSpelled [] statements = statements ≡ []
AreSpelled (text ∷ texts) statements =
    (tree : List Statement) × (others : List Statement)
    × IsSpelled text tree × AreSpelled texts others × (statements ≡ tree ++ others)

-- the greatest number of tokens of the text of a built-in function, and of its bytes
abbrev pub max_tokens : ℕ
max_tokens = 65536

-- a text of few bytes and tokens
abbrev pub is_few : List ℕ → Bool
is_few text = nat_le (length text) max_tokens && nat_le (length (tokens text)) max_tokens
