-- What reads tokens: how reading ends, and the steps that every rule is made of.
use Rattle.std.specs.Prelude.{ℕ, zero, suc, Bool, true, false, ◌==◌, if◌then◌else◌, List, [], ◌∷◌, ◌++◌, length, Option, Some, None}
use Rattle.ja_lex.specs.declared.token.Token.{Token}
use Rattle.ja_lex.specs.declared.token.TokenKind.TheVariants.{End}
use Rattle.ja_syntax.specs.declared.symbol.Symbol.{Symbol}
use Rattle.ja_syntax.specs.declared.symbol.Symbol.TheVariants.{Comma}
use Rattle.ja_syntax.specs.Symbols.{symbol_of, same_symbol}
use Rattle.ja_grammar.specs.declared.fault.Refusal.{Refusal}
use Rattle.ja_grammar.specs.declared.fault.Refusal.TheVariants.{Unexpected, Deep, DeepLabel}

abbrev pub Tokens : Type 0
Tokens = List Token

-- what stands behind the last token
abbrev pub end_token : Token
end_token =
    record {
      kind = End;
      start = 0;
      end = 0;
      line_before = false;
      place = record { line = 0; column = 0 };
    }

-- the next token
abbrev pub head : Tokens → Token
head [] = end_token
head (t ∷ i) = t

-- the symbol of a token
abbrev pub symbol : Token → Symbol
symbol t = symbol_of t.kind

-- the symbol of the next token
abbrev pub next : Tokens → Symbol
next i = symbol (head i)

-- a line terminator stands before the next token
abbrev pub new_line : Tokens → Bool
new_line i = (head i).line_before

-- the tokens behind the next one
abbrev pub behind : Tokens → Tokens
behind [] = []
behind (t ∷ i) = i

-- Reading gives a value and leaves the rest, or it ends at the first token of the rest.
pub data Outcome (A : Type 0) : Type 0 where
  Done : A → Tokens → Outcome A
  Refused : Refusal → Tokens → Outcome A

abbrev pub Parser : Type 0 → Type 0
Parser A = Tokens → Outcome A

abbrev pub and_then : {A B : Type 0} → Outcome A → (A → Parser B) → Outcome B
and_then (Done a i) f = f a i
and_then (Refused why i) f = Refused why i

infixl 10 ◌>>=◌
abbrev pub ◌>>=◌ : {A B : Type 0} → Parser A → (A → Parser B) → Parser B
p >>= f = λ i. and_then (p i) f

infixl 10 ◌>>◌
abbrev pub ◌>>◌ : {A B : Type 0} → Parser A → Parser B → Parser B
p >> q = p >>= (λ _. q)

abbrev pub pure : {A : Type 0} → A → Parser A
pure a = λ i. Done a i

abbrev pub refuse : {A : Type 0} → Refusal → Parser A
refuse why = λ i. Refused why i

-- goes on by the next token
abbrev pub look : {A : Type 0} → (Token → Parser A) → Parser A
look f = λ i. f (head i) i

-- goes on by the next two tokens
abbrev pub look_second : {A : Type 0} → (Token → Token → Parser A) → Parser A
look_second f = λ i. f (head i) (head (behind i)) i

-- takes the next token
abbrev pub take_token : Parser Token
take_token = λ i. Done (head i) (behind i)

-- ---- rules

-- Which rules are asked before tokens: whether there is this refusal.
abbrev pub Rules : Type 0
Rules = Refusal → Tokens → Bool

-- the rules of the language, where so many levels are left
unfoldable pub strict : ℕ → Rules
strict d Deep i = d == 0
strict d (DeepLabel place) i = d == 0
strict d _ i = true

-- reads, unless the rule of a refusal is asked
abbrev pub unless : {A : Type 0} → Rules → Refusal → Parser A → Parser A
unless g why p = λ i. if g why i then Refused why i else p i

-- takes a token that counts
unfoldable pub enter : Rules → Parser Token
enter g = unless g Deep take_token

-- takes a token with this symbol, which counts
unfoldable pub opening : Rules → Symbol → Parser Token
opening g k = λ i. if same_symbol (next i) k then enter g i else Refused Unexpected i

-- takes a token with this symbol
unfoldable pub expect : Symbol → Parser Token
expect k = λ i. if same_symbol (next i) k then Done (head i) (behind i) else Refused Unexpected i

-- ---- lists; each turn that goes on takes a token, so the count of tokens bounds the turns

-- after a turn: None ends the list
abbrev pub after_turn : {A : Type 0} → A → (A → Parser A) → Option A → Parser A
after_turn a go None = pure a
after_turn a go (Some b) = go b

unfoldable pub many_from : {A : Type 0} → (A → Parser (Option A)) → ℕ → A → Parser A
many_from turn zero a = pure a
many_from turn (suc n) a = turn a >>= after_turn a (many_from turn n)

abbrev pub many : {A : Type 0} → (A → Parser (Option A)) → A → Parser A
many turn a = λ i. many_from turn (length i) a i

-- one more item of a list, unless it ends
abbrev pub until_by : {A : Type 0} → Parser A → List A → Bool → Parser (Option (List A))
until_by item found true = pure None
until_by item found false = item >>= (λ x. pure (Some (found ++ x ∷ [])))

-- items up to the first token whose symbol ends the list
unfoldable pub until : {A : Type 0} → (Symbol → Bool) → Parser A → Parser (List A)
until ends item = many (λ found. look (λ t. until_by item found (ends (symbol t)))) []

-- `, ITEM` behind a list, if a comma comes next
abbrev pub after_comma : {A : Type 0} → Parser A → List A → Bool → Parser (Option (List A))
after_comma item found false = pure None
after_comma item found true = take_token >> (item >>= (λ x. pure (Some (found ++ x ∷ []))))

-- one or more items with commas between
unfoldable pub separated : {A : Type 0} → Parser A → Parser (List A)
separated item =
    item >>= (λ x. many (λ found. look (λ t. after_comma item found (same_symbol (symbol t) Comma)))
    (x ∷ []))

abbrev pub listed_by : {A : Type 0} → Symbol → Parser A → Bool → Parser (List A)
listed_by close item true = take_token >> pure []
listed_by close item false = separated item >>= (λ xs. expect close >> pure xs)

-- any number of items with commas between, and a closing token behind
unfoldable pub listed : {A : Type 0} → Symbol → Parser A → Parser (List A)
listed close item = look (λ t. listed_by close item (same_symbol (symbol t) close))
