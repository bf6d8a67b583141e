-- The forms of which the productions of the grammar are made. A rule relates tokens, what they say,
-- and the tokens that are left.
use Rattle.std.specs.Prelude.{◌≡◌, ◌≢◌, false, List, [], ◌∷◌}
use Rattle.ja_lex.specs.declared.token.Token.{Token}
use Rattle.ja_syntax.specs.declared.symbol.Symbol.{Symbol}
use Rattle.ja_syntax.specs.declared.symbol.Symbol.TheVariants.{Comma}
use Rattle.ja_grammar.specs.declared.fault.Refusal.TheVariants.{Deep}
use Rattle.ja_grammar.specs.Input.{Tokens, symbol, next, Rules}

abbrev pub Rule : Type 0 → Type 1
Rule X = Tokens → X → Tokens → Type 0

-- the token has the symbol
abbrev pub Is : Symbol → Token → Type 0
Is k t = symbol t ≡ k

-- the next token has the symbol
abbrev pub At : Symbol → Tokens → Type 0
At k i = next i ≡ k

-- the next token has not the symbol
abbrev pub NotAt : Symbol → Tokens → Type 0
NotAt k i = next i ≢ k

-- a level is left for the next token, which counts
abbrev pub HasRoom : Rules → Tokens → Type 0
HasRoom g i = g Deep i ≡ false

-- as many as there are: the tokens behind satisfy `Stop`
pub data Many {X : Type 0} (One : Rule X) (Stop : Tokens → Type 0) : Tokens → List X → Tokens
    → Type 0 where
  none : {r : Tokens} → Stop r → Many One Stop r [] r
  more : {i m r : Tokens} {x : X} {xs : List X} → One i x m → Many One Stop m xs r
      → Many One Stop i (x ∷ xs) r

-- a token and one behind it
pub data Led {X : Type 0} (k : Symbol) (One : Rule X) : Tokens → X → Tokens → Type 0 where
  led : {t : Token} {i r : Tokens} {x : X} → Is k t → One i x r → Led k One (t ∷ i) x r

-- one or more with commas between
pub data Separated {X : Type 0} (One : Rule X) : Tokens → List X → Tokens → Type 0 where
  separated : {i m r : Tokens} {x : X} {xs : List X} → One i x m
      → Many (Led Comma One) (NotAt Comma) m xs r → Separated One i (x ∷ xs) r

-- any number with commas between, and a closing token
pub data Listed {X : Type 0} (close : Symbol) (One : Rule X) : Tokens → List X → Tokens
    → Type 0 where
  empty : {t : Token} {r : Tokens} → Is close t → Listed close One (t ∷ r) [] r
  some : {t : Token} {i r : Tokens} {xs : List X} → NotAt close i → Separated One i xs (t ∷ r)
      → Is close t → Listed close One i xs r
