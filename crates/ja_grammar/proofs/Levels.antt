-- What the place laws of a rule take for granted: of the refusals, and of the parts that are read
-- one level below, with fewer levels (b) and with more (c).
use Rattle.std.proofs.Common.{◌≡◌, ◌≢◌, refl, ℕ, Bool, true, false, List, [], ◌∷◌, ◌++◌}
use Rattle.ja_base.specs.declared.ids.Place.{Place}
use Rattle.ja_lex.specs.declared.token.Token.{Token}
use Rattle.ja_lex.specs.declared.token.TokenKind.TheVariants.{Word}
use Rattle.ja_syntax.specs.declared.symbol.Symbol.{Symbol}
use Rattle.ja_syntax.specs.declared.symbol.Symbol.TheVariants as k
use Rattle.ja_syntax.specs.declared.tree.Expression.{Expression}
use Rattle.ja_syntax.specs.declared.tree.Statement.{Statement}
use Rattle.ja_grammar.specs.declared.fault.Refusal.{Refusal}
use Rattle.ja_grammar.specs.declared.fault.Refusal.TheVariants.{Unexpected, RegExp, Arguments, Deep, DeepLabel, Broken, Operand, Alone, UnknownLabel}
use Rattle.ja_grammar.specs.declared.part.ExpressionPart.{ExpressionPart}
use Rattle.ja_grammar.specs.declared.part.ExpressionPart.TheVariants as part
use Rattle.ja_grammar.specs.declared.part.StatementPart.{StatementPart}
use Rattle.ja_grammar.specs.Contexts.{Context, Label}
use Rattle.ja_grammar.specs.Forms.{begins_suffix}
use Rattle.ja_grammar.specs.Input.{Tokens, symbol, next, head, Done}
use Rattle.ja_grammar.specs.ReadExpression.{Below}
use Rattle.ja_grammar.proofs.Real.{AreRealAfter}
use Rattle.ja_grammar.proofs.Good.{Reason, Follow, Closed, elsewhere, GoodAt, Any}

-- ---- what surely ends an expression, and a statement

unfoldable pub closes : Symbol → Bool
closes k.CloseParenthesis = true
closes k.CloseBracket = true
closes k.CloseBrace = true
closes k.Colon = true
closes k.Semicolon = true
closes _ = false

abbrev pub EndsExpression : Follow
EndsExpression r = closes (next r) ≡ true

-- a brace, the end of the text, or the `while` of a `do`
unfoldable pub ends_block : Symbol → Bool
ends_block k.CloseBrace = true
ends_block k.End = true
ends_block k.While = true
ends_block _ = false

abbrev pub EndsStatement : Follow
EndsStatement r = ends_block (next r) ≡ true

-- ---- what is known of a refusal

-- refusals of which nothing is to be known
abbrev pub is_free : Refusal → Bool
is_free Unexpected = true
is_free RegExp = true
is_free Arguments = true
is_free (Broken place) = true
is_free (UnknownLabel place) = true
is_free _ = false

pub record Reasons {O : Refusal} (J : Reason O) : Type 0 where
  pub closed : Closed J
  pub free : (why : Refusal) (w r : Tokens) → is_free why ≡ true → J.right why w r
  -- what is too deep is a token and no `:`, or the `:` behind a label
  pub deep : (r : Tokens) → next r ≢ k.End → next r ≢ k.Colon → J.right Deep [] r
  pub deep_label : (t : Token) (r : Tokens) → next r ≡ k.Colon
      → J.right (DeepLabel t.place) (t ∷ []) r
  -- an operand stands behind its operator, and ends there; and no label stands behind a `break`
  pub operand : (place : Place) (t u : Token) (w r : Tokens)
      → elsewhere (Operand place) (head r) ≡ true → J.right (Operand place) (t ∷ u ∷ w) r
  pub alone : (place : Place) (t : Token) (r : Tokens) → symbol t ≡ k.Break
      → elsewhere (Alone place) (head r) ≡ true → J.right (Alone place) (t ∷ []) r
  -- so neither is refused behind a name alone
  pub named : (why : Refusal) (t u : Token) (r : Tokens) → symbol t ≡ k.Name
      → J.right why (t ∷ []) r → elsewhere why u ≡ true → ⊥

-- the reason, once a token stands before what was read
abbrev pub owed_reason : {O : Refusal} → Reason O → Reason O
owed_reason J = record {
  right =
      λ why w r. ((t : Token) → J.right why (t ∷ w) r)
      × ((u : Token) → elsewhere why u ≡ true → w ≢ []);
  taken = λ why u r h on. h.1 u on refl;
}

-- ---- the parts one level below

abbrev pub reason_of : {O : Refusal} → Reason O → ExpressionPart → Reason O
reason_of J (part.Whole no_in) = J
reason_of J (part.Assignment no_in) = J
reason_of J part.Unary = J
reason_of J (part.Updated place) = owed_reason J
reason_of J (part.Created place) = J

-- what may follow a part: behind `new` with its arguments, anything
abbrev pub follow_of : ExpressionPart → Follow
follow_of (part.Whole no_in) = EndsExpression
follow_of (part.Assignment no_in) = EndsExpression
follow_of part.Unary = EndsExpression
follow_of (part.Updated place) = EndsExpression
follow_of (part.Created place) = Any

-- a name among these tokens is spelled so
abbrev pub IsNamed : Tokens → List ℕ → Type 0
IsNamed U text =
    (v : Tokens) × (u : Token) × (w : Tokens) × (U ≡ v ++ u ∷ w) × (symbol u ≡ k.Name)
    × (Word text ≡ u.kind)

abbrev pub AllNamed : Tokens → List Label → Type 0
AllNamed U [] = Unit {0}
AllNamed U (l ∷ ls) = IsNamed U l.name × AllNamed U ls

-- the labels of a context stand before it, so that a `break` can be completed
pub record AreNames (U : Tokens) (x : Context) : Type 0 where
  pub all : AllNamed U x.labels

pub record BelowGood {O : Refusal} (J : Reason O) (b c : Below) : Type 0 where
  pub expression : (U : Tokens) (p : ExpressionPart) (i : Tokens)
      → GoodAt U (reason_of J p) (b.expression p) (c.expression p) (follow_of p) Any i
  pub statement : (U : Tokens) (x : Context) → AreNames U x → (p : StatementPart) (i : Tokens)
      → GoodAt U J (b.statement x p) (c.statement x p) EndsStatement Any i

-- tokens, real behind any, that are read as the part
pub record BelowSamples (c : Below) : Type 0 where
  pub expression : (p : ExpressionPart) → (w : Tokens) × (v : Expression) × AreRealAfter [] w
      × ((tail : Tokens) → follow_of p tail → c.expression p (w ++ tail) ≡ Done v tail)
  pub statement : (x : Context) (p : StatementPart)
      → (w : Tokens) × (v : Statement) × AreRealAfter [] w
      × ((tail : Tokens) → EndsStatement tail → c.statement x p (w ++ tail) ≡ Done v tail)

-- What is read behind a `new` doesn't depend on what follows, as long as that is no member or call.
pub record Ahead (b : Below) : Type 0 where
  pub created : (place : Place) (w m x : Tokens) (v : Expression) → begins_suffix (next m) ≡ false
      → begins_suffix (next x) ≡ false
      → b.expression (part.Created place) (w ++ m) ≡ Done v m
      → b.expression (part.Created place) (w ++ x) ≡ Done v x
