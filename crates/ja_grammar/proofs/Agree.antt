-- What the laws of a rule take for granted of the parts that it reads one level below.
use Rattle.std.proofs.Common.{◌≡◌, false}
use Rattle.ja_syntax.specs.declared.tree.Expression.{Expression}
use Rattle.ja_syntax.specs.declared.tree.Statement.{Statement}
use Rattle.ja_grammar.specs.declared.fault.Refusal.{Refusal}
use Rattle.ja_grammar.specs.declared.part.ExpressionPart.{ExpressionPart}
use Rattle.ja_grammar.specs.declared.part.StatementPart.{StatementPart}
use Rattle.ja_grammar.specs.Contexts.{Context}
use Rattle.ja_grammar.specs.ExpressionGrammar.{Nested}
use Rattle.ja_grammar.specs.Input.{Tokens, Done, Rules}
use Rattle.ja_grammar.specs.ReadExpression.{Below}
use Rattle.ja_grammar.proofs.Shrinks.{Takes}

-- what these rules don't ask, those don't ask
abbrev pub Milder : Rules → Rules → Type 0
Milder g g' = (why : Refusal) (i : Tokens) → g why i ≡ false → g' why i ≡ false

-- a part takes a token
pub record BelowTakes (b : Below) : Type 0 where
  pub expression : (p : ExpressionPart) → Takes (b.expression p)
  pub statement : (c : Context) (p : StatementPart) → Takes (b.statement c p)

-- a part of the grammar is read, perhaps with more levels
pub record Covers (n : Nested) (b : Below) : Type 0 where
  pub expression_all : (p : ExpressionPart) (i : Tokens) (x : Expression) (r : Tokens)
      → n.expression p i x r → b.expression p i ≡ Done x r
  pub statement_all : (c : Context) (p : StatementPart) (i : Tokens) (x : Statement) (r : Tokens)
      → n.statement c p i x r → b.statement c p i ≡ Done x r

-- a part of the grammar is read (all), and what is read is a part of the grammar (is)
pub record Agrees (n : Nested) (b : Below) : Type 0 where
  pub expression_all : (p : ExpressionPart) (i : Tokens) (x : Expression) (r : Tokens)
      → n.expression p i x r → b.expression p i ≡ Done x r
  pub expression_is : (p : ExpressionPart) (i : Tokens) (x : Expression) (r : Tokens)
      → b.expression p i ≡ Done x r → n.expression p i x r
  pub statement_all : (c : Context) (p : StatementPart) (i : Tokens) (x : Statement) (r : Tokens)
      → n.statement c p i x r → b.statement c p i ≡ Done x r
  pub statement_is : (c : Context) (p : StatementPart) (i : Tokens) (x : Statement) (r : Tokens)
      → b.statement c p i ≡ Done x r → n.statement c p i x r
