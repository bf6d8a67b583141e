-- Function values that read the parts one level below.
use Rattle.std.specs.Prelude.{ℕ, ◌<◌, ◌-◌, Result}
use Rattle.std.specs.declared.alloc.Global.{Global}
use denote.Ref.{Bor, MutBor}
use Rattle.ja_syntax.specs.declared.tree.Expression.{Expression}
use Rattle.ja_syntax.specs.declared.tree.Statement.{Statement}
use Rattle.ja_grammar.specs.declared.context.Context.{Context as Stored}
use Rattle.ja_grammar.specs.declared.fault.Stop.{Stop}
use Rattle.ja_grammar.specs.declared.part.ExpressionPart.{ExpressionPart}
use Rattle.ja_grammar.specs.declared.part.StatementPart.{StatementPart}
use Rattle.ja_grammar.specs.code.Contexts.{context_of}
use Rattle.ja_grammar.specs.Input.{Tokens, strict}
use Rattle.ja_grammar.specs.code.Input.{Follows}
use Rattle.ja_grammar.specs.ReadExpression.{expression_part}
use Rattle.ja_grammar.specs.ReadStatement.{below, statement_part}
use Rattle.ja_parse_expressions.specs.declared.grammar.Piece.{Piece}
use Rattle.ja_parse_expressions.specs.declared.grammar.Piece.TheVariants as of
use Rattle.ja_parse_expressions.specs.code.Pieces.{piece}

-- the types of what may be called with what, and of what a call may give
abbrev pub StatementCall : Type 1
StatementCall = Global → MutBor Tokens → ℕ → Bor Stored → StatementPart → Type 0

abbrev pub StatementResult : Type 1
StatementResult =
    Global → MutBor Tokens → ℕ → Bor Stored → StatementPart → Result Statement Stop → MutBor Tokens
    → Type 0

abbrev pub ExpressionCall : Type 0 → Type 1
ExpressionCall G = Global → MutBor Tokens → ℕ → Piece → Bor G → Type 0

abbrev pub ExpressionResult : Type 0 → Type 1
ExpressionResult G =
    Global → MutBor Tokens → ℕ → Piece → Bor G → Result Expression Stop → MutBor Tokens → Type 0

-- a function that reads the parts of statements that stand where fewer levels are left
pub record Nests (depth : ℕ) (call : StatementCall) (result : StatementResult) : Type 0 where
  pub callable : (d : ℕ) → d < depth → (alloc : Global) (old : MutBor Tokens) (context : Bor Stored)
      (part : StatementPart)
      → call alloc old d context part
  pub reads : (d : ℕ) → d < depth → (alloc : Global) (old new : MutBor Tokens)
      (context : Bor Stored) (part : StatementPart) (r : Result Statement Stop)
      → result alloc old d context part r new
      → Follows (statement_part (strict d) (below strict d) (context_of context.now) part old.now) r
      new.now

-- a function that reads the parts of expressions one level below, and functions, given one that
-- reads statements
pub record Reads {G : Type 0} (depth : ℕ) (statement : Bor G) (call : ExpressionCall G)
    (result : ExpressionResult G) : Type 0 where
  pub callable : 0 < depth → (alloc : Global) (old : MutBor Tokens) (part : ExpressionPart)
      → call alloc old (depth - 1) (of.Part part) statement
  pub reads : 0 < depth → (alloc : Global) (old new : MutBor Tokens) (part : ExpressionPart)
      (r : Result Expression Stop)
      → result alloc old (depth - 1) (of.Part part) statement r new
      → Follows (expression_part (strict (depth - 1)) (below strict (depth - 1)) part old.now) r
      new.now
  pub function_callable : (alloc : Global) (old : MutBor Tokens)
      → call alloc old depth of.Function statement
  pub function_reads : (alloc : Global) (old new : MutBor Tokens) (r : Result Expression Stop)
      → result alloc old depth of.Function statement r new
      → Follows (piece (strict depth) (below strict depth) of.Function old.now) r new.now
