-- The grammar of statements (ES3 12) and of programs (14), one clause a production, with semicolons
-- inserted by 7.9. As in that of expressions, the clauses in which a rule isn't asked stand last.
use Rattle.std.specs.Prelude.{◌≡◌, ℕ, zero, suc, Bool, true, false, List, [], ◌∷◌, Option, Some, None}
use Rattle.ja_base.specs.declared.ids.Place.{Place}
use Rattle.ja_lex.specs.declared.token.Token.{Token}
use Rattle.ja_syntax.specs.declared.symbol.Symbol.{Symbol}
use Rattle.ja_syntax.specs.declared.symbol.Symbol.TheVariants as k
use Rattle.ja_syntax.specs.declared.tree.Case.{Case, roll-Case}
use Rattle.ja_syntax.specs.declared.tree.CatchOf.{CatchOf}
use Rattle.ja_syntax.specs.declared.tree.Declaration.{Declaration}
use Rattle.ja_syntax.specs.declared.tree.Expression.{Expression}
use Rattle.ja_syntax.specs.declared.tree.ForFirst.{ForFirst}
use Rattle.ja_syntax.specs.declared.tree.ForFirst.TheVariants as first
use Rattle.ja_syntax.specs.declared.tree.ForTarget.TheVariants as target
use Rattle.ja_syntax.specs.declared.tree.FunctionOf.{FunctionOf}
use Rattle.ja_syntax.specs.declared.tree.Name.{Name}
use Rattle.ja_syntax.specs.declared.tree.Statement.{Statement}
use Rattle.ja_syntax.specs.declared.tree.Statement.TheVariants as s
use Rattle.ja_syntax.specs.References.{is_reference}
use Rattle.ja_grammar.specs.declared.fault.Refusal.TheVariants.{DeepLabel, Broken, Alone, UnknownLabel}
use Rattle.ja_grammar.specs.declared.part.ExpressionPart.TheVariants as of_expression
use Rattle.ja_grammar.specs.declared.part.StatementPart.{StatementPart}
use Rattle.ja_grammar.specs.declared.part.StatementPart.TheVariants as part
use Rattle.ja_grammar.specs.Contexts.{Context, program_context, loop_context, switch_context, labelled_context, has_label, has_loop, may_break}
use Rattle.ja_grammar.specs.ExpressionGrammar.{Nested, Declared, Function, Assignment, Whole, ExpressionRule}
use Rattle.ja_grammar.specs.Forms.{word, name_of, begins_statement, is_label, is_label_behind, ends_return, ends_clause}
use Rattle.ja_grammar.specs.Input.{Tokens, next, new_line, head, behind, Rules}
use Rattle.ja_grammar.specs.Productions.{Rule, Is, At, NotAt, HasRoom, Many, Separated}

-- The end of a statement: `;`, or before `}`, the text's end or a new line a semicolon is inserted
-- (7.9).
pub data Ended : Tokens → Tokens → Type 0 where
  semicolon : {t : Token} {r : Tokens} → Is k.Semicolon t → Ended (t ∷ r) r
  before_brace : {r : Tokens} → At k.CloseBrace r → Ended r r
  at_end : {r : Tokens} → At k.End r → Ended r r
  at_line : {r : Tokens} → new_line r ≡ true → NotAt k.Semicolon r → Ended r r

-- statements between `{` and `}` (12.1)
pub data Block (g : Rules) (n : Nested) (c : Context) : Tokens → List Statement → Tokens
    → Type 0 where
  block : {t u : Token} {i r : Tokens} {xs : List Statement} → Is k.OpenBrace t → HasRoom g (t ∷ i)
      → Many (n.statement c (part.Whole 0 false)) (At k.CloseBrace) i xs (u ∷ r) → Is k.CloseBrace u
      → Block g n c (t ∷ i) xs r

-- an expression in parentheses, behind the word of a statement
pub data Bracketed (g : Rules) (n : Nested) : Tokens → Expression → Tokens → Type 0 where
  bracketed : {t u : Token} {i r : Tokens} {x : Expression} → Is k.OpenParenthesis t
      → HasRoom g (t ∷ i) → n.expression (of_expression.Whole false) i x (u ∷ r)
      → Is k.CloseParenthesis u → Bracketed g n (t ∷ i) x r

-- a declared variable, and its value where `=` follows (12.2)
pub data Variable (g : Rules) (Value : Rule Expression) : Tokens → Declaration Expression → Tokens
    → Type 0 where
  alone : {i r : Tokens} {x : Name} → Declared g i x r → NotAt k.Assign r
      → Variable g Value i (record { name = x; initialiser = None }) r
  initialised : {t : Token} {i m r : Tokens} {x : Name} {y : Expression} → Declared g i x (t ∷ m)
      → Is k.Assign t → Value m y r
      → Variable g Value i (record {
        name = x;
        initialiser = Some (record { value = y; place = t.place });
      }) r

-- The label of the `continue` or `break` at a place, if one follows on the line (12.7, 12.8).
pub data Target (g : Rules) (allowed known : List ℕ → Bool) (alone : Bool) (place : Place) : Tokens
    → Option Name → Tokens → Type 0 where
  labelled : {t : Token} {r : Tokens} → is_label_behind t ≡ true → allowed (word t) ≡ true
      → Target g allowed known alone place (t ∷ r) (Some (name_of t)) r
  unlabelled : {r : Tokens} → alone ≡ true → is_label_behind (head r) ≡ false
      → Target g allowed known alone place r None r
  -- ---- none of the language: a label around that is not allowed; no label
  known : {t : Token} {r : Tokens} → is_label_behind t ≡ true → allowed (word t) ≡ false
      → known (word t) ≡ true → g (Broken place) (t ∷ r) ≡ false
      → Target g allowed known alone place (t ∷ r) (Some (name_of t)) r
  alone : {r : Tokens} → alone ≡ false → is_label_behind (head r) ≡ false
      → g (Alone place) r ≡ false → Target g allowed known alone place r None r

-- None of the language: the word of a jump where there is nothing to leave, and a label behind it
-- that is none around.
pub data Untargeted (g : Rules) (c : Context) : Tokens → Name → Tokens → Type 0 where
  untargeted : {t u : Token} {i r : Tokens} → is_label_behind u ≡ true
      → has_label c (word u) ≡ false → g (UnknownLabel u.place) (t ∷ u ∷ i) ≡ false
      → Ended i r → Untargeted g c (t ∷ u ∷ i) (name_of u) r

-- the value of a `return` (12.9)
pub data Returned (g : Rules) (n : Nested) : Tokens → Option Expression → Tokens → Type 0 where
  nothing : {r : Tokens} → ends_return (head r) ≡ true → Returned g n r None r
  value : {i r : Tokens} {x : Expression} → ends_return (head i) ≡ false → Whole g n false i x r
      → Returned g n i (Some x) r

-- the statements of a clause of a `switch`
abbrev pub Clause : Nested → Context → Rule (List Statement)
Clause n c i xs r =
    Many (n.statement c (part.Whole 0 false)) (λ r. ends_clause (next r) ≡ true) i xs r

-- The clauses of a `switch` and its `}`, with at most one `default` (12.11). `defaulted`: there was
-- one.
pub data Cases (n : Nested) (c : Context) : Bool → Tokens → List Case → Tokens → Type 0 where
  close : {defaulted : Bool} {t : Token} {r : Tokens} → Is k.CloseBrace t
      → Cases n c defaulted (t ∷ r) [] r
  case : {defaulted : Bool} {t u : Token} {i m l r : Tokens} {x : Expression} {xs : List Statement}
      {cs : List Case} → Is k.Case t
      → n.expression (of_expression.Whole false) i x (u ∷ m) → Is k.Colon u → Clause n c m xs l
      → Cases n c defaulted l cs r
      → Cases n c defaulted (t ∷ i) (roll-Case
      (record { test = Some x; body = xs; place = t.place }) ∷ cs) r
  default : {t u : Token} {m l r : Tokens} {xs : List Statement} {cs : List Case} → Is k.Default t
      → Is k.Colon u → Clause n c m xs l
      → Cases n c true l cs r → Cases n c false (t ∷ u ∷ m)
      (roll-Case (record { test = None; body = xs; place = t.place }) ∷ cs) r

-- `catch (NAME) BLOCK` (12.14)
pub data Catch (g : Rules) (n : Nested) (c : Context) : Tokens → CatchOf Statement → Tokens
    → Type 0 where
  caught : {t u v : Token} {i m r : Tokens} {x : Name} {xs : List Statement} → Is k.Catch t
      → Is k.OpenParenthesis u → HasRoom g (u ∷ i) → Declared g i x (v ∷ m)
      → Is k.CloseParenthesis v → Block g n c m xs r
      → Catch g n c (t ∷ u ∷ i) (record { parameter = x; body = xs }) r

-- `finally BLOCK` (12.14)
pub data Finally (g : Rules) (n : Nested) (c : Context) : Tokens → List Statement → Tokens
    → Type 0 where
  finally : {t : Token} {i r : Tokens} {xs : List Statement} → Is k.Finally t → Block g n c i xs r
      → Finally g n c (t ∷ i) xs r

-- A statement (12), or a function declaration where the statement is an outermost one (13, 14).
-- `labels` labels stand directly before it.
pub data Single (g : Rules) (n : Nested) (c : Context) (labels : ℕ) (outermost : Bool) : Tokens
    → Statement → Tokens → Type 0 where
  block : {i r : Tokens} {xs : List Statement} → Block g n c i xs r
      → Single g n c labels outermost i (s.Block xs (head i).place) r
  variables : {t : Token} {i m r : Tokens} {xs : List (Declaration Expression)} → Is k.Var t
      → Separated (Variable g (Assignment g n false)) i xs m
      → Ended m r → Single g n c labels outermost (t ∷ i) (s.Variables xs t.place) r
  empty : {t : Token} {r : Tokens} → Is k.Semicolon t
      → Single g n c labels outermost (t ∷ r) (s.Empty t.place) r
  expression : {i m r : Tokens} {x : Expression} → begins_statement (next i) ≡ false
      → is_label (next i) (next (behind i)) ≡ false
      → Whole g n false i x m → Ended m r → Single g n c labels outermost i
      (s.Expression x (head i).place) r
  if : {t : Token} {i r : Tokens} {x : Statement} → Is k.If t → HasRoom g (t ∷ i)
      → n.statement c (part.If t.place) i x r
      → Single g n c labels outermost (t ∷ i) x r
  do_while : {t : Token} {i r : Tokens} {x : Statement} → Is k.Do t → HasRoom g (t ∷ i)
      → n.statement c (part.Do t.place labels) i x r
      → Single g n c labels outermost (t ∷ i) x r
  while : {t : Token} {i r : Tokens} {x : Statement} → Is k.While t → HasRoom g (t ∷ i)
      → n.statement c (part.While t.place labels) i x r
      → Single g n c labels outermost (t ∷ i) x r
  for : {t : Token} {i r : Tokens} {x : Statement} → Is k.For t → HasRoom g (t ∷ i)
      → n.statement c (part.For t.place labels) i x r
      → Single g n c labels outermost (t ∷ i) x r
  continue : {t : Token} {i m r : Tokens} {x : Option Name} → Is k.Continue t → c.in_loop ≡ true
      → Target g (has_loop c) (has_label c) true t.place i x m → Ended m r
      → Single g n c labels outermost (t ∷ i) (s.Continue x t.place) r
  break : {t : Token} {i m r : Tokens} {x : Option Name} → Is k.Break t → may_break c ≡ true
      → Target g (has_label c) (has_label c) c.in_breakable t.place i x m → Ended m r
      → Single g n c labels outermost (t ∷ i) (s.Break x t.place) r
  return : {t : Token} {i m r : Tokens} {x : Option Expression} → Is k.Return t
      → c.in_function ≡ true → Returned g n i x m → Ended m r
      → Single g n c labels outermost (t ∷ i) (s.Return x t.place) r
  labelled : {t u : Token} {i r : Tokens} {x : Statement} → Is k.Name t → Is k.Colon u
      → has_label c (word t) ≡ false → g (DeepLabel t.place) (u ∷ i) ≡ false
      → n.statement (labelled_context c (word t)) (part.Whole (suc labels) false) i x r
      → Single g n c labels outermost (t ∷ u ∷ i) (s.Labelled (name_of t) x) r
  switch : {t v : Token} {i m r : Tokens} {x : Expression} {cs : List Case} → Is k.Switch t
      → Bracketed g n i x (v ∷ m) → Is k.OpenBrace v
      → HasRoom g (v ∷ m) → Cases n (switch_context c) false m cs r
      → Single g n c labels outermost (t ∷ i) (s.Switch x cs t.place) r
  throw : {t : Token} {i m r : Tokens} {x : Expression} → Is k.Throw t → new_line i ≡ false
      → Whole g n false i x m → Ended m r
      → Single g n c labels outermost (t ∷ i) (s.Throw x t.place) r
  try_catch : {t : Token} {i m r : Tokens} {xs : List Statement} {h : CatchOf Statement}
      → Is k.Try t → Block g n c i xs m → Catch g n c m h r
      → NotAt k.Finally r → Single g n c labels outermost (t ∷ i) (s.Try xs (Some h) None t.place) r
  try_both : {t : Token} {i m l r : Tokens} {xs ys : List Statement} {h : CatchOf Statement}
      → Is k.Try t → Block g n c i xs m → Catch g n c m h l
      → Finally g n c l ys r → Single g n c labels outermost (t ∷ i)
      (s.Try xs (Some h) (Some ys) t.place) r
  try_finally : {t : Token} {i m r : Tokens} {xs ys : List Statement} → Is k.Try t
      → Block g n c i xs m → Finally g n c m ys r
      → Single g n c labels outermost (t ∷ i) (s.Try xs None (Some ys) t.place) r
  function : {i r : Tokens} {f : FunctionOf Statement} → outermost ≡ true → Function g n true i f r
      → Single g n c labels outermost i (s.Function f) r
  -- ---- none of the language: a label inside itself; a jump where there is nothing to leave
  relabelled : {t u : Token} {i r : Tokens} {x : Statement} → Is k.Name t → Is k.Colon u
      → has_label c (word t) ≡ true → g (Broken t.place) (u ∷ i) ≡ false
      → g (DeepLabel t.place) (u ∷ i) ≡ false
      → n.statement (labelled_context c (word t)) (part.Whole (suc labels) false) i x r
      → Single g n c labels outermost (t ∷ u ∷ i) (s.Labelled (name_of t) x) r
  continue_untargeted : {i r : Tokens} {x : Name} → At k.Continue i → c.in_loop ≡ false
      → Untargeted g c i x r
      → Single g n c labels outermost i (s.Continue (Some x) (head i).place) r
  break_untargeted : {i r : Tokens} {x : Name} → At k.Break i → may_break c ≡ false
      → Untargeted g c i x r
      → Single g n c labels outermost i (s.Break (Some x) (head i).place) r

-- what stands behind `if`; an `else` belongs to the nearest `if` (12.5)
pub data If (g : Rules) (n : Nested) (c : Context) (place : Place) : Tokens → Statement → Tokens
    → Type 0 where
  alone : {i m r : Tokens} {x : Expression} {y : Statement} → Bracketed g n i x m
      → Single g n c 0 false m y r → NotAt k.Else r
      → If g n c place i (s.If x y None place) r
  both : {t : Token} {i m l r : Tokens} {x : Expression} {y z : Statement} → Bracketed g n i x m
      → Single g n c 0 false m y (t ∷ l) → Is k.Else t
      → HasRoom g (t ∷ l) → n.statement c (part.Whole 0 false) l z r
      → If g n c place i (s.If x y (Some z) place) r

-- what stands behind `do` (12.6.1)
pub data Do (g : Rules) (n : Nested) (c : Context) (place : Place) (labels : ℕ) : Tokens → Statement
    → Tokens → Type 0 where
  do_while : {t : Token} {i m l r : Tokens} {x : Statement} {y : Expression}
      → Single g n (loop_context c labels) 0 false i x (t ∷ m) → Is k.While t
      → Bracketed g n m y l → Ended l r → Do g n c place labels i (s.Do x y place) r

-- what stands behind `while` (12.6.2)
pub data While (g : Rules) (n : Nested) (c : Context) (place : Place) (labels : ℕ) : Tokens
    → Statement → Tokens → Type 0 where
  while : {i m r : Tokens} {x : Expression} {y : Statement} → Bracketed g n i x m
      → Single g n (loop_context c labels) 0 false m y r
      → While g n c place labels i (s.While x y place) r

-- an expression, if the closing token doesn't come at once
pub data Optional (n : Nested) (close : Symbol) : Tokens → Option Expression → Tokens → Type 0 where
  absent : {t : Token} {r : Tokens} → Is close t → Optional n close (t ∷ r) None r
  present : {t : Token} {i r : Tokens} {x : Expression} → NotAt close i
      → n.expression (of_expression.Whole false) i x (t ∷ r) → Is close t
      → Optional n close i (Some x) r

-- what stands before the first `;` of a `for`, and that `;` (12.6.3)
pub data First (g : Rules) (n : Nested) : Tokens → ForFirst Expression → Tokens → Type 0 where
  nothing : {t : Token} {r : Tokens} → Is k.Semicolon t → First g n (t ∷ r) first.Nothing r
  expression : {t : Token} {i r : Tokens} {x : Expression} → NotAt k.Var i → NotAt k.Semicolon i
      → n.expression (of_expression.Whole true) i x (t ∷ r)
      → Is k.Semicolon t → First g n i (first.Expression x) r
  variables : {t u : Token} {i r : Tokens} {xs : List (Declaration Expression)} → Is k.Var t
      → Separated (Variable g (n.expression (of_expression.Assignment true))) i xs (u ∷ r)
      → Is k.Semicolon u → First g n (t ∷ i) (first.Variables xs) r

-- what stands behind `for` (12.6.3, 12.6.4)
pub data For (g : Rules) (n : Nested) (c : Context) (place : Place) (labels : ℕ) : Tokens
    → Statement → Tokens → Type 0 where
  for : {t : Token} {i m l j r : Tokens} {x : ForFirst Expression} {y z : Option Expression}
      {w : Statement} → Is k.OpenParenthesis t → HasRoom g (t ∷ i)
      → First g n i x m → Optional n k.Semicolon m y l → Optional n k.CloseParenthesis l z j
      → Single g n (loop_context c labels) 0 false j w r
      → For g n c place labels (t ∷ i) (s.For x y z w place) r
  in_variable : {t u v w : Token} {i m l r : Tokens} {x : Declaration Expression} {y : Expression}
      {z : Statement} → Is k.OpenParenthesis t → HasRoom g (t ∷ u ∷ i)
      → Is k.Var u → Variable g (n.expression (of_expression.Assignment true)) i x (v ∷ m)
      → Is k.In v → n.expression (of_expression.Whole false) m y (w ∷ l)
      → Is k.CloseParenthesis w → Single g n (loop_context c labels) 0 false l z r
      → For g n c place labels (t ∷ u ∷ i) (s.ForIn (target.Variable x) y z place) r
  in_reference : {t v w : Token} {i m l r : Tokens} {x y : Expression} {z : Statement}
      → Is k.OpenParenthesis t → HasRoom g (t ∷ i) → NotAt k.Var i
      → NotAt k.Semicolon i → n.expression (of_expression.Whole true) i x (v ∷ m) → Is k.In v
      → is_reference x ≡ true
      → n.expression (of_expression.Whole false) m y (w ∷ l) → Is k.CloseParenthesis w
      → Single g n (loop_context c labels) 0 false l z r
      → For g n c place labels (t ∷ i) (s.ForIn (target.Reference x) y z place) r

-- each part
abbrev pub StatementRule : Rules → Nested → Context → StatementPart → Rule Statement
StatementRule g n c (part.Whole labels outermost) i x r = Single g n c labels outermost i x r
StatementRule g n c (part.If place) i x r = If g n c place i x r
StatementRule g n c (part.Do place labels) i x r = Do g n c place labels i x r
StatementRule g n c (part.While place labels) i x r = While g n c place labels i x r
StatementRule g n c (part.For place labels) i x r = For g n c place labels i x r

-- The rules below a number of levels, where with so many left these are asked.
unfoldable pub nested : (ℕ → Rules) → ℕ → Nested
nested rules zero = record { expression = λ p i x r. ⊥; statement = λ c p i x r. ⊥ }
nested rules (suc d) =
    record {
      expression = ExpressionRule (rules d) (nested rules d);
      statement = StatementRule (rules d) (nested rules d);
    }

-- the statements of a program of at most so many levels (14)
abbrev pub IsProgram : (ℕ → Rules) → ℕ → Tokens → List Statement → Tokens → Type 0
IsProgram rules d i xs r =
    Many (Single (rules d) (nested rules d) program_context 0 true) (At k.End) i xs r
