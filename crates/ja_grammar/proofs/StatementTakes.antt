-- Every rule of statements takes a token, or at least adds none, and so where it is refused; and so
-- at every number of levels.
use Rattle.std.proofs.Common.{◌≡◌, ◌≢◌, ℕ, zero, suc, Bool, true, false, List, [], ◌∷◌, Option, refl, sym, ◌∙◌}
use Rattle.ja_base.specs.declared.ids.Place.{Place}
use Rattle.ja_lex.specs.declared.token.Token.{Token}
use Rattle.ja_syntax.specs.declared.symbol.Symbol.{Symbol}
use Rattle.ja_syntax.specs.declared.symbol.Symbol.TheVariants as k
use Rattle.ja_syntax.specs.declared.tree.CatchOf.{CatchOf}
use Rattle.ja_syntax.specs.declared.tree.Declaration.{Declaration}
use Rattle.ja_syntax.specs.declared.tree.Expression.{Expression}
use Rattle.ja_syntax.specs.declared.tree.ForFirst.{ForFirst}
use Rattle.ja_syntax.specs.declared.tree.ForFirst.TheVariants as first
use Rattle.ja_syntax.specs.declared.tree.ForTarget.{ForTarget}
use Rattle.ja_syntax.specs.declared.tree.ForTarget.TheVariants as target
use Rattle.ja_syntax.specs.declared.tree.Name.{Name}
use Rattle.ja_syntax.specs.declared.tree.Statement.{Statement}
use Rattle.ja_syntax.specs.declared.tree.Statement.TheVariants as s
use Rattle.ja_syntax.specs.References.{is_reference}
use Rattle.ja_syntax.specs.Symbols.{same_symbol}
use Rattle.ja_grammar.specs.declared.fault.Refusal.TheVariants.{DeepLabel, Broken, Alone}
use Rattle.ja_grammar.specs.declared.part.ExpressionPart.TheVariants as of_expression
use Rattle.ja_grammar.specs.declared.part.StatementPart.{StatementPart}
use Rattle.ja_grammar.specs.declared.part.StatementPart.TheVariants as part
use Rattle.ja_grammar.specs.Contexts.{Context, loop_context, switch_context, labelled_context, has_label, has_loop, may_break}
use Rattle.ja_grammar.specs.Forms.{word, is_label, is_label_behind, ends_return, ends_clause}
use Rattle.ja_grammar.specs.Input.{Tokens, head, next, behind, symbol, Parser, ◌>>◌, pure, look, expect, Rules}
use Rattle.ja_grammar.specs.ReadExpression.{Below, is_close_brace}
use Rattle.ja_grammar.specs.ReadStatement.{ended_by, ended, variable_by, variable, labelled_by, unlabelled_by, target_by, jump_target, without_target, enter_label, Clauses, block, bracketed, variables, expression_statement, untargeted, continue, continue_by, break, break_by, returned, returned_by, return, return_by, thrown, thrown_by, throw, label, label_by, labelled, clause, case, default, default_by, clause_by, cases, switch, catch, finally, finally_by, handlers_by, try, labelled_or_expression, function_statement, headed, single_by, single, else_by, if_part, do_part, while_part, optional, optional_by, for_rest, in_rest, for_variables, for_variables_by, in_reference_by, for_expression, for_expression_by, for_by, for_part, statement_part, below}
use Rattle.ja_grammar.proofs.Agree.{BelowTakes}
use Rattle.ja_grammar.proofs.ExpressionTakes.{declared_takes, function_takes, assignment_takes, whole_takes, expression_part_takes}
use Rattle.ja_grammar.proofs.Outcomes.{same_symbol_true}
use Rattle.ja_grammar.proofs.Shrinks.{Leaves, Takes, Shrinks, takes_shrinks, pure_shrinks, refuse_leaves, behind_leaves, behind_takes, token_shrinks, token_takes, unless_leaves, enter_shrinks, expect_shrinks, expect_takes, opening_takes, bind_leaves, value_leaves, many_shrinks, until_shrinks, separated_takes}

pub ended_shrinks : Shrinks ended
unfolding ended
ended_shrinks i = go (next i) (head i).line_before
  where
    go : (κ : Symbol) (line : Bool) → Leaves false (ended_by κ line i) i
    go k.Semicolon line = token_shrinks
    go k.CloseBrace line = pure_shrinks
    go k.End line = pure_shrinks
    go _ true = pure_shrinks
    go _ false = refuse_leaves

-- the end of a statement, and then the statement
pub ended_then : {A : Type 0} (a : A) → Shrinks (ended >> pure a)
ended_then a i = value_leaves _ (ended_shrinks i)

-- a token of this symbol, and then a value
pub closed : {A : Type 0} (κ : Symbol) (a : A) → Shrinks (expect κ >> pure a)
closed κ a i = value_leaves _ (expect_shrinks κ i)

-- ---- names and labels

pub variable_by_shrinks : {value : Parser Expression} → Takes value → (x : Name) (t : Token)
    (κ : Symbol) → Shrinks (variable_by value x t κ)
variable_by_shrinks takes x t k.Assign i =
    behind_leaves (value_leaves _ (takes_shrinks (takes (behind i))))
variable_by_shrinks takes x t _ i = pure_shrinks

module _ (g : Rules) where
  pub variable_takes : {value : Parser Expression} → Takes value → Takes (variable g value)
  unfolding variable
  variable_takes takes i = bind_leaves (declared_takes g i)
      (λ x r. variable_by_shrinks takes x (head r) (next r) r)

  jump_target_shrinks : (allowed known : List ℕ → Bool) (alone : Bool) (place : Place)
      → Shrinks (jump_target g allowed known alone place)
  unfolding jump_target
  jump_target_shrinks allowed known alone place i = go (is_label_behind (head i))
    where
      named : (a c : Bool) → Leaves false (labelled_by g place (head i) a c i) i
      named true c = token_shrinks
      named false true = unless_leaves g (Broken place) token_shrinks
      named false false = refuse_leaves

      unnamed : (a : Bool) → Leaves false (unlabelled_by g place a i) i
      unnamed true = pure_shrinks
      unnamed false = unless_leaves g (Alone place) pure_shrinks

      go : (a : Bool) → Leaves false (target_by g allowed known alone place (head i) a i) i
      go true = named (allowed (word (head i))) (known (word (head i)))
      go false = unnamed alone

  pub enter_label_shrinks : (place : Place) → Shrinks (enter_label g place)
  unfolding enter_label
  enter_label_shrinks place i = unless_leaves g (DeepLabel place) token_shrinks

module _ (g : Rules) {b : Below} (h : BelowTakes b) where
  pub block_takes : (c : Context) → Takes (block g b c)
  unfolding block
  block_takes c i = bind_leaves (opening_takes g k.OpenBrace (λ e. cc e) i) (λ t r.
      bind_leaves (until_shrinks (h.statement c (part.Whole 0 false)) is_close_brace r)
      (λ xs. closed k.CloseBrace _))

  pub bracketed_takes : Takes (bracketed g b)
  unfolding bracketed
  bracketed_takes i = bind_leaves (opening_takes g k.OpenParenthesis (λ e. cc e) i) (λ t r.
      bind_leaves (h.expression (of_expression.Whole false) r) (λ x. closed k.CloseParenthesis _))

  variables_takes : Takes (variables g b)
  unfolding variables
  variables_takes i = behind_leaves (bind_leaves
      (separated_takes (variable_takes g (assignment_takes g h false)) (behind i))
      (λ xs. ended_then _))

  expression_statement_takes : Takes (expression_statement g b)
  unfolding expression_statement
  expression_statement_takes i = bind_leaves (whole_takes g h false i) (λ x. ended_then _)

  -- ---- jumps

  -- the word of a jump, which is not the end, and the token behind it
  untargeted_takes : (jump : Option Name → Statement) (c : Context) (u : Token) (i : Tokens)
      → next i ≢ k.End → Leaves true (untargeted g b jump c u i) i
  untargeted_takes jump c u i more = unless_leaves g (without_target c u)
      (behind_takes more (behind_leaves (ended_then _ (behind (behind i)))))

  continue_takes : (c : Context) (i : Tokens) → next i ≢ k.End → Leaves true (continue g b c i) i
  unfolding continue
  continue_takes c i more = go c.in_loop
    where
      go : (a : Bool) → Leaves true (continue_by g b c a i) i
      go true = behind_takes more (bind_leaves (jump_target_shrinks g (has_loop c) (has_label c)
          true (head i).place (behind i)) (λ x. ended_then _))
      go false =
          untargeted_takes (λ x. s.Continue x (head i).place) c (head (behind i)) i more

  break_takes : (c : Context) (i : Tokens) → next i ≢ k.End → Leaves true (break g b c i) i
  unfolding break
  break_takes c i more = go (may_break c)
    where
      go : (a : Bool) → Leaves true (break_by g b c a i) i
      go true = behind_takes more (bind_leaves (jump_target_shrinks g (has_label c) (has_label c)
          c.in_breakable (head i).place (behind i)) (λ x. ended_then _))
      go false = untargeted_takes (λ x. s.Break x (head i).place) c (head (behind i)) i more

  returned_shrinks : Shrinks (returned g b)
  unfolding returned
  returned_shrinks i = go (ends_return (head i))
    where
      go : (a : Bool) → Leaves false (returned_by g b a i) i
      go true = pure_shrinks
      go false = value_leaves _ (takes_shrinks (whole_takes g h false i))

  return_takes : (c : Context) (i : Tokens) → next i ≢ k.End → Leaves true (return g b c i) i
  unfolding return
  return_takes c i more = go c.in_function
    where
      go : (a : Bool) → Leaves true (return_by g b a i) i
      go true = behind_takes more (bind_leaves (returned_shrinks (behind i)) (λ x. ended_then _))
      go false = refuse_leaves

  thrown_takes : Takes (thrown g b)
  unfolding thrown
  thrown_takes i = go (head i).line_before
    where
      go : (a : Bool) → Leaves true (thrown_by g b a i) i
      go true = refuse_leaves
      go false = whole_takes g h false i

  throw_takes : Takes (throw g b)
  unfolding throw
  throw_takes i = behind_leaves (bind_leaves (thrown_takes (behind i)) (λ x. ended_then _))

  -- ---- labels

  label_shrinks : (c : Context) → Shrinks (label g b c)
  unfolding label
  label_shrinks c i = behind_leaves (value_leaves (λ _. head i) (go (has_label c (word (head i)))))
    where
      place : Place
      place = (head i).place

      go : (a : Bool) → Leaves false (label_by g b (head i) a (behind i)) (behind i)
      go true = unless_leaves g (Broken place) (enter_label_shrinks g place (behind i))
      go false = enter_label_shrinks g place (behind i)

  labelled_takes : (c : Context) (labels : ℕ) → Takes (labelled g b c labels)
  unfolding labelled
  labelled_takes c labels i = bind_leaves (label_shrinks c i) (λ t r.
      value_leaves _ (h.statement (labelled_context c (word t)) (part.Whole (suc labels) false) r))

  -- ---- `switch` and `try`

  pub clause_takes : (c : Context) → Takes (clause g b c)
  unfolding clause
  clause_takes c i = bind_leaves (expect_takes k.Colon (λ e. cc e) i)
      (λ t. until_shrinks (h.statement c (part.Whole 0 false)) ends_clause)

  pub case_takes : (c : Context) → Takes (case g b c)
  unfolding case
  case_takes c i = behind_leaves (bind_leaves (h.expression (of_expression.Whole false) (behind i))
      (λ x m. value_leaves _ (clause_takes c m)))

  pub default_takes : (c : Context) → Takes (default g b c)
  unfolding default
  default_takes c i = behind_leaves (value_leaves _ (clause_takes c (behind i)))

  clause_by_shrinks : (c : Context) (cs : Clauses) (κ : Symbol) → Shrinks (clause_by g b c cs κ)
  clause_by_shrinks c cs k.CloseBrace i = pure_shrinks
  clause_by_shrinks c cs k.Case i = value_leaves _ (takes_shrinks (case_takes c i))
  clause_by_shrinks c cs k.Default i = go cs.defaulted
    where
      go : (a : Bool) → Leaves false (default_by g b c cs a i) i
      go true = refuse_leaves
      go false = value_leaves _ (takes_shrinks (default_takes c i))
  clause_by_shrinks c cs _ i = refuse_leaves

  pub clause_turn_shrinks : (c : Context) (cs : Clauses)
      → Shrinks (look (λ t. clause_by g b c cs (symbol t)))
  clause_turn_shrinks c cs i = clause_by_shrinks c cs (next i) i

  pub cases_takes : (c : Context) → Takes (cases g b c)
  unfolding cases
  cases_takes c i = bind_leaves (opening_takes g k.OpenBrace (λ e. cc e) i) (λ t r.
      bind_leaves (many_shrinks (clause_turn_shrinks c) _ r) (λ cs. closed k.CloseBrace _))

  switch_takes : (c : Context) → Takes (switch g b c)
  unfolding switch
  switch_takes c i = behind_leaves (bind_leaves (bracketed_takes (behind i))
      (λ x m. value_leaves _ (cases_takes (switch_context c) m)))

  catch_takes : (c : Context) → Takes (catch g b c)
  unfolding catch
  catch_takes c i = behind_leaves (bind_leaves
      (opening_takes g k.OpenParenthesis (λ e. cc e) (behind i)) (λ u m.
      bind_leaves (declared_takes g m) (λ x l. bind_leaves (expect_shrinks k.CloseParenthesis l)
      (λ v j. value_leaves _ (block_takes c j)))))

  finally_takes : (c : Context) → Takes (finally g b c)
  unfolding finally
  finally_takes c i = behind_leaves (block_takes c (behind i))

  pub finally_by_shrinks : (c : Context) (t : Token) (xs : List Statement) (x : CatchOf Statement)
      (κ : Symbol) → Shrinks (finally_by g b c t xs x κ)
  finally_by_shrinks c t xs x k.Finally i = value_leaves _ (takes_shrinks (finally_takes c i))
  finally_by_shrinks c t xs x _ i = pure_shrinks

  pub handlers_by_takes : (c : Context) (t : Token) (xs : List Statement) (κ : Symbol)
      → Takes (handlers_by g b c t xs κ)
  handlers_by_takes c t xs k.Catch i = bind_leaves (catch_takes c i)
      (λ x m. finally_by_shrinks c t xs x (next m) m)
  handlers_by_takes c t xs k.Finally i = value_leaves _ (finally_takes c i)
  handlers_by_takes c t xs _ i = refuse_leaves

  try_takes : (c : Context) → Takes (try g b c)
  unfolding try
  try_takes c i = behind_leaves (bind_leaves (block_takes c (behind i))
      (λ xs m. handlers_by_takes c (head i) xs (next m) m))

  -- ---- a statement

  pub single_takes : (c : Context) (labels : ℕ) (outermost : Bool)
      → Takes (single g b c labels outermost)
  unfolding single
  single_takes c labels outermost i = go (next i) refl
    where
      named : (a : Bool) → Leaves true (labelled_or_expression g b c labels a i) i
      named true = labelled_takes c labels i
      named false = expression_statement_takes i

      function : (a : Bool) → Leaves true (function_statement g b a i) i
      function true = value_leaves _ (function_takes g h true i)
      function false = refuse_leaves

      words : (p : StatementPart) → Leaves true (headed g b c p i) i
      words p = bind_leaves (enter_shrinks g i) (λ t. h.statement c p)

      go : (κ : Symbol) → next i ≡ κ → Leaves true (single_by g b c labels outermost (head i) κ i) i
      go k.OpenBrace e = value_leaves _ (block_takes c i)
      go k.Var e = variables_takes i
      go k.Semicolon e = token_takes (λ ends. cc (e, ends))
      go k.If e = words (part.If (head i).place)
      go k.Do e = words (part.Do (head i).place labels)
      go k.While e = words (part.While (head i).place labels)
      go k.For e = words (part.For (head i).place labels)
      go k.Continue e = continue_takes c i (λ ends. cc (e, ends))
      go k.Break e = break_takes c i (λ ends. cc (e, ends))
      go k.Return e = return_takes c i (λ ends. cc (e, ends))
      go k.Switch e = switch_takes c i
      go k.Throw e = throw_takes i
      go k.Try e = try_takes c i
      go k.Function e = function outermost
      go k.Name e = named (is_label (next i) (next (behind i)))
      go _ e = expression_statement_takes i

  -- ---- behind a word that counts

  pub else_by_shrinks : (c : Context) (place : Place) (x : Expression) (y : Statement) (κ : Symbol)
      → Shrinks (else_by g b c place x y κ)
  else_by_shrinks c place x y k.Else i = takes_shrinks (bind_leaves (enter_shrinks g i)
      (λ t r. value_leaves _ (h.statement c (part.Whole 0 false) r)))
  else_by_shrinks c place x y _ i = pure_shrinks

  if_part_takes : (c : Context) (place : Place) → Takes (if_part g b c place)
  unfolding if_part
  if_part_takes c place i = bind_leaves (bracketed_takes i) (λ x m.
      bind_leaves (single_takes c 0 false m) (λ y l. else_by_shrinks c place x y (next l) l))

  do_part_takes : (c : Context) (place : Place) (labels : ℕ) → Takes (do_part g b c place labels)
  unfolding do_part
  do_part_takes c place labels i = bind_leaves (single_takes (loop_context c labels) 0 false i)
      (λ x m. bind_leaves (expect_shrinks k.While m) (λ t l.
      bind_leaves (bracketed_takes l) (λ y. ended_then _)))

  while_part_takes : (c : Context) (place : Place) (labels : ℕ)
      → Takes (while_part g b c place labels)
  unfolding while_part
  while_part_takes c place labels i = bind_leaves (bracketed_takes i)
      (λ x m. value_leaves _ (single_takes (loop_context c labels) 0 false m))

  pub optional_takes : (close : Symbol) → close ≢ k.End → Takes (optional g b close)
  unfolding optional
  optional_takes close more i = go (same_symbol (next i) close) refl
    where
      go : (a : Bool) → same_symbol (next i) close ≡ a → Leaves true (optional_by g b close a i) i
      go true e = token_takes (λ ends. more (sym (same_symbol_true (next i) close e) ∙ ends))
      go false e = bind_leaves (h.expression (of_expression.Whole false) i) (λ x. closed close _)

  for_rest_takes : (c : Context) (place : Place) (x : ForFirst Expression)
      → Takes (for_rest g b c place x)
  unfolding for_rest
  for_rest_takes c place x i = bind_leaves (optional_takes k.Semicolon (λ e. cc e) i) (λ y m.
      bind_leaves (optional_takes k.CloseParenthesis (λ e. cc e) m)
      (λ z l. value_leaves _ (single_takes c 0 false l)))

  in_rest_takes : (c : Context) (place : Place) (x : ForTarget Expression)
      → Takes (in_rest g b c place x)
  unfolding in_rest
  in_rest_takes c place x i = behind_leaves (bind_leaves
      (h.expression (of_expression.Whole false) (behind i)) (λ y m.
      bind_leaves (expect_shrinks k.CloseParenthesis m)
      (λ u l. value_leaves _ (single_takes c 0 false l))))

  -- a `;`, and what stands behind it
  semicolon_takes : (c : Context) (place : Place) (x : ForFirst Expression)
      → Takes (expect k.Semicolon >> for_rest g b c place x)
  semicolon_takes c place x i =
      bind_leaves (expect_shrinks k.Semicolon i) (λ t. for_rest_takes c place x)

  pub for_variables_by_takes : (c : Context) (place : Place) (xs : List (Declaration Expression))
      (κ : Symbol) → Takes (for_variables_by g b c place xs κ)
  for_variables_by_takes c place (x ∷ []) k.In i = in_rest_takes c place (target.Variable x) i
  for_variables_by_takes c place xs _ i = semicolon_takes c place (first.Variables xs) i

  for_variables_takes : (c : Context) (place : Place) → Takes (for_variables g b c place)
  unfolding for_variables
  for_variables_takes c place i = behind_leaves (bind_leaves
      (separated_takes (variable_takes g (h.expression (of_expression.Assignment true))) (behind i))
      (λ xs m. for_variables_by_takes c place xs (next m) m))

  pub for_expression_by_takes : (c : Context) (place : Place) (x : Expression) (κ : Symbol)
      → Takes (for_expression_by g b c place x κ)
  for_expression_by_takes c place x k.In i = go (is_reference x)
    where
      go : (a : Bool) → Leaves true (in_reference_by g b c place x a i) i
      go true = in_rest_takes c place (target.Reference x) i
      go false = refuse_leaves
  for_expression_by_takes c place x _ i = semicolon_takes c place (first.Expression x) i

  for_expression_takes : (c : Context) (place : Place) → Takes (for_expression g b c place)
  unfolding for_expression
  for_expression_takes c place i = bind_leaves (h.expression (of_expression.Whole true) i)
      (λ x m. for_expression_by_takes c place x (next m) m)

  pub for_by_takes : (c : Context) (place : Place) (κ : Symbol) → Takes (for_by g b c place κ)
  for_by_takes c place k.Var i = for_variables_takes c place i
  for_by_takes c place k.Semicolon i =
      behind_leaves (for_rest_takes c place first.Nothing (behind i))
  for_by_takes c place _ i = for_expression_takes c place i

  for_part_takes : (c : Context) (place : Place) (labels : ℕ) → Takes (for_part g b c place labels)
  unfolding for_part
  for_part_takes c place labels i = bind_leaves (opening_takes g k.OpenParenthesis (λ e. cc e) i)
      (λ t r. for_by_takes (loop_context c labels) place (next r) r)

  -- each part
  pub statement_part_takes : (c : Context) (p : StatementPart) → Takes (statement_part g b c p)
  unfolding statement_part
  statement_part_takes c (part.Whole labels outermost) = single_takes c labels outermost
  statement_part_takes c (part.If place) = if_part_takes c place
  statement_part_takes c (part.Do place labels) = do_part_takes c place labels
  statement_part_takes c (part.While place labels) = while_part_takes c place labels
  statement_part_takes c (part.For place labels) = for_part_takes c place labels

-- the parts below every number of levels
pub below_takes : (rules : ℕ → Rules) (d : ℕ) → BelowTakes (below rules d)
unfolding below
below_takes rules zero = record {
  expression = λ p i. refuse_leaves;
  statement = λ c p i. refuse_leaves;
}
below_takes rules (suc d) = record {
  expression = expression_part_takes (rules d) (below_takes rules d);
  statement = statement_part_takes (rules d) (below_takes rules d);
}
