-- Every rule of statements reads the same by both rules, unless the first refuses for want of what
-- the second doesn't ask.
use Rattle.std.proofs.Common.{◌≡◌, ℕ, suc, Bool, true, false, List, [], ◌∷◌, length, Option, Some, refl, le_refl, le_trans}
use Rattle.ja_base.specs.declared.ids.Place.{Place}
use Rattle.ja_lex.specs.declared.token.Token.{Token}
use Rattle.ja_syntax.specs.declared.symbol.Symbol.{Symbol}
use Rattle.ja_syntax.specs.declared.symbol.Symbol.TheVariants as k
use Rattle.ja_syntax.specs.declared.tree.CatchOf.{CatchOf}
use Rattle.ja_syntax.specs.declared.tree.Declaration.{Declaration}
use Rattle.ja_syntax.specs.declared.tree.Expression.{Expression}
use Rattle.ja_syntax.specs.declared.tree.ForFirst.{ForFirst}
use Rattle.ja_syntax.specs.declared.tree.ForFirst.TheVariants as first
use Rattle.ja_syntax.specs.declared.tree.ForTarget.{ForTarget}
use Rattle.ja_syntax.specs.declared.tree.ForTarget.TheVariants as target
use Rattle.ja_syntax.specs.declared.tree.Name.{Name}
use Rattle.ja_syntax.specs.declared.tree.Statement.{Statement}
use Rattle.ja_syntax.specs.declared.tree.Statement.TheVariants as s
use Rattle.ja_syntax.specs.References.{is_reference}
use Rattle.ja_syntax.specs.Symbols.{same_symbol}
use Rattle.ja_grammar.specs.declared.fault.Refusal.TheVariants.{Deep, DeepLabel, Broken, Alone}
use Rattle.ja_grammar.specs.declared.part.ExpressionPart.TheVariants as of_expression
use Rattle.ja_grammar.specs.declared.part.StatementPart.{StatementPart}
use Rattle.ja_grammar.specs.declared.part.StatementPart.TheVariants as part
use Rattle.ja_grammar.specs.Contexts.{Context, loop_context, switch_context, labelled_context, has_label, has_loop, may_break}
use Rattle.ja_grammar.specs.Forms.{word, name_of, is_label, is_label_behind, ends_return, ends_clause}
use Rattle.ja_grammar.specs.Input.{Tokens, head, next, behind, symbol, Done, Parser, pure, look, enter, opening, expect, Rules}
use Rattle.ja_grammar.specs.Productions.{HasRoom}
use Rattle.ja_grammar.specs.ReadExpression.{Below, assignment_below, assignment, is_close_brace}
use Rattle.ja_grammar.specs.ReadStatement.{variable_by, variable, labelled_by, unlabelled_by, target_by, jump_target, without_target, enter_label, Clauses, inner, block, bracketed, variables, expression_statement, untargeted, continue, continue_by, break, break_by, returned, returned_by, return, return_by, thrown, thrown_by, throw, label, label_by, labelled, clause, case, default, default_by, clause_by, cases, switch, catch, finally, finally_by, handlers_by, try, labelled_or_expression, function_statement, headed, single_by, single, else_by, if_part, do_part, while_part, optional, optional_by, for_rest, in_rest, for_variables, for_variables_by, in_reference_by, for_expression, for_expression_by, for_by, for_part, statement_part}
use Rattle.ja_grammar.proofs.Outcomes.{entered, bind_inverse, unless_inverse}
use Rattle.ja_grammar.proofs.Refines.{Lenient, Refines, same, AsksEach, RefinesBelow, bind_refines, then_refines, tail_refines, value_refines, unless_refines, enter_refines, opening_refines, opened, many_refines, until_refines, separated_refines}
use Rattle.ja_grammar.proofs.RefinesExpressions.{declared_refines, function_refines, assignment_refines, whole_refines}
use Rattle.ja_grammar.proofs.Shrinks.{Takes, bind_leaves, value_leaves, behind_shrinks, expect_shrinks, many_shrinks, until_shrinks}
use Rattle.ja_grammar.proofs.Walks.{labelled_entered}
use Rattle.ja_grammar.proofs.ExpressionTakes.{declared_takes, assignment_takes}
use Rattle.ja_grammar.proofs.StatementTakes.{ended_then, closed, variable_by_shrinks, variable_takes, enter_label_shrinks, block_takes, bracketed_takes, clause_takes, clause_turn_shrinks, cases_takes, finally_by_shrinks, handlers_by_takes, single_takes, else_by_shrinks, optional_takes, for_variables_by_takes, for_expression_by_takes, for_by_takes}

-- ---- names and labels

module _ {C : Lenient} {g g' : Rules} (asks : AsksEach C g g') where
  pub variable_refines : (value value' : Parser Expression)
      → ((i : Tokens) → Refines C (value i) (value' i)) → Takes value'
      → (i : Tokens) → Refines C (variable g value i) (variable g' value' i)
  unfolding variable
  variable_refines value value' h within i =
      bind_refines (declared_refines asks i) (λ x r _. go x r (next r))
      (λ x r. variable_by_shrinks within x (head r) (next r) r)
    where
      go : (x : Name) (r : Tokens) (κ : Symbol)
          → Refines C (variable_by value x (head r) κ r) (variable_by value' x (head r) κ r)
      go x r k.Assign = value_refines _ (h (behind r))
      go x r _ = same refl

  pub jump_target_refines : (allowed known : List ℕ → Bool) (alone : Bool) (place : Place)
      (i : Tokens)
      → Refines C (jump_target g allowed known alone place i)
      (jump_target g' allowed known alone place i)
  unfolding jump_target
  jump_target_refines allowed known alone place i = go (is_label_behind (head i))
    where
      named : (a b : Bool) → Refines C (labelled_by g place (head i) a b i)
          (labelled_by g' place (head i) a b i)
      named true b = same refl
      named false true =
          unless_refines g g' (Broken place) i (asks (Broken place) i) (λ _. same refl)
          (behind_shrinks i)
      named false false = same refl

      unnamed : (a : Bool) → Refines C (unlabelled_by g place a i) (unlabelled_by g' place a i)
      unnamed true = same refl
      unnamed false =
          unless_refines g g' (Alone place) i (asks (Alone place) i) (λ _. same refl)
          (le_refl (length i))

      go : (a : Bool) → Refines C (target_by g allowed known alone place (head i) a i)
          (target_by g' allowed known alone place (head i) a i)
      go true = named (allowed (word (head i))) (known (word (head i)))
      go false = unnamed alone

  pub enter_label_refines : (place : Place) (i : Tokens)
      → Refines C (enter_label g place i) (enter_label g' place i)
  unfolding enter_label
  enter_label_refines place i =
      unless_refines g g' (DeepLabel place) i (asks (DeepLabel place) i) (λ _. same refl)
      (behind_shrinks i)

module _ {C : Lenient} {g g' : Rules} {b b' : Below} (h : RefinesBelow C g g' b b') where
  -- a token that counts
  enters : (i : Tokens) → Refines C (enter g i) (enter g' i)
  enters i = enter_refines g g' i (h.asks Deep i)

  opens : (κ : Symbol) (i : Tokens) → Refines C (opening g κ i) (opening g' κ i)
  opens κ i = opening_refines g g' κ i (h.asks Deep i)

  -- a statement behind a token that was entered
  lower : (i : Tokens) → HasRoom g i → (c : Context) (p : StatementPart) (j : Tokens)
      → Refines C (b.statement c p j) (b'.statement c p j)
  lower i room = h.statement Deep i refl room

  -- what opened had a level left
  room_of : (κ : Symbol) (i : Tokens) {t : Token} {r : Tokens} → opening g κ i ≡ Done t r
      → HasRoom g i
  room_of κ i e = opened g κ i e

  pub block_refines : (c : Context) (i : Tokens) → Refines C (block g b c i) (block g' b' c i)
  unfolding block
  block_refines c i = bind_refines (opens k.OpenBrace i) (λ t r e.
      tail_refines (until_refines (inner g b c) (inner g' b' c)
      (lower i (room_of k.OpenBrace i e) c (part.Whole 0 false))
      (h.takes.statement c (part.Whole 0 false)) is_close_brace r)
      (λ xs m. closed k.CloseBrace xs m)) (λ t r.
      bind_leaves (until_shrinks (h.takes.statement c (part.Whole 0 false)) is_close_brace r)
      (λ xs m. closed k.CloseBrace xs m))

  pub bracketed_refines : (i : Tokens) → Refines C (bracketed g b i) (bracketed g' b' i)
  unfolding bracketed
  bracketed_refines i = bind_refines (opens k.OpenParenthesis i) (λ t r e.
      tail_refines (h.expression i (room_of k.OpenParenthesis i e) (of_expression.Whole false) r)
      (λ x m. closed k.CloseParenthesis x m))
      (λ t r. bind_leaves (h.takes.expression (of_expression.Whole false) r)
      (λ x m. closed k.CloseParenthesis x m))

  pub variables_refines : (i : Tokens) → Refines C (variables g b i) (variables g' b' i)
  unfolding variables
  variables_refines i =
      tail_refines (separated_refines (variable g (assignment g b false))
      (variable g' (assignment g' b' false))
      (variable_refines h.asks (assignment g b false) (assignment g' b' false)
      (assignment_refines h false) (assignment_takes g' h.takes false))
      (variable_takes g' (assignment_takes g' h.takes false)) (behind i)) (λ xs m. ended_then _ m)

  pub expression_statement_refines : (i : Tokens)
      → Refines C (expression_statement g b i) (expression_statement g' b' i)
  unfolding expression_statement
  expression_statement_refines i = tail_refines (whole_refines h false i) (λ x m. ended_then _ m)

  -- ---- jumps

  pub untargeted_refines : (jump : Option Name → Statement) (c : Context) (u : Token) (i : Tokens)
      → Refines C (untargeted g b jump c u i) (untargeted g' b' jump c u i)
  untargeted_refines jump c u i =
      unless_refines g g' (without_target c u) i (h.asks (without_target c u) i) (λ _. same refl)
      (le_trans (ended_then (jump (Some (name_of u))) (behind (behind i))).within
      (le_trans (behind_shrinks (behind i)) (behind_shrinks i)))

  pub continue_refines : (c : Context) (i : Tokens)
      → Refines C (continue g b c i) (continue g' b' c i)
  unfolding continue
  continue_refines c i = go c.in_loop
    where
      go : (a : Bool) → Refines C (continue_by g b c a i) (continue_by g' b' c a i)
      go true =
          tail_refines (jump_target_refines h.asks (has_loop c) (has_label c) true (head i).place
          (behind i)) (λ x m. ended_then _ m)
      go false = untargeted_refines (λ x. s.Continue x (head i).place) c (head (behind i)) i

  pub break_refines : (c : Context) (i : Tokens) → Refines C (break g b c i) (break g' b' c i)
  unfolding break
  break_refines c i = go (may_break c)
    where
      go : (a : Bool) → Refines C (break_by g b c a i) (break_by g' b' c a i)
      go true =
          tail_refines (jump_target_refines h.asks (has_label c) (has_label c) c.in_breakable
          (head i).place (behind i)) (λ x m. ended_then _ m)
      go false = untargeted_refines (λ x. s.Break x (head i).place) c (head (behind i)) i

  pub returned_refines : (i : Tokens) → Refines C (returned g b i) (returned g' b' i)
  unfolding returned
  returned_refines i = go (ends_return (head i))
    where
      go : (a : Bool) → Refines C (returned_by g b a i) (returned_by g' b' a i)
      go true = same refl
      go false = value_refines _ (whole_refines h false i)

  pub return_refines : (c : Context) (i : Tokens) → Refines C (return g b c i) (return g' b' c i)
  unfolding return
  return_refines c i = go c.in_function
    where
      go : (a : Bool) → Refines C (return_by g b a i) (return_by g' b' a i)
      go true = tail_refines (returned_refines (behind i)) (λ x m. ended_then _ m)
      go false = same refl

  pub thrown_refines : (i : Tokens) → Refines C (thrown g b i) (thrown g' b' i)
  unfolding thrown
  thrown_refines i = go (head i).line_before
    where
      go : (a : Bool) → Refines C (thrown_by g b a i) (thrown_by g' b' a i)
      go true = same refl
      go false = whole_refines h false i

  pub throw_refines : (i : Tokens) → Refines C (throw g b i) (throw g' b' i)
  unfolding throw
  throw_refines i = tail_refines (thrown_refines (behind i)) (λ x m. ended_then _ m)

  -- ---- labels

  pub label_refines : (c : Context) (i : Tokens) → Refines C (label g b c i) (label g' b' c i)
  unfolding label
  label_refines c i = value_refines (λ _. head i) (go (has_label c (word (head i))))
    where
      go : (a : Bool) → Refines C (label_by g b (head i) a (behind i))
          (label_by g' b' (head i) a (behind i))
      go true =
          unless_refines g g' (Broken (head i).place) (behind i)
          (h.asks (Broken (head i).place) (behind i))
          (λ _. enter_label_refines h.asks (head i).place (behind i))
          (enter_label_shrinks g' (head i).place (behind i)).within
      go false = enter_label_refines h.asks (head i).place (behind i)

  -- a label that was read had a level left
  label_room : (c : Context) (i : Tokens) {t : Token} {r : Tokens} → label g b c i ≡ Done t r
      → g (DeepLabel (head i).place) (behind i) ≡ false
  unfolding label
  label_room c i e =
      let q = bind_inverse (label_by g b (head i) (has_label c (word (head i))))
      (λ _. pure (head i)) (behind i) e in
      go (has_label c (word (head i))) q.2
    where
      go : (a : Bool) {u : Token} {m : Tokens} → label_by g b (head i) a (behind i) ≡ Done u m
          → g (DeepLabel (head i).place) (behind i) ≡ false
      go true e =
          (labelled_entered g (head i).place (behind i)
          (unless_inverse g (Broken (head i).place) (enter_label g (head i).place) (behind i)
          e).1).0
      go false e = (labelled_entered g (head i).place (behind i) e).0

  pub labelled_refines : (c : Context) (labels : ℕ) (i : Tokens)
      → Refines C (labelled g b c labels i) (labelled g' b' c labels i)
  unfolding labelled
  labelled_refines c labels i = bind_refines (label_refines c i) (λ t r e.
      value_refines _ (h.statement (DeepLabel (head i).place) (behind i) refl (label_room c i e)
      (labelled_context c (word t)) (part.Whole (suc labels) false) r))
      (λ t r. value_leaves _ (h.takes.statement (labelled_context c (word t))
      (part.Whole (suc labels) false) r))

  -- ---- `switch` and `try`

  -- the parts of a `switch`, where its brace was entered
  pub clause_refines : (i : Tokens) → HasRoom g i → (c : Context) (j : Tokens)
      → Refines C (clause g b c j) (clause g' b' c j)
  unfolding clause
  clause_refines i room c j =
      then_refines (expect k.Colon j) (λ t r _.
      until_refines (inner g b c) (inner g' b' c) (lower i room c (part.Whole 0 false))
      (h.takes.statement c (part.Whole 0 false)) ends_clause r)

  pub case_refines : (i : Tokens) → HasRoom g i → (c : Context) (j : Tokens)
      → Refines C (case g b c j) (case g' b' c j)
  unfolding case
  case_refines i room c j =
      bind_refines (h.expression i room (of_expression.Whole false) (behind j))
      (λ x m _. value_refines _ (clause_refines i room c m))
      (λ x m. value_leaves _ (clause_takes g' h.takes c m))

  pub default_refines : (i : Tokens) → HasRoom g i → (c : Context) (j : Tokens)
      → Refines C (default g b c j) (default g' b' c j)
  unfolding default
  default_refines i room c j = value_refines _ (clause_refines i room c (behind j))

  pub clause_turn_refines : (i : Tokens) → HasRoom g i
      → (c : Context) (cs : Clauses) (κ : Symbol) (j : Tokens)
      → Refines C (clause_by g b c cs κ j) (clause_by g' b' c cs κ j)
  clause_turn_refines i room c cs k.CloseBrace j = same refl
  clause_turn_refines i room c cs k.Case j = value_refines _ (case_refines i room c j)
  clause_turn_refines i room c cs k.Default j = go cs.defaulted
    where
      go : (a : Bool) → Refines C (default_by g b c cs a j) (default_by g' b' c cs a j)
      go true = same refl
      go false = value_refines _ (default_refines i room c j)
  clause_turn_refines i room c cs _ j = same refl

  pub cases_refines : (c : Context) (i : Tokens) → Refines C (cases g b c i) (cases g' b' c i)
  unfolding cases
  cases_refines c i =
      bind_refines (opens k.OpenBrace i) (λ t r e.
      tail_refines (many_refines (λ cs. look (λ t. clause_by g b c cs (symbol t)))
      (λ cs. look (λ t. clause_by g' b' c cs (symbol t)))
      (λ cs j. clause_turn_refines i (room_of k.OpenBrace i e) c cs (next j) j)
      (clause_turn_shrinks g' h.takes c) (record { defaulted = false; found = [] }) r)
      (λ cs m. closed k.CloseBrace cs.found m))
      (λ t r. bind_leaves (many_shrinks (clause_turn_shrinks g' h.takes c)
      (record { defaulted = false; found = [] }) r) (λ cs m. closed k.CloseBrace cs.found m))

  pub switch_refines : (c : Context) (i : Tokens) → Refines C (switch g b c i) (switch g' b' c i)
  unfolding switch
  switch_refines c i =
      bind_refines (bracketed_refines (behind i))
      (λ x m _. value_refines _ (cases_refines (switch_context c) m))
      (λ x m. value_leaves _ (cases_takes g' h.takes (switch_context c) m))

  pub catch_refines : (c : Context) (i : Tokens) → Refines C (catch g b c i) (catch g' b' c i)
  unfolding catch
  catch_refines c i =
      bind_refines (opens k.OpenParenthesis (behind i))
      (λ u m _. bind_refines (declared_refines h.asks m) (λ x l _.
      then_refines (expect k.CloseParenthesis l) (λ v j _. value_refines _ (block_refines c j)))
      (λ x l. bind_leaves (expect_shrinks k.CloseParenthesis l)
      (λ v j. value_leaves _ (block_takes g' h.takes c j))))
      (λ u m. bind_leaves (declared_takes g' m)
      (λ x l. bind_leaves (expect_shrinks k.CloseParenthesis l)
      (λ v j. value_leaves _ (block_takes g' h.takes c j))))

  pub finally_refines : (c : Context) (i : Tokens) → Refines C (finally g b c i) (finally g' b' c i)
  unfolding finally
  finally_refines c i = block_refines c (behind i)

  pub try_refines : (c : Context) (i : Tokens) → Refines C (try g b c i) (try g' b' c i)
  unfolding try
  try_refines c i =
      bind_refines (block_refines c (behind i)) (λ xs m _. handlers (head i) xs m (next m))
      (λ xs m. handlers_by_takes g' h.takes c (head i) xs (next m) m)
    where
      last : (t : Token) (xs : List Statement) (x : CatchOf Statement) (i : Tokens) (κ : Symbol)
          → Refines C (finally_by g b c t xs x κ i) (finally_by g' b' c t xs x κ i)
      last t xs x i k.Finally = value_refines _ (finally_refines c i)
      last t xs x i _ = same refl

      handlers : (t : Token) (xs : List Statement) (i : Tokens) (κ : Symbol)
          → Refines C (handlers_by g b c t xs κ i) (handlers_by g' b' c t xs κ i)
      handlers t xs i k.Catch =
          bind_refines (catch_refines c i) (λ x m _. last t xs x m (next m))
          (λ x m. finally_by_shrinks g' h.takes c t xs x (next m) m)
      handlers t xs i k.Finally = value_refines _ (finally_refines c i)
      handlers t xs i _ = same refl

  -- ---- a statement

  pub single_refines : (c : Context) (labels : ℕ) (outermost : Bool) (i : Tokens)
      → Refines C (single g b c labels outermost i) (single g' b' c labels outermost i)
  unfolding single
  single_refines c labels outermost i = go (next i)
    where
      named : (a : Bool) → Refines C (labelled_or_expression g b c labels a i)
          (labelled_or_expression g' b' c labels a i)
      named true = labelled_refines c labels i
      named false = expression_statement_refines i

      function : (a : Bool) → Refines C (function_statement g b a i) (function_statement g' b' a i)
      function true = value_refines _ (function_refines h true i)
      function false = same refl

      words : (p : StatementPart) → Refines C (headed g b c p i) (headed g' b' c p i)
      words p =
          bind_refines (enters i) (λ t r e. lower i (entered g i e) c p r)
          (λ t r. h.takes.statement c p r)

      go : (κ : Symbol) → Refines C (single_by g b c labels outermost (head i) κ i)
          (single_by g' b' c labels outermost (head i) κ i)
      go k.OpenBrace = value_refines _ (block_refines c i)
      go k.Var = variables_refines i
      go k.Semicolon = same refl
      go k.If = words (part.If (head i).place)
      go k.Do = words (part.Do (head i).place labels)
      go k.While = words (part.While (head i).place labels)
      go k.For = words (part.For (head i).place labels)
      go k.Continue = continue_refines c i
      go k.Break = break_refines c i
      go k.Return = return_refines c i
      go k.Switch = switch_refines c i
      go k.Throw = throw_refines i
      go k.Try = try_refines c i
      go k.Function = function outermost
      go k.Name = named (is_label (next i) (next (behind i)))
      go _ = expression_statement_refines i

  -- ---- behind a word that counts

  pub if_part_refines : (c : Context) (place : Place) (i : Tokens)
      → Refines C (if_part g b c place i) (if_part g' b' c place i)
  unfolding if_part
  if_part_refines c place i =
      bind_refines (bracketed_refines i) (λ x m _.
      bind_refines (single_refines c 0 false m) (λ y l _. go x y l (next l))
      (λ y l. else_by_shrinks g' h.takes c place x y (next l) l))
      (λ x m. bind_leaves (single_takes g' h.takes c 0 false m)
      (λ y l. else_by_shrinks g' h.takes c place x y (next l) l))
    where
      go : (x : Expression) (y : Statement) (i : Tokens) (κ : Symbol)
          → Refines C (else_by g b c place x y κ i) (else_by g' b' c place x y κ i)
      go x y i k.Else =
          bind_refines (enters i) (λ t m e. value_refines _
          (lower i (entered g i e) c (part.Whole 0 false) m))
          (λ t m. value_leaves _ (h.takes.statement c (part.Whole 0 false) m))
      go x y i _ = same refl

  pub do_part_refines : (c : Context) (place : Place) (labels : ℕ) (i : Tokens)
      → Refines C (do_part g b c place labels i) (do_part g' b' c place labels i)
  unfolding do_part
  do_part_refines c place labels i =
      bind_refines (single_refines (loop_context c labels) 0 false i)
      (λ x m _. then_refines (expect k.While m) (λ t l _.
      tail_refines (bracketed_refines l) (λ y j. ended_then (s.Do x y place) j)))
      (λ x m. bind_leaves (expect_shrinks k.While m)
      (λ t l. bind_leaves (bracketed_takes g' h.takes l)
      (λ y j. ended_then (s.Do x y place) j)))

  pub while_part_refines : (c : Context) (place : Place) (labels : ℕ) (i : Tokens)
      → Refines C (while_part g b c place labels i) (while_part g' b' c place labels i)
  unfolding while_part
  while_part_refines c place labels i =
      bind_refines (bracketed_refines i) (λ x m _.
      value_refines _ (single_refines (loop_context c labels) 0 false m))
      (λ x m. value_leaves _ (single_takes g' h.takes (loop_context c labels) 0 false m))

  -- the parts of a `for`, where its parenthesis was entered
  pub optional_refines : (i : Tokens) → HasRoom g i → (close : Symbol) (j : Tokens)
      → Refines C (optional g b close j) (optional g' b' close j)
  unfolding optional
  optional_refines i room close j = go (same_symbol (next j) close)
    where
      go : (a : Bool) → Refines C (optional_by g b close a j) (optional_by g' b' close a j)
      go true = same refl
      go false =
          tail_refines (h.expression i room (of_expression.Whole false) j)
          (λ x m. closed close (Some x) m)

  pub for_rest_refines : (i : Tokens) → HasRoom g i
      → (c : Context) (place : Place) (x : ForFirst Expression) (j : Tokens)
      → Refines C (for_rest g b c place x j) (for_rest g' b' c place x j)
  unfolding for_rest
  for_rest_refines i room c place x j =
      bind_refines (optional_refines i room k.Semicolon j)
      (λ y m _. bind_refines (optional_refines i room k.CloseParenthesis m) (λ z l _.
      value_refines _ (single_refines c 0 false l))
      (λ z l. value_leaves _ (single_takes g' h.takes c 0 false l)))
      (λ y m. bind_leaves (optional_takes g' h.takes k.CloseParenthesis (λ e. cc e) m)
      (λ z l. value_leaves _ (single_takes g' h.takes c 0 false l)))

  pub in_rest_refines : (i : Tokens) → HasRoom g i
      → (c : Context) (place : Place) (x : ForTarget Expression) (j : Tokens)
      → Refines C (in_rest g b c place x j) (in_rest g' b' c place x j)
  unfolding in_rest
  in_rest_refines i room c place x j =
      bind_refines (h.expression i room (of_expression.Whole false) (behind j))
      (λ y m _. then_refines (expect k.CloseParenthesis m) (λ u l _.
      value_refines _ (single_refines c 0 false l)))
      (λ y m. bind_leaves (expect_shrinks k.CloseParenthesis m)
      (λ u l. value_leaves _ (single_takes g' h.takes c 0 false l)))

  pub for_variables_by_refines : (i : Tokens) → HasRoom g i
      → (c : Context) (place : Place) (xs : List (Declaration Expression)) (κ : Symbol) (j : Tokens)
      → Refines C (for_variables_by g b c place xs κ j) (for_variables_by g' b' c place xs κ j)
  for_variables_by_refines i room c place (x ∷ []) k.In j =
      in_rest_refines i room c place (target.Variable x) j
  for_variables_by_refines i room c place xs _ j =
      then_refines (expect k.Semicolon j) (λ t r _.
      for_rest_refines i room c place (first.Variables xs) r)

  pub for_variables_refines : (i : Tokens) → HasRoom g i
      → (c : Context) (place : Place) (j : Tokens)
      → Refines C (for_variables g b c place j) (for_variables g' b' c place j)
  unfolding for_variables
  for_variables_refines i room c place j =
      bind_refines (separated_refines (variable g (assignment_below g b true))
      (variable g' (assignment_below g' b' true))
      (variable_refines h.asks (assignment_below g b true) (assignment_below g' b' true)
      (h.expression i room (of_expression.Assignment true))
      (h.takes.expression (of_expression.Assignment true)))
      (variable_takes g' (h.takes.expression (of_expression.Assignment true))) (behind j))
      (λ xs m _. for_variables_by_refines i room c place xs (next m) m)
      (λ xs m. for_variables_by_takes g' h.takes c place xs (next m) m)

  pub for_expression_by_refines : (i : Tokens) → HasRoom g i
      → (c : Context) (place : Place) (x : Expression) (κ : Symbol) (j : Tokens)
      → Refines C (for_expression_by g b c place x κ j) (for_expression_by g' b' c place x κ j)
  for_expression_by_refines i room c place x k.In j = go (is_reference x)
    where
      go : (a : Bool) → Refines C (in_reference_by g b c place x a j)
          (in_reference_by g' b' c place x a j)
      go true = in_rest_refines i room c place (target.Reference x) j
      go false = same refl
  for_expression_by_refines i room c place x _ j =
      then_refines (expect k.Semicolon j) (λ t r _.
      for_rest_refines i room c place (first.Expression x) r)

  pub for_expression_refines : (i : Tokens) → HasRoom g i
      → (c : Context) (place : Place) (j : Tokens)
      → Refines C (for_expression g b c place j) (for_expression g' b' c place j)
  unfolding for_expression
  for_expression_refines i room c place j =
      bind_refines (h.expression i room (of_expression.Whole true) j)
      (λ x m _. for_expression_by_refines i room c place x (next m) m)
      (λ x m. for_expression_by_takes g' h.takes c place x (next m) m)

  pub for_by_refines : (i : Tokens) → HasRoom g i
      → (c : Context) (place : Place) (κ : Symbol) (j : Tokens)
      → Refines C (for_by g b c place κ j) (for_by g' b' c place κ j)
  for_by_refines i room c place k.Var j = for_variables_refines i room c place j
  for_by_refines i room c place k.Semicolon j =
      for_rest_refines i room c place first.Nothing (behind j)
  for_by_refines i room c place _ j = for_expression_refines i room c place j

  pub for_part_refines : (c : Context) (place : Place) (labels : ℕ) (i : Tokens)
      → Refines C (for_part g b c place labels i) (for_part g' b' c place labels i)
  unfolding for_part
  for_part_refines c place labels i =
      bind_refines (opens k.OpenParenthesis i)
      (λ t r e. for_by_refines i (room_of k.OpenParenthesis i e) (loop_context c labels) place
      (next r) r)
      (λ t r. for_by_takes g' h.takes (loop_context c labels) place (next r) r)

  -- each part
  pub statement_part_refines : (c : Context) (p : StatementPart) (i : Tokens)
      → Refines C (statement_part g b c p i) (statement_part g' b' c p i)
  unfolding statement_part
  statement_part_refines c (part.Whole labels outermost) = single_refines c labels outermost
  statement_part_refines c (part.If place) = if_part_refines c place
  statement_part_refines c (part.Do place labels) = do_part_refines c place labels
  statement_part_refines c (part.While place labels) = while_part_refines c place labels
  statement_part_refines c (part.For place labels) = for_part_refines c place labels
