-- Every statement of the grammar is read.
use Rattle.std.proofs.Common.{◌≡◌, ◌≢◌, ℕ, zero, suc, ◌≤◌, Bool, true, false, not, ◌&&◌, if◌then◌else◌, List, [], ◌∷◌, ◌++◌, length, Option, Some, None, refl, sym, ap, ◌∙◌, append_assoc, append-nil, le_refl, arith}
use Rattle.ja_base.specs.declared.ids.Place.{Place}
use Rattle.ja_lex.specs.declared.token.Token.{Token}
use Rattle.ja_syntax.specs.declared.symbol.Symbol.{Symbol}
use Rattle.ja_syntax.specs.declared.symbol.Symbol.TheVariants as k
use Rattle.ja_syntax.specs.declared.tree.Case.{Case, roll-Case}
use Rattle.ja_syntax.specs.declared.tree.CatchOf.{CatchOf}
use Rattle.ja_syntax.specs.declared.tree.Declaration.{Declaration}
use Rattle.ja_syntax.specs.declared.tree.Expression.{Expression}
use Rattle.ja_syntax.specs.declared.tree.ForFirst.{ForFirst}
use Rattle.ja_syntax.specs.declared.tree.ForFirst.TheVariants as first
use Rattle.ja_syntax.specs.declared.tree.ForTarget.{ForTarget}
use Rattle.ja_syntax.specs.declared.tree.ForTarget.TheVariants as target
use Rattle.ja_syntax.specs.declared.tree.FunctionOf.{FunctionOf}
use Rattle.ja_syntax.specs.declared.tree.Name.{Name}
use Rattle.ja_syntax.specs.declared.tree.Statement.{Statement}
use Rattle.ja_syntax.specs.declared.tree.Statement.TheVariants as s
use Rattle.ja_grammar.specs.declared.fault.Refusal.TheVariants.{Unexpected, Deep, DeepLabel, Broken, Alone, UnknownLabel}
use Rattle.ja_grammar.specs.declared.part.ExpressionPart.TheVariants as of_expression
use Rattle.ja_grammar.specs.declared.part.StatementPart.{StatementPart}
use Rattle.ja_grammar.specs.declared.part.StatementPart.TheVariants as part
use Rattle.ja_grammar.specs.Contexts.{Context, loop_context, switch_context, labelled_context, has_label, has_loop, may_break}
use Rattle.ja_grammar.specs.ExpressionGrammar.{Nested, Declared, Function, Assignment, Whole}
use Rattle.ja_grammar.specs.Forms.{word, name_of, begins_statement, is_label, is_label_behind, ends_clause}
use Rattle.ja_grammar.specs.Input.{Tokens, head, next, behind, symbol, new_line, Outcome, Done, Parser, and_then, ◌>>◌, pure, unless, look, take_token, after_turn, expect, many_from, separated, Rules}
use Rattle.ja_grammar.specs.Productions.{Rule, Is, At, HasRoom, Many, Separated}
use Rattle.ja_grammar.specs.ReadExpression.{Below, assignment, assignment_below, is_close_brace, declared}
use Rattle.ja_grammar.specs.ReadStatement.{ended_by, ended, variable_by, variable, labelled_by, unlabelled_by, target_by, jump_target, without_target, enter_label, Clauses, inner, block, bracketed, variables, expression_statement, untargeted, continue, continue_by, break, break_by, returned, returned_by, return, return_by, thrown, throw, label, label_by, labelled, clause, case, default, default_by, clause_by, with_case, with_default, cases, switch, catch, finally, finally_by, handlers_by, try, labelled_or_expression, function_statement, headed, single_by, single, else_by, if_part, do_part, while_part, optional, optional_by, for_rest, in_rest, for_variables, for_variables_by, in_reference_by, for_expression, for_expression_by, for_by, for_part, statement_part}
use Rattle.ja_grammar.specs.StatementGrammar.{Ended, Block, Bracketed, Variable, Target, Untargeted, Returned, Clause, Cases, Catch, Finally, Single, If, Do, While, Optional, First, For, StatementRule}
use Rattle.ja_grammar.proofs.Agree.{Milder, BelowTakes, Covers}
use Rattle.ja_grammar.proofs.ExpressionComplete.{declared_all, function_all, assignment_all, whole_all}
use Rattle.ja_grammar.proofs.ExpressionTakes.{assignment_takes}
use Rattle.ja_grammar.proofs.Lists.{separated_all}
use Rattle.ja_grammar.proofs.Opening.{opening_done}
use Rattle.ja_grammar.proofs.Outcomes.{same_symbol_is, same_symbol_other, expect_done, unless_reads, enter_done}
use Rattle.ja_grammar.proofs.Starts.{ends_list, BelowStarts, no_close_brace, no_clause_end}
use Rattle.ja_grammar.proofs.StatementTakes.{variable_takes, case_takes, default_takes}
use Rattle.ja_grammar.proofs.Walks.{enter_label_done}
use Rattle.ja_grammar.proofs.Until.{until_all}

pub ended_all : (i r : Tokens) → Ended i r → ended i ≡ Done tt r
unfolding ended
ended_all i r (Ended.semicolon {t = t} {r = m} is) = ap (λ κ. ended_by κ t.line_before (t ∷ m)) is
ended_all i r (Ended.before_brace {r = m} at) = ap (λ κ. ended_by κ (head m).line_before m) at
ended_all i r (Ended.at_end {r = m} at) = ap (λ κ. ended_by κ (head m).line_before m) at
ended_all i r (Ended.at_line {r = m} line other) =
    ap (λ b. ended_by (next m) b m) line ∙ go (next m) other
  where
    go : (κ : Symbol) → κ ≢ k.Semicolon → ended_by κ true m ≡ Done tt m
    go k.Semicolon h = absurd (h refl)
    go k.CloseBrace h = refl
    go k.End h = refl
    go _ h = refl

pub variable_all : (low g : Rules) (value : Parser Expression) (Value : Rule Expression)
    → ((i : Tokens) (x : Name) (r : Tokens) → Declared low i x r → declared g i ≡ Done x r)
    → ((i : Tokens) (x : Expression) (r : Tokens) → Value i x r → value i ≡ Done x r)
    → (i : Tokens) (x : Declaration Expression) (r : Tokens) → Variable low Value i x r
    → variable g value i ≡ Done x r
unfolding variable
variable_all low g value Value names reads i v r
    (Variable.alone {i = j} {r = m} {x = x} name other) = rw (names j x m name) (go (next m) other)
  where
    go : (κ : Symbol) → κ ≢ k.Assign → variable_by value x (head m) κ m
        ≡ Done (record { name = x; initialiser = None }) m
    go k.Assign h = absurd (h refl)
    go _ h = refl
variable_all low g value Value names reads i v r
    (Variable.initialised {t = t} {i = j} {m = m} {r = l} {x = x} {y = y} name is h) =
    rw (names j x (t ∷ m) name) (ap (λ κ. variable_by value x t κ (t ∷ m)) is
    ∙ rw (reads m y l h) refl)

pub jump_target_all : (low g : Rules) → Milder low g
    → (allowed known : List ℕ → Bool) (alone : Bool) (place : Place) (i : Tokens) (x : Option Name)
    (r : Tokens)
    → Target low allowed known alone place i x r
    → jump_target g allowed known alone place i ≡ Done x r
unfolding jump_target
jump_target_all low g milder allowed known alone place i x r
    (Target.labelled {t = t} {r = m} is ok) =
    ap (λ b. target_by g allowed known alone place t b (t ∷ m)) is
    ∙ ap (λ b. labelled_by g place t b (known (word t)) (t ∷ m)) ok
jump_target_all low g milder allowed known alone place i x r (Target.unlabelled {r = m} ok other) =
    ap (λ b. target_by g allowed known alone place (head m) b m) other
    ∙ ap (λ b. unlabelled_by g place b m) ok
jump_target_all low g milder allowed known alone place i x r
    (Target.known {t = t} {r = m} is denied ok off) =
    ap (λ b. target_by g allowed known alone place t b (t ∷ m)) is
    ∙ ap (λ b. labelled_by g place t b (known (word t)) (t ∷ m)) denied
    ∙ ap (λ b. labelled_by g place t false b (t ∷ m)) ok
    ∙ unless_reads g (Broken place) (take_token >> pure (Some (name_of t))) (t ∷ m)
    (milder (Broken place) (t ∷ m) off)
jump_target_all low g milder allowed known alone place i x r
    (Target.alone {r = m} denied other off) =
    ap (λ b. target_by g allowed known alone place (head m) b m) other
    ∙ ap (λ b. unlabelled_by g place b m) denied
    ∙ unless_reads g (Alone place) (pure None) m (milder (Alone place) m off)

-- a label that is none around is why the word of a jump is refused where there is nothing to leave
without_label : (c : Context) (u : Token) → is_label_behind u ≡ true → has_label c (word u) ≡ false
    → without_target c u ≡ UnknownLabel u.place
unfolding without_target
without_label c u is none =
    ap (λ b. if b && not (has_label c (word u)) then UnknownLabel u.place else Unexpected) is
    ∙ ap (λ b. if not b then UnknownLabel u.place else Unexpected) none

module _ (low g : Rules) (milder : Milder low g) (n : Nested) (b : Below) (T : BelowTakes b)
    (S : BelowStarts b) (A : Covers n b) where
  -- what has a level left has one by milder rules
  room : (i : Tokens) → HasRoom low i → HasRoom g i
  room i some = milder Deep i some

  -- statements up to what ends them
  inner_all : (c : Context) (i : Tokens) (x : Statement) (r : Tokens)
      → n.statement c (part.Whole 0 false) i x r → inner g b c i ≡ Done x r
  inner_all c i x r h = A.statement_all c (part.Whole 0 false) i x r h

  inner_starts : (c : Context) (i : Tokens) (x : Statement) (r : Tokens)
      → n.statement c (part.Whole 0 false) i x r → ends_list (next i) ≡ false
  inner_starts c i x r h = S.statement c 0 false i x r (inner_all c i x r h)

  pub block_all : (c : Context) (i : Tokens) (xs : List Statement) (r : Tokens)
      → Block low n c i xs r → block g b c i ≡ Done xs r
  unfolding block
  block_all c i xs r (Block.block {t = t} {u = u} {i = m} {r = q} {xs = ys} is some body close) =
      rw (
        opening_done g k.OpenBrace t m (room (t ∷ m) some) is,
        until_all is_close_brace (inner g b c) (n.statement c (part.Whole 0 false))
            (At k.CloseBrace) (T.statement c (part.Whole 0 false)) refl
            (λ r at. ap is_close_brace at) (λ i x r h.
            no_close_brace (next i) (inner_starts c i x r h)) (inner_all c) m ys (u ∷ q) body,
        expect_done k.CloseBrace u q close,
      ) refl

  pub bracketed_all : (i : Tokens) (x : Expression) (r : Tokens) → Bracketed low n i x r
      → bracketed g b i ≡ Done x r
  unfolding bracketed
  bracketed_all i x r (Bracketed.bracketed {t = t} {u = u} {i = m} {r = q} {x = y} is some h
      close) =
      rw (
        opening_done g k.OpenParenthesis t m (room (t ∷ m) some) is,
        A.expression_all (of_expression.Whole false) m y (u ∷ q) h,
        expect_done k.CloseParenthesis u q close,
      ) refl

  pub returned_all : (i : Tokens) (x : Option Expression) (r : Tokens) → Returned low n i x r
      → returned g b i ≡ Done x r
  unfolding returned
  returned_all i x r (Returned.nothing {r = m} ends) = ap (λ a. returned_by g b a m) ends
  returned_all i x r (Returned.value {i = j} {r = m} {x = y} goes h) =
      ap (λ a. returned_by g b a j) goes ∙ rw (whole_all low g milder n b T S A false j y m h) refl

  pub clause_all : (c : Context) (t : Token) (i : Tokens) (xs : List Statement) (r : Tokens)
      → Is k.Colon t → Clause n c i xs r → clause g b c (t ∷ i) ≡ Done xs r
  unfolding clause ends_clause
  clause_all c t i xs r is h = rw (expect_done k.Colon t i is)
      (until_all ends_clause (inner g b c) (n.statement c (part.Whole 0 false))
      (λ r. ends_clause (next r) ≡ true) (T.statement c (part.Whole 0 false)) refl (λ r at. at)
      (λ i x r h. no_clause_end (next i) (inner_starts c i x r h)) (inner_all c) i xs r h)

  pub case_all : (c : Context) (t u : Token) (i m : Tokens) (x : Expression) (xs : List Statement)
      (r : Tokens) → n.expression (of_expression.Whole false) i x (u ∷ m)
      → Is k.Colon u → Clause n c m xs r → case g b c (t ∷ i)
      ≡ Done (roll-Case (record { test = Some x; body = xs; place = t.place })) r
  unfolding case
  case_all c t u i m x xs r h is y' =
      rw (A.expression_all (of_expression.Whole false) i x (u ∷ m) h, clause_all c u m xs r is y')
      refl

  pub default_all : (c : Context) (t u : Token) (m : Tokens) (xs : List Statement) (r : Tokens)
      → Is k.Colon u → Clause n c m xs r → default g b c (t ∷ u ∷ m)
      ≡ Done (roll-Case (record { test = None; body = xs; place = t.place })) r
  unfolding default
  default_all c t u m xs r is y' = rw (clause_all c u m xs r is y') refl

  -- the clauses behind those that were found, up to the `}`
  abbrev Closes : Context → ℕ → Clauses → Tokens → List Case → Tokens → Type 0
  Closes c m cs i xs r =
      (o : Clauses) × (u : Token) × Is k.CloseBrace u × (o.found ≡ cs.found ++ xs)
      × (many_from (λ cs. look (λ t. clause_by g b c cs (symbol t))) m cs i ≡ Done o (u ∷ r))

  -- a turn that goes on, and the rest
  goes_on : (c : Context) (m : ℕ) (cs ds : Clauses) (i l : Tokens) (x : Case) (xs : List Case)
      (r : Tokens) → (look (λ t. clause_by g b c cs (symbol t))) i ≡ Done (Some ds) l
      → ds.found ≡ cs.found ++ x ∷ [] → Closes c m ds l xs r → Closes c (suc m) cs i (x ∷ xs) r
  unfolding many_from
  goes_on c m cs ds i l x xs r e found h = (
    h.0,
    h.1,
    h.2,
    h.3 ∙ ap (λ y. y ++ xs) found ∙ append_assoc cs.found (x ∷ []) xs,
    ap (λ o. and_then o (after_turn cs (many_from (λ cs. look (λ t. clause_by g b c cs (symbol t)))
        m))) e ∙ h.4,
  )

  clauses_all : (c : Context) (m : ℕ) (cs : Clauses) (a : Bool) (i : Tokens) (xs : List Case)
      (r : Tokens) → cs.defaulted ≡ a → length i ≤ m → Cases n c a i xs r → Closes c m cs i xs r
  unfolding many_from
  clauses_all c zero cs a i xs r e room (Cases.close is) = absurd (omega (arith, room))
  clauses_all c zero cs a i xs r e room (Cases.case at h is y' more) = absurd (omega (arith, room))
  clauses_all c zero cs a i xs r e room (Cases.default at is y' more) = absurd (omega (arith, room))
  clauses_all c (suc m) cs a i xs r e room (Cases.close {t = t} {r = q} is) = (
    cs,
    t,
    is,
    sym (append-nil cs.found),
    ap (λ o. and_then o (after_turn cs (many_from
        (λ cs. look (λ t. clause_by g b c cs (symbol t))) m)))
        (ap (λ κ. clause_by g b c cs κ (t ∷ q)) is),
  )
  clauses_all c (suc m) cs a i xs r e room
      (Cases.case {t = t} {u = u} {i = j} {m = o} {l = l} {r = q} {x = x} {xs = ys} {cs = ds} at h
      is y' more) =
      let y : Case = roll-Case (record { test = Some x; body = ys; place = t.place }) in
      let reads : case g b c (t ∷ j) ≡ Done y l = case_all c t u j o x ys l h is y' in
      let fewer : length l ≤ m = omega (arith, room, (case_takes g T c (t ∷ j)).leaves y l reads) in
      goes_on c m cs (with_case g b cs y) (t ∷ j) l y ds q
      (ap (λ κ. clause_by g b c cs κ (t ∷ j)) at ∙ rw reads refl) refl
      (clauses_all c m (with_case g b cs y) a l ds q e fewer more)
  clauses_all c (suc m) cs a i xs r e room
      (Cases.default {t = t} {u = u} {m = o} {l = l} {r = q} {xs = ys} {cs = ds} at is y' more) =
      let y : Case = roll-Case (record { test = None; body = ys; place = t.place }) in
      let reads : default g b c (t ∷ u ∷ o) ≡ Done y l = default_all c t u o ys l is y' in
      let fewer : length l ≤ m = omega (
        arith,
        room,
        (default_takes g T c (t ∷ u ∷ o)).leaves y l reads,
      ) in
      goes_on c m cs (with_default g b cs y) (t ∷ u ∷ o) l y ds q
      (ap (λ κ. clause_by g b c cs κ (t ∷ u ∷ o)) at
      ∙ ap (λ a. default_by g b c cs a (t ∷ u ∷ o)) e ∙ rw reads refl) refl
      (clauses_all c m (with_default g b cs y) true l ds q refl fewer more)

  pub cases_all : (c : Context) (t : Token) (i : Tokens) (xs : List Case) (r : Tokens)
      → Is k.OpenBrace t → HasRoom low (t ∷ i) → Cases n c false i xs r
      → cases g b c (t ∷ i) ≡ Done xs r
  unfolding cases
  cases_all c t i xs r is some h =
      let f = clauses_all c (length i) (record { defaulted = false; found = [] }) false i xs r refl
      (le_refl (length i)) h in
      rw (
        opening_done g k.OpenBrace t i (room (t ∷ i) some) is,
        f.4,
        expect_done k.CloseBrace f.1 r f.2,
      ) (ap (λ ys. Done ys r) f.3)

  pub catch_all : (c : Context) (i : Tokens) (x : CatchOf Statement) (r : Tokens)
      → Catch low n c i x r → catch g b c i ≡ Done x r
  unfolding catch
  catch_all c i x r (Catch.caught {t = t} {u = u} {v = v} {i = j} {m = m} {r = q} {x = y} {xs = xs}
      at is some name close h) =
      rw (
        opening_done g k.OpenParenthesis u j (room (u ∷ j) some) is,
        declared_all low g milder j y (v ∷ m) name,
        expect_done k.CloseParenthesis v m close,
        block_all c m xs q h,
      ) refl

  pub finally_all : (c : Context) (i : Tokens) (xs : List Statement) (r : Tokens)
      → Finally low n c i xs r → finally g b c i ≡ Done xs r
  unfolding finally
  finally_all c i xs r (Finally.finally {t = t} {i = j} {r = q} {xs = ys} at h) =
      block_all c j ys q h

  -- ---- a statement

  -- by the symbol of its first token
  single_at : (c : Context) (labels : ℕ) (outermost : Bool) (i : Tokens) {κ : Symbol}
      {o : Outcome Statement} → next i ≡ κ → single_by g b c labels outermost (head i) κ i ≡ o
      → single g b c labels outermost i ≡ o
  unfolding single
  single_at c labels outermost i h e = ap (λ κ. single_by g b c labels outermost (head i) κ i) h ∙ e

  headed_all : (c : Context) (p : StatementPart) (t : Token) (i : Tokens) (x : Statement)
      (r : Tokens) → HasRoom low (t ∷ i) → n.statement c p i x r → headed g b c p (t ∷ i) ≡ Done x r
  headed_all c p t i x r some h =
      rw (enter_done g t i (room (t ∷ i) some)) (A.statement_all c p i x r h)

  pub variables_all : (t : Token) (i : Tokens) (xs : List (Declaration Expression)) (m r : Tokens)
      → Separated (Variable low (Assignment low n false)) i xs m → Ended m r
      → variables g b (t ∷ i) ≡ Done (s.Variables xs t.place) r
  unfolding variables
  variables_all t i xs m r h e =
      rw (
        separated_all (variable g (assignment g b false)) (Variable low (Assignment low n false))
            (variable_takes g (assignment_takes g T false))
            (variable_all low g (assignment g b false) (Assignment low n false)
            (declared_all low g milder) (assignment_all low g milder n b T S A false)) i xs m h,
        ended_all m r e,
      ) refl

  pub expression_statement_all : (i : Tokens) (x : Expression) (m r : Tokens)
      → Whole low n false i x m → Ended m r → expression_statement g b i
      ≡ Done (s.Expression x (head i).place) r
  unfolding expression_statement
  expression_statement_all i x m r h e =
      rw (whole_all low g milder n b T S A false i x m h, ended_all m r e) refl

  -- no other statement begins so
  expression_by : (c : Context) (labels : ℕ) (outermost : Bool) (i : Tokens) (κ : Symbol)
      → begins_statement κ ≡ false → is_label (next i) (next (behind i)) ≡ false
      → single_by g b c labels outermost (head i) κ i ≡ expression_statement g b i
  unfolding begins_statement
  expression_by c labels outermost i k.OpenBrace h y' = cc h
  expression_by c labels outermost i k.Var h y' = cc h
  expression_by c labels outermost i k.Semicolon h y' = cc h
  expression_by c labels outermost i k.If h y' = cc h
  expression_by c labels outermost i k.Do h y' = cc h
  expression_by c labels outermost i k.While h y' = cc h
  expression_by c labels outermost i k.For h y' = cc h
  expression_by c labels outermost i k.Continue h y' = cc h
  expression_by c labels outermost i k.Break h y' = cc h
  expression_by c labels outermost i k.Return h y' = cc h
  expression_by c labels outermost i k.Switch h y' = cc h
  expression_by c labels outermost i k.Throw h y' = cc h
  expression_by c labels outermost i k.Try h y' = cc h
  expression_by c labels outermost i k.Function h y' = cc h
  expression_by c labels outermost i k.Name h y' =
      ap (λ a. labelled_or_expression g b c labels a i) y'
  expression_by c labels outermost i _ h y' = refl

  -- where there is nothing to leave
  untargeted_all : (jump : Option Name → Statement) (c : Context) (i : Tokens) (x : Name)
      (r : Tokens) → Untargeted low c i x r
      → untargeted g b jump c (head (behind i)) i ≡ Done (jump (Some x)) r
  untargeted_all jump c i x r (Untargeted.untargeted {t = t} {u = u} {i = j} is none off e) =
      ap (λ why. unless g why reads (t ∷ u ∷ j)) (without_label c u is none)
      ∙ unless_reads g (UnknownLabel u.place) reads (t ∷ u ∷ j)
      (milder (UnknownLabel u.place) (t ∷ u ∷ j) off) ∙ rw (ended_all j r e) refl
    where
      reads : Parser Statement
      reads = take_token >> (take_token >> (ended >> pure (jump (Some (name_of u)))))

  pub continue_all : (c : Context) (t : Token) (i : Tokens) (x : Option Name) (m r : Tokens)
      → c.in_loop ≡ true → Target low (has_loop c) (has_label c) true t.place i x m → Ended m r
      → continue g b c (t ∷ i) ≡ Done (s.Continue x t.place) r
  unfolding continue
  continue_all c t i x m r ok h e =
      ap (λ a. continue_by g b c a (t ∷ i)) ok
      ∙ rw (
        jump_target_all low g milder (has_loop c) (has_label c) true t.place i x m h,
        ended_all m r e,
      ) refl

  pub continue_untargeted_all : (c : Context) (i : Tokens) (x : Name) (r : Tokens)
      → c.in_loop ≡ false → Untargeted low c i x r
      → continue g b c i ≡ Done (s.Continue (Some x) (head i).place) r
  unfolding continue
  continue_untargeted_all c i x r denied h =
      ap (λ a. continue_by g b c a i) denied
      ∙ untargeted_all (λ x. s.Continue x (head i).place) c i x r h

  pub break_all : (c : Context) (t : Token) (i : Tokens) (x : Option Name) (m r : Tokens)
      → may_break c ≡ true → Target low (has_label c) (has_label c) c.in_breakable t.place i x m
      → Ended m r
      → break g b c (t ∷ i) ≡ Done (s.Break x t.place) r
  unfolding break
  break_all c t i x m r ok h e =
      ap (λ a. break_by g b c a (t ∷ i)) ok ∙ rw (
        jump_target_all low g milder (has_label c)
            (has_label c) c.in_breakable t.place i x m h,
        ended_all m r e,
      ) refl

  pub break_untargeted_all : (c : Context) (i : Tokens) (x : Name) (r : Tokens)
      → may_break c ≡ false → Untargeted low c i x r
      → break g b c i ≡ Done (s.Break (Some x) (head i).place) r
  unfolding break
  break_untargeted_all c i x r denied h =
      ap (λ a. break_by g b c a i) denied ∙ untargeted_all (λ x. s.Break x (head i).place) c i x r h

  pub return_all : (c : Context) (t : Token) (i : Tokens) (x : Option Expression) (m r : Tokens)
      → c.in_function ≡ true → Returned low n i x m → Ended m r
      → return g b c (t ∷ i) ≡ Done (s.Return x t.place) r
  unfolding return
  return_all c t i x m r ok h e =
      ap (λ a. return_by g b a (t ∷ i)) ok ∙ rw (returned_all i x m h, ended_all m r e) refl

  -- behind the label, whatever is asked of it
  label_then : (c : Context) (labels : ℕ) (t u : Token) (i : Tokens) (x : Statement) (r : Tokens)
      → label_by g b t (has_label c (word t)) (u ∷ i) ≡ Done u i
      → n.statement (labelled_context c (word t)) (part.Whole (suc labels) false) i x r
      → labelled g b c labels (t ∷ u ∷ i) ≡ Done (s.Labelled (name_of t) x) r
  unfolding labelled label
  label_then c labels t u i x r e h =
      rw (e, A.statement_all (labelled_context c (word t)) (part.Whole (suc labels) false) i x r h)
      refl

  pub labelled_all : (c : Context) (labels : ℕ) (t u : Token) (i : Tokens) (x : Statement)
      (r : Tokens) → has_label c (word t) ≡ false → low (DeepLabel t.place) (u ∷ i) ≡ false
      → n.statement (labelled_context c (word t)) (part.Whole (suc labels) false) i x r
      → labelled g b c labels (t ∷ u ∷ i) ≡ Done (s.Labelled (name_of t) x) r
  labelled_all c labels t u i x r fresh some h =
      label_then c labels t u i x r (ap (λ a. label_by g b t a (u ∷ i)) fresh
      ∙ enter_label_done g t.place u i (milder (DeepLabel t.place) (u ∷ i) some)) h

  pub relabelled_all : (c : Context) (labels : ℕ) (t u : Token) (i : Tokens) (x : Statement)
      (r : Tokens) → has_label c (word t) ≡ true → low (Broken t.place) (u ∷ i) ≡ false
      → low (DeepLabel t.place) (u ∷ i) ≡ false
      → n.statement (labelled_context c (word t)) (part.Whole (suc labels) false) i x r
      → labelled g b c labels (t ∷ u ∷ i) ≡ Done (s.Labelled (name_of t) x) r
  relabelled_all c labels t u i x r again off some h =
      label_then c labels t u i x r
      (ap (λ a. label_by g b t a (u ∷ i)) again
      ∙ unless_reads g (Broken t.place) (enter_label g t.place) (u ∷ i)
      (milder (Broken t.place) (u ∷ i) off)
      ∙ enter_label_done g t.place u i (milder (DeepLabel t.place) (u ∷ i) some)) h

  pub switch_all : (c : Context) (t v : Token) (i m : Tokens) (x : Expression) (cs : List Case)
      (r : Tokens) → Bracketed low n i x (v ∷ m) → Is k.OpenBrace v → HasRoom low (v ∷ m)
      → Cases n (switch_context c) false m cs r
      → switch g b c (t ∷ i) ≡ Done (s.Switch x cs t.place) r
  unfolding switch
  switch_all c t v i m x cs r h is some y' =
      rw (bracketed_all i x (v ∷ m) h, cases_all (switch_context c) v m cs r is some y') refl

  pub throw_all : (t : Token) (i : Tokens) (x : Expression) (m r : Tokens) → new_line i ≡ false
      → Whole low n false i x m → Ended m r → throw g b (t ∷ i) ≡ Done (s.Throw x t.place) r
  unfolding throw thrown
  throw_all t i x m r line h e =
      rw (line, whole_all low g milder n b T S A false i x m h, ended_all m r e) refl

  catch_at : (c : Context) (i : Tokens) (x : CatchOf Statement) (r : Tokens) → Catch low n c i x r
      → next i ≡ k.Catch
  catch_at c i x r (Catch.caught at is some name close h) = at

  finally_at : (c : Context) (i : Tokens) (xs : List Statement) (r : Tokens)
      → Finally low n c i xs r → next i ≡ k.Finally
  finally_at c i xs r (Finally.finally at h) = at

  no_finally : (c : Context) (t : Token) (xs : List Statement) (x : CatchOf Statement) (r : Tokens)
      (κ : Symbol) → κ ≢ k.Finally → finally_by g b c t xs x κ r
      ≡ Done (s.Try xs (Some x) None t.place) r
  no_finally c t xs x r k.Finally h = absurd (h refl)
  no_finally c t xs x r _ h = refl

  block_at : (c : Context) (i : Tokens) (xs : List Statement) (r : Tokens) → Block low n c i xs r
      → next i ≡ k.OpenBrace
  block_at c i xs r (Block.block is some body close) = is

  function_at : (required : Bool) (i : Tokens) (f : FunctionOf Statement) (r : Tokens)
      → Function low n required i f r → next i ≡ k.Function
  function_at required i f r (Function.function is name open_1 some xs open_2 more body close) = is

  -- a name and a colon
  label_at : (c : Context) (labels : ℕ) (t u : Token) (i : Tokens) → Is k.Name t → Is k.Colon u
      → labelled_or_expression g b c labels (is_label (symbol t) (symbol u)) (t ∷ u ∷ i)
      ≡ labelled g b c labels (t ∷ u ∷ i)
  label_at c labels t u i is colon =
      ap (λ κ. labelled_or_expression g b c labels (is_label κ (symbol u)) (t ∷ u ∷ i)) is
      ∙ ap (λ κ. labelled_or_expression g b c labels (is_label k.Name κ) (t ∷ u ∷ i)) colon

  pub single_all : (c : Context) (labels : ℕ) (outermost : Bool) (i : Tokens) (x : Statement)
      (r : Tokens) → Single low n c labels outermost i x r
      → single g b c labels outermost i ≡ Done x r
  unfolding try
  single_all c labels outermost i x r (Single.block {i = j} {r = q} {xs = xs} h) =
      single_at c labels outermost j (block_at c j xs q h) (rw (block_all c j xs q h) refl)
  single_all c labels outermost i x r (Single.variables {t = t} {i = j} {m = m} {r = q} {xs = xs} is
      h e) = single_at c labels outermost (t ∷ j) is (variables_all t j xs m q h e)
  single_all c labels outermost i x r (Single.empty {t = t} {r = q} is) =
      single_at c labels outermost (t ∷ q) is refl
  single_all c labels outermost i x r (Single.expression {i = j} {m = m} {r = q} {x = y} plain
      unlabelled h e) =
      single_at c labels outermost j refl (expression_by c labels outermost j (next j) plain
      unlabelled ∙ expression_statement_all j y m q h e)
  single_all c labels outermost i x r (Single.if {t = t} {i = j} {r = q} {x = y} is some h) =
      single_at c labels outermost (t ∷ j) is (headed_all c (part.If t.place) t j y q some h)
  single_all c labels outermost i x r (Single.do_while {t = t} {i = j} {r = q} {x = y} is some h) =
      single_at c labels outermost (t ∷ j) is (headed_all c (part.Do t.place labels) t j y q some h)
  single_all c labels outermost i x r (Single.while {t = t} {i = j} {r = q} {x = y} is some h) =
      single_at c labels outermost (t ∷ j) is
      (headed_all c (part.While t.place labels) t j y q some h)
  single_all c labels outermost i x r (Single.for {t = t} {i = j} {r = q} {x = y} is some h) =
      single_at c labels outermost (t ∷ j) is
      (headed_all c (part.For t.place labels) t j y q some h)
  single_all c labels outermost i x r (Single.continue {t = t} {i = j} {m = m} {r = q} {x = y} is ok
      h e) = single_at c labels outermost (t ∷ j) is (continue_all c t j y m q ok h e)
  single_all c labels outermost i x r (Single.break {t = t} {i = j} {m = m} {r = q} {x = y} is ok h
      e) = single_at c labels outermost (t ∷ j) is (break_all c t j y m q ok h e)
  single_all c labels outermost i x r (Single.return {t = t} {i = j} {m = m} {r = q} {x = y} is ok h
      e) = single_at c labels outermost (t ∷ j) is (return_all c t j y m q ok h e)
  single_all c labels outermost i x r (Single.labelled {t = t} {u = u} {i = j} {r = q} {x = y} is
      colon fresh some h) = single_at c labels outermost (t ∷ u ∷ j) is
      (label_at c labels t u j is colon ∙ labelled_all c labels t u j y q fresh some h)
  single_all c labels outermost i x r (Single.switch {t = t} {v = v} {i = j} {m = m} {r = q} {x = y}
      {cs = cs} is h at some y') = single_at c labels outermost (t ∷ j) is
      (switch_all c t v j m y cs q h at some y')
  single_all c labels outermost i x r (Single.throw {t = t} {i = j} {m = m} {r = q} {x = y} is line
      h e) = single_at c labels outermost (t ∷ j) is (throw_all t j y m q line h e)
  single_all c labels outermost i x r (Single.try_catch {t = t} {i = j} {m = m} {r = q} {xs = xs}
      {h = y} is h y' other) = single_at c labels outermost (t ∷ j) is
      (rw (block_all c j xs m h) (ap (λ κ. handlers_by g b c t xs κ m) (catch_at c m y q y')
      ∙ rw (catch_all c m y q y') (no_finally c t xs y q (next q) other)))
  single_all c labels outermost i x r (Single.try_both {t = t} {i = j} {m = m} {l = l} {r = q}
      {xs = xs} {ys = ys} {h = y} is h y' f) = single_at c labels outermost (t ∷ j) is
      (rw (block_all c j xs m h) (ap (λ κ. handlers_by g b c t xs κ m) (catch_at c m y l y')
      ∙ rw (catch_all c m y l y')
      (ap (λ κ. finally_by g b c t xs y κ l) (finally_at c l ys q f)
      ∙ rw (finally_all c l ys q f) refl)))
  single_all c labels outermost i x r (Single.try_finally {t = t} {i = j} {m = m} {r = q} {xs = xs}
      {ys = ys} is h f) = single_at c labels outermost (t ∷ j) is
      (rw (block_all c j xs m h) (ap (λ κ. handlers_by g b c t xs κ m) (finally_at c m ys q f)
      ∙ rw (finally_all c m ys q f) refl))
  single_all c labels outermost i x r (Single.function {i = j} {r = q} {f = f} ok h) =
      single_at c labels outermost j (function_at true j f q h)
      (ap (λ a. function_statement g b a j) ok
      ∙ rw (function_all low g milder n b T S A true j f q h) refl)
  single_all c labels outermost i x r (Single.relabelled {t = t} {u = u} {i = j} {r = q} {x = y} is
      colon again off some h) = single_at c labels outermost (t ∷ u ∷ j) is
      (label_at c labels t u j is colon ∙ relabelled_all c labels t u j y q again off some h)
  single_all c labels outermost i x r (Single.continue_untargeted {i = j} {r = q} {x = y} at denied
      h) = single_at c labels outermost j at (continue_untargeted_all c j y q denied h)
  single_all c labels outermost i x r (Single.break_untargeted {i = j} {r = q} {x = y} at denied
      h) = single_at c labels outermost j at (break_untargeted_all c j y q denied h)

  -- ---- behind a word that counts

  no_else : (c : Context) (place : Place) (x : Expression) (y : Statement) (r : Tokens) (κ : Symbol)
      → κ ≢ k.Else → else_by g b c place x y κ r ≡ Done (s.If x y None place) r
  no_else c place x y r k.Else h = absurd (h refl)
  no_else c place x y r _ h = refl

  pub if_part_all : (c : Context) (place : Place) (i : Tokens) (x : Statement) (r : Tokens)
      → If low n c place i x r → if_part g b c place i ≡ Done x r
  unfolding if_part
  if_part_all c place i v r (If.alone {i = j} {m = m} {r = q} {x = x} {y = y} h y' other) =
      rw (bracketed_all j x m h, single_all c 0 false m y q y')
      (no_else c place x y q (next q) other)
  if_part_all c place i v r (If.both {t = t} {i = j} {m = m} {l = l} {r = q} {x = x} {y = y} {z = z}
      h y' is some f) = rw (bracketed_all j x m h, single_all c 0 false m y (t ∷ l) y')
      (ap (λ κ. else_by g b c place x y κ (t ∷ l)) is
      ∙ rw (enter_done g t l (room (t ∷ l) some), inner_all c l z q f) refl)

  pub do_part_all : (c : Context) (place : Place) (labels : ℕ) (i : Tokens) (x : Statement)
      (r : Tokens) → Do low n c place labels i x r → do_part g b c place labels i ≡ Done x r
  unfolding do_part
  do_part_all c place labels i v r (Do.do_while {t = t} {i = j} {m = m} {l = l} {r = q} {x = x}
      {y = y} h is y' e) =
      rw (
        single_all (loop_context c labels) 0 false j x (t ∷ m) h,
        expect_done k.While t m is,
        bracketed_all m y l y',
        ended_all l q e,
      ) refl

  pub while_part_all : (c : Context) (place : Place) (labels : ℕ) (i : Tokens) (x : Statement)
      (r : Tokens) → While low n c place labels i x r → while_part g b c place labels i ≡ Done x r
  unfolding while_part
  while_part_all c place labels i v r (While.while {i = j} {m = m} {r = q} {x = x} {y = y} h y') =
      rw (bracketed_all j x m h, single_all (loop_context c labels) 0 false m y q y') refl

  pub optional_all : (close : Symbol) (i : Tokens) (x : Option Expression) (r : Tokens)
      → Optional n close i x r → optional g b close i ≡ Done x r
  unfolding optional
  optional_all close i v r (Optional.absent {t = t} {r = q} is) =
      ap (λ a. optional_by g b close a (t ∷ q)) (same_symbol_is (symbol t) close is)
  optional_all close i v r (Optional.present {t = t} {i = j} {r = q} {x = x} other h is) =
      ap (λ a. optional_by g b close a j) (same_symbol_other (next j) close other)
      ∙ rw (
        A.expression_all (of_expression.Whole false) j x (t ∷ q) h,
        expect_done close t q is,
      ) refl

  pub in_rest_all : (c : Context) (place : Place) (x : ForTarget Expression) (v w : Token)
      (m l : Tokens) (y : Expression) (z : Statement) (r : Tokens)
      → n.expression (of_expression.Whole false) m y (w ∷ l) → Is k.CloseParenthesis w
      → Single low n c 0 false l z r → in_rest g b c place x (v ∷ m)
      ≡ Done (s.ForIn x y z place) r
  unfolding in_rest
  in_rest_all c place x v w m l y z r h is y' =
      rw (
        A.expression_all (of_expression.Whole false) m y (w ∷ l) h,
        expect_done k.CloseParenthesis w l is,
        single_all c 0 false l z r y',
      ) refl

  for_variables_at : (c : Context) (place : Place) (xs : List (Declaration Expression))
      → for_variables_by g b c place xs k.Semicolon
      ≡ expect k.Semicolon >> for_rest g b c place (first.Variables xs)
  for_variables_at c place [] = refl
  for_variables_at c place (x ∷ []) = refl
  for_variables_at c place (x ∷ y ∷ xs) = refl

  for_expression_at : (c : Context) (place : Place) (i : Tokens) (κ : Symbol) → κ ≢ k.Var
      → κ ≢ k.Semicolon → for_by g b c place κ i ≡ for_expression g b c place i
  for_expression_at c place i k.Var h y' = absurd (h refl)
  for_expression_at c place i k.Semicolon h y' = absurd (y' refl)
  for_expression_at c place i _ h y' = refl

  for_variables_all : (i : Tokens) (xs : List (Declaration Expression)) (r : Tokens)
      → Separated (Variable low (n.expression (of_expression.Assignment true))) i xs r
      → separated (variable g (assignment_below g b true)) i ≡ Done xs r
  for_variables_all i xs r h =
      separated_all (variable g (assignment_below g b true))
      (Variable low (n.expression (of_expression.Assignment true)))
      (variable_takes g (T.expression (of_expression.Assignment true)))
      (variable_all low g (assignment_below g b true) (n.expression (of_expression.Assignment true))
      (declared_all low g milder) (A.expression_all (of_expression.Assignment true))) i xs r h

  -- what stands before the first `;`, and then the rest
  first_all : (c : Context) (place : Place) (i : Tokens) (x : ForFirst Expression) (m : Tokens)
      {o : Outcome Statement} → First low n i x m → for_rest g b c place x m ≡ o
      → for_by g b c place (next i) i ≡ o
  unfolding for_expression for_variables
  first_all c place i x m (First.nothing {t = t} {r = q} is) e =
      ap (λ κ. for_by g b c place κ (t ∷ q)) is ∙ e
  first_all c place i x m (First.expression {t = t} {i = j} {r = q} {x = y} other empty h is) e =
      for_expression_at c place j (next j) other empty ∙
      rw (A.expression_all (of_expression.Whole true) j y (t ∷ q) h)
      (ap (λ κ. for_expression_by g b c place y κ (t ∷ q)) is
      ∙ rw (expect_done k.Semicolon t q is) e)
  first_all c place i x m (First.variables {t = t} {u = u} {i = j} {r = q} {xs = xs} at h is) e =
      ap (λ κ. for_by g b c place κ (t ∷ j)) at ∙
      rw (for_variables_all j xs (u ∷ q) h) (ap (λ κ. for_variables_by g b c place xs κ (u ∷ q)) is
      ∙ ap (λ p. p (u ∷ q)) (for_variables_at c place xs)
      ∙ rw (expect_done k.Semicolon u q is) e)

  pub for_part_all : (c : Context) (place : Place) (labels : ℕ) (i : Tokens) (x : Statement)
      (r : Tokens) → For low n c place labels i x r → for_part g b c place labels i ≡ Done x r
  unfolding for_part for_rest for_expression for_variables
  for_part_all c place labels i v r (For.for {t = t} {i = j} {m = m} {l = l} {j = o} {r = q} {x = x}
      {y = y} {z = z} {w = w} is some f y' h body) =
      rw (opening_done g k.OpenParenthesis t j (room (t ∷ j) some) is)
      (first_all (loop_context c labels) place j x m f
      (rw (
        optional_all k.Semicolon m y l y',
        optional_all k.CloseParenthesis l z o h,
        single_all (loop_context c labels) 0 false o w q body,
      ) refl))
  for_part_all c place labels i v r (For.in_variable {t = t} {u = u} {v = v1} {w = w} {i = j}
      {m = m} {l = l} {r = q} {x = x} {y = y} {z = z} is some at h in_is y' close body) =
      rw (opening_done g k.OpenParenthesis t (u ∷ j) (room (t ∷ u ∷ j) some) is)
      (ap (λ κ. for_by g b (loop_context c labels) place κ (u ∷ j)) at ∙
      rw (for_variables_all j (x ∷ []) (v1 ∷ m)
      (Separated.separated h (Many.none (λ e. cc (e, in_is)))))
      (ap (λ κ. for_variables_by g b (loop_context c labels) place (x ∷ []) κ (v1 ∷ m)) in_is
      ∙ in_rest_all (loop_context c labels) place (target.Variable x) v1 w m l y z q y' close
      body))
  for_part_all c place labels i v r (For.in_reference {t = t} {v = v1} {w = w} {i = j} {m = m}
      {l = l} {r = q} {x = x} {y = y} {z = z} is some other empty h in_is ok y' close body) =
      rw (opening_done g k.OpenParenthesis t j (room (t ∷ j) some) is)
      (for_expression_at (loop_context c labels) place j (next j) other empty ∙
      rw (A.expression_all (of_expression.Whole true) j x (v1 ∷ m) h)
      (ap (λ κ. for_expression_by g b (loop_context c labels) place x κ (v1 ∷ m)) in_is
      ∙ ap (λ a. in_reference_by g b (loop_context c labels) place x a (v1 ∷ m)) ok
      ∙ in_rest_all (loop_context c labels) place (target.Reference x) v1 w m l y z q y' close
      body))

  -- each part
  pub statement_part_all : (c : Context) (p : StatementPart) (i : Tokens) (x : Statement)
      (r : Tokens) → StatementRule low n c p i x r → statement_part g b c p i ≡ Done x r
  unfolding statement_part
  statement_part_all c (part.Whole labels outermost) i x r h = single_all c labels outermost i x r h
  statement_part_all c (part.If place) i x r h = if_part_all c place i x r h
  statement_part_all c (part.Do place labels) i x r h = do_part_all c place labels i x r h
  statement_part_all c (part.While place labels) i x r h = while_part_all c place labels i x r h
  statement_part_all c (part.For place labels) i x r h = for_part_all c place labels i x r h
