-- What is read as a statement is a statement of the grammar.
use Rattle.std.proofs.Common.{◌≡◌, ◌≢◌, ◌⊎◌, inl, inr, ℕ, zero, suc, ◌≤◌, Bool, true, false, true≢false, not, ◌&&◌, if◌then◌else◌, List, [], ◌∷◌, ◌++◌, length, Option, Some, None, refl, sym, ap, ◌∙◌, subst, append_assoc, append-nil, le_refl, arith}
use Rattle.ja_base.specs.declared.ids.Place.{Place}
use Rattle.ja_lex.specs.declared.token.Token.{Token}
use Rattle.ja_syntax.specs.declared.symbol.Symbol.{Symbol}
use Rattle.ja_syntax.specs.declared.symbol.Symbol.TheVariants as k
use Rattle.ja_syntax.specs.declared.tree.Case.{Case, roll-Case}
use Rattle.ja_syntax.specs.declared.tree.CatchOf.{CatchOf}
use Rattle.ja_syntax.specs.declared.tree.Declaration.{Declaration}
use Rattle.ja_syntax.specs.declared.tree.Expression.{Expression}
use Rattle.ja_syntax.specs.declared.tree.ForFirst.{ForFirst}
use Rattle.ja_syntax.specs.declared.tree.ForFirst.TheVariants as first
use Rattle.ja_syntax.specs.declared.tree.ForTarget.{ForTarget}
use Rattle.ja_syntax.specs.declared.tree.ForTarget.TheVariants as target
use Rattle.ja_syntax.specs.declared.tree.Name.{Name}
use Rattle.ja_syntax.specs.declared.tree.Statement.{Statement}
use Rattle.ja_syntax.specs.declared.tree.Statement.TheVariants as s
use Rattle.ja_syntax.specs.References.{is_reference}
use Rattle.ja_syntax.specs.Symbols.{same_symbol}
use Rattle.ja_grammar.specs.declared.fault.Refusal.TheVariants.{Unexpected, DeepLabel, Broken, Alone, UnknownLabel}
use Rattle.ja_grammar.specs.declared.part.ExpressionPart.TheVariants as of_expression
use Rattle.ja_grammar.specs.declared.part.StatementPart.{StatementPart}
use Rattle.ja_grammar.specs.declared.part.StatementPart.TheVariants as part
use Rattle.ja_grammar.specs.Contexts.{Context, loop_context, switch_context, labelled_context, has_label, has_loop, may_break}
use Rattle.ja_grammar.specs.ExpressionGrammar.{Nested, Assignment, Whole}
use Rattle.ja_grammar.specs.Forms.{word, name_of, begins_statement, is_label, is_name, is_label_behind, ends_return, ends_clause}
use Rattle.ja_grammar.specs.Input.{Tokens, head, next, behind, symbol, new_line, Done, Parser, ◌>>=◌, ◌>>◌, pure, look, after_turn, take_token, expect, many_from, many, until, separated, Rules}
use Rattle.ja_grammar.specs.Productions.{Rule, Is, At, NotAt, HasRoom, Many, Separated}
use Rattle.ja_grammar.specs.ReadExpression.{Below, whole_below, assignment, assignment_below, is_close_brace, function, declared, whole}
use Rattle.ja_grammar.specs.ReadStatement.{ended_by, ended, variable_by, variable, labelled_by, unlabelled_by, target_by, jump_target, without_target, enter_label, Clauses, inner, block, bracketed, variables, expression_statement, untargeted, continue, continue_by, break, break_by, returned, returned_by, return, return_by, thrown, thrown_by, throw, label, label_by, labelled, clause, case, default, default_by, clause_by, with_case, with_default, cases, switch, catch, finally, finally_by, handlers_by, try, labelled_or_expression, function_statement, single_by, single, else_by, if_part, do_part, while_part, optional, optional_by, for_rest, in_rest, for_variables, for_variables_by, in_reference_by, for_expression, for_expression_by, for_by, for_part, statement_part}
use Rattle.ja_grammar.specs.StatementGrammar.{Ended, Block, Bracketed, Variable, Target, Untargeted, Returned, Clause, Cases, Catch, Finally, Single, If, Do, While, Optional, First, For, StatementRule}
use Rattle.ja_grammar.proofs.Agree.{BelowTakes, Agrees}
use Rattle.ja_grammar.proofs.ExpressionSound.{declared_is, function_is, assignment_is, whole_is}
use Rattle.ja_grammar.proofs.Closing.{label_colon}
use Rattle.ja_grammar.proofs.ExpressionTakes.{assignment_takes}
use Rattle.ja_grammar.proofs.Lists.{separated_is}
use Rattle.ja_grammar.proofs.Outcomes.{same_done, end_is, done_value, done_rest, refused_not_done, then_inverse, same_symbol_true, same_symbol_false, unless_inverse}
use Rattle.ja_grammar.proofs.StatementTakes.{variable_takes, case_takes, default_takes}
use Rattle.ja_grammar.proofs.Walks.{moved, after, begins, after_opening, after_expect, after_open, after_enter, labelled_entered}
use Rattle.ja_grammar.proofs.Until.{until_is}

pub ended_is : (i r : Tokens) (x : Unit {0}) → ended i ≡ Done x r → Ended i r
unfolding ended
ended_is i r x e = go (next i) (new_line i) refl refl e
  where
    go : (κ : Symbol) (l : Bool) → next i ≡ κ → new_line i ≡ l → ended_by κ l i ≡ Done x r
        → Ended i r
    go k.Semicolon l h line e =
        begins (λ j. Done tt (behind j) ≡ Done x r → Ended j r) k.Semicolon i (λ z. cc z) h
        (λ t m is e. same_done (λ x r. Ended (t ∷ m) r) e (Ended.semicolon is)) e
    go k.CloseBrace l h line e = same_done (λ x r. Ended i r) e (Ended.before_brace h)
    go k.End l h line e = same_done (λ x r. Ended i r) e (Ended.at_end h)
    go _ true h line e = same_done (λ x r. Ended i r) e (Ended.at_line line (λ z. cc (h, z)))
    go _ false h line e = absurd (refused_not_done e)

pub variable_is : (g : Rules) (value : Parser Expression) (Value : Rule Expression)
    → ((i : Tokens) (x : Expression) (r : Tokens) → value i ≡ Done x r → Value i x r)
    → (i : Tokens) (x : Declaration Expression) (r : Tokens) → variable g value i ≡ Done x r
    → Variable g Value i x r
unfolding variable
variable_is g value Value reads i v r e =
    after (declared g i) e (λ x m got e. go x m got (next m) refl e)
  where
    go : (x : Name) (m : Tokens) → declared g i ≡ Done x m → (κ : Symbol) → next m ≡ κ
        → variable_by value x (head m) κ m ≡ Done v r → Variable g Value i v r
    go x m got k.Assign h e =
        begins (λ j. declared g i ≡ Done x j → variable_by value x (head j) k.Assign j ≡ Done v r
        → Variable g Value i v r) k.Assign m (λ z. cc z) h
        (λ t q is got e. after (value q) e (λ y l f e.
        same_done (λ v r. Variable g Value i v r) e
        (Variable.initialised (declared_is g i x (t ∷ q) got) is (reads q y l f)))) got e
    go x m got _ h e =
        same_done (λ v r. Variable g Value i v r) e
        (Variable.alone (declared_is g i x m got) (λ z. cc (h, z)))

label_is_name : (t : Token) → is_label_behind t ≡ true → symbol t ≡ k.Name
unfolding is_label_behind
label_is_name t h = go (symbol t) refl h
  where
    go : (κ : Symbol) → symbol t ≡ κ → is_name κ && not t.line_before ≡ true → symbol t ≡ k.Name
    go k.Name e h = e
    go _ e h = cc h

pub jump_target_is : (g : Rules) (allowed known : List ℕ → Bool) (alone : Bool) (place : Place)
    (i : Tokens) (x : Option Name) (r : Tokens)
    → jump_target g allowed known alone place i ≡ Done x r
    → Target g allowed known alone place i x r
unfolding jump_target
jump_target_is g allowed known alone place i x r e = go (is_label_behind (head i)) refl e
  where
    Is_target : Tokens → Option Name → Tokens → Type 0
    Is_target i x r = Target g allowed known alone place i x r

    -- a label that is not allowed
    other : (a : Bool) → is_label_behind (head i) ≡ true → allowed (word (head i)) ≡ false
        → known (word (head i)) ≡ a → labelled_by g place (head i) false a i ≡ Done x r
        → Is_target i x r
    other true is bad ok e =
        let s = unless_inverse g (Broken place) (take_token >> pure (Some (name_of (head i)))) i
        e in
        begins (λ j. is_label_behind (head j) ≡ true → allowed (word (head j)) ≡ false
        → known (word (head j)) ≡ true → g (Broken place) j ≡ false
        → Done (Some (name_of (head j))) (behind j) ≡ Done x r → Is_target j x r) k.Name i
        (λ z. cc z) (label_is_name (head i) is)
        (λ t m _ is bad ok off e. same_done (λ x r. Is_target (t ∷ m) x r) e
        (Target.known is bad ok off)) is bad ok s.0 s.1
    other false is bad ok e = absurd (refused_not_done e)

    labelled : (a : Bool) → is_label_behind (head i) ≡ true → allowed (word (head i)) ≡ a
        → labelled_by g place (head i) a (known (word (head i))) i ≡ Done x r → Is_target i x r
    labelled true is ok e =
        begins (λ j. is_label_behind (head j) ≡ true → allowed (word (head j)) ≡ true
        → Done (Some (name_of (head j))) (behind j) ≡ Done x r → Is_target j x r)
        k.Name i (λ z. cc z) (label_is_name (head i) is)
        (λ t m _ is ok e. same_done (λ x r. Is_target (t ∷ m) x r) e (Target.labelled is ok)) is
        ok e
    labelled false is bad e = other (known (word (head i))) is bad refl e

    unlabelled : (a : Bool) → is_label_behind (head i) ≡ false → alone ≡ a
        → unlabelled_by g place a i ≡ Done x r → Is_target i x r
    unlabelled true none ok e = same_done (λ x r. Is_target i x r) e (Target.unlabelled ok none)
    unlabelled false none bad e =
        let s = unless_inverse g (Alone place) (pure None) i e in
        same_done (λ x r. Is_target i x r) s.1 (Target.alone bad none s.0)

    go : (a : Bool) → is_label_behind (head i) ≡ a
        → target_by g allowed known alone place (head i) a i ≡ Done x r → Is_target i x r
    go true h e = labelled (allowed (word (head i))) h refl e
    go false h e = unlabelled alone h refl e

-- a list of one
one_only : {X : Type 0} {One : Rule X} (i : Tokens) (x : X) (r : Tokens)
    → Separated One i (x ∷ []) r → One i x r
one_only i x r (Separated.separated one (Many.none other)) = one

module _ (g : Rules) (n : Nested) (b : Below) (T : BelowTakes b) (A : Agrees n b)
    (asks : (i : Tokens) → g Unexpected i ≡ true) where
  inner_is : (c : Context) (i : Tokens) (x : Statement) (r : Tokens) → inner g b c i ≡ Done x r
      → n.statement c (part.Whole 0 false) i x r
  inner_is c i x r e = A.statement_is c (part.Whole 0 false) i x r e

  pub block_is : (c : Context) (i : Tokens) (xs : List Statement) (r : Tokens)
      → block g b c i ≡ Done xs r → Block g n c i xs r
  unfolding block
  block_is c i xs r e =
      after_opening g k.OpenBrace (λ i. Block g n c i xs r) i (λ z. cc z) e (λ t m is some e.
      after (until is_close_brace (inner g b c) m) e
      (λ ys l got e. after_expect k.CloseBrace l (λ z. cc z) e (λ u q at close e.
      same_done (λ xs r. Block g n c (t ∷ m) xs r) e (Block.block is some
      (until_is is_close_brace (inner g b c) (n.statement c (part.Whole 0 false)) (At k.CloseBrace)
      (T.statement c (part.Whole 0 false)) refl
      (λ i x r _ e. inner_is c i x r e) m ys (u ∷ q) (λ _. close) (moved got at)) close))))

  pub bracketed_is : (i : Tokens) (x : Expression) (r : Tokens) → bracketed g b i ≡ Done x r
      → Bracketed g n i x r
  unfolding bracketed
  bracketed_is i x r e =
      after_opening g k.OpenParenthesis (λ i. Bracketed g n i x r) i (λ z. cc z) e (λ t m is some e.
      after (whole_below g b false m) e (λ y l got e.
      after_expect k.CloseParenthesis l (λ z. cc z) e (λ u q at close e.
      same_done (λ x r. Bracketed g n (t ∷ m) x r) e
      (Bracketed.bracketed is some (A.expression_is (of_expression.Whole false) m y (u ∷ q)
      (moved got at)) close))))

  pub returned_is : (i : Tokens) (x : Option Expression) (r : Tokens) → returned g b i ≡ Done x r
      → Returned g n i x r
  unfolding returned
  returned_is i x r e = go (ends_return (head i)) refl e
    where
      go : (a : Bool) → ends_return (head i) ≡ a → returned_by g b a i ≡ Done x r
          → Returned g n i x r
      go true h e = same_done (λ x r. Returned g n i x r) e (Returned.nothing h)
      go false h e =
          after (whole g b false i) e (λ y m got e.
          same_done (λ x r. Returned g n i x r) e
          (Returned.value h (whole_is g n b T A false i y m got)))

  -- the colon of a clause, and its statements
  pub clause_is : (c : Context) (i : Tokens) (xs : List Statement) (r : Tokens)
      → clause g b c i ≡ Done xs r
      → (u : Token) × (m : Tokens) × (i ≡ u ∷ m) × Is k.Colon u × Clause n c m xs r
  unfolding clause ends_clause
  clause_is c i xs r e = after_expect k.Colon i (λ z. cc z) e (λ u m at is e. (
    u,
    m,
    at,
    is,
    until_is ends_clause (inner g b c) (n.statement c (part.Whole 0 false))
        (λ r. ends_clause (next r) ≡ true) (T.statement c (part.Whole 0 false)) refl
        (λ i x r _ e. inner_is c i x r e) m xs r (λ h. h) e,
  ))

  -- a `case`, and the clauses behind it
  case_is : (c : Context) (a : Bool) (t : Token) (i : Tokens) (x : Case) (l : Tokens)
      (xs : List Case) (r : Tokens) → Is k.Case t → case g b c (t ∷ i) ≡ Done x l
      → Cases n c a l xs r
      → Cases n c a (t ∷ i) (x ∷ xs) r
  unfolding case
  case_is c a t i x l xs r is e =
      after (whole_below g b false i) e (λ y m got e.
      after (clause g b c m) e (λ ys j f e. let s = clause_is c m ys j f in
      same_done (λ x l. Cases n c a l xs r → Cases n c a (t ∷ i) (x ∷ xs) r) e
      (λ more. Cases.case is (A.expression_is (of_expression.Whole false) i y (s.0 ∷ s.1)
      (moved got s.2)) s.3 s.4 more)))

  -- a `default`, and the clauses behind it
  default_is : (c : Context) (t : Token) (i : Tokens) (x : Case) (l : Tokens) (xs : List Case)
      (r : Tokens) → Is k.Default t → default g b c (t ∷ i) ≡ Done x l → Cases n c true l xs r
      → Cases n c false (t ∷ i) (x ∷ xs) r
  unfolding default
  default_is c t i x l xs r is e =
      after (clause g b c i) e (λ ys j f e. let s = clause_is c i ys j f in
      same_done (λ x l. Cases n c true l xs r → Cases n c false (t ∷ i) (x ∷ xs) r) e
      (λ more. subst (λ i. Cases n c false (t ∷ i)
      (roll-Case (record { test = None; body = ys; place = t.place }) ∷ xs) r) (sym s.2)
      (Cases.default is s.3 s.4 more)))

  -- the clauses behind those that were found
  abbrev Found : Context → Clauses → Clauses → Tokens → Tokens → Type 0
  Found c cs o i r = (xs : List Case) × (o.found ≡ cs.found ++ xs) × Cases n c cs.defaulted i xs r

  abbrev turn : Context → Clauses → Parser (Option Clauses)
  turn c cs = look (λ t. clause_by g b c cs (symbol t))

  clauses_is : (c : Context) (m : ℕ) (cs : Clauses) (i : Tokens) (o : Clauses) (u : Token)
      (r : Tokens) → length i ≤ m → Is k.CloseBrace u → many_from (turn c) m cs i ≡ Done o (u ∷ r)
      → Found c cs o i r
  unfolding many_from
  clauses_is c zero cs [] o u r room close e = absurd (cc (done_rest e))
  clauses_is c zero cs (t ∷ i) o u r room close e = absurd (omega (arith, room))
  clauses_is c (suc m) cs i o u r room close e =
      let s = then_inverse (turn c cs i) (after_turn cs (many_from (turn c) m)) e in
      go (λ ds l fewer e. clauses_is c m ds l o u r fewer close e) s.0 s.1 (next i) refl s.2 s.3
    where
      Again : Type 0
      Again =
          (ds : Clauses) (l : Tokens) → length l ≤ m → many_from (turn c) m ds l ≡ Done o (u ∷ r)
          → Found c ds o l r

      Goes : Tokens → Option Clauses → Tokens → Type 0
      Goes i p l = after_turn cs (many_from (turn c) m) p l ≡ Done o (u ∷ r) → Found c cs o i r

      at_case : Again → (p : Option Clauses) (l : Tokens) (t : Token) (j : Tokens)
          → length (t ∷ j) ≤ suc m → Is k.Case t → clause_by g b c cs k.Case (t ∷ j) ≡ Done p l
          → Goes (t ∷ j) p l
      at_case again p l t j room is e =
          after (case g b c (t ∷ j)) e (λ x q got e. same_done (λ p l. Goes (t ∷ j) p l) e (λ f.
          let fewer : length q ≤ m = omega (
            arith,
            room,
            (case_takes g T c (t ∷ j)).leaves x q got,
          ) in
          let s = again (with_case g b cs x) q fewer f in (
            x ∷ s.0,
            s.1 ∙ append_assoc cs.found (x ∷ []) s.0,
            case_is c cs.defaulted t j x q s.0 r is got s.2,
          )))

      at_default : Again → (p : Option Clauses) (l : Tokens) (t : Token) (j : Tokens)
          → length (t ∷ j) ≤ suc m → Is k.Default t → (a : Bool) → cs.defaulted ≡ a
          → default_by g b c cs a (t ∷ j) ≡ Done p l → Goes (t ∷ j) p l
      at_default again p l t j room is true was e = absurd (refused_not_done e)
      at_default again p l t j room is false was e =
          after (default g b c (t ∷ j)) e (λ x q got e. same_done (λ p l. Goes (t ∷ j) p l) e (λ f.
          let fewer : length q ≤ m = omega (
            arith,
            room,
            (default_takes g T c (t ∷ j)).leaves x q got,
          ) in
          let s = again (with_default g b cs x) q fewer f in (
            x ∷ s.0,
            s.1 ∙ append_assoc cs.found (x ∷ []) s.0,
            subst (λ a. Cases n c a (t ∷ j) (x ∷ s.0) r) (sym was)
                (default_is c t j x q s.0 r is got s.2),
          )))

      go : Again → (p : Option Clauses) (l : Tokens) (κ : Symbol) → next i ≡ κ
          → clause_by g b c cs κ i ≡ Done p l → Goes i p l
      go again p l k.CloseBrace h e = same_done (λ p l. Goes i p l) e (λ f. (
        [],
        ap (λ o. o.found) (sym (done_value f)) ∙ sym (append-nil cs.found),
        subst (λ j. Cases n c cs.defaulted j [] r) (sym (done_rest f)) (Cases.close close),
      ))
      go again p l k.Case h e =
          begins (λ i. length i ≤ suc m → clause_by g b c cs k.Case i ≡ Done p l → Goes i p l)
          k.Case i (λ z. cc z) h
          (λ t j is room e. at_case again p l t j room is e) room e
      go again p l k.Default h e =
          begins (λ i. length i ≤ suc m → clause_by g b c cs k.Default i ≡ Done p l → Goes i p l)
          k.Default i (λ z. cc z) h
          (λ t j is room e. at_default again p l t j room is cs.defaulted refl e) room e
      go again p l _ h e = absurd (refused_not_done e)

  pub cases_is : (c : Context) (i : Tokens) (xs : List Case) (r : Tokens)
      → cases g b c i ≡ Done xs r
      → (t : Token) × (m : Tokens) × (i ≡ t ∷ m) × Is k.OpenBrace t × HasRoom g (t ∷ m)
      × Cases n c false m xs r
  unfolding cases
  cases_is c i xs r e = after_open g k.OpenBrace i (λ z. cc z) e (λ t m at is some e.
      after (many (turn c) (record { defaulted = false; found = [] }) m) e
      (λ o l got e. after_expect k.CloseBrace l (λ z. cc z) e (λ u q behind close e.
      let f = clauses_is c (length m) (record { defaulted = false; found = [] }) m o u q
      (le_refl (length m)) close (moved got behind) in (
        t,
        m,
        at,
        is,
        some,
        same_done (λ xs r. Cases n c false m xs r) e
            (subst (λ ys. Cases n c false m ys q) (sym f.1) f.2),
      ))))

  pub catch_is : (c : Context) (i : Tokens) (x : CatchOf Statement) (r : Tokens) → next i ≡ k.Catch
      → catch g b c i ≡ Done x r → Catch g n c i x r
  unfolding catch
  catch_is c i x r h e =
      begins (λ i. catch g b c i ≡ Done x r → Catch g n c i x r) k.Catch i (λ z. cc z) h
      (λ t m at e.
      after_opening g k.OpenParenthesis (λ m. Catch g n c (t ∷ m) x r) m (λ z. cc z) e
      (λ u q is some e.
      after (declared g q) e (λ y l got e. after_expect k.CloseParenthesis l (λ z. cc z) e
      (λ v o behind close e. after (block g b c o) e (λ xs p f e.
      same_done (λ x r. Catch g n c (t ∷ u ∷ q) x r) e
      (Catch.caught at is some (declared_is g q y (v ∷ o) (moved got behind)) close
      (block_is c o xs p f))))))) e

  pub finally_is : (c : Context) (i : Tokens) (xs : List Statement) (r : Tokens)
      → next i ≡ k.Finally → finally g b c i ≡ Done xs r → Finally g n c i xs r
  unfolding finally
  finally_is c i xs r h e =
      begins (λ i. finally g b c i ≡ Done xs r → Finally g n c i xs r) k.Finally i (λ z. cc z) h
      (λ t m at e. Finally.finally at (block_is c m xs r e)) e

  thrown_is : (i : Tokens) (x : Expression) (r : Tokens) → thrown g b i ≡ Done x r
      → (new_line i ≡ false) × Whole g n false i x r
  unfolding thrown
  thrown_is i x r e = go (new_line i) refl e
    where
      go : (a : Bool) → new_line i ≡ a → thrown_by g b a i ≡ Done x r
          → (new_line i ≡ false) × Whole g n false i x r
      go true h e = absurd (refused_not_done e)
      go false h e = (h, whole_is g n b T A false i x r e)

  -- a label was new, or that isn't asked
  abbrev New : Context → Token → Tokens → Type 0
  New c t i =
      (has_label c (word t) ≡ false) ⊎ ((has_label c (word t) ≡ true)
      × (g (Broken t.place) i ≡ false))

  -- .. and had a level left
  label_is : (c : Context) (t u : Token) (m : Tokens) (v : Token) (l : Tokens)
      → label g b c (t ∷ u ∷ m) ≡ Done v l
      → New c t (u ∷ m) × (g (DeepLabel t.place) (u ∷ m) ≡ false) × (Done t m ≡ Done v l)
  unfolding label
  label_is c t u m v l e =
      after (label_by g b t (has_label c (word t)) (u ∷ m)) e
      (λ w q got e. go w q (has_label c (word t)) refl got e)
    where
      deep_enough : (w : Token) (q : Tokens) → New c t (u ∷ m)
          → enter_label g t.place (u ∷ m) ≡ Done w q → Done t q ≡ Done v l
          → New c t (u ∷ m) × (g (DeepLabel t.place) (u ∷ m) ≡ false) × (Done t m ≡ Done v l)
      deep_enough w q new got e =
          let s = labelled_entered g t.place (u ∷ m) got in
          (new, s.0, ap (λ x. Done t x) (done_rest s.1) ∙ e)

      go : (w : Token) (q : Tokens) (a : Bool) → has_label c (word t) ≡ a
          → label_by g b t a (u ∷ m) ≡ Done w q → Done t q ≡ Done v l
          → New c t (u ∷ m) × (g (DeepLabel t.place) (u ∷ m) ≡ false) × (Done t m ≡ Done v l)
      go w q true h got e =
          let s = unless_inverse g (Broken t.place) (enter_label g t.place) (u ∷ m) got in
          deep_enough w q (inr (h, s.0)) s.1 e
      go w q false h got e = deep_enough w q (inl h) got e

  -- a jump where there is nothing to leave
  untargeted_is : (jump : Option Name → Statement) (c : Context) (t : Token) (i : Tokens)
      (x : Statement) (r : Tokens) → untargeted g b jump c (head i) (t ∷ i) ≡ Done x r
      → (y : Name) × Untargeted g c (t ∷ i) y r × (jump (Some y) ≡ x)
  unfolding without_target
  untargeted_is jump c t i x r e =
      let s = unless_inverse g (without_target c (head i))
      (take_token >> (take_token >> (ended >> pure (jump (Some (name_of (head i))))))) (t ∷ i)
      e in
      go (is_label_behind (head i)) refl (has_label c (word (head i))) refl s.0 s.1
    where
      Jumps : Tokens → Type 0
      Jumps j = (y : Name) × Untargeted g c (t ∷ j) y r × (jump (Some y) ≡ x)

      rest : Token → Parser Statement
      rest u = ended >> pure (jump (Some (name_of u)))

      -- this rule is asked
      asked : g Unexpected (t ∷ i) ≡ false → Jumps i
      asked off = absurd (true≢false (sym (asks (t ∷ i)) ∙ off))

      go : (a : Bool) → is_label_behind (head i) ≡ a → (around : Bool)
          → has_label c (word (head i)) ≡ around
          → g (if a && not around then UnknownLabel (head i).place else Unexpected) (t ∷ i) ≡ false
          → rest (head i) (behind i) ≡ Done x r → Jumps i
      go false is around known off e = asked off
      go true is true known off e = asked off
      go true is false known off e =
          begins (λ j. is_label_behind (head j) ≡ true → has_label c (word (head j)) ≡ false
          → g (UnknownLabel (head j).place) (t ∷ j) ≡ false
          → rest (head j) (behind j) ≡ Done x r → Jumps j)
          k.Name i (λ z. cc z) (label_is_name (head i) is)
          (λ u m _ is known off e. after (ended m) e (λ z l got e.
          same_done (λ x r. (y : Name) × Untargeted g c (t ∷ u ∷ m) y r × (jump (Some y) ≡ x)) e
          (name_of u, Untargeted.untargeted is known off (ended_is m l z got), refl))) is known
          off e

  -- ---- a statement

  module _ (c : Context) (labels : ℕ) (outermost : Bool) where
    abbrev Is_single : Tokens → Statement → Tokens → Type 0
    Is_single i x r = Single g n c labels outermost i x r

    variables_is : (t : Token) (i : Tokens) (x : Statement) (r : Tokens) → Is k.Var t
        → variables g b (t ∷ i) ≡ Done x r → Is_single (t ∷ i) x r
    unfolding variables
    variables_is t i x r is e =
        after (separated (variable g (assignment g b false)) i) e
        (λ xs m got e. after (ended m) e (λ u l f e. same_done (λ x r. Is_single (t ∷ i) x r) e
        (Single.variables is (separated_is (variable g (assignment g b false))
        (Variable g (Assignment g n false)) (variable_takes g (assignment_takes g T false))
        (variable_is g (assignment g b false) (Assignment g n false)
        (assignment_is g n b T A false)) i xs m got) (ended_is m l u f))))

    expression_is : (i : Tokens) (x : Statement) (r : Tokens) → begins_statement (next i) ≡ false
        → is_label (next i) (next (behind i)) ≡ false → expression_statement g b i ≡ Done x r
        → Is_single i x r
    unfolding expression_statement
    expression_is i x r plain unlabelled e =
        after (whole g b false i) e (λ y m got e.
        after (ended m) e (λ u l f e. same_done (λ x r. Is_single i x r) e
        (Single.expression plain unlabelled (whole_is g n b T A false i y m got)
        (ended_is m l u f))))

    continue_is : (t : Token) (i : Tokens) (x : Statement) (r : Tokens) → Is k.Continue t
        → continue g b c (t ∷ i) ≡ Done x r → Is_single (t ∷ i) x r
    unfolding continue
    continue_is t i x r is e = go c.in_loop refl e
      where
        go : (a : Bool) → c.in_loop ≡ a → continue_by g b c a (t ∷ i) ≡ Done x r
            → Is_single (t ∷ i) x r
        go true ok e =
            after (jump_target g (has_loop c) (has_label c) true t.place i) e
            (λ y m got e. after (ended m) e (λ u l f e. same_done (λ x r. Is_single (t ∷ i) x r) e
            (Single.continue is ok (jump_target_is g (has_loop c) (has_label c) true t.place i y m
            got) (ended_is m l u f))))
        go false none e = let f = untargeted_is (λ y. s.Continue y t.place) c t i x r e in
            subst (λ x. Is_single (t ∷ i) x r) f.2 (Single.continue_untargeted is none f.1)

    break_is : (t : Token) (i : Tokens) (x : Statement) (r : Tokens) → Is k.Break t
        → break g b c (t ∷ i) ≡ Done x r → Is_single (t ∷ i) x r
    unfolding break
    break_is t i x r is e = go (may_break c) refl e
      where
        go : (a : Bool) → may_break c ≡ a → break_by g b c a (t ∷ i) ≡ Done x r
            → Is_single (t ∷ i) x r
        go true ok e =
            after (jump_target g (has_label c) (has_label c) c.in_breakable t.place i) e
            (λ y m got e. after (ended m) e (λ u l f e. same_done (λ x r. Is_single (t ∷ i) x r) e
            (Single.break is ok (jump_target_is g (has_label c) (has_label c) c.in_breakable t.place
            i y m got) (ended_is m l u f))))
        go false none e = let f = untargeted_is (λ y. s.Break y t.place) c t i x r e in
            subst (λ x. Is_single (t ∷ i) x r) f.2 (Single.break_untargeted is none f.1)

    return_is : (t : Token) (i : Tokens) (x : Statement) (r : Tokens) → Is k.Return t
        → return g b c (t ∷ i) ≡ Done x r → Is_single (t ∷ i) x r
    unfolding return
    return_is t i x r is e = go c.in_function refl e
      where
        go : (a : Bool) → c.in_function ≡ a → return_by g b a (t ∷ i) ≡ Done x r
            → Is_single (t ∷ i) x r
        go true ok e =
            after (returned g b i) e (λ y m got e.
            after (ended m) e (λ u l f e. same_done (λ x r. Is_single (t ∷ i) x r) e
            (Single.return is ok (returned_is i y m got) (ended_is m l u f))))
        go false ok e = absurd (refused_not_done e)

    -- a label, and the statement behind it
    label_single : (t u : Token) (m : Tokens) (y : Statement) (r : Tokens) → Is k.Name t
        → Is k.Colon u → New c t (u ∷ m) → g (DeepLabel t.place) (u ∷ m) ≡ false
        → n.statement (labelled_context c (word t)) (part.Whole (suc labels) false) m y r
        → Is_single (t ∷ u ∷ m) (s.Labelled (name_of t) y) r
    label_single t u m y r is colon (inl fresh) some body = Single.labelled is colon fresh some body
    label_single t u m y r is colon (inr again) some body =
        Single.relabelled is colon again.0 again.1 some body

    labelled_is : (t : Token) (i : Tokens) (x : Statement) (r : Tokens) → Is k.Name t
        → next i ≡ k.Colon → labelled g b c labels (t ∷ i) ≡ Done x r → Is_single (t ∷ i) x r
    unfolding labelled
    labelled_is t i x r is h e =
        begins (λ i. labelled g b c labels (t ∷ i) ≡ Done x r → Is_single (t ∷ i) x r) k.Colon i
        (λ z. cc z) h (λ u m colon e.
        after (label g b c (t ∷ u ∷ m)) e (λ v l got e. let new = label_is c t u m v l got in
        same_done (λ v l. (b.statement (labelled_context c (word v)) (part.Whole (suc labels) false)
        >>= (λ y. pure (s.Labelled (name_of v) y))) l ≡ Done x r → Is_single (t ∷ u ∷ m) x r)
        new.2
        (λ e. after (b.statement (labelled_context c (word t)) (part.Whole (suc labels) false) m) e
        (λ y q f e. same_done (λ x r. Is_single (t ∷ u ∷ m) x r) e
        (label_single t u m y q is colon new.0 new.1
        (A.statement_is (labelled_context c (word t)) (part.Whole (suc labels) false) m y q
        f)))) e)) e

    switch_is : (t : Token) (i : Tokens) (x : Statement) (r : Tokens) → Is k.Switch t
        → switch g b c (t ∷ i) ≡ Done x r → Is_single (t ∷ i) x r
    unfolding switch
    switch_is t i x r is e =
        after (bracketed g b i) e (λ y m got e.
        after (cases g b (switch_context c) m) e
        (λ cs l f e. let s = cases_is (switch_context c) m cs l f in
        same_done (λ x r. Is_single (t ∷ i) x r) e
        (Single.switch is (bracketed_is i y (s.0 ∷ s.1) (moved got s.2)) s.3 s.4 s.5)))

    throw_is : (t : Token) (i : Tokens) (x : Statement) (r : Tokens) → Is k.Throw t
        → throw g b (t ∷ i) ≡ Done x r → Is_single (t ∷ i) x r
    unfolding throw
    throw_is t i x r is e =
        after (thrown g b i) e (λ y m got e. after (ended m) e
        (λ u l f e. let s = thrown_is i y m got in
        same_done (λ x r. Is_single (t ∷ i) x r) e (Single.throw is s.0 s.1 (ended_is m l u f))))

    try_is : (t : Token) (i : Tokens) (x : Statement) (r : Tokens) → Is k.Try t
        → try g b c (t ∷ i) ≡ Done x r → Is_single (t ∷ i) x r
    unfolding try
    try_is t i x r is e =
        after (block g b c i) e (λ xs m got e.
        handlers xs m (block_is c i xs m got) (next m) refl e)
      where
        last : (xs : List Statement) (m : Tokens) (y : CatchOf Statement) (l : Tokens)
            → Block g n c i xs m → Catch g n c m y l → (κ : Symbol) → next l ≡ κ
            → finally_by g b c t xs y κ l ≡ Done x r → Is_single (t ∷ i) x r
        last xs m y l h got k.Finally at e =
            after (finally g b c l) e (λ ys q f e.
            same_done (λ x r. Is_single (t ∷ i) x r) e
            (Single.try_both is h got (finally_is c l ys q at f)))
        last xs m y l h got _ at e =
            same_done (λ x r. Is_single (t ∷ i) x r) e (Single.try_catch is h got (λ z. cc (at, z)))

        handlers : (xs : List Statement) (m : Tokens) → Block g n c i xs m → (κ : Symbol)
            → next m ≡ κ → handlers_by g b c t xs κ m ≡ Done x r → Is_single (t ∷ i) x r
        handlers xs m h k.Catch at e =
            after (catch g b c m) e (λ y l got e.
            last xs m y l h (catch_is c m y l at got) (next l) refl e)
        handlers xs m h k.Finally at e =
            after (finally g b c m) e (λ ys q f e.
            same_done (λ x r. Is_single (t ∷ i) x r) e
            (Single.try_finally is h (finally_is c m ys q at f)))
        handlers xs m h _ at e = absurd (refused_not_done e)

    function_statement_is : (i : Tokens) (x : Statement) (r : Tokens) (a : Bool) → outermost ≡ a
        → function_statement g b a i ≡ Done x r → Is_single i x r
    function_statement_is i x r true ok e =
        after (function g b true i) e (λ f m got e.
        same_done (λ x r. Is_single i x r) e (Single.function ok
        (function_is g n b T A true i f m got)))
    function_statement_is i x r false ok e = absurd (refused_not_done e)

    -- tokens of which the first is t
    begun_is : (t : Token) (i : Tokens) (x : Statement) (r : Tokens) (κ : Symbol) → symbol t ≡ κ
        → single_by g b c labels outermost t κ (t ∷ i) ≡ Done x r → Is_single (t ∷ i) x r
    unfolding begins_statement
    begun_is t i x r k.OpenBrace h e =
        after (block g b c (t ∷ i)) e (λ xs m got e.
        same_done (λ x r. Is_single (t ∷ i) x r) e (Single.block (block_is c (t ∷ i) xs m got)))
    begun_is t i x r k.Var h e = variables_is t i x r h e
    begun_is t i x r k.Semicolon h e = same_done (λ x r. Is_single (t ∷ i) x r) e (Single.empty h)
    begun_is t i x r k.If h e =
        after_enter g t i (λ _. b.statement c (part.If t.place)) e
        (λ some e. Single.if h some (A.statement_is c (part.If t.place) i x r e))
    begun_is t i x r k.Do h e =
        after_enter g t i (λ _. b.statement c (part.Do t.place labels)) e
        (λ some e. Single.do_while h some (A.statement_is c (part.Do t.place labels) i x r e))
    begun_is t i x r k.While h e =
        after_enter g t i (λ _. b.statement c (part.While t.place labels)) e
        (λ some e. Single.while h some (A.statement_is c (part.While t.place labels) i x r e))
    begun_is t i x r k.For h e =
        after_enter g t i (λ _. b.statement c (part.For t.place labels)) e
        (λ some e. Single.for h some (A.statement_is c (part.For t.place labels) i x r e))
    begun_is t i x r k.Continue h e = continue_is t i x r h e
    begun_is t i x r k.Break h e = break_is t i x r h e
    begun_is t i x r k.Return h e = return_is t i x r h e
    begun_is t i x r k.Switch h e = switch_is t i x r h e
    begun_is t i x r k.Throw h e = throw_is t i x r h e
    begun_is t i x r k.Try h e = try_is t i x r h e
    begun_is t i x r k.Function h e = function_statement_is (t ∷ i) x r outermost refl e
    begun_is t i x r k.Name h e = named (is_label (symbol t) (next i)) refl e
      where
        named : (a : Bool) → is_label (symbol t) (next i) ≡ a
            → labelled_or_expression g b c labels a (t ∷ i) ≡ Done x r → Is_single (t ∷ i) x r
        named true is e =
            labelled_is t i x r h (label_colon (next i)
            (ap (λ κ. is_label κ (next i)) (sym h) ∙ is)) e
        named false other e = expression_is (t ∷ i) x r (ap begins_statement h) other e
    begun_is t i x r _ h e =
        expression_is (t ∷ i) x r (ap begins_statement h) (ap (λ κ. is_label κ (next i)) h) e

    pub single_is : (i : Tokens) (x : Statement) (r : Tokens)
        → single g b c labels outermost i ≡ Done x r → Single g n c labels outermost i x r
    unfolding single begins_statement
    single_is [] x r e =
        expression_is [] x r (ap begins_statement end_is)
        (ap (λ κ. is_label κ (next (behind []))) end_is)
        (sym (ap (λ κ. single_by g b c labels outermost (head []) κ []) end_is) ∙ e)
    single_is (t ∷ i) x r e = begun_is t i x r (symbol t) refl e

  -- ---- behind a word that counts

  pub if_part_is : (c : Context) (place : Place) (i : Tokens) (x : Statement) (r : Tokens)
      → if_part g b c place i ≡ Done x r → If g n c place i x r
  unfolding if_part
  if_part_is c place i v r e =
      after (bracketed g b i) e (λ x m got e.
      after (single g b c 0 false m) e (λ y l f e.
      go x m (bracketed_is i x m got) y l f (next l) refl e))
    where
      go : (x : Expression) (m : Tokens) → Bracketed g n i x m → (y : Statement) (l : Tokens)
          → single g b c 0 false m ≡ Done y l → (κ : Symbol) → next l ≡ κ
          → else_by g b c place x y κ l ≡ Done v r → If g n c place i v r
      go x m got y l f k.Else h e =
          begins (λ l. single g b c 0 false m ≡ Done y l
          → else_by g b c place x y k.Else l ≡ Done v r → If g n c place i v r) k.Else l (λ z. cc z)
          h
          (λ t q is f e. after_enter g t q (λ _.
          inner g b c >>= (λ z. pure (s.If x y (Some z) place))) e
          (λ some e. after (inner g b c q) e (λ z j w e.
          same_done (λ v r. If g n c place i v r) e
          (If.both got (single_is c 0 false m y (t ∷ q) f) is some (inner_is c q z j w))))) f e
      go x m got y l f _ h e =
          same_done (λ v r. If g n c place i v r) e
          (If.alone got (single_is c 0 false m y l f) (λ z. cc (h, z)))

  pub do_part_is : (c : Context) (place : Place) (labels : ℕ) (i : Tokens) (x : Statement)
      (r : Tokens) → do_part g b c place labels i ≡ Done x r → Do g n c place labels i x r
  unfolding do_part
  do_part_is c place labels i v r e =
      after (single g b (loop_context c labels) 0 false i) e
      (λ x m got e. after_expect k.While m (λ z. cc z) e (λ t l at is e.
      after (bracketed g b l) e (λ y j f e. after (ended j) e
      (λ u q h e. same_done (λ v r. Do g n c place labels i v r) e
      (Do.do_while (single_is (loop_context c labels) 0 false i x (t ∷ l) (moved got at)) is
      (bracketed_is l y j f) (ended_is j q u h))))))

  pub while_part_is : (c : Context) (place : Place) (labels : ℕ) (i : Tokens) (x : Statement)
      (r : Tokens) → while_part g b c place labels i ≡ Done x r → While g n c place labels i x r
  unfolding while_part
  while_part_is c place labels i v r e =
      after (bracketed g b i) e (λ x m got e.
      after (single g b (loop_context c labels) 0 false m) e (λ y l f e.
      same_done (λ v r. While g n c place labels i v r) e
      (While.while (bracketed_is i x m got)
      (single_is (loop_context c labels) 0 false m y l f))))

  pub optional_is : (close : Symbol) → close ≢ k.End
      → (i : Tokens) (x : Option Expression) (r : Tokens) → optional g b close i ≡ Done x r
      → Optional n close i x r
  unfolding optional
  optional_is close more i v r e = go (same_symbol (next i) close) refl e
    where
      go : (a : Bool) → same_symbol (next i) close ≡ a → optional_by g b close a i ≡ Done v r
          → Optional n close i v r
      go true h e =
          begins (λ i. optional_by g b close true i ≡ Done v r → Optional n close i v r) close i
          more (same_symbol_true (next i) close h)
          (λ t m is e. same_done (λ v r. Optional n close (t ∷ m) v r) e (Optional.absent is)) e
      go false h e =
          after (whole_below g b false i) e (λ x m got e.
          after_expect close m more e (λ t l at is e. same_done (λ v r. Optional n close i v r) e
          (Optional.present (same_symbol_false (next i) close h)
          (A.expression_is (of_expression.Whole false) i x (t ∷ l) (moved got at)) is)))

  -- what stands behind the first `;` of a `for`
  after_rest : {P : Type 0} (c : Context) (place : Place) (x : ForFirst Expression) (m : Tokens)
      (v : Statement) (r : Tokens) → for_rest g b c place x m ≡ Done v r
      → ((y z : Option Expression) (w : Statement) (l o q : Tokens) → Optional n k.Semicolon m y l
      → Optional n k.CloseParenthesis l z o → Single g n c 0 false o w q
      → Done (s.For x y z w place) q ≡ Done v r → P) → P
  unfolding for_rest
  after_rest c place x m v r e goes =
      after (optional g b k.Semicolon m) e (λ y l got e.
      after (optional g b k.CloseParenthesis l) e
      (λ z o f e. after (single g b c 0 false o) e (λ w q h e.
      goes y z w l o q (optional_is k.Semicolon (λ z. cc z) m y l got)
      (optional_is k.CloseParenthesis (λ z. cc z) l z o f) (single_is c 0 false o w q h) e)))

  -- what stands behind `in`
  after_in : {P : Type 0} (c : Context) (place : Place) (x : ForTarget Expression) (t : Token)
      (m : Tokens) (v : Statement) (r : Tokens) → in_rest g b c place x (t ∷ m) ≡ Done v r
      → ((y : Expression) (w : Token) (z : Statement) (l q : Tokens)
      → n.expression (of_expression.Whole false) m y (w ∷ l) → Is k.CloseParenthesis w
      → Single g n c 0 false l z q
      → Done (s.ForIn x y z place) q ≡ Done v r → P) → P
  unfolding in_rest
  after_in c place x t m v r e goes =
      after (whole_below g b false m) e (λ y l got e.
      after_expect k.CloseParenthesis l (λ z. cc z) e
      (λ w o at is e. after (single g b c 0 false o) e (λ z q h e.
      goes y w z o q (A.expression_is (of_expression.Whole false) m y (w ∷ o) (moved got at)) is
      (single_is c 0 false o z q h) e)))

  module _ (c : Context) (place : Place) (labels : ℕ) (t : Token) (open_is : Is k.OpenParenthesis t)
      (v : Statement) (r : Tokens) where
    abbrev inside : Context
    inside = loop_context c labels

    Is_for : Tokens → Statement → Tokens → Type 0
    Is_for i v r = For g n c place labels (t ∷ i) v r

    -- what was read before the first `;`
    first_is : (i m : Tokens) (x : ForFirst Expression) → HasRoom g (t ∷ i) → First g n i x m
        → for_rest g b inside place x m ≡ Done v r → Is_for i v r
    unfolding Is_for
    first_is i m x some h e =
        after_rest inside place x m v r e (λ y z w l o q f got body e.
        same_done (λ v r. For g n c place labels (t ∷ i) v r) e (For.for open_is some h f got body))

    for_variables_is : (u : Token) (i : Tokens) → HasRoom g (t ∷ u ∷ i) → Is k.Var u
        → for_variables g b inside place (u ∷ i) ≡ Done v r → Is_for (u ∷ i) v r
    unfolding for_variables Is_for
    for_variables_is u i some var e =
        after (separated (variable g (assignment_below g b true)) i) e
        (λ xs m got e. go xs m got (next m) refl e)
      where
        list_is : (xs : List (Declaration Expression)) (m : Tokens)
            → separated (variable g (assignment_below g b true)) i ≡ Done xs m
            → Separated (Variable g (n.expression (of_expression.Assignment true))) i xs m
        list_is xs m got =
            separated_is (variable g (assignment_below g b true))
            (Variable g (n.expression (of_expression.Assignment true)))
            (variable_takes g (T.expression (of_expression.Assignment true)))
            (variable_is g (assignment_below g b true)
            (n.expression (of_expression.Assignment true))
            (A.expression_is (of_expression.Assignment true))) i xs m got

        rest : (xs : List (Declaration Expression)) (m : Tokens)
            → separated (variable g (assignment_below g b true)) i ≡ Done xs m
            → (expect k.Semicolon >> for_rest g b inside place (first.Variables xs)) m ≡ Done v r
            → For g n c place labels (t ∷ u ∷ i) v r
        rest xs m got e =
            after_expect k.Semicolon m (λ z. cc z) e
            (λ w l at is e. first_is (u ∷ i) l (first.Variables xs) some
            (First.variables var (list_is xs (w ∷ l) (moved got at)) is) e)

        go : (xs : List (Declaration Expression)) (m : Tokens)
            → separated (variable g (assignment_below g b true)) i ≡ Done xs m → (κ : Symbol)
            → next m ≡ κ
            → for_variables_by g b inside place xs κ m ≡ Done v r
            → For g n c place labels (t ∷ u ∷ i) v r
        go [] m got κ h e = rest [] m got e
        go (x ∷ []) m got k.In h e =
            begins (λ m. separated (variable g (assignment_below g b true)) i ≡ Done (x ∷ []) m
            → in_rest g b inside place (target.Variable x) m ≡ Done v r
            → For g n c place labels (t ∷ u ∷ i) v r)
            k.In m (λ z. cc z) h (λ w l is got e.
            after_in inside place (target.Variable x) w l v r e
            (λ y o z j q f close body e. same_done
            (λ v r. For g n c place labels (t ∷ u ∷ i) v r) e
            (For.in_variable open_is some var (one_only i x (w ∷ l) (list_is (x ∷ []) (w ∷ l) got))
            is f close body))) got e
        go (x ∷ []) m got _ h e = rest (x ∷ []) m got e
        go (x ∷ y ∷ xs) m got κ h e = rest (x ∷ y ∷ xs) m got e

    for_expression_is : (i : Tokens) → HasRoom g (t ∷ i) → NotAt k.Var i → NotAt k.Semicolon i
        → for_expression g b inside place i ≡ Done v r → Is_for i v r
    unfolding for_expression Is_for
    for_expression_is i some other empty e =
        after (whole_below g b true i) e (λ x m got e. go x m got (next m) refl e)
      where
        reference : (x : Expression) (w : Token) (l : Tokens)
            → whole_below g b true i ≡ Done x (w ∷ l) → Is k.In w → (a : Bool) → is_reference x ≡ a
            → in_reference_by g b inside place x a (w ∷ l) ≡ Done v r
            → For g n c place labels (t ∷ i) v r
        reference x w l got is true ok e =
            after_in inside place (target.Reference x) w l v r e
            (λ y o z j q f close body e. same_done (λ v r. For g n c place labels (t ∷ i) v r) e
            (For.in_reference open_is some other empty
            (A.expression_is (of_expression.Whole true) i x (w ∷ l) got) is ok f close body))
        reference x w l got is false ok e = absurd (refused_not_done e)

        go : (x : Expression) (m : Tokens) → whole_below g b true i ≡ Done x m → (κ : Symbol)
            → next m ≡ κ → for_expression_by g b inside place x κ m ≡ Done v r
            → For g n c place labels (t ∷ i) v r
        go x m got k.In h e =
            begins (λ m. whole_below g b true i ≡ Done x m
            → in_reference_by g b inside place x (is_reference x) m ≡ Done v r
            → For g n c place labels (t ∷ i) v r)
            k.In m (λ z. cc z) h (λ w l is got e. reference x w l got is (is_reference x) refl e)
            got e
        go x m got _ h e = after_expect k.Semicolon m (λ z. cc z) e (λ w l at is e.
            first_is i l (first.Expression x) some
            (First.expression other empty (A.expression_is (of_expression.Whole true) i x
            (w ∷ l) (moved got at)) is) e)

    for_by_is : (i : Tokens) → HasRoom g (t ∷ i) → (κ : Symbol) → next i ≡ κ
        → for_by g b inside place κ i ≡ Done v r → Is_for i v r
    for_by_is i some k.Var h e =
        begins (λ i. HasRoom g (t ∷ i) → for_variables g b inside place i ≡ Done v r → Is_for i v r)
        k.Var i (λ z. cc z) h
        (λ u m is some e. for_variables_is u m some is e) some e
    for_by_is i some k.Semicolon h e =
        begins (λ i. HasRoom g (t ∷ i) → for_by g b inside place k.Semicolon i ≡ Done v r
        → Is_for i v r) k.Semicolon i (λ z. cc z) h
        (λ u m is some e. first_is (u ∷ m) m first.Nothing some (First.nothing is) e) some e
    for_by_is i some _ h e = for_expression_is i some (λ z. cc (h, z)) (λ z. cc (h, z)) e

  pub for_part_is : (c : Context) (place : Place) (labels : ℕ) (i : Tokens) (x : Statement)
      (r : Tokens) → for_part g b c place labels i ≡ Done x r → For g n c place labels i x r
  unfolding for_part Is_for
  for_part_is c place labels i v r e =
      after_opening g k.OpenParenthesis (λ i. For g n c place labels i v r) i (λ z. cc z) e
      (λ t m is some e.
      for_by_is c place labels t is v r m some (next m) refl e)

  -- each part
  pub statement_part_is : (c : Context) (p : StatementPart) (i : Tokens) (x : Statement)
      (r : Tokens) → statement_part g b c p i ≡ Done x r → StatementRule g n c p i x r
  unfolding statement_part
  statement_part_is c (part.Whole labels outermost) i x r e = single_is c labels outermost i x r e
  statement_part_is c (part.If place) i x r e = if_part_is c place i x r e
  statement_part_is c (part.Do place labels) i x r e = do_part_is c place labels i x r e
  statement_part_is c (part.While place labels) i x r e = while_part_is c place labels i x r e
  statement_part_is c (part.For place labels) i x r e = for_part_is c place labels i x r e
