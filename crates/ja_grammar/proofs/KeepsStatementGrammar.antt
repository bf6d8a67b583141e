-- Each statement of the grammar keeps the rules on trees, where those one level below do.
use Rattle.std.proofs.Common.{◌≡◌, ◌≤◌, ℕ, suc, Bool, true, false, List, [], ◌∷◌, length, refl, ap, ◌∙◌, Option, Some, None, is_none, arith}
use Rattle.std.specs.List.{AllByRecursion, filter}
use Rattle.ja_base.specs.declared.ids.Place.{Place}
use Rattle.ja_base.proofs.Lists.{all_weaker}
use Rattle.ja_syntax.specs.declared.symbol.Symbol.TheVariants as k
use Rattle.ja_syntax.specs.declared.tree.Case.{Case, roll-Case}
use Rattle.ja_syntax.specs.declared.tree.CatchOf.{CatchOf}
use Rattle.ja_syntax.specs.declared.tree.Declaration.{Declaration}
use Rattle.ja_syntax.specs.declared.tree.Expression.{Expression}
use Rattle.ja_syntax.specs.declared.tree.Expression.TheOpen.{Case-F}
use Rattle.ja_syntax.specs.declared.tree.Expression.TheViews.{out-roll-Case}
use Rattle.ja_syntax.specs.declared.tree.Name.{Name}
use Rattle.ja_syntax.specs.declared.tree.Statement.{Statement}
use Rattle.ja_syntax.specs.code.Rules.{may_declare, may_declare_all, is_default}
use Rattle.ja_syntax.specs.code.Jumps.{Around, within, within_switch, labelled, may_continue, may_break}
use Rattle.ja_grammar.specs.declared.fault.Refusal.TheVariants as refusal
use Rattle.ja_grammar.specs.declared.part.ExpressionPart.TheVariants as of_expression
use Rattle.ja_grammar.specs.declared.part.StatementPart.TheVariants as part
use Rattle.ja_grammar.specs.Contexts.{Context, switch_context, labelled_context, has_label, has_loop}
use Rattle.ja_grammar.specs.ExpressionGrammar.{Nested, Assignment}
use Rattle.ja_grammar.specs.Forms.{word, name_of, ends_clause}
use Rattle.ja_grammar.specs.Input.{Tokens, next, head, strict}
use Rattle.ja_grammar.specs.Productions.{Rule, At}
use Rattle.ja_grammar.specs.StatementGrammar.{Block, Bracketed, Variable, Target, Untargeted, Returned, Clause, Cases, Catch, Finally, Single}
use Rattle.ja_grammar.proofs.KeepsExpressions.{ExpressionKeeps, StatementKeeps, CaseKeepsRules}
use Rattle.ja_grammar.proofs.KeepsStatements as make
use Rattle.ja_grammar.proofs.KeepsStatements.{OptionKeeps, DeclarationKeeps}
use Rattle.ja_grammar.proofs.KeepsJumps as jumps
use Rattle.ja_grammar.proofs.KeepsJumps.{WellIn, CaseWellIn}
use Rattle.ja_grammar.proofs.KeepsContexts.{Matches, label_is, within_matches, loop_matches, switch_matches, labelled_matches}
use Rattle.ja_grammar.proofs.KeepsParts.{PartKeeps, NestedKeeps, many_keep, separated_keep, all_pass}
use Rattle.ja_grammar.proofs.KeepsExpressionGrammar.{declared_may, function_keeps, assignment_keeps, whole_keeps}
use Rattle.ja_grammar.proofs.Strict.{strict_never}

-- ---- statements in others

-- a statement that stands in one that is neither a loop nor labelled
abbrev Inner : Context → Statement → Type 0
Inner c x = PartKeeps c (part.Whole 0 false) x

all_keep : (c : Context) (xs : List Statement) → AllByRecursion (Inner c) xs
    → AllByRecursion StatementKeeps xs
all_keep c xs h = all_weaker (Inner c) StatementKeeps (λ x h. h.0) xs h

all_well : (c : Context) (xs : List Statement) → AllByRecursion (Inner c) xs → (a : Around)
    → Matches c 0 false a → AllByRecursion (WellIn a) xs
all_well c xs h a m = all_weaker (Inner c) (WellIn a) (λ x h. h.1 a m) xs h

-- ---- jumps

module _ (d : ℕ) (c : Context) (n : ℕ) (o : Bool) (a : Around) (m : Matches c n o a)
    (place : Place) where
  continue_may : c.in_loop ≡ true → (i : Tokens) (x : Option Name) (r : Tokens)
      → Target (strict d) (has_loop c) (has_label c) true place i x r → may_continue x a ≡ true
  continue_may loop _ _ r (Target.labelled {t = t} is allowed) = m.loops (word t) allowed
  continue_may loop _ _ r (Target.unlabelled alone is) = m.in_loop ∙ loop
  continue_may loop _ _ r (Target.known {t = t} is other around off) =
      absurd (strict_never d (refusal.Broken place) (t ∷ r) refl off)
  continue_may loop _ _ r (Target.alone never is off) =
      absurd (strict_never d (refusal.Alone place) r refl off)

  break_may : (i : Tokens) (x : Option Name) (r : Tokens)
      → Target (strict d) (has_label c) (has_label c) c.in_breakable place i x r
      → may_break x a ≡ true
  break_may _ _ r (Target.labelled {t = t} is allowed) = label_is c n o a m (word t) ∙ allowed
  break_may _ _ r (Target.unlabelled alone is) = m.breakable ∙ alone
  break_may _ _ r (Target.known {t = t} is other around off) =
      absurd (strict_never d (refusal.Broken place) (t ∷ r) refl off)
  break_may _ _ r (Target.alone never is off) =
      absurd (strict_never d (refusal.Alone place) r refl off)

-- a jump where there is nothing to leave is not in the language
untargeted_never : (d : ℕ) (c : Context) (i : Tokens) (x : Name) (r : Tokens)
    → Untargeted (strict d) c i x r → ⊥
untargeted_never d c _ _ r (Untargeted.untargeted {t = t} {u = u} {i = i} is none off ends) =
    strict_never d (refusal.UnknownLabel u.place) (t ∷ u ∷ i) refl off

-- ---- variables

abbrev pub VariableKeeps : Declaration Expression → Type 0
VariableKeeps v = DeclarationKeeps v × (may_declare v.name ≡ true)

pub variable_keeps : (d : ℕ) (Value : Rule Expression)
    → ((i : Tokens) (x : Expression) (r : Tokens) → Value i x r → ExpressionKeeps x)
    → (i : Tokens) (v : Declaration Expression) (r : Tokens)
    → Variable (strict d) Value i v r → VariableKeeps v
variable_keeps d Value each i _ r (Variable.alone {x = x} h at) = (tt, declared_may d i x r h)
variable_keeps d Value each i _ r (Variable.initialised {t = t} {m = m} {x = x} {y = y} h is
    value) = (each m y r value, declared_may d i x (t ∷ m) h)

pub declarations_keep : (vs : List (Declaration Expression)) → AllByRecursion VariableKeeps vs
    → AllByRecursion DeclarationKeeps vs
declarations_keep vs h = all_weaker VariableKeeps DeclarationKeeps (λ v h. h.0) vs h

pub may_declare_them : (vs : List (Declaration Expression)) → AllByRecursion VariableKeeps vs
    → may_declare_all vs ≡ true
may_declare_them vs h =
    all_pass (λ v. may_declare v.name) vs (all_weaker VariableKeeps (λ v. may_declare v.name ≡ true)
    (λ v h. h.1) vs h)

-- ---- clauses

-- how many `default` may follow
abbrev more_defaults : Bool → ℕ
more_defaults true = 0
more_defaults false = 1

abbrev pub ClauseKeeps : Context → Case → Type 0
ClauseKeeps c x = CaseKeepsRules x × ((a : Around) → Matches c 0 false a → CaseWellIn a x)

is_default_of : (x : Case-F Expression Statement Case) → is_default (roll-Case x) ≡ is_none x.test
is_default_of x = ap (λ (y : Case-F Expression Statement Case). is_none y.test) (out-roll-Case x)

no_default : (x : Case) (xs : List Case) (m : ℕ) → is_default x ≡ false
    → length (filter is_default xs) ≤ m → length (filter is_default (x ∷ xs)) ≤ m
no_default x xs m e h = rw e h

one_default : (x : Case) (xs : List Case) → is_default x ≡ true → length (filter is_default xs) ≤ 0
    → length (filter is_default (x ∷ xs)) ≤ 1
one_default x xs e h = rw e (omega (arith, h))

module _ (d : ℕ) (n : Nested) (below : NestedKeeps n) where
  inner : (c : Context) (i : Tokens) (x : Statement) (r : Tokens)
      → n.statement c (part.Whole 0 false) i x r → Inner c x
  inner c i x r h = below.statement c (part.Whole 0 false) i x r h

  block_keep : (c : Context) (i : Tokens) (xs : List Statement) (r : Tokens)
      → Block (strict d) n c i xs r → AllByRecursion (Inner c) xs
  block_keep c _ xs r (Block.block {u = u} {i = i} is some many ends) =
      many_keep (n.statement c (part.Whole 0 false)) (Inner c) (inner c) (At k.CloseBrace) i xs
      (u ∷ r) many

  pub bracketed_keeps : (i : Tokens) (x : Expression) (r : Tokens) → Bracketed (strict d) n i x r
      → ExpressionKeeps x
  bracketed_keeps _ x r (Bracketed.bracketed {u = u} {i = i} is some h ends) =
      below.expression (of_expression.Whole false) i x (u ∷ r) h

  returned_keeps : (i : Tokens) (x : Option Expression) (r : Tokens) → Returned (strict d) n i x r
      → OptionKeeps x
  returned_keeps i None r (Returned.nothing ends) = tt
  returned_keeps i (Some x) r (Returned.value goes h) = whole_keeps d n below false i x r h

  clause_keep : (c : Context) (i : Tokens) (xs : List Statement) (r : Tokens) → Clause n c i xs r
      → AllByRecursion (Inner c) xs
  clause_keep c i xs r h =
      many_keep (n.statement c (part.Whole 0 false)) (Inner c) (inner c)
      (λ r. ends_clause (next r) ≡ true) i xs r h

  one_clause : (c : Context) (x : Option Expression) (xs : List Statement) (place : Place)
      → OptionKeeps x → AllByRecursion (Inner c) xs
      → ClauseKeeps c (roll-Case (record { test = x; body = xs; place = place }))
  one_clause c x xs place f h = (
    make.case_keeps x xs place f (all_keep c xs h),
    λ a m. jumps.case_is_well x xs place a (all_well c xs h a m),
  )

  cases_keep : (c : Context) (defaulted : Bool) (i : Tokens) (cs : List Case) (r : Tokens)
      → Cases n c defaulted i cs r → AllByRecursion (ClauseKeeps c) cs
      × (length (filter is_default cs) ≤ more_defaults defaulted)
  cases_keep c defaulted _ [] r (Cases.close is) = (tt, omega arith)
  cases_keep c defaulted _ _ r (Cases.case {t = t} {u = u} {i = i} {m = m} {l = l} {x = x} {xs = xs}
      {cs = cs} is h colon clause rest) =
      let more = cases_keep c defaulted l cs r rest in (
        (
          one_clause c (Some x) xs t.place (below.expression (of_expression.Whole false) i x (u ∷ m)
              h) (clause_keep c m xs l clause),
          more.0,
        ),
        no_default (roll-Case (record { test = Some x; body = xs; place = t.place })) cs
            (more_defaults defaulted) (is_default_of
            (record { test = Some x; body = xs; place = t.place })) more.1,
      )
  cases_keep c _ _ _ r (Cases.default {t = t} {m = m} {l = l} {xs = xs} {cs = cs} is colon clause
      rest) =
      let more = cases_keep c true l cs r rest in (
        (one_clause c None xs t.place tt (clause_keep c m xs l clause), more.0),
        one_default (roll-Case (record { test = None; body = xs; place = t.place })) cs
            (is_default_of (record { test = None; body = xs; place = t.place })) more.1,
      )

  catch_keeps : (c : Context) (i : Tokens) (h : CatchOf Statement) (r : Tokens)
      → Catch (strict d) n c i h r → AllByRecursion (Inner c) h.body
      × (may_declare h.parameter ≡ true)
  catch_keeps c _ _ r (Catch.caught {v = v} {i = i} {m = m} {x = x} {xs = xs} is opens some name
      closes body) = (block_keep c m xs r body, declared_may d i x (v ∷ m) name)

  finally_keep : (c : Context) (i : Tokens) (xs : List Statement) (r : Tokens)
      → Finally (strict d) n c i xs r → AllByRecursion (Inner c) xs
  finally_keep c _ xs r (Finally.finally {i = i} is body) = block_keep c i xs r body

  -- ---- each form

  -- the same with the context's own place
  module _ (c : Context) (labels : ℕ) (outermost : Bool) where
    abbrev Here : Statement → Type 0
    Here x = PartKeeps c (part.Whole labels outermost) x

    pub single_keeps : (i : Tokens) (x : Statement) (r : Tokens)
        → Single (strict d) n c labels outermost i x r → Here x
    single_keeps i _ r (Single.block {xs = xs} h) =
        let all = block_keep c i xs r h in (
          make.block_keeps xs (head i).place (all_keep c xs all),
          λ a m. jumps.block_well xs (head i).place a
              (all_well c xs all (within a) (within_matches c labels outermost a m)),
        )
    single_keeps _ _ r (Single.variables {t = t} {i = i} {m = l} {xs = xs} is h ends) =
        let all = separated_keep (Variable (strict d) (Assignment (strict d) n false)) VariableKeeps
        (variable_keeps d (Assignment (strict d) n false) (assignment_keeps d n below false)) i
        xs l h in (
          make.variables_keeps xs t.place (declarations_keep xs all) (may_declare_them xs all),
          λ a m. jumps.variables_well xs t.place a,
        )
    single_keeps _ _ r (Single.empty {t = t} is) =
        (make.empty_keeps t.place, λ a m. jumps.empty_well t.place a)
    single_keeps i _ r (Single.expression {m = l} {x = x} other plain h ends) = (
      make.expression_keeps x (head i).place (whole_keeps d n below false i x l h),
      λ a m. jumps.expression_well x (head i).place a,
    )
    single_keeps _ x r (Single.if {t = t} {i = i} is some h) =
        let g = below.statement c (part.If t.place) i x r h in
        (g.0, λ a m. g.1 a (within_matches c labels outermost a m))
    single_keeps _ x r (Single.do_while {t = t} {i = i} is some h) =
        let g = below.statement c (part.Do t.place labels) i x r h in
        (g.0, λ a m. g.1 a (loop_matches c labels outermost a m))
    single_keeps _ x r (Single.while {t = t} {i = i} is some h) =
        let g = below.statement c (part.While t.place labels) i x r h in
        (g.0, λ a m. g.1 a (loop_matches c labels outermost a m))
    single_keeps _ x r (Single.for {t = t} {i = i} is some h) =
        let g = below.statement c (part.For t.place labels) i x r h in
        (g.0, λ a m. g.1 a (loop_matches c labels outermost a m))
    single_keeps _ _ r (Single.continue {t = t} {i = i} {m = l} {x = x} is loop h ends) = (
      make.continue_keeps x t.place,
      λ a m.
          jumps.continue_well x t.place a (continue_may d c labels outermost a m t.place loop i x
          l h),
    )
    single_keeps _ _ r (Single.break {t = t} {i = i} {m = l} {x = x} is may h ends) = (
      make.break_keeps x t.place,
      λ a m. jumps.break_well x t.place a
          (break_may d c labels outermost a m t.place i x l h),
    )
    single_keeps _ _ r (Single.return {t = t} {i = i} {m = l} {x = x} is here h ends) = (
      make.return_keeps x t.place (returned_keeps i x l h),
      λ a m. jumps.return_well x t.place a (m.in_function ∙ here),
    )
    single_keeps _ _ r (Single.labelled {t = t} {i = i} {x = x} is colon fresh some h) =
        let g = below.statement (labelled_context c (word t)) (part.Whole (suc labels) false) i x r
        h in (
          make.labelled_keeps (name_of t) x g.0,
          λ a m. jumps.labelled_well (name_of t) x a
              (label_is c labels outermost a m (word t) ∙ fresh)
              (g.1 (labelled (word t) a) (labelled_matches c labels outermost a m (word t))),
        )
    single_keeps _ _ r (Single.switch {t = t} {v = v} {i = i} {m = l} {x = x} {cs = cs} is f opens
        some h) =
        let all = cases_keep (switch_context c) false l cs r h in (
          make.switch_keeps x cs t.place (bracketed_keeps i x (v ∷ l) f)
              (all_weaker (ClauseKeeps (switch_context c)) CaseKeepsRules (λ x h. h.0) cs all.0)
              all.1,
          λ a m. jumps.switch_well x cs t.place a
              (all_weaker (ClauseKeeps (switch_context c)) (CaseWellIn (within_switch a))
              (λ x h. h.1 (within_switch a) (switch_matches c labels outermost a m)) cs all.0),
        )
    single_keeps _ _ r (Single.throw {t = t} {i = i} {m = l} {x = x} is line h ends) = (
      make.throw_keeps x t.place (whole_keeps d n below false i x l h),
      λ a m. jumps.throw_well x t.place a,
    )
    single_keeps _ _ r (Single.try_catch {t = t} {i = i} {m = l} {xs = xs} {h = h} is f g other) =
        let all = block_keep c i xs l f in
        let caught = catch_keeps c l h r g in (
          make.try_catch_keeps xs h t.place (all_keep c xs all) (all_keep c h.body caught.0)
              (record { handled = refl; parameter = caught.1 }),
          λ a m. let w = within_matches c labels outermost a m in
              jumps.try_catch_well xs h t.place a (all_well c xs all (within a) w)
              (all_well c h.body caught.0 (within a) w),
        )
    single_keeps _ _ r (Single.try_both {t = t} {i = i} {m = l} {l = j} {xs = xs} {ys = ys} {h = h}
        is f g last) =
        let all = block_keep c i xs l f in
        let caught = catch_keeps c l h j g in
        let rest = finally_keep c j ys r last in (
          make.try_both_keeps xs h ys t.place (all_keep c xs all) (all_keep c h.body caught.0)
              (all_keep c ys rest) (record { handled = refl; parameter = caught.1 }),
          λ a m. let w = within_matches c labels outermost a m in
              jumps.try_both_well xs h ys t.place a (all_well c xs all (within a) w)
              (all_well c h.body caught.0 (within a) w) (all_well c ys rest (within a) w),
        )
    single_keeps _ _ r (Single.try_finally {t = t} {i = i} {m = l} {xs = xs} {ys = ys} is f last) =
        let all = block_keep c i xs l f in
        let rest = finally_keep c l ys r last in (
          make.try_finally_keeps xs ys t.place (all_keep c xs all) (all_keep c ys rest)
              (record { handled = refl; parameter = refl }),
          λ a m. let w = within_matches c labels outermost a m in
              jumps.try_finally_well xs ys t.place a (all_well c xs all (within a) w)
              (all_well c ys rest (within a) w),
        )
    single_keeps i _ r (Single.function {f = f} outer h) =
        let g = function_keeps d n below true i f r h in
        (make.function_keeps f g.0 g.1, λ a m. jumps.function_well f a (m.top outer))
    single_keeps _ _ r (Single.relabelled {t = t} {u = u} {i = i} is colon around off some h) =
        absurd (strict_never d (refusal.Broken t.place) (u ∷ i) refl off)
    single_keeps i _ r (Single.continue_untargeted {x = x} is none h) =
        absurd (untargeted_never d c i x r h)
    single_keeps i _ r (Single.break_untargeted {x = x} is none h) =
        absurd (untargeted_never d c i x r h)
