-- Every tree of the grammar keeps the rules on trees.
use Rattle.std.proofs.Common.{◌≡◌, ℕ, zero, suc, Bool, true, false, List, ◌∷◌, refl, Option, Some, None}
use Rattle.std.proofs.lemmas.List.Elements.{All-from_recursion}
use Rattle.ja_base.specs.declared.ids.Place.{Place}
use Rattle.ja_base.proofs.Lists.{all_weaker}
use Rattle.ja_syntax.specs.declared.symbol.Symbol.{Symbol}
use Rattle.ja_syntax.specs.declared.symbol.Symbol.TheVariants as k
use Rattle.ja_syntax.specs.declared.tree.Expression.{Expression}
use Rattle.ja_syntax.specs.declared.tree.ForFirst.{ForFirst}
use Rattle.ja_syntax.specs.declared.tree.ForTarget.TheVariants as target
use Rattle.ja_syntax.specs.declared.tree.Statement.{Statement}
use Rattle.ja_syntax.specs.code.Rules.{KeepsRules, first_may_declare}
use Rattle.ja_syntax.specs.code.Jumps.{around_body, within, within_loop}
use Rattle.ja_grammar.specs.declared.part.ExpressionPart.TheVariants as of_expression
use Rattle.ja_grammar.specs.declared.part.StatementPart.{StatementPart}
use Rattle.ja_grammar.specs.declared.part.StatementPart.TheVariants as part
use Rattle.ja_grammar.specs.Contexts.{Context, loop_context, program_context}
use Rattle.ja_grammar.specs.ExpressionGrammar.{Nested}
use Rattle.ja_grammar.specs.Input.{Tokens, strict}
use Rattle.ja_grammar.specs.Language.{Spells}
use Rattle.ja_grammar.specs.Productions.{At}
use Rattle.ja_grammar.specs.StatementGrammar.{Variable, Single, If, Do, While, Optional, First, For, StatementRule, nested, IsProgram}
use Rattle.ja_grammar.proofs.KeepsExpressions.{ExpressionKeeps, StatementKeeps}
use Rattle.ja_grammar.proofs.KeepsStatements as make
use Rattle.ja_grammar.proofs.KeepsStatements.{OptionKeeps, FirstKeeps}
use Rattle.ja_grammar.proofs.KeepsJumps as jumps
use Rattle.ja_grammar.proofs.KeepsJumps.{WellIn}
use Rattle.ja_grammar.proofs.KeepsContexts.{program_matches}
use Rattle.ja_grammar.proofs.KeepsParts.{PartKeeps, NestedKeeps, many_keep, separated_keep}
use Rattle.ja_grammar.proofs.KeepsExpressionGrammar.{body_well, updated_is_reference, part_keeps}
use Rattle.ja_grammar.proofs.KeepsStatementGrammar.{VariableKeeps, variable_keeps, declarations_keep, may_declare_them, bracketed_keeps, single_keeps}

module _ (d : ℕ) (n : Nested) (below : NestedKeeps n) where
  -- an expression one level below
  whole_below : (no_in : Bool) (i : Tokens) (x : Expression) (r : Tokens)
      → n.expression (of_expression.Whole no_in) i x r → ExpressionKeeps x
  whole_below no_in = below.expression (of_expression.Whole no_in)

  value_below : (no_in : Bool) (i : Tokens) (x : Expression) (r : Tokens)
      → n.expression (of_expression.Assignment no_in) i x r → ExpressionKeeps x
  value_below no_in = below.expression (of_expression.Assignment no_in)

  -- the body of a loop
  body_keeps : (c : Context) (labels : ℕ) (i : Tokens) (x : Statement) (r : Tokens)
      → Single (strict d) n (loop_context c labels) 0 false i x r
      → PartKeeps (loop_context c labels) (part.Whole 0 false) x
  body_keeps c labels i x r h = single_keeps d n below (loop_context c labels) 0 false i x r h

  if_keeps : (c : Context) (place : Place) (i : Tokens) (x : Statement) (r : Tokens)
      → If (strict d) n c place i x r → PartKeeps c (part.If place) x
  if_keeps c place i _ r (If.alone {m = l} {x = x} {y = y} f g other) =
      let h = single_keeps d n below c 0 false l y r g in (
        make.if_keeps x y place (bracketed_keeps d n below i x l f) h.0,
        λ a m. jumps.if_well x y place a (h.1 (within a) m),
      )
  if_keeps c place i _ r (If.both {t = t} {m = l} {l = j} {x = x} {y = y} {z = z} f g is some h) =
      let first = single_keeps d n below c 0 false l y (t ∷ j) g in
      let second = below.statement c (part.Whole 0 false) j z r h in (
        make.if_else_keeps x y z place (bracketed_keeps d n below i x l f) first.0 second.0,
        λ a m. jumps.if_else_well x y z place a (first.1 (within a) m) (second.1 (within a) m),
      )

  do_keeps : (c : Context) (place : Place) (labels : ℕ) (i : Tokens) (x : Statement) (r : Tokens)
      → Do (strict d) n c place labels i x r → PartKeeps c (part.Do place labels) x
  do_keeps c place labels i _ r (Do.do_while {t = t} {m = m} {l = l} {x = x} {y = y} f is g ends) =
      let h = body_keeps c labels i x (t ∷ m) f in (
        make.do_keeps x y place h.0 (bracketed_keeps d n below m y l g),
        λ a m. jumps.do_well x y place a (h.1 (within_loop a) m),
      )

  while_keeps : (c : Context) (place : Place) (labels : ℕ) (i : Tokens) (x : Statement) (r : Tokens)
      → While (strict d) n c place labels i x r → PartKeeps c (part.While place labels) x
  while_keeps c place labels i _ r (While.while {m = m} {x = x} {y = y} f g) =
      let h = body_keeps c labels m y r g in (
        make.while_keeps x y place (bracketed_keeps d n below i x m f) h.0,
        λ a m. jumps.while_well x y place a (h.1 (within_loop a) m),
      )

  optional_keeps : (close : Symbol) (i : Tokens) (x : Option Expression) (r : Tokens)
      → Optional n close i x r → OptionKeeps x
  optional_keeps close _ None r (Optional.absent is) = tt
  optional_keeps close i (Some x) r (Optional.present {t = t} other h is) =
      whole_below false i x (t ∷ r) h

  first_keeps : (i : Tokens) (x : ForFirst Expression) (r : Tokens) → First (strict d) n i x r
      → FirstKeeps x × (first_may_declare x ≡ true)
  first_keeps _ _ r (First.nothing is) = (tt, refl)
  first_keeps i _ r (First.expression {t = t} {x = x} other goes h is) =
      (whole_below true i x (t ∷ r) h, refl)
  first_keeps _ _ r (First.variables {u = u} {i = i} {xs = xs} is h ends) =
      let value = n.expression (of_expression.Assignment true) in
      let all = separated_keep (Variable (strict d) value) VariableKeeps
      (variable_keeps d value (value_below true)) i xs (u ∷ r) h in
      (declarations_keep xs all, may_declare_them xs all)

  for_keeps : (c : Context) (place : Place) (labels : ℕ) (i : Tokens) (x : Statement) (r : Tokens)
      → For (strict d) n c place labels i x r → PartKeeps c (part.For place labels) x
  for_keeps c place labels _ _ r (For.for {i = i} {m = m} {l = l} {j = j} {x = x} {y = y} {z = z}
      {w = w} is some f g k h) =
      let begins = first_keeps i x m f in
      let body = body_keeps c labels j w r h in (
        make.for_keeps x y z w place begins.0 (optional_keeps _ m y l g) (optional_keeps _ l z j k)
            body.0 begins.1,
        λ a m. jumps.for_well x y z w place a (body.1 (within_loop a) m),
      )
  for_keeps c place labels _ _ r (For.in_variable {v = v} {w = w} {i = i} {m = m} {l = l} {x = x}
      {y = y} {z = z} is some var f in_word g closes h) =
      let named = variable_keeps d (n.expression (of_expression.Assignment true)) (value_below true)
      i x (v ∷ m) f in
      let body = body_keeps c labels l z r h in (
        make.for_variable_keeps x y z place named.0 (whole_below false m y (w ∷ l) g) body.0 named.1,
        λ a m. jumps.for_in_well (target.Variable x) y z place a (body.1 (within_loop a) m),
      )
  for_keeps c place labels _ _ r (For.in_reference {v = v} {w = w} {i = i} {m = m} {l = l} {x = x}
      {y = y} {z = z} is some other goes f in_word reference g closes h) =
      let body = body_keeps c labels l z r h in (
        make.for_reference_keeps x y z place (whole_below true i x (v ∷ m) f)
            (whole_below false m y (w ∷ l) g) body.0 reference,
        λ a m. jumps.for_in_well (target.Reference x) y z place a (body.1 (within_loop a) m),
      )

  statement_keeps : (c : Context) (p : StatementPart) (i : Tokens) (x : Statement) (r : Tokens)
      → StatementRule (strict d) n c p i x r → PartKeeps c p x
  statement_keeps c (part.Whole labels outermost) i x r h =
      single_keeps d n below c labels outermost i x r h
  statement_keeps c (part.If place) i x r h = if_keeps c place i x r h
  statement_keeps c (part.Do place labels) i x r h = do_keeps c place labels i x r h
  statement_keeps c (part.While place labels) i x r h = while_keeps c place labels i x r h
  statement_keeps c (part.For place labels) i x r h = for_keeps c place labels i x r h

-- the parts below any number of levels
pub nested_keeps : (d : ℕ) → NestedKeeps (nested strict d)
unfolding nested
nested_keeps zero =
    record {
      expression = λ p i x r h. absurd h;
      updated = λ place i x r h. absurd h;
      statement = λ c p i x r h. absurd h;
    }
nested_keeps (suc d) = record {
  expression = λ p i x r h. part_keeps d (nested strict d) (nested_keeps d) p i x r h;
  updated =
      λ place i x r h. updated_is_reference d (nested strict d) (nested_keeps d) place i x r h;
  statement = λ c p i x r h. statement_keeps d (nested strict d) (nested_keeps d) c p i x r h;
}

-- every program of the grammar keeps the rules on trees
pub program_keeps : (d : ℕ) (i : Tokens) (xs : List Statement) (r : Tokens)
    → IsProgram strict d i xs r → KeepsRules xs
program_keeps d i xs r h =
    let whole = part.Whole 0 true in
    let all = many_keep (Single (strict d) (nested strict d) program_context 0 true)
    (PartKeeps program_context whole) (single_keeps d (nested strict d) (nested_keeps d)
    program_context 0 true) (At k.End) i xs r h in
    record {
      jumps =
          body_well false xs (all_weaker (PartKeeps program_context whole)
          (WellIn (around_body false)) (λ x h. h.1 (around_body false) program_matches) xs all);
      everywhere =
          All-from_recursion StatementKeeps xs
          (all_weaker (PartKeeps program_context whole) StatementKeeps (λ x h. h.0) xs all);
    }

-- the same of what tokens spell
pub spelled_keeps : (levels : ℕ) (i : Tokens) (xs : List Statement) → Spells levels i xs
    → KeepsRules xs
spelled_keeps levels i xs h = program_keeps levels i xs h.0 h.1
