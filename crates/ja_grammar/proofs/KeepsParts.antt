-- What is taken for granted of the parts one level below, where each rule of the grammar keeps the
-- rules on trees; and of lists.
use Rattle.std.proofs.Common.{◌≡◌, Bool, true, false, List, [], ◌∷◌, refl}
use Rattle.std.specs.List.{AllByRecursion, list_all}
use Rattle.ja_syntax.specs.declared.symbol.Symbol.{Symbol}
use Rattle.ja_syntax.specs.declared.tree.Expression.{Expression}
use Rattle.ja_syntax.specs.declared.tree.Statement.{Statement}
use Rattle.ja_syntax.specs.References.{is_reference}
use Rattle.ja_syntax.specs.code.Jumps.{Around, within, within_loop}
use Rattle.ja_grammar.specs.declared.part.ExpressionPart.{ExpressionPart}
use Rattle.ja_grammar.specs.declared.part.ExpressionPart.TheVariants as of_expression
use Rattle.ja_grammar.specs.declared.part.StatementPart.{StatementPart}
use Rattle.ja_grammar.specs.declared.part.StatementPart.TheVariants as part
use Rattle.ja_base.specs.declared.ids.Place.{Place}
use Rattle.ja_grammar.specs.Contexts.{Context, loop_context}
use Rattle.ja_grammar.specs.ExpressionGrammar.{Nested}
use Rattle.ja_grammar.specs.Input.{Tokens}
use Rattle.ja_grammar.specs.Productions.{Rule, Many, Led, Separated, Listed}
use Rattle.ja_grammar.proofs.KeepsExpressions.{ExpressionKeeps, StatementKeeps}
use Rattle.ja_grammar.proofs.KeepsJumps.{WellIn}
use Rattle.ja_grammar.proofs.KeepsContexts.{Matches}

-- a context says what is around a part of a statement
abbrev pub Fits : Context → StatementPart → Around → Type 0
Fits c (part.Whole labels outermost) a = Matches c labels outermost a
Fits c (part.If place) a = Matches c 0 false (within a)
Fits c (part.Do place labels) a = Matches (loop_context c labels) 0 false (within_loop a)
Fits c (part.While place labels) a = Matches (loop_context c labels) 0 false (within_loop a)
Fits c (part.For place labels) a = Matches (loop_context c labels) 0 false (within_loop a)

-- a part of a statement keeps the rules, and its jumps are well wherever the context says what is
-- around it
abbrev pub PartKeeps : Context → StatementPart → Statement → Type 0
PartKeeps c p x = StatementKeeps x × ((a : Around) → Fits c p a → WellIn a x)

-- each part one level below keeps the rules
pub record NestedKeeps (n : Nested) : Type 0 where
  pub expression : (p : ExpressionPart) (i : Tokens) (x : Expression) (r : Tokens)
      → n.expression p i x r → ExpressionKeeps x
  pub updated : (place : Place) (i : Tokens) (x : Expression) (r : Tokens)
      → n.expression (of_expression.Updated place) i x r → is_reference x ≡ true
  pub statement : (c : Context) (p : StatementPart) (i : Tokens) (x : Statement) (r : Tokens)
      → n.statement c p i x r → PartKeeps c p x

-- ---- lists: what each item keeps, all of them do

module _ {X : Type 0} (One : Rule X) (P : X → Type 0)
    (each : (i : Tokens) (x : X) (r : Tokens) → One i x r → P x) where
  pub many_keep : (Stop : Tokens → Type 0) (i : Tokens) (xs : List X) (r : Tokens)
      → Many One Stop i xs r → AllByRecursion P xs
  many_keep Stop i [] r (Many.none stop) = tt
  many_keep Stop i (x ∷ xs) r (Many.more {m = m} one rest) =
      (each i x m one, many_keep Stop m xs r rest)

  led_keeps : (k : Symbol) (i : Tokens) (x : X) (r : Tokens) → Led k One i x r → P x
  led_keeps k _ x r (Led.led {i = i} is one) = each i x r one

module _ {X : Type 0} (One : Rule X) (P : X → Type 0)
    (each : (i : Tokens) (x : X) (r : Tokens) → One i x r → P x) where
  pub separated_keep : (i : Tokens) (xs : List X) (r : Tokens) → Separated One i xs r
      → AllByRecursion P xs
  separated_keep i [] r h = elim h [ ]
  separated_keep i (x ∷ xs) r (Separated.separated {m = m} one rest) =
      (each i x m one, many_keep _ P (led_keeps One P each _) _ m xs r rest)

  pub listed_keep : (close : Symbol) (i : Tokens) (xs : List X) (r : Tokens)
      → Listed close One i xs r → AllByRecursion P xs
  listed_keep close _ _ r (Listed.empty is) = tt
  listed_keep close i xs r (Listed.some {t = t} goes all is) = separated_keep i xs (t ∷ r) all

pub all_pass : {X : Type 0} (p : X → Bool) (xs : List X) → AllByRecursion (λ x. p x ≡ true) xs
    → list_all p xs ≡ true
all_pass p [] all = refl
all_pass p (x ∷ xs) all = rw (all.0) (all_pass p xs all.1)
