-- Each expression of the grammar keeps the rules on trees, where those one level below do.
use Rattle.std.proofs.Common.{◌≡◌, ℕ, zero, suc, Bool, true, false, not, List, [], ◌∷◌, refl, ap, Option, Some, None}
use Rattle.std.specs.List.{AllByRecursion}
use Rattle.ja_base.specs.declared.ids.Place.{Place}
use Rattle.ja_base.proofs.Lists.{all_weaker}
use Rattle.ja_lex.specs.declared.token.TokenKind.{TokenKind}
use Rattle.ja_lex.specs.declared.token.TokenKind.TheVariants as token
use Rattle.ja_syntax.specs.declared.symbol.Symbol.TheVariants as k
use Rattle.ja_syntax.specs.declared.tree.Expression.{Expression}
use Rattle.ja_syntax.specs.declared.tree.FunctionOf.{FunctionOf}
use Rattle.ja_syntax.specs.declared.tree.Name.{Name}
use Rattle.ja_syntax.specs.declared.tree.Operation.{Operation}
use Rattle.ja_syntax.specs.declared.tree.Property.{Property}
use Rattle.ja_syntax.specs.declared.tree.Statement.{Statement}
use Rattle.ja_syntax.specs.declared.tree.Suffix.{Suffix}
use Rattle.ja_syntax.specs.References.{is_reference}
use Rattle.ja_syntax.specs.code.Rules.{may_declare, may_declare_any, FunctionKeepsRules}
use Rattle.ja_syntax.specs.code.Jumps.{around_body, jumps_well, body_jumps_well}
use Rattle.ja_syntax.specs.Symbols.{is_arguments, names_arguments, word_of}
use Rattle.ja_grammar.specs.declared.fault.Refusal.TheVariants as refusal
use Rattle.ja_grammar.specs.declared.part.ExpressionPart.{ExpressionPart}
use Rattle.ja_grammar.specs.declared.part.ExpressionPart.TheVariants as part
use Rattle.ja_grammar.specs.declared.part.StatementPart.TheVariants as of_statement
use Rattle.ja_grammar.specs.Contexts.{function_context}
use Rattle.ja_grammar.specs.ExpressionGrammar.{Nested, Element, OneProperty, Declared, FunctionName, Function, Primary, Head, PropertySuffix, Arguments, AnySuffix, Member, Created, LeftHand, Postfix, Unary, Operand, Level, Binary, Conditional, Assignment, Whole, Updated, ExpressionRule}
use Rattle.ja_grammar.specs.Forms.{name_of, begins_property, begins_suffix, chained, operated, sequence}
use Rattle.ja_grammar.specs.Input.{Tokens, next, head, strict}
use Rattle.ja_grammar.specs.Operators.{binary_operator, levels}
use Rattle.ja_grammar.specs.Productions.{Rule, At}
use Rattle.ja_grammar.proofs.KeepsExpressions as make
use Rattle.ja_grammar.proofs.KeepsExpressions.{ExpressionKeeps, StatementKeeps, ElementKeeps, PropertyKeeps, SuffixKeeps, OperationKeeps}
use Rattle.ja_grammar.proofs.KeepsJumps.{WellIn}
use Rattle.ja_grammar.proofs.KeepsContexts.{function_matches}
use Rattle.ja_grammar.proofs.KeepsParts.{PartKeeps, NestedKeeps, many_keep, separated_keep, listed_keep, all_pass}
use Rattle.ja_grammar.proofs.Strict.{strict_never}

-- ---- declared names

name_may_declare : (kind : TokenKind) → is_arguments kind ≡ false
    → not (names_arguments (word_of kind)) ≡ true
unfolding is_arguments word_of names_arguments
name_may_declare (token.Word text) h = ap not h
name_may_declare (token.Number value) h = refl
name_may_declare (token.Text units) h = refl
name_may_declare (token.Mark text) h = refl
name_may_declare token.End h = refl
name_may_declare (token.Bad fault) h = refl

pub declared_may : (d : ℕ) (i : Tokens) (x : Name) (r : Tokens) → Declared (strict d) i x r
    → may_declare x ≡ true
declared_may d _ _ r (Declared.declared {t = t} is other) = name_may_declare t.kind other
declared_may d _ _ r (Declared.arguments {t = t} is named off) =
    absurd (strict_never d refusal.Arguments (t ∷ r) refl off)

function_name_may : (d : ℕ) (required : Bool) (i : Tokens) (x : Option Name) (r : Tokens)
    → FunctionName (strict d) required i x r → may_declare_any x ≡ true
function_name_may d required i (Some x) r (FunctionName.named h) = declared_may d i x r h
function_name_may d false i None r (FunctionName.unnamed at) = refl
function_name_may d true i None r h = elim h [ ]

-- the statements of a body have well jumps, those of a function (true) or of the program
pub body_well : (in_function : Bool) (xs : List Statement)
    → AllByRecursion (WellIn (around_body in_function)) xs → body_jumps_well in_function xs ≡ true
unfolding body_jumps_well
body_well in_function xs h = all_pass (λ x. jumps_well x (around_body in_function)) xs h

-- ---- forms

pub chained_keeps : (x : Expression) (ss : List (Suffix Expression)) → ExpressionKeeps x
    → AllByRecursion SuffixKeeps ss → ExpressionKeeps (chained x ss)
unfolding chained
chained_keeps x [] f h = f
chained_keeps x (s ∷ ss) f h = make.chain_keeps x (s ∷ ss) f h

pub operated_keeps : (place : Place) (x : Expression) (os : List (Operation Expression))
    → ExpressionKeeps x → AllByRecursion OperationKeeps os → ExpressionKeeps (operated place x os)
unfolding operated
operated_keeps place x [] f h = f
operated_keeps place x (o ∷ os) f h = make.binary_keeps x (o ∷ os) place f h

pub sequence_keeps : (place : Place) (xs : List Expression) → AllByRecursion ExpressionKeeps xs
    → ExpressionKeeps (sequence place xs)
unfolding sequence
sequence_keeps place [] h = make.this_keeps place
sequence_keeps place (x ∷ []) h = h.0
sequence_keeps place (x ∷ y ∷ ys) h = make.sequence_keeps x (y ∷ ys) place h.0 h.1

operand_keeps : (no_in : Bool) (level : ℕ) (One : Rule Expression)
    → ((i : Tokens) (x : Expression) (r : Tokens) → One i x r → ExpressionKeeps x)
    → (i : Tokens) (o : Operation Expression) (r : Tokens) → Operand no_in level One i o r
    → OperationKeeps o
operand_keeps no_in level One each _ _ r (Operand.operand {i = i} {x = x} is one) = each i x r one

level_keeps : (no_in : Bool) (level : ℕ) (One : Rule Expression)
    → ((i : Tokens) (x : Expression) (r : Tokens) → One i x r → ExpressionKeeps x)
    → (i : Tokens) (x : Expression) (r : Tokens) → Level no_in level One i x r → ExpressionKeeps x
level_keeps no_in level One each i _ r (Level.level {m = m} {x = x} {os = os} one rest) =
    operated_keeps (head i).place x os (each i x m one)
    (many_keep (Operand no_in level One) OperationKeeps (operand_keeps no_in level One each)
    (λ r. binary_operator no_in level (next r) ≡ None) m os r rest)

module _ (d : ℕ) (n : Nested) (below : NestedKeeps n) where
  -- ---- functions

  pub function_keeps : (required : Bool) (i : Tokens) (f : FunctionOf Statement) (r : Tokens)
      → Function (strict d) n required i f r
      → FunctionKeepsRules f × AllByRecursion StatementKeeps f.body
  function_keeps required _ _ r (Function.function {u = u} {v = v} {w = w} {i = i} {m = m} {l = l}
      {name = name} {xs = xs} {body = body} is called opens some listed begins more many ends) =
      let part = of_statement.Whole 0 true in
      let all = many_keep (n.statement function_context part) (PartKeeps function_context part)
      (λ i x r h. below.statement function_context part i x r h) (At k.CloseBrace) l body
      (w ∷ r) many in (
        record {
          name = function_name_may d required i name (u ∷ m) called;
          parameters =
              all_pass may_declare xs (listed_keep (Declared (strict d)) (λ x. may_declare x ≡ true)
              (declared_may d) k.CloseParenthesis m xs (v ∷ l) listed);
          jumps =
              body_well true body (all_weaker (PartKeeps function_context part)
              (WellIn (around_body true)) (λ x h. h.1 (around_body true) function_matches) body
              all);
        },
        all_weaker (PartKeeps function_context part) StatementKeeps (λ x h. h.0) body all,
      )

  -- ---- primary expressions

  element_keeps : (i : Tokens) (x : Option Expression) (r : Tokens) → Element n i x r
      → ElementKeeps x
  element_keeps _ None r (Element.hole is) = tt
  element_keeps i (Some x) r (Element.item {t = t} at other h is) =
      below.expression (part.Assignment false) i x (t ∷ r) h
  element_keeps i (Some x) r (Element.last at other h is) =
      below.expression (part.Assignment false) i x r h

  property_keeps : (i : Tokens) (p : Property Expression) (r : Tokens) → OneProperty n i p r
      → PropertyKeeps p
  property_keeps _ _ r (OneProperty.property {i = i} {x = x} known is h) =
      below.expression (part.Assignment false) i x r h

  pub primary_keeps : (i : Tokens) (x : Expression) (r : Tokens) → Primary (strict d) n i x r
      → ExpressionKeeps x
  primary_keeps _ _ r (Primary.this {t = t} is) = make.this_keeps t.place
  primary_keeps _ _ r (Primary.name {t = t} is) = make.name_keeps (name_of t)
  primary_keeps _ _ r (Primary.literal {t = t} {value = value} known) =
      make.literal_keeps value t.place
  primary_keeps _ _ r (Primary.array {t = t} {u = u} {i = i} {xs = xs} is some many ends) =
      make.array_keeps xs t.place (many_keep (Element n) ElementKeeps element_keeps
      (At k.CloseBracket) i xs (u ∷ r) many)
  primary_keeps _ _ r (Primary.object {t = t} {i = i} {xs = xs} is some listed) =
      make.object_keeps xs t.place (listed_keep (OneProperty n) PropertyKeeps property_keeps
      k.CloseBrace i xs r listed)
  primary_keeps _ x r (Primary.parenthesized {u = u} {i = i} is some h ends) =
      below.expression (part.Whole false) i x (u ∷ r) h
  primary_keeps i _ r (Primary.function {f = f} h) = let g = function_keeps false i f r h in
      make.function_keeps f g.0 g.1
  primary_keeps _ _ r (Primary.regular_expression {t = t} is off) =
      absurd (strict_never d refusal.RegExp (t ∷ r) refl off)

  -- ---- left-hand sides

  head_keeps : (i : Tokens) (x : Expression) (r : Tokens) → Head (strict d) n i x r
      → ExpressionKeeps x
  head_keeps i x r (Head.primary at h) = primary_keeps i x r h
  head_keeps _ x r (Head.created {t = t} {i = i} is some h) =
      below.expression (part.Created t.place) i x r h

  property_suffix_keeps : (i : Tokens) (s : Suffix Expression) (r : Tokens)
      → PropertySuffix (strict d) n i s r → SuffixKeeps s
  property_suffix_keeps _ _ r (PropertySuffix.member is other) = tt
  property_suffix_keeps _ _ r (PropertySuffix.index {u = u} {i = i} {x = x} is some h ends) =
      below.expression (part.Whole false) i x (u ∷ r) h

  arguments_keep : (i : Tokens) (xs : List Expression) (r : Tokens) → Arguments n i xs r
      → AllByRecursion ExpressionKeeps xs
  arguments_keep i xs r h =
      listed_keep (n.expression (part.Assignment false)) ExpressionKeeps
      (λ i x r h. below.expression (part.Assignment false) i x r h) k.CloseParenthesis i xs r h

  suffix_keeps : (i : Tokens) (s : Suffix Expression) (r : Tokens) → AnySuffix (strict d) n i s r
      → SuffixKeeps s
  suffix_keeps i s r (AnySuffix.property h) = property_suffix_keeps i s r h
  suffix_keeps _ _ r (AnySuffix.call {i = i} {xs = xs} is some h) = arguments_keep i xs r h

  member_keeps : (i : Tokens) (x : Expression) (r : Tokens) → Member (strict d) n i x r
      → ExpressionKeeps x
  member_keeps i _ r (Member.member {m = m} {x = x} {ss = ss} h many) =
      chained_keeps x ss (head_keeps i x m h)
      (many_keep (PropertySuffix (strict d) n) SuffixKeeps property_suffix_keeps
      (λ r. begins_property (next r) ≡ false) m ss r many)

  pub created_keeps : (place : Place) (i : Tokens) (x : Expression) (r : Tokens)
      → Created (strict d) n place i x r → ExpressionKeeps x
  created_keeps place i _ r (Created.with_arguments {t = t} {m = m} {x = x} {xs = xs} h is some
      all) = make.new_keeps x xs place (member_keeps i x (t ∷ m) h) (arguments_keep m xs r all)
  created_keeps place i _ r (Created.alone {x = x} h at) =
      make.new_keeps x [] place (member_keeps i x r h) tt

  left_hand_keeps : (i : Tokens) (x : Expression) (r : Tokens) → LeftHand (strict d) n i x r
      → ExpressionKeeps x
  left_hand_keeps i _ r (LeftHand.left_hand {m = m} {x = x} {ss = ss} h many) =
      chained_keeps x ss (head_keeps i x m h)
      (many_keep (AnySuffix (strict d) n) SuffixKeeps suffix_keeps
      (λ r. begins_suffix (next r) ≡ false) m ss r many)

  -- ---- operators

  postfix_keeps : (i : Tokens) (x : Expression) (r : Tokens) → Postfix (strict d) n i x r
      → ExpressionKeeps x
  postfix_keeps i _ r (Postfix.updated {t = t} {x = x} {o = o} h known reference) =
      make.update_keeps o x t.place (left_hand_keeps i x (t ∷ r) h) reference
  postfix_keeps i x r (Postfix.plain h at) = left_hand_keeps i x r h

  pub unary_keeps : (i : Tokens) (x : Expression) (r : Tokens) → Unary (strict d) n i x r
      → ExpressionKeeps x
  unary_keeps _ _ r (Unary.operator {t = t} {i = i} {x = x} {o = o} known some h) =
      make.unary_keeps o x t.place (below.expression part.Unary i x r h)
  unary_keeps _ _ r (Unary.update {t = t} {i = i} {x = x} {o = o} known some h) =
      make.update_keeps o x t.place (below.expression (part.Updated t.place) i x r h)
      (below.updated t.place i x r h)
  unary_keeps i x r (Unary.operand other h) = postfix_keeps i x r h

  binary_keeps : (no_in : Bool) (level : ℕ) (i : Tokens) (x : Expression) (r : Tokens)
      → Binary (strict d) n no_in level i x r → ExpressionKeeps x
  binary_keeps no_in zero i x r h = unary_keeps i x r h
  binary_keeps no_in (suc level) i x r h =
      level_keeps no_in (suc level) (Binary (strict d) n no_in level) (binary_keeps no_in level) i x
      r h

  conditional_keeps : (no_in : Bool) (i : Tokens) (x : Expression) (r : Tokens)
      → Conditional (strict d) n no_in i x r → ExpressionKeeps x
  conditional_keeps no_in i _ r (Conditional.chosen {t = t} {u = u} {m = m} {l = l} {x = x} {y = y}
      {z = z} f is some g colon h) =
      make.conditional_keeps x y z (head i).place (binary_keeps no_in levels i x (t ∷ m) f)
      (below.expression (part.Assignment no_in) m y (u ∷ l) g)
      (below.expression (part.Assignment no_in) l z r h)
  conditional_keeps no_in i x r (Conditional.plain h at) = binary_keeps no_in levels i x r h

  pub assignment_keeps : (no_in : Bool) (i : Tokens) (x : Expression) (r : Tokens)
      → Assignment (strict d) n no_in i x r → ExpressionKeeps x
  assignment_keeps no_in i _ r (Assignment.assigned {t = t} {m = m} {x = x} {y = y} {o = o} f known
      reference some g) =
      make.assign_keeps x o y t.place (conditional_keeps no_in i x (t ∷ m) f) reference
      (below.expression (part.Assignment no_in) m y r g)
  assignment_keeps no_in i x r (Assignment.plain h at) = conditional_keeps no_in i x r h

  pub whole_keeps : (no_in : Bool) (i : Tokens) (x : Expression) (r : Tokens)
      → Whole (strict d) n no_in i x r → ExpressionKeeps x
  whole_keeps no_in i _ r (Whole.whole {xs = xs} h) =
      sequence_keeps (head i).place xs (separated_keep (Assignment (strict d) n no_in)
      ExpressionKeeps (assignment_keeps no_in) i xs r h)

  updated_keeps : (place : Place) (i : Tokens) (x : Expression) (r : Tokens)
      → Updated (strict d) n place i x r → ExpressionKeeps x
  updated_keeps place i x r (Updated.updated other h reference plain) = left_hand_keeps i x r h
  updated_keeps place i x r (Updated.any other h unlike off) = left_hand_keeps i x r h
  updated_keeps place i x r (Updated.before prefix off h) = unary_keeps i x r h
  updated_keeps place i _ r (Updated.behind {t = t} {x = x} {o = o} other h reference known off) =
      make.update_keeps o x t.place (left_hand_keeps i x (t ∷ r) h) reference

  pub updated_is_reference : (place : Place) (i : Tokens) (x : Expression) (r : Tokens)
      → Updated (strict d) n place i x r → is_reference x ≡ true
  updated_is_reference place i x r (Updated.updated other h reference plain) = reference
  updated_is_reference place i x r (Updated.any other h unlike off) =
      absurd (strict_never d (refusal.Operand place) r refl off)
  updated_is_reference place i x r (Updated.before prefix off h) =
      absurd (strict_never d (refusal.Broken place) i refl off)
  updated_is_reference place i _ r (Updated.behind {t = t} other h reference known off) =
      absurd (strict_never d (refusal.Broken place) (t ∷ r) refl off)

  -- each part
  pub part_keeps : (p : ExpressionPart) (i : Tokens) (x : Expression) (r : Tokens)
      → ExpressionRule (strict d) n p i x r → ExpressionKeeps x
  part_keeps (part.Whole no_in) i x r h = whole_keeps no_in i x r h
  part_keeps (part.Assignment no_in) i x r h = assignment_keeps no_in i x r h
  part_keeps part.Unary i x r h = unary_keeps i x r h
  part_keeps (part.Updated place) i x r h = updated_keeps place i x r h
  part_keeps (part.Created place) i x r h = created_keeps place i x r h
