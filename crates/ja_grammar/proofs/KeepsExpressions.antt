-- An expression keeps the rules on trees where its parts do, and what is asked of itself holds.
use Rattle.std.proofs.Common.{◌≡◌, true, List, [], ◌∷◌, map, refl, ap, ap₂, subst, ◌∙◌, Option, Some, None}
use Rattle.std.specs.List.{AllByRecursion}
use Rattle.ja_base.specs.declared.ids.Place.{Place}
use Rattle.ja_prim.specs.declared.primitive.Primitive.{Primitive}
use Rattle.ja_syntax.specs.declared.tree.BinaryOperator.{BinaryOperator}
use Rattle.ja_syntax.specs.declared.tree.Case.{Case}
use Rattle.ja_syntax.specs.declared.tree.FunctionOf.{FunctionOf}
use Rattle.ja_syntax.specs.declared.tree.Name.{Name}
use Rattle.ja_syntax.specs.declared.tree.Operation.{Operation}
use Rattle.ja_syntax.specs.declared.tree.Property.{Property}
use Rattle.ja_syntax.specs.declared.tree.Statement.{Statement}
use Rattle.ja_syntax.specs.declared.tree.Suffix.{Suffix}
use Rattle.ja_syntax.specs.declared.tree.Suffix.TheVariants as suffix
use Rattle.ja_syntax.specs.declared.tree.UnaryOperator.{UnaryOperator}
use Rattle.ja_syntax.specs.declared.tree.UpdateOperator.{UpdateOperator}
use Rattle.ja_syntax.specs.declared.tree.Expression.{Expression, roll-Expression}
use Rattle.ja_syntax.specs.declared.tree.Expression.TheVariants as e
use Rattle.ja_syntax.specs.declared.tree.Expression.TheVariants.{rolls-This, rolls-Name, rolls-Literal, rolls-Array, rolls-Object, rolls-Function, rolls-Chain, rolls-New, rolls-Unary, rolls-Update, rolls-Binary, rolls-Conditional, rolls-Assign, rolls-Sequence}
use Rattle.ja_syntax.specs.declared.tree.Expression.TheOpen.{Expression-F}
use Rattle.ja_syntax.specs.declared.tree.Expression.TheFolds.{map-Expression, every-Expression, every-Statement, every-Case, every_made-Expression}
use Rattle.ja_syntax.specs.References.{is_reference}
use Rattle.ja_syntax.specs.code.Rules.{ExpressionKeepsRules, StatementKeepsRules, FunctionKeepsRules}

-- ---- every expression, statement and clause in one keeps the rules

abbrev pub CaseKeepsRules : Case → Type 0
CaseKeepsRules = every-Case ExpressionKeepsRules StatementKeepsRules (λ case. Unit {0})

abbrev pub StatementKeeps : Statement → Type 0
StatementKeeps = every-Statement ExpressionKeepsRules StatementKeepsRules (λ case. Unit {0})

abbrev pub ExpressionKeeps : Expression → Type 0
ExpressionKeeps = every-Expression ExpressionKeepsRules StatementKeepsRules (λ case. Unit {0})

-- a value with the fact
abbrev pub With : {A : Type 0} → (A → Type 0) → Type 0
With {A} P = (x : A) × P x

pub pairs : {A : Type 0} (P : A → Type 0) (xs : List A) → AllByRecursion P xs → List (With P)
pairs P [] h = []
pairs P (x ∷ xs) h = (x, h.0) ∷ pairs P xs h.1

pub firsts : {A : Type 0} (P : A → Type 0) (xs : List A) (h : AllByRecursion P xs)
    → map (λ (p : With P). p.0) (pairs P xs h) ≡ xs
unfolding pairs
firsts P [] h = refl
firsts P (x ∷ xs) h = ap (λ ys. x ∷ ys) (firsts P xs h.1)

-- one level, whose parts come with the fact
made : (x : Expression-F Expression Statement Case)
    (y : Expression-F (With ExpressionKeeps) (With StatementKeeps) (With CaseKeepsRules))
    → map-Expression (With ExpressionKeeps) (With StatementKeeps) (With CaseKeepsRules) Expression
    Statement Case (λ p. p.0) (λ p. p.0) (λ p. p.0) y ≡ x → ExpressionKeepsRules x
    → ExpressionKeeps (roll-Expression x)
made x y same here =
    every_made-Expression ExpressionKeepsRules StatementKeepsRules (λ case. Unit {0}) x y same here

-- ---- forms without lists

pub this_keeps : (place : Place) → ExpressionKeeps (e.This place)
this_keeps place =
    subst ExpressionKeeps (rolls-This place)
    (made (Expression-F.This place) (Expression-F.This place) refl tt)

pub name_keeps : (name : Name) → ExpressionKeeps (e.Name name)
name_keeps name =
    subst ExpressionKeeps (rolls-Name name)
    (made (Expression-F.Name name) (Expression-F.Name name) refl tt)

pub literal_keeps : (value : Primitive) (place : Place) → ExpressionKeeps (e.Literal value place)
literal_keeps value place =
    subst ExpressionKeeps (rolls-Literal value place)
    (made (Expression-F.Literal value place) (Expression-F.Literal value place) refl tt)

pub unary_keeps : (operator : UnaryOperator) (operand : Expression) (place : Place)
    → ExpressionKeeps operand → ExpressionKeeps (e.Unary operator operand place)
unary_keeps operator operand place h =
    subst ExpressionKeeps (rolls-Unary operator operand place)
    (made (Expression-F.Unary operator operand place)
    (Expression-F.Unary operator (operand, h) place) refl tt)

pub update_keeps : (operator : UpdateOperator) (operand : Expression) (place : Place)
    → ExpressionKeeps operand → is_reference operand ≡ true
    → ExpressionKeeps (e.Update operator operand place)
update_keeps operator operand place h reference =
    subst ExpressionKeeps (rolls-Update operator operand place)
    (made (Expression-F.Update operator operand place)
    (Expression-F.Update operator (operand, h) place) refl reference)

pub conditional_keeps : (x y z : Expression) (place : Place) → ExpressionKeeps x → ExpressionKeeps y
    → ExpressionKeeps z → ExpressionKeeps (e.Conditional x y z place)
conditional_keeps x y z place f g h =
    subst ExpressionKeeps (rolls-Conditional x y z place)
    (made (Expression-F.Conditional x y z place)
    (Expression-F.Conditional (x, f) (y, g) (z, h) place) refl tt)

pub assign_keeps : (x : Expression) (operator : Option BinaryOperator) (y : Expression)
    (place : Place) → ExpressionKeeps x → is_reference x ≡ true → ExpressionKeeps y
    → ExpressionKeeps (e.Assign x operator y place)
assign_keeps x operator y place f reference g =
    subst ExpressionKeeps (rolls-Assign x operator y place)
    (made (Expression-F.Assign x operator y place)
    (Expression-F.Assign (x, f) operator (y, g) place) refl reference)

-- ---- forms with lists

pub new_keeps : (x : Expression) (xs : List Expression) (place : Place) → ExpressionKeeps x
    → AllByRecursion ExpressionKeeps xs → ExpressionKeeps (e.New x xs place)
new_keeps x xs place f h =
    subst ExpressionKeeps (rolls-New x xs place)
    (made (Expression-F.New x xs place) (Expression-F.New (x, f) (pairs ExpressionKeeps xs h) place)
    (ap (λ ys. Expression-F.New x ys place) (firsts ExpressionKeeps xs h)) tt)

pub sequence_keeps : (x : Expression) (xs : List Expression) (place : Place) → ExpressionKeeps x
    → AllByRecursion ExpressionKeeps xs → ExpressionKeeps (e.Sequence x xs place)
sequence_keeps x xs place f h =
    subst ExpressionKeeps (rolls-Sequence x xs place)
    (made (Expression-F.Sequence x xs place)
    (Expression-F.Sequence (x, f) (pairs ExpressionKeeps xs h) place)
    (ap (λ ys. Expression-F.Sequence x ys place) (firsts ExpressionKeeps xs h)) tt)

-- a list of parts, each made of what its own parts give
pub makes : {A B : Type 0} (P : A → Type 0) (make : (x : A) → P x → B) (xs : List A)
    → AllByRecursion P xs → List B
makes P make [] h = []
makes P make (x ∷ xs) h = make x h.0 ∷ makes P make xs h.1

pub made_of : {A B : Type 0} (g : B → A) (P : A → Type 0) (make : (x : A) → P x → B)
    → ((x : A) (h : P x) → g (make x h) ≡ x) → (xs : List A) (h : AllByRecursion P xs)
    → map g (makes P make xs h) ≡ xs
unfolding makes
made_of g P make is [] h = refl
made_of g P make is (x ∷ xs) h = ap₂ (λ y ys. y ∷ ys) (is x h.0) (made_of g P make is xs h.1)

-- two levels of an expression are the same
abbrev Same : Expression-F Expression Statement Case → Expression-F Expression Statement Case
    → Type 0
Same x y = x ≡ y

-- an element of an array literal
abbrev pub ElementKeeps : Option Expression → Type 0
ElementKeeps None = Unit {0}
ElementKeeps (Some x) = ExpressionKeeps x

abbrev element : (x : Option Expression) → ElementKeeps x → Option (With ExpressionKeeps)
element None h = None
element (Some x) h = Some (x, h)

module _ (g : Option (With ExpressionKeeps) → Option Expression) (none : g None ≡ None)
    (some : (v : With ExpressionKeeps) → g (Some v) ≡ Some v.0) where
  element_is : (x : Option Expression) (h : ElementKeeps x) → g (element x h) ≡ x
  element_is None h = none
  element_is (Some x) h = some (x, h)

  array_layer : (place : Place) (xs : List (Option Expression)) (h : AllByRecursion ElementKeeps xs)
      → Same (Expression-F.Array (map g (makes ElementKeeps element xs h)) place)
      (Expression-F.Array xs place)
  array_layer place xs h =
      ap (λ ys. Expression-F.Array ys place) (made_of g ElementKeeps element element_is xs h)

pub array_keeps : (xs : List (Option Expression)) (place : Place) → AllByRecursion ElementKeeps xs
    → ExpressionKeeps (e.Array xs place)
array_keeps xs place h =
    subst ExpressionKeeps (rolls-Array xs place)
    (made (Expression-F.Array xs place) (Expression-F.Array (makes ElementKeeps element xs h) place)
    (array_layer _ refl (λ v. refl) place xs h) tt)

abbrev pub PropertyKeeps : Property Expression → Type 0
PropertyKeeps p = ExpressionKeeps p.value

abbrev property : (p : Property Expression) → PropertyKeeps p → Property (With ExpressionKeeps)
property p h = record { name = p.name; value = (p.value, h); place = p.place }

pub object_keeps : (xs : List (Property Expression)) (place : Place)
    → AllByRecursion PropertyKeeps xs → ExpressionKeeps (e.Object xs place)
object_keeps xs place h =
    subst ExpressionKeeps (rolls-Object xs place)
    (made (Expression-F.Object xs place) (Expression-F.Object (makes PropertyKeeps property xs h)
    place)
    (ap (λ ys. Expression-F.Object ys place) (made_of _ PropertyKeeps property (λ p h. refl) xs h))
    tt)

abbrev pub OperationKeeps : Operation Expression → Type 0
OperationKeeps o = ExpressionKeeps o.right

abbrev operation : (o : Operation Expression) → OperationKeeps o → Operation (With ExpressionKeeps)
operation o h = record { operator = o.operator; right = (o.right, h); place = o.place }

pub binary_keeps : (x : Expression) (xs : List (Operation Expression)) (place : Place)
    → ExpressionKeeps x → AllByRecursion OperationKeeps xs → ExpressionKeeps (e.Binary x xs place)
binary_keeps x xs place f h =
    subst ExpressionKeeps (rolls-Binary x xs place)
    (made (Expression-F.Binary x xs place) (Expression-F.Binary (x, f)
    (makes OperationKeeps operation xs h) place)
    (ap (λ ys. Expression-F.Binary x ys place)
    (made_of _ OperationKeeps operation (λ o h. refl) xs h)) tt)

abbrev pub SuffixKeeps : Suffix Expression → Type 0
SuffixKeeps (suffix.Member name place) = Unit {0}
SuffixKeeps (suffix.Index key place) = ExpressionKeeps key
SuffixKeeps (suffix.Call arguments place) = AllByRecursion ExpressionKeeps arguments

abbrev one_suffix : (s : Suffix Expression) → SuffixKeeps s → Suffix (With ExpressionKeeps)
one_suffix (suffix.Member name place) h = suffix.Member name place
one_suffix (suffix.Index key place) h = suffix.Index (key, h) place
one_suffix (suffix.Call arguments place) h = suffix.Call (pairs ExpressionKeeps arguments h) place

module _ (g : Suffix (With ExpressionKeeps) → Suffix Expression)
    (member : (name : Name) (place : Place)
    → g (suffix.Member name place) ≡ suffix.Member name place)
    (index : (key : With ExpressionKeeps) (place : Place)
    → g (suffix.Index key place) ≡ suffix.Index key.0 place)
    (call : (xs : List (With ExpressionKeeps)) (place : Place)
    → g (suffix.Call xs place) ≡ suffix.Call (map (λ p. p.0) xs) place) where
  suffix_is : (s : Suffix Expression) (h : SuffixKeeps s) → g (one_suffix s h) ≡ s
  suffix_is (suffix.Member name place) h = member name place
  suffix_is (suffix.Index key place) h = index (key, h) place
  suffix_is (suffix.Call xs place) h =
      call (pairs ExpressionKeeps xs h) place
      ∙ ap (λ ys. suffix.Call ys place) (firsts ExpressionKeeps xs h)

  chain_layer : (x : Expression) (ss : List (Suffix Expression)) (h : AllByRecursion SuffixKeeps ss)
      → Same (Expression-F.Chain x (map g (makes SuffixKeeps one_suffix ss h)))
      (Expression-F.Chain x ss)
  chain_layer x ss h =
      ap (λ ys. Expression-F.Chain x ys) (made_of g SuffixKeeps one_suffix suffix_is ss h)

pub chain_keeps : (x : Expression) (ss : List (Suffix Expression)) → ExpressionKeeps x
    → AllByRecursion SuffixKeeps ss → ExpressionKeeps (e.Chain x ss)
chain_keeps x ss f h =
    subst ExpressionKeeps (rolls-Chain x ss)
    (made (Expression-F.Chain x ss) (Expression-F.Chain (x, f) (makes SuffixKeeps one_suffix ss h))
    (chain_layer _ (λ n p. refl) (λ k p. refl) (λ xs p. refl) x ss h) tt)

-- ---- a function

abbrev pub function_with : (f : FunctionOf Statement) → AllByRecursion StatementKeeps f.body
    → FunctionOf (With StatementKeeps)
function_with f h =
    record {
      name = f.name;
      parameters = f.parameters;
      body = pairs StatementKeeps f.body h;
      place = f.place;
    }

pub function_keeps : (f : FunctionOf Statement) → FunctionKeepsRules f
    → AllByRecursion StatementKeeps f.body → ExpressionKeeps (e.Function f)
function_keeps f rules h =
    subst ExpressionKeeps (rolls-Function f)
    (made (Expression-F.Expression::Function f)
    (Expression-F.Expression::Function (function_with f h))
    (ap (λ (ys : List Statement). Expression-F.Expression::Function
    (record { name = f.name; parameters = f.parameters; body = ys; place = f.place }))
    (firsts StatementKeeps f.body h)) rules)
