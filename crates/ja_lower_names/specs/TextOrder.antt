-- The functions of a text and its names, in the order of the text.
use Rattle.std.specs.Prelude.{ℕ, Bool, true, false, List, [], ◌∷◌, ◌++◌, map, Option, Some, None}
use Rattle.std.specs.List.{flat_map}
use Rattle.ja_prim.specs.declared.primitive.Primitive.{Primitive}
use Rattle.ja_prim.specs.declared.primitive.Primitive.TheVariants as primitive
use Rattle.ja_syntax.specs.declared.tree.Name.{Name}
use Rattle.ja_syntax.specs.declared.tree.PropertyName.{PropertyName}
use Rattle.ja_syntax.specs.declared.tree.PropertyName.TheVariants as property
use Rattle.ja_syntax.specs.declared.tree.Property.{Property}
use Rattle.ja_syntax.specs.declared.tree.Operation.{Operation}
use Rattle.ja_syntax.specs.declared.tree.Suffix.{Suffix}
use Rattle.ja_syntax.specs.declared.tree.Suffix.TheVariants as suffix
use Rattle.ja_syntax.specs.declared.tree.FunctionOf.{FunctionOf}
use Rattle.ja_syntax.specs.declared.tree.Initialiser.{Initialiser}
use Rattle.ja_syntax.specs.declared.tree.Declaration.{Declaration}
use Rattle.ja_syntax.specs.declared.tree.ForFirst.{ForFirst}
use Rattle.ja_syntax.specs.declared.tree.ForFirst.TheVariants as first
use Rattle.ja_syntax.specs.declared.tree.ForTarget.{ForTarget}
use Rattle.ja_syntax.specs.declared.tree.ForTarget.TheVariants as target
use Rattle.ja_syntax.specs.declared.tree.CatchOf.{CatchOf}
use Rattle.ja_syntax.specs.declared.tree.Case.{Case}
use Rattle.ja_syntax.specs.declared.tree.Statement.{Statement}
use Rattle.ja_syntax.specs.declared.tree.Expression.{Expression}
use Rattle.ja_syntax.specs.declared.tree.Expression.TheOpen.{Expression-F, Statement-F, Case-F}
use Rattle.ja_syntax.specs.declared.tree.Expression.TheFolds.{para-Statement}

-- A name where it stands in a text, and whether it is an expression there, that is, a variable (ES3
-- 11.1.2).
pub record Named : Type 0 where
  pub text : List ℕ
  pub variable : Bool

-- What a text has in its order: functions, and names.
pub data Part : Type 0 where
  a_function : FunctionOf Statement → Part
  a_name : Named → Part

abbrev pub Parts : Type 0
Parts = List Part

abbrev pub one_name : List ℕ → Parts
one_name text = a_name (record { text = text; variable = false }) ∷ []

abbrev pub one_variable : List ℕ → Parts
one_variable text = a_name (record { text = text; variable = true }) ∷ []

-- the parts of what may be missing
abbrev pub if_any : {A : Type 0} → (A → Parts) → Option A → Parts
if_any f None = []
if_any f (Some x) = f x

-- a string is a name of the program, any other literal is none (ES3 7.8)
abbrev pub in_literal : Primitive → Parts
in_literal (primitive.Text text) = one_name text
in_literal value = []

-- so is the name of a property, but for a number (11.1.5)
abbrev pub in_property_name : PropertyName → Parts
in_property_name (property.Word text) = one_name text
in_property_name (property.Text text) = one_name text
in_property_name (property.Number n) = []

-- an identifier is a name (7.6)
abbrev pub in_name : Name → Parts
in_name n = one_name n.text

module _ {X : Type 0} (expression : X → Parts) where
  -- a suffix (11.2)
  abbrev pub in_suffix : Suffix X → Parts
  in_suffix (suffix.Member name place) = in_name name
  in_suffix (suffix.Index key place) = expression key
  in_suffix (suffix.Call arguments place) = flat_map expression arguments

  -- a property of an object literal: its name before its value (11.1.5)
  abbrev pub in_property : Property X → Parts
  in_property p = in_property_name p.name ++ expression p.value

  -- the right operand of an operator (11.5 to 11.11)
  abbrev pub in_operation : Operation X → Parts
  in_operation o = expression o.right

  abbrev pub in_initialiser : Initialiser X → Parts
  in_initialiser i = expression i.value

  -- a variable of a `var`: its name before its value (12.2)
  abbrev pub in_declaration : Declaration X → Parts
  in_declaration d = in_name d.name ++ if_any in_initialiser d.initialiser

  -- the first part of a `for` (12.6.3)
  abbrev pub in_first : ForFirst X → Parts
  in_first first.Nothing = []
  in_first (first.Expression value) = expression value
  in_first (first.Variables declarations) = flat_map in_declaration declarations

  -- what a `for`-`in` writes (12.6.4)
  abbrev pub in_target : ForTarget X → Parts
  in_target (target.Variable declaration) = in_declaration declaration
  in_target (target.Reference value) = expression value

-- a `catch`: its parameter before its block (12.14)
abbrev pub in_catch : {X : Type 0} → (X → Parts) → CatchOf X → Parts
in_catch statement c = in_name c.parameter ++ flat_map statement c.body

-- a function stands before those in it; its name and its parameters stand before its body (13)
abbrev pub in_function : {X : Type 0} → (X → Statement) → (X → Parts) → FunctionOf X → Parts
in_function tree statement f =
    a_function (record {
      name = f.name;
      parameters = f.parameters;
      body = map tree f.body;
      place = f.place;
    })
    ∷ (if_any in_name f.name ++ (flat_map in_name f.parameters ++ flat_map statement f.body))

-- Below, each form inside stands beside its own parts.

-- one level of an expression (11)
abbrev pub expression_step : Expression-F (Expression × Parts) (Statement × Parts) (Case × Parts)
    → Parts
expression_step (Expression-F.This place) = []
expression_step (Expression-F.Name name) = one_variable name.text
expression_step (Expression-F.Literal value place) = in_literal value
expression_step (Expression-F.Array elements place) = flat_map (if_any (λ e. e.1)) elements
expression_step (Expression-F.Object properties place) =
    flat_map (in_property (λ e. e.1)) properties
expression_step (Expression-F.Expression::Function function) =
    in_function (λ s. s.0) (λ s. s.1) function
expression_step (Expression-F.Chain head suffixes) =
    head.1 ++ flat_map (in_suffix (λ e. e.1)) suffixes
expression_step (Expression-F.New callee arguments place) =
    callee.1 ++ flat_map (λ e. e.1) arguments
expression_step (Expression-F.Unary operator operand place) = operand.1
expression_step (Expression-F.Update operator operand place) = operand.1
expression_step (Expression-F.Binary first operations place) =
    first.1 ++ flat_map (in_operation (λ e. e.1)) operations
expression_step (Expression-F.Conditional condition consequent otherwise place) =
    condition.1 ++ (consequent.1 ++ otherwise.1)
expression_step (Expression-F.Assign goal operator value place) = goal.1 ++ value.1
expression_step (Expression-F.Sequence first others place) = first.1 ++ flat_map (λ e. e.1) others

-- one level of a statement (12); labels are no names
abbrev pub statement_step : Statement-F (Expression × Parts) (Statement × Parts) (Case × Parts)
    → Parts
statement_step (Statement-F.Block body place) = flat_map (λ s. s.1) body
statement_step (Statement-F.Variables declarations place) =
    flat_map (in_declaration (λ e. e.1)) declarations
statement_step (Statement-F.Empty place) = []
statement_step (Statement-F.Expression value place) = value.1
statement_step (Statement-F.If condition consequent otherwise place) =
    condition.1 ++ (consequent.1 ++ if_any (λ s. s.1) otherwise)
statement_step (Statement-F.Do body condition place) = body.1 ++ condition.1
statement_step (Statement-F.While condition body place) = condition.1 ++ body.1
statement_step (Statement-F.For head condition update body place) =
    in_first (λ e. e.1) head ++ (if_any (λ e. e.1) condition
    ++ (if_any (λ e. e.1) update ++ body.1))
statement_step (Statement-F.ForIn goal object body place) =
    in_target (λ e. e.1) goal ++ (object.1 ++ body.1)
statement_step (Statement-F.Continue label place) = []
statement_step (Statement-F.Break label place) = []
statement_step (Statement-F.Return value place) = if_any (λ e. e.1) value
statement_step (Statement-F.Labelled label body) = body.1
statement_step (Statement-F.Switch value cases place) = value.1 ++ flat_map (λ c. c.1) cases
statement_step (Statement-F.Throw value place) = value.1
statement_step (Statement-F.Try block caught finally place) =
    flat_map (λ s. s.1) block ++ (if_any (in_catch (λ s. s.1)) caught
    ++ if_any (flat_map (λ s. s.1)) finally)
statement_step (Statement-F.Statement::Function function) =
    in_function (λ s. s.0) (λ s. s.1) function

-- a clause of a `switch` (12.11)
abbrev pub case_step : Case-F (Expression × Parts) (Statement × Parts) (Case × Parts) → Parts
case_step c = if_any (λ e. e.1) c.test ++ flat_map (λ s. s.1) c.body

unfoldable pub in_statement : Statement → Parts
in_statement = para-Statement Parts Parts Parts expression_step statement_step case_step

-- the parts of a function of the text
abbrev pub function_parts : FunctionOf Statement → Parts
function_parts f =
    a_function f ∷ (if_any in_name f.name ++ (flat_map in_name f.parameters
    ++ flat_map in_statement f.body))

-- the functions among parts, and the names
abbrev pub if_function : Part → List (FunctionOf Statement)
if_function (a_function f) = f ∷ []
if_function (a_name n) = []

abbrev pub if_name : Part → List Named
if_name (a_function f) = []
if_name (a_name n) = n ∷ []

-- the functions of statements, functions in functions among them, and the names, each as often as
-- it stands there
unfoldable pub functions_in : List Statement → List (FunctionOf Statement)
functions_in statements = flat_map if_function (flat_map in_statement statements)

unfoldable pub names_in : List Statement → List Named
names_in statements = flat_map if_name (flat_map in_statement statements)
