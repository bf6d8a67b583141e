-- The parts of one level of an expression, and of a statement.
use Rattle.std.proofs.Common.{◌≡◌, List, [], ◌∷◌, ◌++◌, ◌∙◌, ap, sym, map, refl, append-nil, append_assoc, Option, Some, None}
use Rattle.std.specs.List.{flat_map}
use Rattle.ja_base.specs.declared.ids.Place.{Place}
use Rattle.ja_prim.specs.declared.primitive.Primitive.{Primitive}
use Rattle.ja_syntax.specs.declared.tree.BinaryOperator.{BinaryOperator}
use Rattle.ja_syntax.specs.declared.tree.UnaryOperator.{UnaryOperator}
use Rattle.ja_syntax.specs.declared.tree.UpdateOperator.{UpdateOperator}
use Rattle.ja_syntax.specs.declared.tree.FunctionOf.{FunctionOf}
use Rattle.ja_syntax.specs.declared.tree.Property.{Property}
use Rattle.ja_syntax.specs.declared.tree.Suffix.{Suffix}
use Rattle.ja_syntax.specs.declared.tree.Suffix.TheVariants as suffix
use Rattle.ja_syntax.specs.declared.tree.Operation.{Operation}
use Rattle.ja_syntax.specs.declared.tree.Name.{Name}
use Rattle.ja_syntax.specs.declared.tree.CatchOf.{CatchOf}
use Rattle.ja_syntax.specs.declared.tree.Declaration.{Declaration}
use Rattle.ja_syntax.specs.declared.tree.Initialiser.{Initialiser}
use Rattle.ja_syntax.specs.declared.tree.ForFirst.{ForFirst}
use Rattle.ja_syntax.specs.declared.tree.ForFirst.TheVariants as first
use Rattle.ja_syntax.specs.declared.tree.ForTarget.{ForTarget}
use Rattle.ja_syntax.specs.declared.tree.ForTarget.TheVariants as target
use Rattle.ja_syntax.specs.declared.tree.Case.{Case, out-Case}
use Rattle.ja_syntax.specs.declared.tree.Statement.{Statement, roll-Statement}
use Rattle.ja_syntax.specs.declared.tree.Statement.TheVariants as s
use Rattle.ja_syntax.specs.declared.tree.Expression.{Expression, roll-Expression}
use Rattle.ja_syntax.specs.declared.tree.Expression.TheVariants as e
use Rattle.ja_syntax.specs.declared.tree.Expression.TheOpen.{Expression-F, Statement-F, Case-F}
use Rattle.ja_syntax.specs.declared.tree.Expression.TheFolds.{para-roll-Expression, para-roll-Statement, para-roll-Case, map-Expression, map-Statement, map-Case}
use Rattle.ja_lower_names.specs.TextOrder.{Parts, a_function, one_variable, if_any, in_literal, in_name, in_suffix, in_property, in_operation, in_declaration, in_first, in_target, in_catch, expression_step, statement_step, case_step, in_statement, function_parts}
use Rattle.ja_lower_names.specs.code.TextOrder.{in_expression, in_case}

after : {A B : Type 0} (f : B → Parts) (g : A → B) (h : A → Parts) → ((x : A) → f (g x) ≡ h x)
    → (xs : List A) → flat_map f (map g xs) ≡ flat_map h xs
after f g h e [] = refl
after f g h e (x ∷ xs) =
    ap (λ y. y ++ flat_map f (map g xs)) (e x) ∙ ap (λ y. h x ++ y) (after f g h e xs)

-- each tree, beside its parts
abbrev pub Expressions : Type 0
Expressions = Expression × Parts

abbrev pub Statements : Type 0
Statements = Statement × Parts

abbrev pub Cases : Type 0
Cases = Case × Parts

abbrev pub expression_layer : Expression-F Expression Statement Case
    → Expression-F Expressions Statements Cases
expression_layer =
    map-Expression Expression Statement Case Expressions Statements Cases
    (λ x. (x, in_expression x)) (λ x. (x, in_statement x)) (λ x. (x, in_case x))

abbrev pub statement_layer : Statement-F Expression Statement Case
    → Statement-F Expressions Statements Cases
statement_layer =
    map-Statement Expression Statement Case Expressions Statements Cases (λ x. (x, in_expression x))
    (λ x. (x, in_statement x)) (λ x. (x, in_case x))

abbrev pub case_layer : Case-F Expression Statement Case → Case-F Expressions Statements Cases
case_layer =
    map-Case Expression Statement Case Expressions Statements Cases (λ x. (x, in_expression x))
    (λ x. (x, in_statement x)) (λ x. (x, in_case x))

pub expression_opened : (x : Expression-F Expression Statement Case)
    → in_expression (roll-Expression x) ≡ expression_step (expression_layer x)
unfolding in_expression in_statement in_case
expression_opened x =
    para-roll-Expression Parts Parts Parts expression_step statement_step case_step x

pub statement_opened : (x : Statement-F Expression Statement Case)
    → in_statement (roll-Statement x) ≡ statement_step (statement_layer x)
unfolding in_expression in_statement in_case
statement_opened x =
    para-roll-Statement Parts Parts Parts expression_step statement_step case_step x

case_opened : (x : Case) → in_case x ≡ case_step (case_layer (out-Case x))
unfolding in_expression in_statement in_case
case_opened x =
    para-roll-Case Parts Parts Parts expression_step statement_step case_step (out-Case x)

expressions : (xs : List Expression) → flat_map (λ (p : Expressions). p.1)
    (map (λ x. (x, in_expression x)) xs) ≡ flat_map in_expression xs
expressions xs =
    after (λ (p : Expressions). p.1) (λ x. (x, in_expression x)) in_expression (λ x. refl) xs

statements : (xs : List Statement) → flat_map (λ (p : Statements). p.1)
    (map (λ x. (x, in_statement x)) xs) ≡ flat_map in_statement xs
statements xs =
    after (λ (p : Statements). p.1) (λ x. (x, in_statement x)) in_statement (λ x. refl) xs

back : (xs : List Statement) → map (λ (p : Statements). p.0) (map (λ x. (x, in_statement x)) xs)
    ≡ xs
back [] = refl
back (x ∷ xs) = ap (λ ys. x ∷ ys) (back xs)

module _ (g : Option Expression → Parts) (empty : g None ≡ [])
    (full : (v : Expression) → g (Some v) ≡ in_expression v) where
  optional_is : (x : Option Expression) → g x ≡ if_any in_expression x
  optional_is None = empty
  optional_is (Some v) = full v

module _ (g : Suffix Expression → Parts)
    (member : (name : Name) (place : Place) → g (suffix.Member name place) ≡ in_name name)
    (index : (key : Expression) (place : Place) → g (suffix.Index key place) ≡ in_expression key)
    (call : (arguments : List Expression) (place : Place)
    → g (suffix.Call arguments place) ≡ flat_map in_expression arguments) where
  suffix_is : (x : Suffix Expression) → g x ≡ in_suffix in_expression x
  suffix_is (suffix.Member name place) = member name place
  suffix_is (suffix.Index key place) = index key place
  suffix_is (suffix.Call arguments place) = call arguments place

module _ (g : Declaration Expression → Parts)
    (empty : (n : Name) → g (record { name = n; initialiser = None }) ≡ in_name n ++ [])
    (full : (n : Name) (i : Initialiser Expression)
    → g (record { name = n; initialiser = Some i }) ≡ in_name n ++ in_expression i.value) where
  declaration_at : (n : Name) (i : Option (Initialiser Expression))
      → g (record { name = n; initialiser = i })
      ≡ in_declaration in_expression (record { name = n; initialiser = i })
  declaration_at n None = empty n
  declaration_at n (Some i) = full n i

  declaration_is : (d : Declaration Expression) → g d ≡ in_declaration in_expression d
  declaration_is d = declaration_at d.name d.initialiser

pub function_layer : (f : FunctionOf Statement)
    → expression_step (expression_layer (Expression-F.Expression::Function f)) ≡ function_parts f
function_layer f =
    ap (λ (body : List Statement). a_function
    (record { name = f.name; parameters = f.parameters; body = body; place = f.place })
    ∷ (if_any in_name f.name ++ (flat_map in_name f.parameters
    ++ flat_map (λ (p : Statements). p.1) (map (λ x. (x, in_statement x)) f.body)))) (back f.body)
    ∙ ap (λ (ps : Parts). a_function f ∷ (if_any in_name f.name
    ++ (flat_map in_name f.parameters ++ ps))) (statements f.body)

-- behind other parts stand those of one level of an expression, however it is written
spelt : (parts : Parts) {x : Expression} {ps : Parts} (y : Expression-F Expression Statement Case)
    → roll-Expression y ≡ x → expression_step (expression_layer y) ≡ ps
    → parts ++ in_expression x ≡ parts ++ ps
spelt parts y rolled is =
    ap (λ ps. parts ++ ps) (ap in_expression (sym rolled) ∙ (expression_opened y ∙ is))

-- .. and of a statement
written : (parts : Parts) {x : Statement} {ps : Parts} (y : Statement-F Expression Statement Case)
    → roll-Statement y ≡ x → statement_step (statement_layer y) ≡ ps
    → parts ++ in_statement x ≡ parts ++ ps
written parts y rolled is =
    ap (λ ps. parts ++ ps) (ap in_statement (sym rolled) ∙ (statement_opened y ∙ is))

pub of_this : (parts : Parts) (place : Place) → parts ++ in_expression (e.This place) ≡ parts
of_this parts place = spelt parts _ (e.rolls-This place) refl ∙ append-nil parts

pub of_name : (parts : Parts) (name : Name)
    → parts ++ in_expression (e.Name name) ≡ parts ++ one_variable name.text
of_name parts name = spelt parts _ (e.rolls-Name name) refl

pub of_literal : (parts : Parts) (value : Primitive) (place : Place)
    → parts ++ in_expression (e.Literal value place) ≡ parts ++ in_literal value
of_literal parts value place = spelt parts _ (e.rolls-Literal value place) refl

pub of_array : (parts : Parts) (elements : List (Option Expression)) (place : Place)
    → parts ++ in_expression (e.Array elements place) ≡ parts
    ++ flat_map (if_any in_expression) elements
of_array parts elements place =
    spelt parts _ (e.rolls-Array elements place) (after (if_any (λ (p : Expressions). p.1)) _
    (if_any in_expression) (optional_is _ refl (λ v. refl)) elements)

pub of_object : (parts : Parts) (properties : List (Property Expression)) (place : Place)
    → parts ++ in_expression (e.Object properties place) ≡ parts
    ++ flat_map (in_property in_expression) properties
of_object parts properties place =
    spelt parts _ (e.rolls-Object properties place) (after (in_property (λ (p : Expressions). p.1))
    _ (in_property in_expression) (λ p. refl) properties)

pub of_function : (parts : Parts) (function : FunctionOf Statement)
    → parts ++ in_expression (e.Function function) ≡ parts ++ function_parts function
of_function parts function = spelt parts _ (e.rolls-Function function) (function_layer function)

pub of_chain : (parts : Parts) (head : Expression) (suffixes : List (Suffix Expression))
    → parts ++ in_expression (e.Chain head suffixes) ≡ (parts ++ in_expression head)
    ++ flat_map (in_suffix in_expression) suffixes
of_chain parts head suffixes =
    spelt parts _ (e.rolls-Chain head suffixes) (ap (λ ps. in_expression head ++ ps)
    (after (in_suffix (λ (p : Expressions). p.1)) _ (in_suffix in_expression)
    (suffix_is _ (λ n p. refl) (λ k p. refl) (λ xs p. expressions xs)) suffixes))
    ∙ sym (append_assoc parts (in_expression head) (flat_map (in_suffix in_expression) suffixes))

pub of_new : (parts : Parts) (callee : Expression) (arguments : List Expression) (place : Place)
    → parts ++ in_expression (e.New callee arguments place) ≡ (parts ++ in_expression callee)
    ++ flat_map in_expression arguments
of_new parts callee arguments place =
    spelt parts _ (e.rolls-New callee arguments place) (ap (λ ps. in_expression callee ++ ps)
    (expressions arguments))
    ∙ sym (append_assoc parts (in_expression callee) (flat_map in_expression arguments))

pub of_unary : (parts : Parts) (operator : UnaryOperator) (operand : Expression) (place : Place)
    → parts ++ in_expression (e.Unary operator operand place) ≡ parts ++ in_expression operand
of_unary parts operator operand place = spelt parts _ (e.rolls-Unary operator operand place) refl

pub of_update : (parts : Parts) (operator : UpdateOperator) (operand : Expression) (place : Place)
    → parts ++ in_expression (e.Update operator operand place) ≡ parts ++ in_expression operand
of_update parts operator operand place = spelt parts _ (e.rolls-Update operator operand place) refl

pub of_binary : (parts : Parts) (first : Expression) (operations : List (Operation Expression))
    (place : Place) → parts ++ in_expression (e.Binary first operations place)
    ≡ (parts ++ in_expression first) ++ flat_map (in_operation in_expression) operations
of_binary parts first operations place =
    spelt parts _ (e.rolls-Binary first operations place) (ap (λ ps. in_expression first ++ ps)
    (after (in_operation (λ (p : Expressions). p.1)) _ (in_operation in_expression) (λ o. refl)
    operations))
    ∙ sym (append_assoc parts (in_expression first)
    (flat_map (in_operation in_expression) operations))

pub of_conditional : (parts : Parts) (condition : Expression) (consequent : Expression)
    (otherwise : Expression) (place : Place)
    → parts ++ in_expression (e.Conditional condition consequent otherwise place)
    ≡ ((parts ++ in_expression condition) ++ in_expression consequent) ++ in_expression otherwise
of_conditional parts condition consequent otherwise place =
    spelt parts _ (e.rolls-Conditional condition consequent otherwise place) refl
    ∙ sym (append_assoc parts (in_expression condition)
    (in_expression consequent ++ (in_expression otherwise)))
    ∙ sym (append_assoc (parts ++ in_expression condition) (in_expression consequent)
    (in_expression otherwise))

pub of_assign : (parts : Parts) (goal : Expression) (operator : Option BinaryOperator)
    (value : Expression) (place : Place) → parts
    ++ in_expression (e.Assign goal operator value place) ≡ (parts ++ in_expression goal)
    ++ in_expression value
of_assign parts goal operator value place =
    spelt parts _ (e.rolls-Assign goal operator value place) refl
    ∙ sym (append_assoc parts (in_expression goal) (in_expression value))

pub of_sequence : (parts : Parts) (first : Expression) (others : List Expression) (place : Place)
    → parts ++ in_expression (e.Sequence first others place) ≡ (parts ++ in_expression first)
    ++ flat_map in_expression others
of_sequence parts first others place =
    spelt parts _ (e.rolls-Sequence first others place) (ap (λ ps. in_expression first ++ ps)
    (expressions others))
    ∙ sym (append_assoc parts (in_expression first) (flat_map in_expression others))

-- ---- statements

if_layer : (condition : Expression) (consequent : Statement) (otherwise : Option Statement)
    (place : Place) → statement_step (statement_layer
    (Statement-F.If condition consequent otherwise place)) ≡ in_expression condition
    ++ (in_statement consequent ++ if_any in_statement otherwise)
if_layer condition consequent None place = refl
if_layer condition consequent (Some otherwise) place = refl

return_layer : (value : Option Expression) (place : Place)
    → statement_step (statement_layer (Statement-F.Return value place)) ≡ if_any in_expression value
return_layer None place = refl
return_layer (Some value) place = refl

for_layer : (head : ForFirst Expression) (condition update : Option Expression) (body : Statement)
    (place : Place) → statement_step (statement_layer
    (Statement-F.For head condition update body place)) ≡ in_first in_expression head
    ++ (if_any in_expression condition ++ (if_any in_expression update ++ in_statement body))
for_layer first.Nothing None None body place = refl
for_layer first.Nothing None (Some update) body place = refl
for_layer first.Nothing (Some condition) None body place = refl
for_layer first.Nothing (Some condition) (Some update) body place = refl
for_layer (first.Expression value) None None body place = refl
for_layer (first.Expression value) None (Some update) body place = refl
for_layer (first.Expression value) (Some condition) None body place = refl
for_layer (first.Expression value) (Some condition) (Some update) body place = refl
for_layer (first.Variables ds) None None body place =
    ap (λ ps. ps ++ ([] ++ ([] ++ in_statement body)))
    (after (in_declaration (λ (p : Expressions). p.1)) _ (in_declaration in_expression)
    (declaration_is _ (λ n. refl) (λ n i. refl)) ds)
for_layer (first.Variables ds) None (Some update) body place =
    ap (λ ps. ps ++ ([] ++ (in_expression update ++ in_statement body)))
    (after (in_declaration (λ (p : Expressions). p.1)) _ (in_declaration in_expression)
    (declaration_is _ (λ n. refl) (λ n i. refl)) ds)
for_layer (first.Variables ds) (Some condition) None body place =
    ap (λ ps. ps ++ (in_expression condition ++ ([] ++ in_statement body)))
    (after (in_declaration (λ (p : Expressions). p.1)) _ (in_declaration in_expression)
    (declaration_is _ (λ n. refl) (λ n i. refl)) ds)
for_layer (first.Variables ds) (Some condition) (Some update) body place =
    ap (λ ps. ps ++ (in_expression condition ++ (in_expression update ++ in_statement body)))
    (after (in_declaration (λ (p : Expressions). p.1)) _ (in_declaration in_expression)
    (declaration_is _ (λ n. refl) (λ n i. refl)) ds)

variable_layer : (n : Name) (i : Option (Initialiser Expression)) (object : Expression)
    (body : Statement) (place : Place) → statement_step
    (statement_layer (Statement-F.ForIn (target.Variable (record { name = n; initialiser = i }))
    object body place)) ≡ in_declaration in_expression (record { name = n; initialiser = i })
    ++ (in_expression object ++ in_statement body)
variable_layer n None object body place = refl
variable_layer n (Some i) object body place = refl

for_in_layer : (goal : ForTarget Expression) (object : Expression) (body : Statement)
    (place : Place) → statement_step (statement_layer (Statement-F.ForIn goal object body place))
    ≡ in_target in_expression goal ++ (in_expression object ++ in_statement body)
for_in_layer (target.Variable d) object body place =
    variable_layer d.name d.initialiser object body place
for_in_layer (target.Reference value) object body place = refl

try_layer : (block : List Statement) (caught : Option (CatchOf Statement))
    (finally : Option (List Statement)) (place : Place)
    → statement_step (statement_layer (Statement-F.Try block caught finally place))
    ≡ flat_map in_statement block ++ (if_any (in_catch in_statement) caught
    ++ if_any (flat_map in_statement) finally)
try_layer block None None place = rw (statements block) refl
try_layer block None (Some body) place = rw (statements block, statements body) refl
try_layer block (Some caught) None place = rw (statements block, statements caught.body) refl
try_layer block (Some caught) (Some body) place =
    rw (statements block, statements caught.body, statements body) refl

declared_layer : (f : FunctionOf Statement)
    → statement_step (statement_layer (Statement-F.Statement::Function f)) ≡ function_parts f
declared_layer f = function_layer f

case_is : (test : Option Expression) (body : List Statement) (place : Place)
    → case_step (case_layer (record { test = test; body = body; place = place }))
    ≡ if_any in_expression test ++ flat_map in_statement body
case_is None body place = statements body
case_is (Some test) body place = ap (λ ps. in_expression test ++ ps) (statements body)

pub of_case : (parts : Parts) (case : Case)
    → parts ++ in_case case ≡ (parts ++ if_any in_expression (out-Case case).test)
    ++ flat_map in_statement (out-Case case).body
of_case parts case =
    ap (λ ps. parts ++ ps) (case_opened case
    ∙ case_is (out-Case case).test (out-Case case).body (out-Case case).place)
    ∙ sym (append_assoc parts (if_any in_expression (out-Case case).test)
    (flat_map in_statement (out-Case case).body))

pub of_block : (parts : Parts) (body : List Statement) (place : Place)
    → parts ++ in_statement (s.Block body place) ≡ parts ++ flat_map in_statement body
of_block parts body place = written parts _ (s.rolls-Block body place) (statements body)

pub of_variables : (parts : Parts) (declarations : List (Declaration Expression)) (place : Place)
    → parts ++ in_statement (s.Variables declarations place) ≡ parts
    ++ flat_map (in_declaration in_expression) declarations
of_variables parts declarations place =
    written parts _ (s.rolls-Variables declarations place) (after (in_declaration
    (λ (p : Expressions). p.1)) _ (in_declaration in_expression) (declaration_is _ (λ n. refl)
    (λ n i. refl)) declarations)

pub of_empty : (parts : Parts) (place : Place) → parts ++ in_statement (s.Empty place) ≡ parts
of_empty parts place = written parts _ (s.rolls-Empty place) refl ∙ append-nil parts

pub of_value : (parts : Parts) (value : Expression) (place : Place)
    → parts ++ in_statement (s.Expression value place) ≡ parts ++ in_expression value
of_value parts value place = written parts _ (s.rolls-Expression value place) refl

pub of_if : (parts : Parts) (condition : Expression) (consequent : Statement)
    (otherwise : Option Statement) (place : Place)
    → parts ++ in_statement (s.If condition consequent otherwise place)
    ≡ ((parts ++ in_expression condition) ++ in_statement consequent)
    ++ if_any in_statement otherwise
of_if parts condition consequent otherwise place =
    written parts _ (s.rolls-If condition consequent otherwise place) (if_layer condition consequent
    otherwise place)
    ∙ sym (append_assoc parts (in_expression condition)
    (in_statement consequent ++ (if_any in_statement otherwise)))
    ∙ sym (append_assoc (parts ++ in_expression condition) (in_statement consequent)
    (if_any in_statement otherwise))

pub of_do : (parts : Parts) (body : Statement) (condition : Expression) (place : Place)
    → parts ++ in_statement (s.Do body condition place) ≡ (parts ++ in_statement body)
    ++ in_expression condition
of_do parts body condition place =
    written parts _ (s.rolls-Do body condition place) refl
    ∙ sym (append_assoc parts (in_statement body) (in_expression condition))

pub of_while : (parts : Parts) (condition : Expression) (body : Statement) (place : Place)
    → parts ++ in_statement (s.While condition body place) ≡ (parts ++ in_expression condition)
    ++ in_statement body
of_while parts condition body place =
    written parts _ (s.rolls-While condition body place) refl
    ∙ sym (append_assoc parts (in_expression condition) (in_statement body))

pub of_for : (parts : Parts) (head : ForFirst Expression) (condition : Option Expression)
    (update : Option Expression) (body : Statement) (place : Place)
    → parts ++ in_statement (s.For head condition update body place)
    ≡ (((parts ++ in_first in_expression head) ++ if_any in_expression condition)
    ++ if_any in_expression update) ++ in_statement body
of_for parts head condition update body place =
    written parts _ (s.rolls-For head condition update body place) (for_layer head condition update
    body place)
    ∙ sym (append_assoc parts (in_first in_expression head)
    (if_any in_expression condition ++ (if_any in_expression update ++ (in_statement body))))
    ∙ sym (append_assoc (parts ++ in_first in_expression head) (if_any in_expression condition)
    (if_any in_expression update ++ (in_statement body)))
    ∙ sym (append_assoc ((parts ++ in_first in_expression head) ++ if_any in_expression condition)
    (if_any in_expression update) (in_statement body))

pub of_for_in : (parts : Parts) (goal : ForTarget Expression) (object : Expression)
    (body : Statement) (place : Place) → parts ++ in_statement (s.ForIn goal object body place)
    ≡ ((parts ++ in_target in_expression goal) ++ in_expression object) ++ in_statement body
of_for_in parts goal object body place =
    written parts _ (s.rolls-ForIn goal object body place) (for_in_layer goal object body place)
    ∙ sym (append_assoc parts (in_target in_expression goal)
    (in_expression object ++ (in_statement body)))
    ∙ sym (append_assoc (parts ++ in_target in_expression goal) (in_expression object)
    (in_statement body))

pub of_continue : (parts : Parts) (label : Option Name) (place : Place)
    → parts ++ in_statement (s.Continue label place) ≡ parts
of_continue parts label place =
    written parts _ (s.rolls-Continue label place) refl ∙ append-nil parts

pub of_break : (parts : Parts) (label : Option Name) (place : Place)
    → parts ++ in_statement (s.Break label place) ≡ parts
of_break parts label place = written parts _ (s.rolls-Break label place) refl ∙ append-nil parts

pub of_return : (parts : Parts) (value : Option Expression) (place : Place)
    → parts ++ in_statement (s.Return value place) ≡ parts ++ if_any in_expression value
of_return parts value place =
    written parts _ (s.rolls-Return value place) (return_layer value place)

pub of_labelled : (parts : Parts) (label : Name) (body : Statement)
    → parts ++ in_statement (s.Labelled label body) ≡ parts ++ in_statement body
of_labelled parts label body = written parts _ (s.rolls-Labelled label body) refl

pub of_switch : (parts : Parts) (value : Expression) (cases : List Case) (place : Place)
    → parts ++ in_statement (s.Switch value cases place) ≡ (parts ++ in_expression value)
    ++ flat_map in_case cases
of_switch parts value cases place =
    written parts _ (s.rolls-Switch value cases place) (ap (λ ps. in_expression value ++ ps)
    (after (λ (p : Cases). p.1) (λ x. (x, in_case x)) in_case (λ x. refl) cases))
    ∙ sym (append_assoc parts (in_expression value) (flat_map in_case cases))

pub of_throw : (parts : Parts) (value : Expression) (place : Place)
    → parts ++ in_statement (s.Throw value place) ≡ parts ++ in_expression value
of_throw parts value place = written parts _ (s.rolls-Throw value place) refl

pub of_try : (parts : Parts) (block : List Statement) (caught : Option (CatchOf Statement))
    (finally : Option (List Statement)) (place : Place)
    → parts ++ in_statement (s.Try block caught finally place)
    ≡ ((parts ++ flat_map in_statement block) ++ if_any (in_catch in_statement) caught)
    ++ if_any (flat_map in_statement) finally
of_try parts block caught finally place =
    written parts _ (s.rolls-Try block caught finally place) (try_layer block caught finally place)
    ∙ sym (append_assoc parts (flat_map in_statement block)
    (if_any (in_catch in_statement) caught ++ (if_any (flat_map in_statement) finally)))
    ∙ sym (append_assoc (parts ++ flat_map in_statement block)
    (if_any (in_catch in_statement) caught) (if_any (flat_map in_statement) finally))

pub of_declared : (parts : Parts) (function : FunctionOf Statement)
    → parts ++ in_statement (s.Function function) ≡ parts ++ function_parts function
of_declared parts function = written parts _ (s.rolls-Function function) (declared_layer function)
