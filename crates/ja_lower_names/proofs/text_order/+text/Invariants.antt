use Rattle.std.proofs.Common.{◌≡◌, ◌+◌, ◌*◌, ◌++◌, drop}
use Rattle.std.specs.List.{flat_map}
use Rattle.ja_lower_names.specs.TextOrder.{in_statement, if_any, in_property, in_operation, in_suffix, in_declaration}
use Rattle.ja_lower_names.specs.code.TextOrder.{in_expression, in_case}
use Rattle.ja_lower_names.proofs.text_order.+text.Given as goal

-- the parts so far and those of what is left are the parts at the loop's entry and those of all

abbrev pub invariant-add_expressions-loop-expression :
    goal.invariant-add_expressions-loop-expression
invariant-add_expressions-loop-expression l =
    l.parts ++ flat_map in_expression (drop l.expression-index l.expressions) ≡ l.initial.parts
    ++ flat_map in_expression l.expressions

abbrev pub invariant-add_elements-loop-element : goal.invariant-add_elements-loop-element
invariant-add_elements-loop-element l =
    l.parts ++ flat_map (if_any in_expression) (drop l.element-index l.elements) ≡ l.initial.parts
    ++ flat_map (if_any in_expression) l.elements

abbrev pub invariant-add_properties-loop-property : goal.invariant-add_properties-loop-property
invariant-add_properties-loop-property l =
    l.parts ++ flat_map (in_property in_expression) (drop l.property-index l.properties)
    ≡ l.initial.parts ++ flat_map (in_property in_expression) l.properties

abbrev pub invariant-add_operations-loop-operation : goal.invariant-add_operations-loop-operation
invariant-add_operations-loop-operation l =
    l.parts ++ flat_map (in_operation in_expression) (drop l.operation-index l.operations)
    ≡ l.initial.parts ++ flat_map (in_operation in_expression) l.operations

abbrev pub invariant-add_suffixes-loop-suffix : goal.invariant-add_suffixes-loop-suffix
invariant-add_suffixes-loop-suffix l =
    l.parts ++ flat_map (in_suffix in_expression) (drop l.suffix-index l.suffixes) ≡ l.initial.parts
    ++ flat_map (in_suffix in_expression) l.suffixes

abbrev pub invariant-add_declarations-loop-declaration :
    goal.invariant-add_declarations-loop-declaration
invariant-add_declarations-loop-declaration l =
    l.parts ++ flat_map (in_declaration in_expression) (drop l.declaration-index l.declarations)
    ≡ l.initial.parts ++ flat_map (in_declaration in_expression) l.declarations

abbrev pub invariant-add_statements-loop-statement : goal.invariant-add_statements-loop-statement
invariant-add_statements-loop-statement l =
    l.parts ++ flat_map in_statement (drop l.statement-index l.statements) ≡ l.initial.parts
    ++ flat_map in_statement l.statements

abbrev pub invariant-add_cases-loop-case : goal.invariant-add_cases-loop-case
invariant-add_cases-loop-case l =
    l.parts ++ flat_map in_case (drop l.case-index l.cases) ≡ l.initial.parts
    ++ flat_map in_case l.cases

-- ---- each call goes down the tree, or takes what it was given to a function of a lower rank

abbrev pub decreases-add_expression : goal.decreases-add_expression
decreases-add_expression l = 6 * goal.size-add_expression l + 0

abbrev pub decreases-add_statement : goal.decreases-add_statement
decreases-add_statement l = 6 * goal.size-add_statement l + 0

abbrev pub decreases-add_expressions : goal.decreases-add_expressions
decreases-add_expressions l = 6 * goal.size-add_expressions l + 1

abbrev pub decreases-add_optional : goal.decreases-add_optional
decreases-add_optional l = 6 * goal.size-add_optional l + 1

abbrev pub decreases-add_optional_boxed : goal.decreases-add_optional_boxed
decreases-add_optional_boxed l = 6 * goal.size-add_optional_boxed l + 1

abbrev pub decreases-add_otherwise : goal.decreases-add_otherwise
decreases-add_otherwise l = 6 * goal.size-add_otherwise l + 1

abbrev pub decreases-add_statements : goal.decreases-add_statements
decreases-add_statements l = 6 * goal.size-add_statements l + 1

abbrev pub decreases-add_elements : goal.decreases-add_elements
decreases-add_elements l = 6 * goal.size-add_elements l + 2

abbrev pub decreases-add_operations : goal.decreases-add_operations
decreases-add_operations l = 6 * goal.size-add_operations l + 2

abbrev pub decreases-add_property : goal.decreases-add_property
decreases-add_property l = 6 * goal.size-add_property l + 2

abbrev pub decreases-add_properties : goal.decreases-add_properties
decreases-add_properties l = 6 * goal.size-add_properties l + 3

abbrev pub decreases-add_suffix : goal.decreases-add_suffix
decreases-add_suffix l = 6 * goal.size-add_suffix l + 2

abbrev pub decreases-add_suffixes : goal.decreases-add_suffixes
decreases-add_suffixes l = 6 * goal.size-add_suffixes l + 3

abbrev pub decreases-add_function : goal.decreases-add_function
decreases-add_function l = 6 * goal.size-add_function l + 2

abbrev pub decreases-add_initialiser : goal.decreases-add_initialiser
decreases-add_initialiser l = 6 * goal.size-add_initialiser l + 1

abbrev pub decreases-add_declaration : goal.decreases-add_declaration
decreases-add_declaration l = 6 * goal.size-add_declaration l + 2

abbrev pub decreases-add_declarations : goal.decreases-add_declarations
decreases-add_declarations l = 6 * goal.size-add_declarations l + 3

abbrev pub decreases-add_first : goal.decreases-add_first
decreases-add_first l = 6 * goal.size-add_first l + 4

abbrev pub decreases-add_target : goal.decreases-add_target
decreases-add_target l = 6 * goal.size-add_target l + 3

abbrev pub decreases-add_catch : goal.decreases-add_catch
decreases-add_catch l = 6 * goal.size-add_catch l + 2

abbrev pub decreases-add_finally : goal.decreases-add_finally
decreases-add_finally l = 6 * goal.size-add_finally l + 2

abbrev pub decreases-add_case : goal.decreases-add_case
decreases-add_case l = 6 * goal.size-add_case l + 4

abbrev pub decreases-add_cases : goal.decreases-add_cases
decreases-add_cases l = 6 * goal.size-add_cases l + 5
