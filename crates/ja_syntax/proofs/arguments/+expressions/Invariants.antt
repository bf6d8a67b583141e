use Rattle.std.proofs.Common.{◌≡◌, ◌+◌, ◌*◌, drop}
use Rattle.std.specs.List.{list_any}
use Rattle.ja_syntax.specs.code.Arguments as spec
use Rattle.ja_syntax.specs.code.Mentions.{optional_mentions, suffix_mentions}
use Rattle.ja_syntax.proofs.arguments.+expressions.Given as goal

abbrev pub invariant-in_elements-loop-element : goal.invariant-in_elements-loop-element
invariant-in_elements-loop-element l =
    list_any optional_mentions (drop l.element-index l.elements)
    ≡ list_any optional_mentions l.elements

abbrev pub invariant-in_expressions-loop-expression : goal.invariant-in_expressions-loop-expression
invariant-in_expressions-loop-expression l =
    list_any spec.in_expression (drop l.expression-index l.expressions)
    ≡ list_any spec.in_expression l.expressions

abbrev pub invariant-in_operations-loop-operation : goal.invariant-in_operations-loop-operation
invariant-in_operations-loop-operation l =
    list_any (λ o. spec.in_expression o.right) (drop l.operation-index l.operations)
    ≡ list_any (λ o. spec.in_expression o.right) l.operations

abbrev pub invariant-in_properties-loop-property : goal.invariant-in_properties-loop-property
invariant-in_properties-loop-property l =
    list_any (λ p. spec.in_expression p.value) (drop l.property-index l.properties)
    ≡ list_any (λ p. spec.in_expression p.value) l.properties

abbrev pub invariant-in_suffixes-loop-suffix : goal.invariant-in_suffixes-loop-suffix
invariant-in_suffixes-loop-suffix l =
    list_any suffix_mentions (drop l.suffix-index l.suffixes) ≡ list_any suffix_mentions l.suffixes

abbrev pub decreases-in_expression : goal.decreases-in_expression
decreases-in_expression l = 3 * goal.size-in_expression l + 0

abbrev pub decreases-in_expressions : goal.decreases-in_expressions
decreases-in_expressions l = 3 * goal.size-in_expressions l + 1

abbrev pub decreases-in_elements : goal.decreases-in_elements
decreases-in_elements l = 3 * goal.size-in_elements l + 1

abbrev pub decreases-in_properties : goal.decreases-in_properties
decreases-in_properties l = 3 * goal.size-in_properties l + 1

abbrev pub decreases-in_operations : goal.decreases-in_operations
decreases-in_operations l = 3 * goal.size-in_operations l + 1

abbrev pub decreases-in_suffixes : goal.decreases-in_suffixes
decreases-in_suffixes l = 3 * goal.size-in_suffixes l + 2
