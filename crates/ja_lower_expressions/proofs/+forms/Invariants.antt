use Rattle.std.proofs.Common.{◌≡◌, ◌+◌, ◌*◌, [], map, drop}
use Rattle.std.specs.List.{fold}
use Rattle.ja_lower_expressions.specs.Calls.{list_arguments}
use Rattle.ja_lower_expressions.specs.Literals.{write_elements, write_members}
use Rattle.ja_lower_expressions.specs.Expressions.{form, with_suffix, apply_operations, list_others}
use Rattle.ja_lower_expressions.specs.code.Expressions.{element_of, property_of, suffix_of, operation_of}
use Rattle.ja_lower_expressions.proofs.+forms.Given as goal

-- what is left comes to what all came to at the loop's entry

abbrev pub invariant-call::list_arguments-loop-argument :
    goal.invariant-call::list_arguments-loop-argument
invariant-call::list_arguments-loop-argument l =
    list_arguments (map form (drop l.argument-index l.arguments)) l.scene l.draft l.values.items
    ≡ list_arguments (map form l.arguments) l.scene l.fn.draft []

abbrev pub invariant-expression::operations-loop-next :
    goal.invariant-expression::operations-loop-next
invariant-expression::operations-loop-next l =
    apply_operations l.place (map operation_of (drop l.next-index l.operations)) l.scene
    (record { listing = l.draft; value = l.left })
    ≡ apply_operations l.place (map operation_of l.operations) l.scene
    (record { listing = l.fn.draft; value = l.fn.first })

abbrev pub invariant-expression::others-loop-other : goal.invariant-expression::others-loop-other
invariant-expression::others-loop-other l =
    list_others (map form (drop l.other-index l.others)) l.scene
    (record { listing = l.draft; value = l.last })
    ≡ list_others (map form l.others) l.scene
    (record { listing = l.fn.draft; value = l.fn.first })

abbrev pub invariant-expression::suffixes-loop-next : goal.invariant-expression::suffixes-loop-next
invariant-expression::suffixes-loop-next l =
    fold (with_suffix l.scene) (record { listing = l.draft; outcome = l.outcome })
    (map suffix_of (drop l.next-index l.suffixes))
    ≡ fold (with_suffix l.scene) (record { listing = l.fn.draft; outcome = l.fn.head })
    (map suffix_of l.suffixes)

abbrev pub invariant-literal::object-loop-property : goal.invariant-literal::object-loop-property
invariant-literal::object-loop-property l =
    write_members l.scene l.place l.object (map property_of (drop l.property-index l.properties))
    l.draft ≡ write_members l.scene l.place l.object (map property_of l.properties)
    l.initial.draft

abbrev pub invariant-literal::write_elements-loop-element :
    goal.invariant-literal::write_elements-loop-element
invariant-literal::write_elements-loop-element l = record {
  counted : l.index ≡ l.element-index;
  left : write_elements l.scene l.place l.array l.index
      (map element_of (drop l.element-index l.elements)) l.draft
      ≡ write_elements l.scene l.place l.array 0 (map element_of l.elements) l.fn.draft;
}

-- ---- each call goes down the tree, or takes what it was given to a function of a lower rank

abbrev pub decreases-call::list_arguments : goal.decreases-call::list_arguments
decreases-call::list_arguments l = 6 * goal.size-call::list_arguments l + 2

abbrev pub decreases-call::call : goal.decreases-call::call
decreases-call::call l = 6 * goal.size-call::call l + 3

abbrev pub decreases-call::new_of : goal.decreases-call::new_of
decreases-call::new_of l = 6 * goal.size-call::new_of l + 3

abbrev pub decreases-choice::and_then : goal.decreases-choice::and_then
decreases-choice::and_then l = 6 * goal.size-choice::and_then l + 2

abbrev pub decreases-choice::or_else : goal.decreases-choice::or_else
decreases-choice::or_else l = 6 * goal.size-choice::or_else l + 2

abbrev pub decreases-choice::consequence : goal.decreases-choice::consequence
decreases-choice::consequence l = 6 * goal.size-choice::consequence l + 2

abbrev pub decreases-choice::alternative : goal.decreases-choice::alternative
decreases-choice::alternative l = 6 * goal.size-choice::alternative l + 2

abbrev pub decreases-expression::form : goal.decreases-expression::form
decreases-expression::form l = 6 * goal.size-expression::form l + 0

abbrev pub decreases-expression::value : goal.decreases-expression::value
decreases-expression::value l = 6 * goal.size-expression::value l + 1

abbrev pub decreases-expression::assign_to : goal.decreases-expression::assign_to
decreases-expression::assign_to l = 6 * goal.size-expression::assign_to l + 2

abbrev pub decreases-expression::assign_to_by : goal.decreases-expression::assign_to_by
decreases-expression::assign_to_by l = 6 * goal.size-expression::assign_to_by l + 2

abbrev pub decreases-expression::others : goal.decreases-expression::others
decreases-expression::others l = 6 * goal.size-expression::others l + 2

abbrev pub decreases-expression::operation : goal.decreases-expression::operation
decreases-expression::operation l = 6 * goal.size-expression::operation l + 3

abbrev pub decreases-expression::operations : goal.decreases-expression::operations
decreases-expression::operations l = 6 * goal.size-expression::operations l + 4

abbrev pub decreases-expression::suffix : goal.decreases-expression::suffix
decreases-expression::suffix l = 6 * goal.size-expression::suffix l + 4

abbrev pub decreases-expression::suffixes : goal.decreases-expression::suffixes
decreases-expression::suffixes l = 6 * goal.size-expression::suffixes l + 5

abbrev pub decreases-literal::write_element : goal.decreases-literal::write_element
decreases-literal::write_element l = 6 * goal.size-literal::write_element l + 2

abbrev pub decreases-literal::write_elements : goal.decreases-literal::write_elements
decreases-literal::write_elements l = 6 * goal.size-literal::write_elements l + 3

abbrev pub decreases-literal::array : goal.decreases-literal::array
decreases-literal::array l = 6 * goal.size-literal::array l + 4

abbrev pub decreases-literal::write_member : goal.decreases-literal::write_member
decreases-literal::write_member l = 6 * goal.size-literal::write_member l + 2

abbrev pub decreases-literal::object : goal.decreases-literal::object
decreases-literal::object l = 6 * goal.size-literal::object l + 3
