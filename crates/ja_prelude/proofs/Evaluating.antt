-- All that unfolds when a built-in text is read, and what unfolds besides when it is listed.

unfoldable pub reading : Unit {0}
unfolding
    Rattle.ja_grammar.proofs.Evaluating.reading Rattle.ja_prelude.specs.Reading.numbered
    Rattle.ja_prelude.specs.Reading.is_text
    Rattle.ja_prelude.specs.Reading.tree_of
reading = tt

unfoldable pub listing : Unit {0}
unfolding
    Rattle.ja_syntax.specs.Arguments.mentions_arguments Rattle.ja_syntax.specs.Hoisted.once
    Rattle.ja_syntax.specs.Hoisted.hoisted_variables
    Rattle.ja_syntax.specs.code.Hoisted.is_function
    Rattle.ja_syntax.specs.code.Hoisted.hoisted_functions
    Rattle.ja_lower_names.specs.code.TextOrder.in_expression
    Rattle.ja_lower_names.specs.TextOrder.in_statement
    Rattle.ja_lower_names.specs.code.TextOrder.in_case
    Rattle.ja_lower_names.specs.TextOrder.functions_in
    Rattle.ja_lower_names.specs.TextOrder.names_in Rattle.ja_lower_draft.specs.Copies.with_block
    Rattle.ja_lower_draft.specs.Lines.with_number
    Rattle.ja_lower_draft.specs.Lines.with_text
    Rattle.ja_lower_expressions.specs.Calls.list_arguments
    Rattle.ja_lower_expressions.specs.Calls.list_call
    Rattle.ja_lower_expressions.specs.Calls.new_of Rattle.ja_lower_expressions.specs.Calls.list_new
    Rattle.ja_lower_expressions.specs.Expressions.apply_operations
    Rattle.ja_lower_expressions.specs.Expressions.list_others
    Rattle.ja_lower_expressions.specs.Expressions.form
    Rattle.ja_lower_expressions.specs.Literals.write_known
    Rattle.ja_lower_expressions.specs.Literals.write_element
    Rattle.ja_lower_expressions.specs.Literals.write_elements
    Rattle.ja_lower_expressions.specs.Literals.write_length
    Rattle.ja_lower_expressions.specs.Literals.list_array
    Rattle.ja_lower_expressions.specs.Literals.write_member
    Rattle.ja_lower_expressions.specs.Literals.write_members
    Rattle.ja_lower_expressions.specs.Literals.list_object
    Rattle.ja_lower_expressions.specs.Literals.list_named_function
    Rattle.ja_lower_expressions.specs.Operators.list_unary
    Rattle.ja_lower_expressions.specs.Operators.update_outcome
    Rattle.ja_lower_expressions.specs.Operators.list_update
    Rattle.ja_lower_expressions.specs.Operators.on_defaults
    Rattle.ja_lower_expressions.specs.Operators.on_defaults_backwards
    Rattle.ja_lower_expressions.specs.Operators.on_numbers
    Rattle.ja_lower_expressions.specs.Operators.on_loose
    Rattle.ja_lower_expressions.specs.Operators.on_in
    Rattle.ja_lower_expressions.specs.Operators.and_then
    Rattle.ja_lower_expressions.specs.Operators.or_else
    Rattle.ja_lower_expressions.specs.Operators.consequence
    Rattle.ja_lower_expressions.specs.Operators.alternative
    Rattle.ja_lower_expressions.specs.Operators.list_conditional
    Rattle.ja_lower_expressions.specs.Operators.apply_operation
    Rattle.ja_lower_expressions.specs.Operators.assign_to
    Rattle.ja_lower_expressions.specs.Operators.assign_to_by
    Rattle.ja_lower_expressions.specs.Operators.assign
    Rattle.ja_lower_expressions.specs.Operators.assign_by
    Rattle.ja_lower_expressions.specs.References.value_of
    Rattle.ja_lower_expressions.specs.References.with_name
    Rattle.ja_lower_expressions.specs.References.with_member
    Rattle.ja_lower_expressions.specs.References.with_element
    Rattle.ja_lower_expressions.specs.Specials.special_of
    Rattle.ja_lower_expressions.specs.Specials.list_special
    Rattle.ja_lower_statements.specs.Functions.declare_functions
    Rattle.ja_lower_statements.specs.Functions.declare_variables
    Rattle.ja_lower_statements.specs.Functions.beginning_with_node
    Rattle.ja_lower_statements.specs.Functions.program_listing
    Rattle.ja_lower_statements.specs.Functions.function_listing
    Rattle.ja_lower_statements.specs.Statements.list_all_statements
    Rattle.ja_lower_statements.specs.Statements.declare_all
    Rattle.ja_lower_statements.specs.Statements.list_branch
    Rattle.ja_lower_statements.specs.Statements.list_then
    Rattle.ja_lower_statements.specs.Statements.list_else
    Rattle.ja_lower_statements.specs.Statements.list_if_alone
    Rattle.ja_lower_statements.specs.Statements.list_do
    Rattle.ja_lower_statements.specs.Statements.list_while
    Rattle.ja_lower_statements.specs.Statements.list_for
    Rattle.ja_lower_statements.specs.Statements.list_for_in
    Rattle.ja_lower_statements.specs.Statements.list_labelled
    Rattle.ja_lower_statements.specs.Statements.list_tests
    Rattle.ja_lower_statements.specs.Statements.default_spot
    Rattle.ja_lower_statements.specs.Statements.list_bodies
    Rattle.ja_lower_statements.specs.Statements.list_switch
    Rattle.ja_lower_statements.specs.Statements.list_guarded
    Rattle.ja_lower_statements.specs.Statements.list_handler
    Rattle.ja_lower_statements.specs.Statements.list_caught
    Rattle.ja_lower_statements.specs.Statements.list_catch
    Rattle.ja_lower_statements.specs.Statements.keep_block
    Rattle.ja_lower_statements.specs.Statements.list_rethrow
    Rattle.ja_lower_statements.specs.Statements.list_ways_out
    Rattle.ja_lower_statements.specs.Statements.list_finally
    Rattle.ja_lower_statements.specs.Statements.does
    Rattle.ja_lower_statements.specs.Ways.jump_to
    Rattle.ja_lower_statements.specs.Ways.leave_all Rattle.ja_lower_listing.specs.Laws.placed
    Rattle.ja_lower_listing.specs.Listing.node_count
    Rattle.ja_lower_listing.specs.Listing.behind Rattle.ja_lower_listing.specs.Listing.goes
    Rattle.ja_lower_listing.specs.Listing.leads
    Rattle.ja_lower_listing.specs.Listing.goes_on Rattle.ja_lower_listing.specs.Listing.nodes_from
    Rattle.ja_lower_listing.specs.Listing.begins_with_node
    Rattle.ja_graph.specs.Node.register_set Rattle.ja_graph.specs.Node.registers_named
    Rattle.ja_graph.specs.Node.name_in
    Rattle.ja_graph.specs.Node.function_in Rattle.ja_graph.specs.Node.may_throw
    Rattle.ja_graph.specs.Node.makings
    Rattle.ja_prelude.proofs.Folds.fold_levels Rattle.ja_prelude.proofs.Folds.para_levels
    Rattle.ja_prelude.proofs.Readings.computing
    Rattle.ja_prelude.proofs.Rows.rows_by Rattle.ja_prelude.specs.Prelude.prelude_statements
    Rattle.ja_prelude.specs.Prelude.prelude_paths
    Rattle.std.specs.Fmt.digits
listing = tt
