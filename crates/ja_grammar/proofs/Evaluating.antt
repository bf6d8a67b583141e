-- All that unfolds when a text is read.

unfoldable pub reading : Unit {0}
unfolding
    Rattle.ja_prim.specs.Characters.is_terminator Rattle.ja_prim.specs.Characters.is_white
    Rattle.ja_prim.specs.Characters.is_hexadecimal
    Rattle.ja_prim.specs.Characters.is_part Rattle.ja_prim.specs.Characters.is_escape
    Rattle.ja_prim.specs.Numerals.digits
    Rattle.ja_prim.specs.Numerals.behind_digits Rattle.ja_prim.specs.Numerals.fraction
    Rattle.ja_prim.specs.Numerals.behind_fraction
    Rattle.ja_prim.specs.Numerals.power Rattle.ja_prim.specs.Numerals.exponent
    Rattle.ja_prim.specs.Numerals.behind_exponent
    Rattle.ja_prim.specs.Numerals.behind_decimal Rattle.ja_prim.specs.Numerals.placed
    Rattle.ja_prim.specs.Numerals.decimal_value
    Rattle.ja_lex.specs.Blanks.is_in_line Rattle.ja_lex.specs.Blanks.closing
    Rattle.ja_lex.specs.Blanks.long_comment
    Rattle.ja_lex.specs.Marks.begins_with Rattle.ja_lex.specs.Marks.marks
    Rattle.ja_lex.specs.Marks.mark
    Rattle.ja_lex.specs.Numbers.hexadecimal_digits Rattle.ja_lex.specs.Numbers.number
    Rattle.ja_lex.specs.Spots.ends_line
    Rattle.ja_lex.specs.Spots.after Rattle.ja_lex.specs.Spots.past
    Rattle.ja_lex.specs.Strings.escaped Rattle.ja_lex.specs.Strings.short_escape
    Rattle.ja_lex.specs.Strings.long_escape Rattle.ja_lex.specs.Strings.digit_escape
    Rattle.ja_lex.specs.Strings.escape
    Rattle.ja_lex.specs.Strings.first_item Rattle.ja_lex.specs.Strings.body_after
    Rattle.ja_lex.specs.Strings.string
    Rattle.ja_lex.specs.Tokens.begins_number Rattle.ja_lex.specs.Tokens.begins_word
    Rattle.ja_lex.specs.Tokens.begins_string
    Rattle.ja_lex.specs.Tokens.begins_comment Rattle.ja_lex.specs.Tokens.first_element
    Rattle.ja_lex.specs.Tokens.tokens_after
    Rattle.ja_lex.specs.Tokens.tokens Rattle.ja_lex.specs.Words.word
    Rattle.ja_syntax.specs.References.is_reference
    Rattle.ja_syntax.specs.Symbols.keywords Rattle.ja_syntax.specs.Symbols.refused_words
    Rattle.ja_syntax.specs.Symbols.punctuators
    Rattle.ja_syntax.specs.Symbols.word_symbol Rattle.ja_syntax.specs.Symbols.mark_symbol
    Rattle.ja_syntax.specs.Symbols.symbol_of
    Rattle.ja_syntax.specs.Symbols.fault_of Rattle.ja_syntax.specs.Symbols.word_of
    Rattle.ja_syntax.specs.Symbols.units_of
    Rattle.ja_syntax.specs.Symbols.number_of Rattle.ja_syntax.specs.Symbols.names_arguments
    Rattle.ja_syntax.specs.Symbols.is_arguments
    Rattle.ja_syntax.specs.Symbols.same_symbol Rattle.ja_grammar.specs.Contexts.marked
    Rattle.ja_grammar.specs.Contexts.has_label
    Rattle.ja_grammar.specs.Contexts.has_loop Rattle.ja_grammar.specs.Forms.literal_of
    Rattle.ja_grammar.specs.Forms.property_name
    Rattle.ja_grammar.specs.Forms.begins_property Rattle.ja_grammar.specs.Forms.begins_suffix
    Rattle.ja_grammar.specs.Forms.postfix_of
    Rattle.ja_grammar.specs.Forms.is_prefix Rattle.ja_grammar.specs.Forms.chained
    Rattle.ja_grammar.specs.Forms.operated
    Rattle.ja_grammar.specs.Forms.sequence Rattle.ja_grammar.specs.Forms.begins_statement
    Rattle.ja_grammar.specs.Forms.is_label_behind
    Rattle.ja_grammar.specs.Forms.ends_return Rattle.ja_grammar.specs.Forms.ends_clause
    Rattle.ja_grammar.specs.Input.strict Rattle.ja_grammar.specs.Input.enter
    Rattle.ja_grammar.specs.Input.opening Rattle.ja_grammar.specs.Input.expect
    Rattle.ja_grammar.specs.Input.many_from
    Rattle.ja_grammar.specs.Input.until Rattle.ja_grammar.specs.Input.separated
    Rattle.ja_grammar.specs.Input.listed
    Rattle.ja_grammar.specs.Operators.binary_of Rattle.ja_grammar.specs.Operators.level_of
    Rattle.ja_grammar.specs.Operators.binary_operator
    Rattle.ja_grammar.specs.Operators.unary_operator Rattle.ja_grammar.specs.Operators.prefix_update
    Rattle.ja_grammar.specs.Operators.postfix_update
    Rattle.ja_grammar.specs.Operators.assignment_operator
    Rattle.ja_grammar.specs.ReadExpression.declared
    Rattle.ja_grammar.specs.ReadExpression.function_name
    Rattle.ja_grammar.specs.ReadExpression.element_close
    Rattle.ja_grammar.specs.ReadExpression.element Rattle.ja_grammar.specs.ReadExpression.property
    Rattle.ja_grammar.specs.ReadExpression.function_body
    Rattle.ja_grammar.specs.ReadExpression.parameters
    Rattle.ja_grammar.specs.ReadExpression.function Rattle.ja_grammar.specs.ReadExpression.array
    Rattle.ja_grammar.specs.ReadExpression.object
    Rattle.ja_grammar.specs.ReadExpression.parenthesized
    Rattle.ja_grammar.specs.ReadExpression.literal
    Rattle.ja_grammar.specs.ReadExpression.primary
    Rattle.ja_grammar.specs.ReadExpression.chain_head Rattle.ja_grammar.specs.ReadExpression.dotted
    Rattle.ja_grammar.specs.ReadExpression.indexed
    Rattle.ja_grammar.specs.ReadExpression.property_suffix
    Rattle.ja_grammar.specs.ReadExpression.arguments
    Rattle.ja_grammar.specs.ReadExpression.any_suffix Rattle.ja_grammar.specs.ReadExpression.member
    Rattle.ja_grammar.specs.ReadExpression.created
    Rattle.ja_grammar.specs.ReadExpression.left_hand Rattle.ja_grammar.specs.ReadExpression.postfix
    Rattle.ja_grammar.specs.ReadExpression.operand_close
    Rattle.ja_grammar.specs.ReadExpression.updated Rattle.ja_grammar.specs.ReadExpression.unary
    Rattle.ja_grammar.specs.ReadExpression.operation Rattle.ja_grammar.specs.ReadExpression.level
    Rattle.ja_grammar.specs.ReadExpression.binary
    Rattle.ja_grammar.specs.ReadExpression.conditional
    Rattle.ja_grammar.specs.ReadExpression.assignment
    Rattle.ja_grammar.specs.ReadExpression.whole
    Rattle.ja_grammar.specs.ReadExpression.expression_part
    Rattle.ja_grammar.specs.ReadStatement.ended Rattle.ja_grammar.specs.ReadStatement.variable
    Rattle.ja_grammar.specs.ReadStatement.jump_target
    Rattle.ja_grammar.specs.ReadStatement.without_target
    Rattle.ja_grammar.specs.ReadStatement.enter_label Rattle.ja_grammar.specs.ReadStatement.block
    Rattle.ja_grammar.specs.ReadStatement.bracketed
    Rattle.ja_grammar.specs.ReadStatement.variables
    Rattle.ja_grammar.specs.ReadStatement.expression_statement
    Rattle.ja_grammar.specs.ReadStatement.continue Rattle.ja_grammar.specs.ReadStatement.break
    Rattle.ja_grammar.specs.ReadStatement.returned
    Rattle.ja_grammar.specs.ReadStatement.return Rattle.ja_grammar.specs.ReadStatement.thrown
    Rattle.ja_grammar.specs.ReadStatement.throw
    Rattle.ja_grammar.specs.ReadStatement.label Rattle.ja_grammar.specs.ReadStatement.labelled
    Rattle.ja_grammar.specs.ReadStatement.clause
    Rattle.ja_grammar.specs.ReadStatement.case Rattle.ja_grammar.specs.ReadStatement.default
    Rattle.ja_grammar.specs.ReadStatement.cases
    Rattle.ja_grammar.specs.ReadStatement.switch Rattle.ja_grammar.specs.ReadStatement.catch
    Rattle.ja_grammar.specs.ReadStatement.finally
    Rattle.ja_grammar.specs.ReadStatement.try Rattle.ja_grammar.specs.ReadStatement.single
    Rattle.ja_grammar.specs.ReadStatement.if_part
    Rattle.ja_grammar.specs.ReadStatement.do_part Rattle.ja_grammar.specs.ReadStatement.while_part
    Rattle.ja_grammar.specs.ReadStatement.optional
    Rattle.ja_grammar.specs.ReadStatement.for_rest Rattle.ja_grammar.specs.ReadStatement.in_rest
    Rattle.ja_grammar.specs.ReadStatement.for_variables
    Rattle.ja_grammar.specs.ReadStatement.for_expression
    Rattle.ja_grammar.specs.ReadStatement.for_part
    Rattle.ja_grammar.specs.ReadStatement.statement_part Rattle.ja_grammar.specs.ReadStatement.below
    Rattle.ja_grammar.specs.ReadStatement.program
    Rattle.ja_syntax.specs.declared.tree.Expression.TheBlock.hidden-the_row-Case-10
    Rattle.ja_syntax.specs.declared.tree.Expression.TheBlock.shown-the_row-Case-10
    Rattle.ja_syntax.specs.declared.tree.Expression.TheBlock.hidden-the_row-Expression-4
    Rattle.ja_syntax.specs.declared.tree.Expression.TheBlock.shown-the_row-Expression-4
    Rattle.ja_syntax.specs.declared.tree.Expression.TheBlock.hidden-the_row-Expression-5
    Rattle.ja_syntax.specs.declared.tree.Expression.TheBlock.shown-the_row-Expression-5
    Rattle.ja_syntax.specs.declared.tree.Expression.TheBlock.hidden-the_row-Expression-Array-0-1-0
    Rattle.ja_syntax.specs.declared.tree.Expression.TheBlock.shown-the_row-Expression-Array-0-1-0
    Rattle.ja_syntax.specs.declared.tree.Expression.TheBlock.hidden-the_row-Expression-Binary-1-3-7
    Rattle.ja_syntax.specs.declared.tree.Expression.TheBlock.shown-the_row-Expression-Binary-1-3-7
    Rattle.ja_syntax.specs.declared.tree.Expression.TheBlock.hidden-the_row-Expression-Chain-1-7-6
    Rattle.ja_syntax.specs.declared.tree.Expression.TheBlock.shown-the_row-Expression-Chain-1-7-6
    Rattle.ja_syntax.specs.declared.tree.Expression.TheBlock.hidden-the_row-Expression-Function-0-5-3
    Rattle.ja_syntax.specs.declared.tree.Expression.TheBlock.shown-the_row-Expression-Function-0-5-3
    Rattle.ja_syntax.specs.declared.tree.Expression.TheBlock.hidden-the_row-Expression-Object-0-3-1
    Rattle.ja_syntax.specs.declared.tree.Expression.TheBlock.shown-the_row-Expression-Object-0-3-1
    Rattle.ja_syntax.specs.declared.tree.Expression.TheBlock.hidden-the_row-Statement-2
    Rattle.ja_syntax.specs.declared.tree.Expression.TheBlock.shown-the_row-Statement-2
    Rattle.ja_syntax.specs.declared.tree.Expression.TheBlock.hidden-the_row-Statement-9
    Rattle.ja_syntax.specs.declared.tree.Expression.TheBlock.shown-the_row-Statement-9
    Rattle.ja_syntax.specs.declared.tree.Expression.TheBlock.hidden-the_row-Statement-Variables-0-5-8
    Rattle.ja_syntax.specs.declared.tree.Expression.TheBlock.shown-the_row-Statement-Variables-0-5-8
    Rattle.ja_syntax.specs.declared.tree.Expression.TheViews.out-Expression
    Rattle.ja_syntax.specs.declared.tree.Expression.TheViews.roll-Expression
    Rattle.ja_syntax.specs.declared.tree.Expression.TheViews.out-Statement
    Rattle.ja_syntax.specs.declared.tree.Expression.TheViews.roll-Statement
    denote.Hole.Carrier.out denote.Hole.Carrier.roll denote.Hole.Carrier.shown
    denote.Hole.Carrier.hidden Rattle.std.specs.Str.chars
reading = tt
