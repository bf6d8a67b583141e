-- The lemmas that the searches of a function are given, by its name.
use Rattle.ja_lower_names.proofs.TextOrderLemmas.{of_this, of_name, of_literal, of_array, of_object, of_function, of_chain, of_new, of_unary, of_update, of_binary, of_conditional, of_assign, of_sequence, of_block, of_variables, of_empty, of_value, of_if, of_do, of_while, of_for, of_for_in, of_continue, of_break, of_return, of_labelled, of_switch, of_throw, of_try, of_declared}

pub ruleset for_add_expression = (
  of_this,
  of_name,
  of_literal,
  of_array,
  of_object,
  of_function,
  of_chain,
  of_new,
  of_unary,
  of_update,
  of_binary,
  of_conditional,
  of_assign,
  of_sequence,
)

pub ruleset for_add_statement = (
  of_block,
  of_variables,
  of_empty,
  of_value,
  of_if,
  of_do,
  of_while,
  of_for,
  of_for_in,
  of_continue,
  of_break,
  of_return,
  of_labelled,
  of_switch,
  of_throw,
  of_try,
  of_declared,
)
