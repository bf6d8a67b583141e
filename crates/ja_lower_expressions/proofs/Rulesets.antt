-- The lemmas that the searches of a function are given, by its name.
use Rattle.ja_lower_expressions.proofs.FormLemmas.{of_this, of_name, of_literal, of_array, of_object, of_function, of_chain, of_new, of_unary, of_update, of_binary, of_conditional, of_assign, of_sequence}

pub ruleset for_form = (
  of_this,
  of_name,
  of_literal,
  of_array,
  of_object,
  of_function,
  of_chain,
  of_new,
  of_unary,
  of_update,
  of_binary,
  of_conditional,
  of_assign,
  of_sequence,
)
