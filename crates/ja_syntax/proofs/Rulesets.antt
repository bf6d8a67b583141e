-- The lemmas that the searches of a function are given, by its name.
use Rattle.ja_syntax.proofs.ArgumentsInStatements.{in_block, in_variables, in_for, in_for_in, in_return, in_switch, in_try}
use Rattle.ja_syntax.proofs.ArgumentsLemmas.{in_array, in_object, in_chain, in_new, in_binary, in_sequence}
use Rattle.ja_syntax.proofs.HoistedLemmas.{of_block, of_variables, of_for, of_for_in, of_switch, of_if, of_try_alone, added_finally, added_catch, added_both}

pub ruleset for_in_expression = (in_array, in_object, in_chain, in_new, in_binary, in_sequence)

pub ruleset for_in_statement =
    (in_block, in_variables, in_for, in_for_in, in_return, in_switch, in_try)

pub ruleset for_add_statement = (
  of_block,
  of_variables,
  of_for,
  of_for_in,
  of_switch,
  of_if,
  of_try_alone,
  added_finally,
  added_catch,
  added_both,
)
