-- The lemmas that the searches of a function are given, by its name.
use Rattle.ja_lex.proofs.Classed.{all_digits}
use Rattle.ja_prim.proofs.Digits.{all_digits_append}

pub ruleset for_decimal_value = (all_digits_append, all_digits)
