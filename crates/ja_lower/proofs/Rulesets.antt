-- The lemmas that the searches of a function are given, by its name.
use Rattle.ja_lower.proofs.Sizes.{exceeds_explains, too_many_explain}
use Rattle.ja_lower.proofs.WellFormedLemmas.{text_counted, whole_counted}

pub ruleset for_functions_are_counted = (text_counted, whole_counted)

pub ruleset for_lower = (exceeds_explains, too_many_explain)
