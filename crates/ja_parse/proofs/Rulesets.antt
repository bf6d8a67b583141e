-- The lemmas that the searches of a function are given, by its name.
use Rattle.ja_grammar.proofs.KeepsPrograms.{spelled_keeps}
use Rattle.ja_grammar.proofs.Theorem.{answered_tree, answered_only, answered_fault, answered_none}

pub ruleset for_parse = (answered_tree, answered_only, answered_fault, answered_none, spelled_keeps)
