-- The lemmas that the searches of a function are given, in loops over lists.
use Rattle.ja_texts.proofs.Lists.{added_none, added_more, added_all}

pub ruleset for_loops = (added_none, added_more, added_all)
