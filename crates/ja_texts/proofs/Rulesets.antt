-- The lemmas that the searches of a function are given, by its name.
use Rattle.ja_texts.proofs.Lists.{added_none, added_more, added_all}

pub ruleset for_push_plain = (added_none, added_more, added_all)
