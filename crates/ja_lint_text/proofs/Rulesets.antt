-- The lemmas that the searches of a function are given, by its name.
use Rattle.ja_lint_text.proofs.Alternatives.{listed_all, listed_more, mapped_all, mapped_more, mapped_none}
use Rattle.ja_lint_text.proofs.SiteLists.{first_more, other_more, sites_all}

pub ruleset for_push_listed = (listed_more, listed_all)

pub ruleset for_push_objects = (mapped_none, mapped_more, mapped_all)

pub ruleset for_sites_in = (first_more, other_more, sites_all)
