-- The lemmas that the searches of a function are given, by its name.
use Rattle.ja_report.proofs.OutputLemmas.{adds_none, adds_one}
use Rattle.ja_report.proofs.SiteLemmas.{sites_none, sites_in, sites_out}
use Rattle.ja_texts.proofs.Lists.{added_none, added_more, added_all}

pub ruleset for_push_property = (adds_none, adds_one)

pub ruleset for_push_devices = (added_none, added_more, added_all)

pub ruleset for_named_sites = (sites_none, sites_in, sites_out)
