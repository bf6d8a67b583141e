use Rattle.ja_report.proofs.EntryLemmas.{entry_found, entry_missing}
use Rattle.ja_report.proofs.table.push_pair.Goals as goal

pub returns-in_ok-push_entry : goal.returns-in_ok-push_entry
returns-in_ok-push_entry c = entry_found _ _ _ _ _ _ _ c.in-Some.ensures c.in_ok-push_entry.ensures

pub returns-in_default : goal.returns-in_default
returns-in_default c = entry_missing _ _ _ _ _ c.in_default.ensures
