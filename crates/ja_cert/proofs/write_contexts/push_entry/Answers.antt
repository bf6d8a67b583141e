use Rattle.ja_cert.proofs.EntryLemmas.{entry_missing, entry_written}
use Rattle.ja_cert.proofs.StateLemmas.{line_float}
use Rattle.ja_cert.proofs.write_contexts.push_entry.Goals as goal

pub push_member-requires : goal.push_member-requires
push_member-requires c = line_float _ _ _ c.in_ok-line.ensures

pub returns-in_default : goal.returns-in_default
returns-in_default c = entry_missing _ _ _ _ _ c.in_default.ensures

pub returns : goal.returns
returns c =
    entry_written _ _ _ _ _ _ _ _ _ c.in-Some.ensures c.in_ok-line.ensures c.push_member.ensures
