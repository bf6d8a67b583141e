use Rattle.std.proofs.Common.{◌≡◌, ◌∙◌, rules, length, vec_len}
use Rattle.ja_aheap.specs.Entries.{entries_of}
use Rattle.ja_report.proofs.EntryLemmas.{pairs_all}
use Rattle.ja_cert.proofs.Commas.{lines_closed, lines_same}
use Rattle.ja_cert.proofs.write_contexts.push_entries.Goals as goal

pub returns : goal.returns
returns c =
    let p = c.args.program.now in
    let opened = c.push.new.self in
    let size : vec_len opened ≡ length opened.items = search rules in
    lines_closed p _ _ _ _ _ _ c.in_ok-push.ensures.items (c.len-start.ensures ∙ size)
    (lines_same p _ _ _ _ (pairs_all p (entries_of c.args.entries.now) _ _ _
    (c.deref.ensures.value ∙ c.in_ok-pairs.ensures) c.site_count.ensures c.name_count.ensures)
    c.in_ok-push_pairs.ensures) c.in_ok-close_list.ensures
