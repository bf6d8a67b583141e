use Rattle.std.proofs.Common.{rules, ◌≡◌, ◌∙◌, length, vec_len}
use Rattle.ja_aheap.specs.Entries.{entries_of}
use Rattle.ja_table.specs.Tables.{states_in}
use Rattle.ja_report.proofs.EntryLemmas.{pairs_all, pairs_count}
use Rattle.ja_report.proofs.PointLemmas.{own_added}
use Rattle.ja_report.proofs.table.push_own.Goals as goal

pub returns : goal.returns
returns c =
    let p = c.args.program.now in
    let own = c.args.own.now in
    let pairs = c.in_ok-pairs.pairs in
    let size : vec_len pairs ≡ length pairs.items = search rules in
    own_added p own.context (entries_of own.entries) (states_in own.nodes.items) _ _ _ _ _ _
    c.push_points.result c.in_ok-push_head.ensures
    (c.len.ensures ∙ size ∙ pairs_count p (entries_of own.entries) pairs.items _ _
    c.in_ok-pairs.ensures c.site_count.ensures c.name_count.ensures)
    c.in_ok-push_entries.ensures
    (pairs_all p (entries_of own.entries) _ _ _ (c.deref.ensures.value ∙ c.in_ok-pairs.ensures)
    c.site_count.ensures c.name_count.ensures) c.push_points.ensures
