use Rattle.std.proofs.Common.{◌∙◌}
use Rattle.ja_aheap.specs.Entries.{entries_of}
use Rattle.ja_check.proofs.Entries.{entries_told, listed_demands}
use Rattle.ja_check.proofs.same_contexts.are_same_entries.Goals as goal

pub returns : goal.returns
returns c =
    let p = c.args.program.now in
    let own = entries_of c.args.own.now.entries in
    let other = entries_of c.args.other.now.entries in
    entries_told own other c.deref.result.now c.deref-2.result.now
    c.are_same_values-first.result c.are_same_values-second.result
    (listed_demands p own c.requires.own.labels c.requires.own.keys c.len-sites.result
    c.len-names.result c.len-sites.ensures c.len-names.ensures c.deref.result.now
    (c.deref.ensures.value ∙ c.in_ok-pairs.ensures))
    (listed_demands p other c.requires.other.labels c.requires.other.keys c.len-sites.result
    c.len-names.result c.len-sites.ensures c.len-names.ensures c.deref-2.result.now
    (c.deref-2.ensures.value ∙ c.in_ok-others.ensures))
    c.are_same_values-first.ensures c.are_same_values-second.ensures
