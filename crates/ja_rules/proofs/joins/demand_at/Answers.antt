use Rattle.std.proofs.Common.{refl, sym, ap, ◌∙◌}
use Rattle.ja_aheap.specs.Entries.{entries_of}
use Rattle.ja_aheap.specs.Objects.{demands_in}
use Rattle.ja_table.specs.Tables.{table_of}
use Rattle.ja_rules.specs.code.Entries.{demanded}
use Rattle.ja_rules.proofs.EntryUpdates.{fits_entries, fits_pairs, demanded_pairs}
use Rattle.ja_table.proofs.ReachedContexts.{unreached, own_entry, own_fits, other_keys, other_fits, entries_set, entries_other, nothing_other}
use Rattle.ja_table.proofs.SameMeaning.{keys_same}
use Rattle.ja_rules.proofs.joins.demand_at.Goals as goal

pub unreachable-requires : goal.unreachable-requires
unreachable-requires c =
    unreached c.args.table.now c.args.context c.requires.ordered c.requires.context
    c.in_default.ensures.found

pub returns-in_err-note_reads-clause-kept : goal.returns-in_err-note_reads-clause-kept
returns-in_err-note_reads-clause-kept c = keys_same c.args.table.now

pub returns-in_err-changed-clause-kept : goal.returns-in_err-changed-clause-kept
returns-in_err-changed-clause-kept c =
    other_keys c.args.table.now c.args.context c.in-Some.place c.index_mut-own.result.now
    c.requires.ordered c.in-Some.ensures.found c.in-Some.ensures.within
    c.index_mut-own.ensures.value _ refl _ refl refl

pub returns-clause-demanded : goal.returns-clause-demanded
returns-clause-demanded c =
    let d = demands_in c.args.demands in
    entries_set c.args.table.now c.args.context c.in-Some.place c.index_mut-own.result.now
    c.requires.ordered c.in-Some.ensures.found c.in-Some.ensures.within
    c.index_mut-own.ensures.value _ refl
    (demanded ((table_of c.args.table.now).entry c.args.context) d)
    (c.in_ok-changed.ensures.demanded ∙ ap (λ e. demanded e d) (sym (
    own_entry c.args.table.now c.args.context c.in-Some.place c.index_mut-own.result.now
    c.requires.ordered c.in-Some.ensures.found c.in-Some.ensures.within
    c.index_mut-own.ensures.value))) refl

pub returns-clause-changed : goal.returns-clause-changed
returns-clause-changed c changed =
    entries_other c.args.table.now c.args.context c.in-Some.place c.index_mut-own.result.now
    c.requires.ordered c.in-Some.ensures.found c.in-Some.ensures.within
    c.index_mut-own.ensures.value _ refl (c.in_ok-changed.ensures.changed changed)

pub returns-clause-same : goal.returns-clause-same
returns-clause-same c same =
    nothing_other c.args.table.now c.args.context c.in-Some.place c.index_mut-own.result.now
    c.requires.ordered c.in-Some.ensures.found c.in-Some.ensures.within
    c.index_mut-own.ensures.value _ refl refl (c.in_ok-changed.ensures.same same)

pub returns-clause-kept : goal.returns-clause-kept
returns-clause-kept c =
    other_keys c.args.table.now c.args.context c.in-Some.place c.index_mut-own.result.now
    c.requires.ordered c.in-Some.ensures.found c.in-Some.ensures.within
    c.index_mut-own.ensures.value _ refl _ refl refl

pub returns-clause-fits : goal.returns-clause-fits
returns-clause-fits c p are fits =
    let own = c.index_mut-own.result.now in
    let own_fit =
    own_fits c.args.table.now c.args.context c.in-Some.place c.index_mut-own.result.now
    c.requires.ordered c.in-Some.ensures.found c.in-Some.ensures.within
    c.index_mut-own.ensures.value p fits in
    other_fits c.args.table.now c.args.context c.in-Some.place c.index_mut-own.result.now
    c.requires.ordered c.in-Some.ensures.found c.in-Some.ensures.within
    c.index_mut-own.ensures.value _ refl p _ refl refl fits (fits_entries p own c.demand_all.new.entries own_fit
    (demanded_pairs p (entries_of own.entries) (entries_of c.demand_all.new.entries)
    (demands_in c.args.demands) c.in_ok-changed.ensures.demanded (fits_pairs p own own_fit) are))
