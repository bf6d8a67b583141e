use Rattle.std.proofs.Common.{refl, sym, ap, ◌∙◌}
use Rattle.ja_aheap.specs.Entries.{entries_of}
use Rattle.ja_flow.specs.code.Pairs.{with_set}
use Rattle.ja_table.specs.Tables.{table_of}
use Rattle.ja_rules.proofs.EntryUpdates.{fits_entries, fits_pairs, set_pairs}
use Rattle.ja_table.proofs.ReachedContexts.{unreached, own_entry, own_fits, other_keys, other_fits, entries_set}
use Rattle.ja_table.proofs.SameMeaning.{keys_same}
use Rattle.ja_rules.proofs.joins.set_values_at.Goals as goal

pub unreachable-requires : goal.unreachable-requires
unreachable-requires c =
    unreached c.args.table.now c.args.context c.requires.ordered c.requires.context
    c.in_default.ensures.found

pub returns-in_err-note_values-clause-kept : goal.returns-in_err-note_values-clause-kept
returns-in_err-note_values-clause-kept c = keys_same c.args.table.now

pub returns-in_err-changed-clause-kept : goal.returns-in_err-changed-clause-kept
returns-in_err-changed-clause-kept c =
    other_keys c.args.table.now c.args.context c.in-Some.place c.index_mut-own.result.now
    c.requires.ordered c.in-Some.ensures.found c.in-Some.ensures.within
    c.index_mut-own.ensures.value _ refl _ refl refl

pub returns-clause-set : goal.returns-clause-set
returns-clause-set c =
    let vs = c.args.values.items in
    entries_set c.args.table.now c.args.context c.in-Some.place c.index_mut-own.result.now
    c.requires.ordered c.in-Some.ensures.found c.in-Some.ensures.within
    c.index_mut-own.ensures.value _ refl
    (with_set ((table_of c.args.table.now).entry c.args.context) vs)
    (c.in_ok-changed.ensures.set ∙ ap (λ e. with_set e vs) (sym (
    own_entry c.args.table.now c.args.context c.in-Some.place c.index_mut-own.result.now
    c.requires.ordered c.in-Some.ensures.found c.in-Some.ensures.within
    c.index_mut-own.ensures.value))) refl

pub returns-clause-kept : goal.returns-clause-kept
returns-clause-kept c =
    other_keys c.args.table.now c.args.context c.in-Some.place c.index_mut-own.result.now
    c.requires.ordered c.in-Some.ensures.found c.in-Some.ensures.within
    c.index_mut-own.ensures.value _ refl _ refl refl

pub returns-clause-fits : goal.returns-clause-fits
returns-clause-fits c p are fits =
    let own = c.index_mut-own.result.now in
    let own_fit =
    own_fits c.args.table.now c.args.context c.in-Some.place c.index_mut-own.result.now
    c.requires.ordered c.in-Some.ensures.found c.in-Some.ensures.within
    c.index_mut-own.ensures.value p fits in
    other_fits c.args.table.now c.args.context c.in-Some.place c.index_mut-own.result.now
    c.requires.ordered c.in-Some.ensures.found c.in-Some.ensures.within
    c.index_mut-own.ensures.value _ refl p _ refl refl fits (fits_entries p own c.set_values.new.entries own_fit
    (set_pairs p (entries_of own.entries) (entries_of c.set_values.new.entries)
    c.args.values.items c.in_ok-changed.ensures.set (fits_pairs p own own_fit) are))
