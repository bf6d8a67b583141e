use Rattle.std.proofs.Common.{◌≡◌, sym, subst, ap, ◌∙◌}
use Rattle.std.specs.Prelude.{IsTrue}
use Rattle.ja_graph.specs.declared.program.Program.{Program}
use Rattle.ja_abstract.specs.AbstractState.{is_key, keys_below, keys_of, labels_below, labels_of}
use Rattle.ja_abstract.specs.Reading.{View}
use Rattle.ja_aheap.specs.Entries.{entries_of, pairs_of}
use Rattle.ja_aheap.specs.Objects.{demands_in}
use Rattle.ja_astate.specs.Looks.{view_of}
use Rattle.ja_flow.specs.code.Pairs.{AreDemanded}
use Rattle.ja_flow.proofs.AtCalling.{ReadsCalling, view_calling}
use Rattle.ja_flow.proofs.FilledEntries.{filled_as, fill_demanded}
use Rattle.ja_flow.proofs.Pairs.{pairs_demanded}
use Rattle.ja_flow.proofs.filling.fill.Goals as goal

pub values_for-requires-clause-keys : goal.values_for-requires-clause-keys
values_for-requires-clause-keys c =
    λ l k some. subst (λ (p : Program). IsTrue (is_key p k))
    (sym (ap (λ (w : View). w.program) c.reader-reader.ensures.view)) (c.requires.keys l k some)

pub values_for-requires-clause-pairs : goal.values_for-requires-clause-pairs
values_for-requires-clause-pairs c =
    let k = c.args.caller.now in
    let entries = entries_of c.args.entries.now in
    let pairs_are : c.in_ok-pairs.pairs.items ≡ pairs_of entries (labels_of k.reader.program.now)
    (keys_of k.reader.program.now) =
    c.in_ok-pairs.ensures ∙ (λ i. pairs_of entries (labels_below (k.reader.sites_are i))
    (keys_below (c.len-names.ensures i))) in
    subst (AreDemanded entries) (sym (c.deref.ensures.value ∙ pairs_are))
    (pairs_demanded k.reader.program.now entries c.requires.keys c.requires.labels)

pub returns-clause-values : goal.returns-clause-values
returns-clause-values c =
    let k = c.args.caller.now in
    let r = c.reader-reader.result in
    let reads : ReadsCalling k c.in_ok-calling.calling r =
    record { view = c.reader-reader.ensures.view; state = c.reader-reader.ensures.state } in
    c.in_ok-values.ensures.set ∙ filled_as k (view_of r)
    (view_calling k c.in_ok-calling.calling r c.in_ok-calling.ensures reads)
    (entries_of c.args.entries.now)

pub returns-clause-changed : goal.returns-clause-changed
returns-clause-changed c =
    let k = c.args.caller.now in
    let r = c.reader-reader.result in
    let reads : ReadsCalling k c.in_ok-calling.calling r =
    record { view = c.reader-reader.ensures.view; state = c.reader-reader.ensures.state } in
    λ some same. c.in_ok-values.ensures.changed some (filled_as k (view_of r)
    (view_calling k c.in_ok-calling.calling r c.in_ok-calling.ensures reads)
    (entries_of c.args.entries.now) ∙ same)

pub returns-clause-demands : goal.returns-clause-demands
returns-clause-demands c =
    let k = c.args.caller.now in
    let r = c.reader-reader.result in
    let reads : ReadsCalling k c.in_ok-calling.calling r =
    record { view = c.reader-reader.ensures.view; state = c.reader-reader.ensures.state } in
    let entries = entries_of c.args.entries.now in
    let pairs_are : c.in_ok-pairs.pairs.items ≡ pairs_of entries (labels_of k.reader.program.now)
    (keys_of k.reader.program.now) =
    c.in_ok-pairs.ensures ∙ (λ i. pairs_of entries (labels_below (k.reader.sites_are i))
    (keys_below (c.len-names.ensures i))) in
    fill_demanded k (view_of r)
    (view_calling k c.in_ok-calling.calling r c.in_ok-calling.ensures reads) entries
    c.requires.keys c.deref-2.result.now (c.deref-2.ensures.value ∙ pairs_are)
    (demands_in c.in_ok-calling.calling.demands) (demands_in c.in_ok-more.more)
    (demands_in c.join.new.self) c.in_ok-calling.ensures.demands_are c.in_ok-more.ensures
    c.in_ok-join.ensures.joined
