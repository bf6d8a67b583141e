use Rattle.std.proofs.Common.{◌≡◌, ◌∙◌, arith, sym, subst}
use Rattle.std.specs.Prelude.{List}
use Rattle.ja_base.specs.declared.ids.Label.{Label}
use Rattle.ja_abstract.specs.declared.abstraction.Key.{Key}
use Rattle.ja_abstract.specs.AbstractState.{keys_below, labels_below}
use Rattle.ja_aheap.specs.Entries.{entries_of, pairs_of}
use Rattle.ja_flow.specs.code.Pairs.{AreDemanded}
use Rattle.ja_flow.proofs.Pairs.{pairs_demanded}
use Rattle.ja_rows.specs.Table.{root}
use Rattle.ja_table.proofs.Found.{found_entry, found_fits}
use Rattle.ja_rules.proofs.Lent.{has_first, own_found}
use Rattle.ja_rules.proofs.Visiting.{both_ok, opens_by}
use Rattle.ja_rules.proofs.visits.opened_by.Goals as goal

pub overflow_cast-sites : goal.overflow_cast-sites
overflow_cast-sites c = omega (arith, c.requires.program.few_sites)

pub overflow_cast-names : goal.overflow_cast-names
overflow_cast-names c = omega (arith, c.requires.program.few_names)

pub index-own-requires : goal.index-own-requires
index-own-requires c = has_first c.args.program.now c.args.table.now c.requires.fits

pub invariant_of-heap : goal.invariant_of-heap
invariant_of-heap c = record { well_formed = ∣ c.requires.program ∣₁ }

pub values_for-requires-clause-keys : goal.values_for-requires-clause-keys
values_for-requires-clause-keys c =
    (found_fits c.args.table.now root c.index-own.result.now
    (own_found c.args.program.now c.args.table.now c.requires.fits c.index-own.result.now
    c.index-own.ensures) c.args.program.now c.requires.fits).keys

pub values_for-requires-clause-pairs : goal.values_for-requires-clause-pairs
values_for-requires-clause-pairs c =
    let p = c.args.program.now in
    let own = c.index-own.result.now in
    let fits = found_fits c.args.table.now root own
    (own_found p c.args.table.now c.requires.fits own c.index-own.ensures) p c.requires.fits in
    let listed : c.deref.result.now ≡ pairs_of (entries_of own.entries)
    (labels_below c.len-sites.result) (keys_below c.len-names.result) =
    c.deref.ensures.value ∙ c.in_ok-pairs.ensures in
    subst (λ (ps : List (Label × Key)). AreDemanded (entries_of own.entries) ps)
    (sym (listed ∙ (λ j. pairs_of (entries_of own.entries)
    (labels_below (c.len-sites.ensures j)) (keys_below (c.len-names.ensures j)))))
    (pairs_demanded p (entries_of own.entries) fits.keys fits.labels)

pub returns : goal.returns
returns c =
    let p = c.args.program.now in
    let t = c.args.table.now in
    let own = c.index-own.result.now in
    both_ok c.values_for.result c.values_for.ensures.set c.values_for.ensures.changed
    (λ vs set changed. opens_by p t (entries_of own.entries) vs.items
    (found_entry t root own (own_found p t c.requires.fits own c.index-own.ensures)) set changed)
