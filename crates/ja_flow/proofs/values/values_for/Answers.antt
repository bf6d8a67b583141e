use Rattle.std.proofs.Common.{List, [], false, sym, subst}
use Rattle.std.proofs.lemmas.List.{take_all}
use Rattle.ja_base.specs.declared.ids.Label.{Label}
use Rattle.ja_abstract.specs.declared.abstraction.Key.{Key}
use Rattle.ja_abstract.specs.declared.abstraction.Key.TheVariants as key
use Rattle.ja_aheap.specs.Entries.{entries_of}
use Rattle.ja_flow.proofs.Changes.{AreChanges, changes_none, changes_more, changes_all}
use Rattle.ja_flow.proofs.values.values_for.Goals as goal

pub loop-pair-init : goal.loop-pair-init
loop-pair-init g c =
    let entries = entries_of c.args.entries.now in
    let value = g.V.Values.value_at c.args.values.now in
    subst (AreChanges entries value []) (sym c.new-listed.ensures.items)
    (changes_none entries value)

pub loop-pair-preserved : goal.loop-pair-preserved
loop-pair-preserved g c =
    changes_more (entries_of c.args.entries.now) (g.V.Values.value_at c.args.values.now)
    c.args.pairs.now c.loop-pair.pair-index
    (record { site = record { 0 = 0 }; old = false }, key.Name (record { 0 = 0 }))
    c.loop-pair-test.true
    c.loop-pair.listed.items c.loop-pair.invariant c.in_ok-value.value _ c.in_ok-value.ensures
    c.in_ok-list_value.ensures

pub returns-clause-set : goal.returns-clause-set
returns-clause-set g c =
    let entries = entries_of c.args.entries.now in
    let value = g.V.Values.value_at c.args.values.now in
    let listed = c.loop-pair.listed.items in
    changes_all entries value c.args.pairs.now listed c.requires.pairs
    (subst (λ (ps : List (Label × Key)). AreChanges entries value ps listed)
    (take_all c.loop-pair.pair-index c.args.pairs.now c.loop-pair-test.false)
    c.loop-pair.invariant)

pub returns-clause-changed : goal.returns-clause-changed
returns-clause-changed g c = c.loop-pair.invariant.changed
