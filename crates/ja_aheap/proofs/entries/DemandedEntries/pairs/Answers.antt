use Rattle.std.proofs.Common.{ℕ, ◌*◌, map, ◌∙◌}
use Rattle.std.specs.BTreeMap.{BTreeMap}
use Rattle.ja_abstract.specs.declared.abstraction.Key.{Key}
use Rattle.ja_value.specs.declared.property.AProp.{AProp}
use Rattle.ja_value.specs.Labels.{label_at}
use Rattle.ja_aheap.specs.Numbers.{keys_in}
use Rattle.ja_aheap.proofs.ListLemmas.{listing_turn, listing_end, piece_first}
use Rattle.ja_aheap.proofs.NumberLemmas.{pairs_listed}
use Rattle.ja_aheap.proofs.entries.DemandedEntries.pairs.Goals as goal

pub loop-number-preserved : goal.loop-number-preserved
loop-number-preserved c =
    listing_turn (λ q (m : BTreeMap ℕ AProp).
    map (λ (k : Key). (label_at q, k)) (keys_in m c.args.names)) 0 (2 * c.args.sites) _ _ _ _
    (c.in-Some.number, c.in-Some.properties) _ _ _ c.in-Some.is c.next.ensures.steps
    c.loop-number.invariant
    c.in_ok-push_label.ensures (piece_first (2 * c.args.sites) c.in-Some.number.now
    (map (λ (k : Key). (label_at c.in-Some.number.now, k))
    (keys_in c.in-Some.properties.now c.args.names)))

pub returns : goal.returns
returns c =
    listing_end (λ q (m : BTreeMap ℕ AProp).
    map (λ (k : Key). (label_at q, k)) (keys_in m c.args.names)) 0 (2 * c.args.sites)
    c.args.self.now.objects.entries _ c.loop-number.pairs.items c.in-None.ensures.steps.0
    c.loop-number.invariant
    ∙ pairs_listed c.args.self.now c.args.sites c.args.names
