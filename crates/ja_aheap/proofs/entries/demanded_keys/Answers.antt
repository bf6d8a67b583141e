use Rattle.std.proofs.Common.{[], ◌∷◌, ◌-◌, refl, ◌∙◌}
use Rattle.ja_abstract.specs.AbstractState.{name_key}
use Rattle.ja_value.specs.declared.property.AProp.{AProp}
use Rattle.ja_aheap.proofs.ListLemmas.{listing_turn, listing_end}
use Rattle.ja_aheap.proofs.NumberLemmas.{names_listed, keys_listed}
use Rattle.ja_aheap.proofs.entries.demanded_keys.Goals as goal

pub loop-number-preserved : goal.loop-number-preserved
loop-number-preserved c =
    listing_turn (λ q (p : AProp). name_key (q - 6) ∷ []) 6 c.args.names _ _ _ _
    (c.in-Some.number, c.in-Some.field-0-1) _ _ _ c.in-Some.is c.next.ensures.steps
    c.loop-number.invariant c.in_ok-push_name.ensures refl

pub returns : goal.returns
returns c =
    let names = listing_end (λ q (p : AProp). name_key (q - 6) ∷ []) 6 c.args.names
    c.args.properties.now.entries _ c.loop-number.keys.items c.in-None.ensures.steps.0
    c.loop-number.invariant ∙ names_listed c.args.properties.now c.args.names in
    keys_listed c.args.properties.now c.args.names c.loop-number.keys.items
    c.push_keys.new.keys.items names c.in_ok-push_keys.ensures
