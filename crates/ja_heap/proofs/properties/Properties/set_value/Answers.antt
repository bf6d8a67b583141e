use Rattle.std.proofs.Common.{◌∙◌}
use Rattle.std.proofs.lemmas.Result.{on_ok_weaker}
use Rattle.ja_heap.proofs.Settings as settings
use Rattle.ja_heap.proofs.properties.Properties.set_value.Goals as goal

pub invariant_of-self : goal.invariant_of-self
invariant_of-self c =
    let name = c.args.name.now in
    let at =
    settings.found_in name c.as_slice.ensures.value c.slot_of.ensures.slot c.in-Some.is in
    settings.set_kept (settings.value_set c.args.v) name c.self.inside.slots.items
    c.self.inside.places c.in-Some.i c.index_mut.result.now c.set_value.new.slot at
    c.index_mut.ensures.value c.set_value.ensures c.self.invariant

pub push-requires : goal.push-requires
push-requires c =
    let name = c.args.name.now in
    let none =
    settings.found_in name c.as_slice.ensures.value c.slot_of.ensures.slot c.in-None.is in
    settings.is_new name c.self.inside.slots.items c.args.self.now c.self.view_is none
    c.in_ok-name-in-None.ensures

pub returns-in-Some-clause-written : goal.returns-in-Some-clause-written
returns-in-Some-clause-written c =
    let name = c.args.name.now in
    let at =
    settings.found_in name c.as_slice.ensures.value c.slot_of.ensures.slot c.in-Some.is in
    settings.set_there (settings.value_set c.args.v) name c.self.inside.slots.items
    c.args.self.now c.in-Some.i c.index_mut.result.now c.set_value.new.slot c.self.view_is at
    c.index_mut.ensures.value c.set_value.ensures

pub returns-in_ok-name-in-None-clause-written : goal.returns-in_ok-name-in-None-clause-written
returns-in_ok-name-in-None-clause-written c =
    let name = c.args.name.now in
    let none =
    settings.found_in name c.as_slice.ensures.value c.slot_of.ensures.slot c.in-None.is in
    let last =
    settings.set_last (settings.value_set c.args.v) name c.self.inside.slots.items
    c.args.self.now c.self.view_is none c.in_ok-name-in-None.ensures in
    on_ok_weaker c.push.result (λ e. e ∙ last) c.push.ensures.pushed
