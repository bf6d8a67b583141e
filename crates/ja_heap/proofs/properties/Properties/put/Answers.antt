use Rattle.std.proofs.Common.{◌∙◌}
use Rattle.std.proofs.lemmas.Result.{on_ok_weaker}
use Rattle.ja_heap.proofs.Settings as settings
use Rattle.ja_heap.proofs.properties.Properties.put.Goals as goal

pub invariant_of-self : goal.invariant_of-self
invariant_of-self c =
    let name = c.args.name.now in
    let set = settings.put c.args.content c.args.attrs c.args.shared in
    let at =
    settings.found_in name c.as_slice.ensures.value c.slot_of.ensures.slot c.in-Some.is in
    settings.set_kept set name c.self.inside.slots.items
    c.self.inside.places c.in-Some.i c.index_mut.result.now c.put.new.slot at
    c.index_mut.ensures.value c.put.ensures c.self.invariant

pub push-requires : goal.push-requires
push-requires c =
    let name = c.args.name.now in
    let none =
    settings.found_in name c.as_slice.ensures.value c.slot_of.ensures.slot c.in-None.is in
    settings.is_new name c.self.inside.slots.items c.args.self.now c.self.view_is none
    c.in_ok-name-in-None.ensures

pub returns-in-Some-clause-put : goal.returns-in-Some-clause-put
returns-in-Some-clause-put c =
    let name = c.args.name.now in
    let set = settings.put c.args.content c.args.attrs c.args.shared in
    let at =
    settings.found_in name c.as_slice.ensures.value c.slot_of.ensures.slot c.in-Some.is in
    settings.set_there set name c.self.inside.slots.items
    c.args.self.now c.in-Some.i c.index_mut.result.now c.put.new.slot c.self.view_is at
    c.index_mut.ensures.value c.put.ensures

pub returns-in_ok-name-in-None-clause-put : goal.returns-in_ok-name-in-None-clause-put
returns-in_ok-name-in-None-clause-put c =
    let name = c.args.name.now in
    let set = settings.put c.args.content c.args.attrs c.args.shared in
    let none =
    settings.found_in name c.as_slice.ensures.value c.slot_of.ensures.slot c.in-None.is in
    let last =
    settings.set_last set name c.self.inside.slots.items
    c.args.self.now c.self.view_is none c.in_ok-name-in-None.ensures in
    on_ok_weaker c.push.result (λ e. e ∙ last) c.push.ensures.pushed
