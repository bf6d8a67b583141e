use Rattle.std.proofs.Common.{◌≡◌, ◌∙◌, List, true, false, sym, ap}
use Rattle.std.specs.Prelude.{find, is_some}
use Rattle.ja_machine.specs.declared.machine.Property.{Property}
use Rattle.ja_heap.proofs.InSlots as slots
use Rattle.ja_heap.proofs.Settings as settings
use Rattle.ja_heap.proofs.properties.Properties.replace_value.Goals as goal

pub invariant_of-self : goal.invariant_of-self
invariant_of-self c =
    let name = c.args.name.now in
    let at =
    settings.found_in name c.as_slice.ensures.value c.slot_of.ensures.slot c.in-Some.is in
    settings.set_kept (settings.value_set c.args.v) name c.self.inside.slots.items
    c.self.inside.places c.in-Some.i c.index_mut.result.now c.set_value.new.slot at
    c.index_mut.ensures.value c.set_value.ensures c.self.invariant

pub returns-in-None : goal.returns-in-None
returns-in-None c =
    let name = c.args.name.now in
    let none =
    settings.found_in name c.as_slice.ensures.value c.slot_of.ensures.slot c.in-None.is in
    let gone : is_some (find (slots.is_named name) c.args.self.now)
    ≡ false = ap (λ (qs : List Property). is_some (find (slots.is_named name) qs))
    (sym c.self.view_is) ∙ ap is_some (slots.not_found name c.self.inside.slots.items none) in
    simp gone

pub returns : goal.returns
returns c =
    let name = c.args.name.now in
    let all = c.self.inside.slots.items in
    let i = c.in-Some.i in
    let at =
    settings.found_in name c.as_slice.ensures.value c.slot_of.ensures.slot c.in-Some.is in
    let there : is_some (find (slots.is_named name) c.args.self.now)
    ≡ true = ap (λ (qs : List Property). is_some (find (slots.is_named name) qs))
    (sym c.self.view_is) ∙ slots.is_found name all i at in
    simp there (settings.set_there (settings.value_set c.args.v) name all c.args.self.now i
    c.index_mut.result.now c.set_value.new.slot c.self.view_is at c.index_mut.ensures.value
    c.set_value.ensures)
