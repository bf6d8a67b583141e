use Rattle.std.proofs.Common.{◌∙◌, sym, ap}
use Rattle.std.specs.Prelude.{find}
use Rattle.ja_heap.specs.code.Slots.{slot_of, slot_at}
use Rattle.ja_heap.proofs.InSlots.{found, not_found, is_named}
use Rattle.ja_heap.proofs.properties.Properties.get.Goals as goal

pub returns-in-Some : goal.returns-in-Some
returns-in-Some c =
    let name = c.args.name.now in
    let xs = c.self.inside.slots.items in
    let at = sym c.slot_of.ensures.slot ∙ c.in-Some.is in
    c.slot_at.ensures ∙ (ap (λ ys. slot_at ys c.in-Some.i) c.as_slice-in-Some.ensures.value
    ∙ (sym (found name xs c.in-Some.i (ap (slot_of name) (sym c.as_slice.ensures.value) ∙ at))
    ∙ ap (find (is_named name)) c.self.view_is))

pub returns-in-None : goal.returns-in-None
returns-in-None c =
    let name = c.args.name.now in
    let xs = c.self.inside.slots.items in
    let at = sym c.slot_of.ensures.slot ∙ c.in-None.is in
    sym (not_found name xs (ap (slot_of name) (sym c.as_slice.ensures.value) ∙ at))
    ∙ ap (find (is_named name)) c.self.view_is
