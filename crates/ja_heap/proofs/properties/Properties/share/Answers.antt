use Rattle.std.proofs.Common.{◌≡◌, ◌∙◌, Some, None, true, sym, ap, refl}
use Rattle.std.specs.Prelude.{map}
use Rattle.ja_machine.specs.declared.machine.Property.{Property}
use Rattle.ja_machine.specs.code.Writes.{shared_from_now}
use Rattle.ja_heap.specs.code.Slots.{live, slot_of}
use Rattle.ja_heap.proofs.InSlots as slots
use Rattle.ja_heap.proofs.properties.Properties.share.Goals as goal

pub invariant_of-self : goal.invariant_of-self
invariant_of-self c =
    let name = c.args.name.now in
    let xs = c.self.inside.slots.items in
    let i = c.in-Some.i in
    let at : slot_of name xs ≡ Some i = ap (slot_of name) (sym c.as_slice.ensures.value)
    ∙ (sym c.slot_of.ensures.slot ∙ c.in-Some.is) in
    let change : Property → Property = λ q. record q { shared = true } in
    slots.changed_kept change (λ q. refl) c.self.inside.places xs i c.index_mut.result.now
    c.share.new.slot (slots.within name xs i at) c.index_mut.ensures.value c.share.ensures
    c.self.invariant

pub returns-in-None : goal.returns-in-None
returns-in-None c =
    let name = c.args.name.now in
    let xs = c.self.inside.slots.items in
    let none : slot_of name xs ≡ None = ap (slot_of name) (sym c.as_slice.ensures.value)
    ∙ (sym c.slot_of.ensures.slot ∙ c.in-None.is) in
    sym c.self.view_is ∙ (sym (slots.none_shared name xs none)
    ∙ ap (map (shared_from_now name)) c.self.view_is)

pub returns : goal.returns
returns c =
    let name = c.args.name.now in
    let xs = c.self.inside.slots.items in
    let i = c.in-Some.i in
    let at : slot_of name xs ≡ Some i = ap (slot_of name) (sym c.as_slice.ensures.value)
    ∙ (sym c.slot_of.ensures.slot ∙ c.in-Some.is) in
    let change : Property → Property = λ q. record q { shared = true } in
    ap live (slots.changed_is change xs i c.index_mut.result.now c.share.new.slot
    (slots.within name xs i at) c.index_mut.ensures.value c.share.ensures)
    ∙ (slots.shared name xs i c.self.invariant.0 at
    ∙ ap (map (shared_from_now name)) c.self.view_is)
