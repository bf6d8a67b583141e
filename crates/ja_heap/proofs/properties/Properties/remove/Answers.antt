use Rattle.std.proofs.Common.{◌≡◌, ◌∙◌, List, Some, None, sym, ap, subst}
use Rattle.ja_machine.specs.declared.machine.Property.{Property}
use Rattle.ja_machine.specs.Writes.{without}
use Rattle.ja_heap.specs.code.Slots.{slot_of, IsPlaced}
use Rattle.ja_heap.proofs.InSlots as slots
use Rattle.ja_heap.proofs.properties.Properties.remove.Goals as goal

pub returns-in-None : goal.returns-in-None
returns-in-None c =
    let name = c.args.name.now in
    let xs = c.self.inside.slots.items in
    let none : slot_of name xs ≡ None = ap (slot_of name) (sym c.as_slice.ensures.value)
    ∙ (sym c.slot_of.ensures.slot ∙ c.in-None.is) in
    sym c.self.view_is ∙ (sym (slots.none_removed name xs none)
    ∙ ap (λ (qs : List Property). without qs name) c.self.view_is)

pub invariant_of-self : goal.invariant_of-self
invariant_of-self c =
    let name = c.args.name.now in
    let xs = c.self.inside.slots.items in
    let i = c.in-Some.i in
    let at : slot_of name xs ≡ Some i = ap (slot_of name) (sym c.as_slice.ensures.value)
    ∙ (sym c.slot_of.ensures.slot ∙ c.in-Some.is) in (
      slots.cleared_apart xs i c.self.invariant.0,
      slots.cleared_placed name c.take-places.result c.without_name.result xs i c.self.invariant.0
          at c.without_name.ensures (subst (λ r. IsPlaced r xs) (sym c.take-places.ensures.value)
          c.self.invariant.1),
    )

pub invariant_of-self-else-empty-len : goal.invariant_of-self-else-empty-len
invariant_of-self-else-empty-len c =
    let name = c.args.name.now in
    let xs = c.self.inside.slots.items in
    let i = c.in-Some.i in
    let at : slot_of name xs ≡ Some i = ap (slot_of name) (sym c.as_slice.ensures.value)
    ∙ (sym c.slot_of.ensures.slot ∙ c.in-Some.is) in (
      slots.cleared_apart xs i c.self.invariant.0,
      slots.cleared_placed name c.take-places.result c.without_name.result xs i c.self.invariant.0
          at c.without_name.ensures (subst (λ r. IsPlaced r xs) (sym c.take-places.ensures.value)
          c.self.invariant.1),
    )

pub returns-then-empty-len : goal.returns-then-empty-len
returns-then-empty-len c =
    let name = c.args.name.now in
    let xs = c.self.inside.slots.items in
    let i = c.in-Some.i in
    let at : slot_of name xs ≡ Some i = ap (slot_of name) (sym c.as_slice.ensures.value)
    ∙ (sym c.slot_of.ensures.slot ∙ c.in-Some.is) in
    c.close_gaps.ensures ∙ (slots.removed name xs i c.self.invariant.0 at
    ∙ ap (λ (qs : List Property). without qs name) c.self.view_is)

pub returns-else-empty-len : goal.returns-else-empty-len
returns-else-empty-len c =
    let name = c.args.name.now in
    let xs = c.self.inside.slots.items in
    let i = c.in-Some.i in
    let at : slot_of name xs ≡ Some i = ap (slot_of name) (sym c.as_slice.ensures.value)
    ∙ (sym c.slot_of.ensures.slot ∙ c.in-Some.is) in
    slots.removed name xs i c.self.invariant.0 at
    ∙ ap (λ (qs : List Property). without qs name) c.self.view_is
