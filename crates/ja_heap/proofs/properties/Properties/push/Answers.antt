use Rattle.std.proofs.Common.{◌∙◌, ◌++◌, ◌∷◌, [], List, sym, ap, subst}
use Rattle.std.specs.Prelude.{find}
use Rattle.ja_machine.specs.declared.machine.Property.{Property}
use Rattle.ja_heap.specs.code.Slots.{live, IsApart, IsPlaced}
use Rattle.ja_heap.proofs.InSlots as slots
use Rattle.ja_heap.proofs.properties.Properties.push.Goals as goal

pub with_last-requires-clause-apart : goal.with_last-requires-clause-apart
with_last-requires-clause-apart c =
    let xs = c.self.inside.slots.items in
    let q = c.args.property in
    let none = slots.none_slot q.name xs (ap (find (slots.is_named q.name)) c.self.view_is
    ∙ c.requires) in
    subst IsApart (sym (c.as_slice.ensures.value ∙ c.in_ok-push_slot.ensures.pushed))
    (slots.pushed_apart q xs none c.self.invariant.0)

pub invariant_of-self-2 : goal.invariant_of-self-2
invariant_of-self-2 c =
    let xs = c.self.inside.slots.items in
    let q = c.args.property in
    let none = slots.none_slot q.name xs (ap (find (slots.is_named q.name)) c.self.view_is
    ∙ c.requires) in (
      subst IsApart (sym c.in_ok-push_slot.ensures.pushed)
          (slots.pushed_apart q xs none c.self.invariant.0),
      subst (IsPlaced c.with_last.result) c.as_slice.ensures.value c.with_last.ensures,
    )

pub returns-clause-pushed : goal.returns-clause-pushed
returns-clause-pushed c =
    ap live c.in_ok-push_slot.ensures.pushed ∙ (slots.live_pushed c.self.inside.slots.items
    c.args.property ∙ ap (λ (qs : List Property). qs ++ c.args.property ∷ []) c.self.view_is)
