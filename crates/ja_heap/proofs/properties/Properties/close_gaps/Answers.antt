use Rattle.std.proofs.Common.{◌≡◌, ◌∙◌, Option, Bool, true, sym, ap, refl, subst, rules}
use Rattle.std.specs.Prelude.{filter, is_some}
use Rattle.std.proofs.lemmas.List.Elements.{filter_from_retain}
use Rattle.ja_machine.specs.declared.machine.Property.{Property}
use Rattle.ja_heap.specs.code.Slots.{live, IsApart, IsPlaced}
use Rattle.ja_heap.proofs.InSlots as slots
use Rattle.ja_heap.proofs.properties.Properties.close_gaps.Goals as goal

pub placed_anew-requires : goal.placed_anew-requires
placed_anew-requires c =
    let xs = c.self.inside.slots.items in
    let test : Option Property → Bool = is_some in
    let kept : c.retain.new.self.items ≡ filter test xs = filter_from_retain _ test
    (λ p x b q r. search rules) _ xs c.retain.new.self.items c.retain.ensures.filtered in
    record {
      apart = subst IsApart (sym (c.as_slice.ensures.value ∙ kept))
          (slots.filtered_apart test xs c.self.invariant.0);
    }

pub invariant_of-self : goal.invariant_of-self
invariant_of-self c =
    let xs = c.self.inside.slots.items in
    let test : Option Property → Bool = is_some in
    let kept : c.retain.new.self.items ≡ filter test xs = filter_from_retain _ test
    (λ p x b q r. search rules) _ xs c.retain.new.self.items c.retain.ensures.filtered in (
      subst IsApart (sym kept) (slots.filtered_apart test xs c.self.invariant.0),
      subst (IsPlaced c.placed_anew.result) c.as_slice.ensures.value c.placed_anew.ensures,
    )

pub returns : goal.returns
returns c =
    let xs = c.self.inside.slots.items in
    let test : Option Property → Bool = is_some in
    let kept : c.retain.new.self.items ≡ filter test xs = filter_from_retain _ test
    (λ p x b q r. search rules) _ xs c.retain.new.self.items c.retain.ensures.filtered in
    ap live kept ∙ (slots.filtered_live test (λ q. true) refl (λ q. refl) xs
    ∙ (slots.all_kept (live xs) ∙ c.self.view_is))
