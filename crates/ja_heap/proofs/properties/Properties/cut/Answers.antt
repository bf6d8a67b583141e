use Rattle.std.proofs.Common.{◌≡◌, ◌∙◌, Option, Some, Bool, not, sym, ap, refl, subst, rules}
use Rattle.std.specs.Prelude.{filter}
use Rattle.std.proofs.lemmas.Fn.{filter_same}
use Rattle.ja_machine.specs.declared.machine.Property.{Property}
use Rattle.ja_machine.specs.Writes.{is_cut}
use Rattle.ja_heap.specs.code.Slots.{live, IsApart, IsPlaced, stays}
use Rattle.ja_heap.proofs.InSlots as slots
use Rattle.ja_heap.proofs.properties.Properties.cut.Goals as goal

pub placed_anew-requires : goal.placed_anew-requires
placed_anew-requires c =
    let xs = c.self.inside.slots.items in
    let test : Option Property → Bool = stays c.args.new c.args.old in
    let kept : c.retain.new.self.items ≡ filter test xs = filter_same _ test _
    (λ x b g r. search rules) xs c.retain.new.self.items c.retain.ensures.filtered in
    record {
      apart = subst IsApart (sym (c.as_slice.ensures.value ∙ kept))
          (slots.filtered_apart test xs c.self.invariant.0);
    }

pub invariant_of-self : goal.invariant_of-self
invariant_of-self c =
    let xs = c.self.inside.slots.items in
    let test : Option Property → Bool = stays c.args.new c.args.old in
    let kept : c.retain.new.self.items ≡ filter test xs = filter_same _ test _
    (λ x b g r. search rules) xs c.retain.new.self.items c.retain.ensures.filtered in (
      subst IsApart (sym kept) (slots.filtered_apart test xs c.self.invariant.0),
      subst (IsPlaced c.placed_anew.result) c.as_slice.ensures.value c.placed_anew.ensures,
    )

pub returns : goal.returns
returns c =
    let xs = c.self.inside.slots.items in
    let test : Option Property → Bool = stays c.args.new c.args.old in
    let kept : c.retain.new.self.items ≡ filter test xs = filter_same _ test _
    (λ x b g r. search rules) xs c.retain.new.self.items c.retain.ensures.filtered in
    let stay : Property → Bool = λ q. not (is_cut c.args.new (Some c.args.old) q) in
    ap live kept ∙ (slots.filtered_live test stay refl (λ q. refl) xs
    ∙ ap (filter stay) c.self.view_is)
