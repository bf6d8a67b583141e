use Rattle.std.proofs.Common.{◌≡◌, ◌∙◌, ◌<◌, ap, sym, subst, ℕ}
use Rattle.std.specs.List.{AllByRecursion}
use Rattle.ja_cert_parts.specs.declared.listed.MaskAt.{MaskAt}
use Rattle.ja_cert_parts.specs.declared.listed.RegisterAt.{RegisterAt}
use Rattle.ja_astate.specs.State.{state_of}
use Rattle.ja_cert_read.specs.code.Building.{plain_state, with_masks, with_properties}
use Rattle.ja_cert_read.proofs.Setting.{one_shape, placed_along, state_along}
use Rattle.ja_cert_read.proofs.Starting.{started_all}
use Rattle.ja_cert_read.proofs.states.built_state.Goals as goal

pub set_registers-requires : goal.set_registers-requires
set_registers-requires c =
    subst (λ (n : ℕ). AllByRecursion (λ (x : RegisterAt). x.register < n) c.args.registers.items)
    (sym c.in_ok-state.ensures.shape.registers) c.requires.within.registers_within

pub set_properties-requires-clause-placed : goal.set_properties-requires-clause-placed
set_properties-requires-clause-placed c =
    placed_along _ _ _ c.args.heap.items
    (state_along _ _ _ _ c.in_ok-state.ensures.shape c.set_registers.ensures.shape)
    c.requires.within.heap_within

pub set_properties-requires-clause-apart : goal.set_properties-requires-clause-apart
set_properties-requires-clause-apart c = c.requires.within.apart

pub set_masks-requires : goal.set_masks-requires
set_masks-requires c =
    let set = state_along _ _ _ _ c.in_ok-state.ensures.shape
    (one_shape _ _ _ c.set_registers.ensures.shape c.in_ok-set_properties.ensures.shape) in
    subst (λ (n : ℕ). AllByRecursion (λ (x : MaskAt). x.site.0 < n) c.args.masks.items)
    (sym set.heap.sites) c.requires.within.masks_within

pub returns-clause-state : goal.returns-clause-state
returns-clause-state c =
    let heap = c.args.heap.items in
    let masks = c.args.masks.items in
    let begun = state_of c.in_ok-state.state in
    let heap_is : c.deref.result.now ≡ heap = c.deref.ensures.value in
    let masks_are : c.deref-2.result.now ≡ masks = c.deref-2.ensures.value in
    let started : with_masks masks (with_properties heap begun)
    ≡ with_masks masks (with_properties heap plain_state) =
    (λ i. with_masks (sym masks_are i) (with_properties (sym heap_is i) begun))
    ∙ c.in_ok-state.ensures.state
    ∙ (λ i. with_masks (masks_are i) (with_properties (heap_is i) plain_state)) in
    c.in_ok-set_masks.ensures.state
    ∙ ap (with_masks masks) (c.in_ok-set_properties.ensures.state
    ∙ ap (with_properties heap) c.set_registers.ensures.state)
    ∙ started_all c.args.registers.items heap masks begun started

pub returns-clause-shape : goal.returns-clause-shape
returns-clause-shape c =
    state_along _ _ _ _ c.in_ok-state.ensures.shape
    (one_shape _ _ _ c.set_registers.ensures.shape
    (one_shape _ _ _ c.in_ok-set_properties.ensures.shape c.in_ok-set_masks.ensures.shape))
