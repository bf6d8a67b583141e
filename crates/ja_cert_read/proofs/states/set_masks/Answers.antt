use Rattle.std.proofs.Common.{◌∙◌, ap, map, sym, refl, List}
use Rattle.ja_aheap.specs.Heap.{heap_of, HeapMap}
use Rattle.ja_astate.specs.State.{state_of}
use Rattle.ja_cert_parts.specs.declared.listed.MaskAt.{MaskAt}
use Rattle.ja_cert_read.specs.code.Building.{mask_pair, with_masks}
use Rattle.ja_cert_read.proofs.Setting.{masks_set, masks_within}
use Rattle.ja_cert_read.proofs.states.set_masks.Goals as goal

pub returns-then-has_masks-clause-state : goal.returns-then-has_masks-clause-state
returns-then-has_masks-clause-state c =
    sym (c.has_masks.ensures c.if-has_masks.true)
    ∙ ap (λ (xs : List MaskAt). with_masks xs (state_of c.args.state.now)) c.deref.ensures.value

pub set_masks-requires : goal.set_masks-requires
set_masks-requires c =
    masks_within _ c.args.masks.items _
    (c.in_ok-pairs.ensures ∙ ap (map mask_pair) c.deref-2.ensures.value) c.requires

pub returns-clause-state : goal.returns-clause-state
returns-clause-state c =
    masks_set c.args.masks.items _ c.args.state.now.registers.items
    (heap_of c.args.state.now.heap) _
    (c.in_ok-pairs.ensures ∙ ap (map mask_pair) c.deref-2.ensures.value)
    c.in_ok-set_masks.ensures.set

pub returns-clause-shape : goal.returns-clause-shape
returns-clause-shape c = record {
  sites = sym (ap (λ (h : HeapMap). h.sites) c.in_ok-set_masks.ensures.set);
  names = sym (ap (λ (h : HeapMap). h.names) c.in_ok-set_masks.ensures.set);
  registers = refl;
}
