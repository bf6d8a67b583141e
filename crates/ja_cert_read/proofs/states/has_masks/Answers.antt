use Rattle.std.proofs.Common.{◌≡◌}
use Rattle.ja_aheap.specs.Heap.{heap_of}
use Rattle.ja_astate.specs.State.{state_of}
use Rattle.ja_cert_parts.specs.declared.listed.MaskAt.{MaskAt}
use Rattle.ja_cert_read.proofs.Starting.{all_next, all_taken, no_masks_set}
use Rattle.ja_cert_read.proofs.states.has_masks.Goals as goal

pub loop-listed-preserved : goal.loop-listed-preserved
loop-listed-preserved c =
    all_next (λ (x : MaskAt). (heap_of c.args.state.now.heap).mask x.site.0 ≡ x.mask)
    c.args.masks.now c.loop-listed.listed-index _ c.loop-listed-test.true c.loop-listed.invariant
    (c.has_mask.ensures c.if-not-has_mask.false)

pub returns : goal.returns
returns c = λ _.
    no_masks_set c.args.masks.now (state_of c.args.state.now)
    (all_taken (λ (x : MaskAt). (heap_of c.args.state.now.heap).mask x.site.0 ≡ x.mask)
    c.args.masks.now c.loop-listed.listed-index c.loop-listed-test.false c.loop-listed.invariant)
