use Rattle.std.proofs.Common.{◌∙◌}
use Rattle.ja_base.specs.declared.ids.Site.{Site}
use Rattle.ja_aheap.specs.Heap.{heap_of}
use Rattle.ja_cert.proofs.StateLemmas.{masks_all, masks_more}
use Rattle.ja_cert.proofs.write_states.push_masks.Goals as goal

pub loop-site-preserved : goal.loop-site-preserved
loop-site-preserved c =
    let d : Site = record { 0 = 0 } in
    masks_more _ (heap_of c.args.state.now.heap) _ _ d _ _ _ _ c.loop-site.invariant
    c.loop-site-test.true c.mask.ensures c.in_ok-push_mask.ensures

pub returns : goal.returns
returns c =
    masks_all _ c.args.state.now _ _ _ _ c.loop-site.invariant c.loop-site-test.false
    (c.deref-site-items.ensures.value ∙ c.in_ok-sites.ensures) c.requires.sites
