use Rattle.ja_value.specs.Value.{labels_in}
use Rattle.ja_aheap.proofs.KeptLemmas.{moving_turn, moving_end}
use Rattle.ja_aheap.proofs.heap.AHeap.moved.Goals as goal

pub loop-site-preserved : goal.loop-site-preserved
loop-site-preserved c =
    moving_turn c.args.self.now.sites c.args.self.now.masks.value
    (labels_in c.loop-site.labels) (labels_in c.add_moved.new.labels) _ _ _
    (c.in-Some.site, c.in-Some.mask) c.in-Some.is c.next.ensures.steps
    c.in_ok-add_moved.ensures.added c.in_ok-add_moved.ensures.kept c.loop-site.invariant

pub returns : goal.returns
returns c =
    moving_end c.args.self.now.sites c.args.self.now.masks.value _ _
    c.in-None.ensures.steps.0 c.loop-site.invariant
