use Rattle.std.proofs.Common.{ap, ◌∙◌}
use Rattle.ja_abstract.specs.AbstractState.{new}
use Rattle.ja_aheap.specs.Heap.{HeapMap, made_in, with_own_in}
use Rattle.ja_aheap.specs.Objects.{own_in}
use Rattle.ja_astate.proofs.heaps.make_two.Goals as goal

pub returns : goal.returns
returns g c =
    c.in_ok-replace-2.ensures.replaced
    ∙ ap (λ (h : HeapMap). with_own_in h (new c.args.second) (own_in c.args.other))
    (c.in_ok-replace.ensures.replaced
    ∙ ap (λ (h : HeapMap). with_own_in h (new c.args.first) (own_in c.args.made))
    (c.in_ok-allocate-2.ensures.made
    ∙ ap (λ (h : HeapMap). made_in h c.args.second) c.in_ok-allocate.ensures.made))
