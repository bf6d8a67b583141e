use Rattle.std.proofs.Common.{◌∙◌, sym, ◌-◌, ◌+◌, ◌++◌}
use Rattle.ja_machine.specs.Heap.{chain, prototype_of}
use Rattle.ja_heap.proofs.Links.{walked, walked_on}
use Rattle.ja_heap.proofs.heap.Heap.prototypes.Goals as goal

pub returns-in-None : goal.returns-in-None
returns-in-None c =
    sym (walked prototype_of c.args.self.now c.loop-object.chain.items
    (c.self.inside.size - c.loop-object._object) c.loop-object.at c.in-None.is)
    ∙ c.loop-object.invariant

pub loop-object-preserved : goal.loop-object-preserved
loop-object-preserved c =
    let n = c.self.inside.size in
    let i = c.loop-object._object in
    let h = c.args.self.now in
    (λ k. c.in_ok-push-in-Some.ensures.items k
    ++ chain prototype_of h (n - (i + 1)) (c.prototype_at-at.ensures k))
    ∙ (sym (walked_on prototype_of h c.loop-object.chain.items n i c.in-Some.b c.loop-object.at
    c.in-Some.is c.loop-object-test.true) ∙ c.loop-object.invariant)
