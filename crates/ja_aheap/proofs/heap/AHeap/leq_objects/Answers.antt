use Rattle.std.proofs.Common.{◌↔◌, IsTrue, subst, arith}
use Rattle.ja_aheap.specs.declared.object.AObject.{AObject}
use Rattle.ja_aheap.specs.code.Own.{own_below, LeqOwn}
use Rattle.ja_aheap.proofs.HeapLemmas.{leq_in_place}
use Rattle.ja_aheap.proofs.heap.AHeap.leq_objects.Goals as goal

pub returns : goal.returns
returns c =
    let names = c.args.self.now.names in
    leq_in_place names _ c.args.self.now.objects c.args.other.now.objects c.all_with.result
    (omega (arith, c.args.self.now.placed, c.args.other.now.placed, c.requires.sites))
    c.all_with.ensures
    (λ x y b says. subst (λ (z : AObject). IsTrue b ↔ LeqOwn (own_below names x)
    (own_below names z))
    says.shows.1 (subst (λ (z : AObject). IsTrue b
    ↔ LeqOwn (own_below names z) (own_below names says.second.now)) says.shows.0 says.says.met))
