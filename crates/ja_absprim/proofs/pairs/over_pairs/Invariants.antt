use Rattle.std.proofs.Common.{◌≡◌}
use Rattle.ja_abstract.specs.Primitives.{over, over_pairs}
use Rattle.ja_absprim.specs.Primitives.{abstracted_of}
use Rattle.ja_absprim.proofs.Onto.{onto}
use Rattle.ja_absprim.proofs.pairs.over_pairs.Given as goal

abbrev pub invariant-loop-a : goal.invariant-loop-a
invariant-loop-a g l =
    let f = g.P.Pairing.pair_gives l.pairing in
    onto (λ x. over (f x) l.others) (abstracted_of l.all) l.a-iterator.iter.rest.now
    ≡ over_pairs f l.list l.others
