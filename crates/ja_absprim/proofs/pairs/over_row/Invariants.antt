use Rattle.std.proofs.Common.{◌≡◌}
use Rattle.ja_abstract.specs.Primitives.{over}
use Rattle.ja_absprim.specs.Primitives.{abstracted_of}
use Rattle.ja_absprim.proofs.Onto.{onto}
use Rattle.ja_absprim.proofs.pairs.over_row.Given as goal

abbrev pub invariant-loop-b : goal.invariant-loop-b
invariant-loop-b g l =
    let f = g.P.Pairing.pair_gives l.pairing l.a in
    onto f (abstracted_of l.all) l.b-iterator.iter.rest.now ≡ over f l.others
