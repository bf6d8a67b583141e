use Rattle.std.proofs.Common.{◌≡◌, ℕ, Some, length, slice_get, refl, ap, arith}
use Rattle.ja_graph.specs.declared.program.ObjectSpec.{ObjectSpec}
use Rattle.ja_graph.specs.WellFormed.{IsObjectWellFormed}
use Rattle.ja_graph.proofs.EachLemmas.{read_at, below_more, below_all}
use Rattle.ja_graph.proofs.well_formed_opening.are_objects_well_formed.Goals as goal

pub loop-i-preserved : goal.loop-i-preserved
loop-i-preserved c =
    let p = c.args.program.now in
    let i = c.loop-i.i in
    let found : slice_get p.opening i ≡ Some c.index-opening-i.result = read_at p.opening i
    c.index-opening-i.result (omega (arith, ap length c.as_slice-opening.ensures)) (cc) in
    below_more (λ (n : ℕ) (o : ObjectSpec). IsObjectWellFormed p n o) p.opening i
    c.index-opening-i.result c.loop-i.invariant found
    (c.if-not-is_object_well_formed.ensures.0 refl)

pub returns : goal.returns
returns c =
    let p = c.args.program.now in (
      λ _. below_all (λ (n : ℕ) (o : ObjectSpec). IsObjectWellFormed p n o) p.opening c.loop-i.i
          (omega (arith, ap length c.as_slice-opening.ensures)) c.loop-i.invariant,
      λ _. refl,
    )
