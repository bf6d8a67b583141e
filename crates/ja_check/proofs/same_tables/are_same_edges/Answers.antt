use Rattle.std.proofs.Common.{arith, false, get_or, refl}
use Rattle.std.proofs.lemmas.Bool.{false≢true}
use Rattle.std.proofs.lemmas.Option.{slice_get-get_or}
use Rattle.ja_base.specs.declared.ids.Context.{Context}
use Rattle.ja_rows.specs.declared.table.Edge.{Edge}
use Rattle.ja_table.specs.declared.table.CallEdge.{CallEdge}
use Rattle.ja_table.proofs.Kept.{same_at}
use Rattle.ja_table.proofs.Told.{told_none, told_some}
use Rattle.ja_check.proofs.Lists.{same_all, same_next}
use Rattle.ja_check.proofs.same_tables.are_same_edges.Goals as goal

abbrev edge_of : CallEdge → Edge
edge_of d = d.edge

abbrev no_context : Context
no_context = record {
  function = record { 0 = 0 };
  receiver = record { site = record { 0 = 0 }; old = false };
}

abbrev no_edge : CallEdge
no_edge = record {
  edge = record { caller = no_context; node = record { 0 = 0 }; callee = no_context };
}

pub returns-then-not-is_same_edge : goal.returns-then-not-is_same_edge
returns-then-not-is_same_edge c =
    let xs = c.args.own.now in
    let ys = c.args.other.now in
    let k = c.loop-place.place in
    told_none (λ e. false≢true (c.if-not-is_same_edge.ensures.1
    (same_at edge_of xs ys k (get_or xs k no_edge) (get_or ys k no_edge) e
    (slice_get-get_or xs k no_edge (omega (arith, c.loop-place-test.true)))
    (slice_get-get_or ys k no_edge (omega (arith, c.loop-place-test.true, c.if-own-other.false))))))

pub loop-place-preserved : goal.loop-place-preserved
loop-place-preserved c =
    let xs = c.args.own.now in
    let ys = c.args.other.now in
    let k = c.loop-place.place in
    same_next edge_of xs ys k (get_or xs k no_edge) (get_or ys k no_edge) c.loop-place.invariant
    (slice_get-get_or xs k no_edge (omega (arith, c.loop-place-test.true)))
    (slice_get-get_or ys k no_edge (omega (arith, c.loop-place-test.true, c.if-own-other.false)))
    (c.if-not-is_same_edge.ensures.0 refl)

pub returns : goal.returns
returns c =
    told_some (same_all edge_of c.args.own.now c.args.other.now c.loop-place.place
    c.loop-place.invariant (omega (arith, c.if-own-other.false))
    (omega (arith, c.loop-place-test.false)))
