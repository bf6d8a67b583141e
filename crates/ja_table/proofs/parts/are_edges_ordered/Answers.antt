use Rattle.std.proofs.Common.{◌-◌, arith, false, get_or, sym, ◌∙◌}
use Rattle.std.proofs.lemmas.Bool.{false≢true}
use Rattle.std.proofs.lemmas.Option.{slice_get-get_or}
use Rattle.ja_base.specs.declared.ids.Context.{Context}
use Rattle.ja_table.specs.declared.table.CallEdge.{CallEdge}
use Rattle.ja_table.specs.Order.{edge_of}
use Rattle.ja_table.proofs.OrderedParts.{adjacent_at, adjacent_next, none_adjacent, ordered_all}
use Rattle.ja_table.proofs.Places.{edges_order}
use Rattle.ja_table.proofs.Told.{told_none, told_some}
use Rattle.ja_table.proofs.parts.are_edges_ordered.Goals as goal

abbrev no_context : Context
no_context = record {
  function = record { 0 = 0 };
  receiver = record { site = record { 0 = 0 }; old = false };
}

abbrev no_edge : CallEdge
no_edge = record {
  edge = record { caller = no_context; node = record { 0 = 0 }; callee = no_context };
}

pub loop-place-init : goal.loop-place-init
loop-place-init c =
    record { some = omega arith; before = none_adjacent edge_of edges_order c.args.edges.now }

pub returns-then-not-is_edge_below : goal.returns-then-not-is_edge_below
returns-then-not-is_edge_below c =
    let xs = c.args.edges.now in
    let n = c.loop-place.place in
    let a = get_or xs (n - 1) no_edge in
    let b = get_or xs n no_edge in
    told_none (λ ordered. false≢true (c.if-not-is_edge_below.ensures
    ∙ adjacent_at edge_of edges_order xs n a b c.loop-place.invariant.some ordered
    (slice_get-get_or xs (n - 1) no_edge (omega (arith, c.loop-place-test.true)))
    (slice_get-get_or xs n no_edge (omega (arith, c.loop-place-test.true)))))

pub loop-place-preserved : goal.loop-place-preserved
loop-place-preserved c =
    let xs = c.args.edges.now in
    let n = c.loop-place.place in
    let a = get_or xs (n - 1) no_edge in
    let b = get_or xs n no_edge in
    record {
      some = omega arith;
      before = adjacent_next edge_of edges_order xs n a b c.loop-place.invariant.some
          c.loop-place.invariant.before
          (slice_get-get_or xs (n - 1) no_edge (omega (arith, c.loop-place-test.true)))
          (slice_get-get_or xs n no_edge (omega (arith, c.loop-place-test.true)))
          (sym c.if-not-is_edge_below.ensures);
    }

pub returns : goal.returns
returns c =
    told_some (ordered_all edge_of edges_order c.args.edges.now c.loop-place.place
    c.loop-place.invariant.before (omega (arith, c.loop-place-test.false)))
