use Rattle.std.proofs.Common.{◌≡◌, true, false, List, length, ap, sym, subst, arith, rules}
use Rattle.std.specs.List.Sorted.{IsPartitionedBy, IsPartitionPoint}
use Rattle.std.proofs.lemmas.List.Sorted.{IsPartitionPoint-from_clause}
use Rattle.ja_table.specs.declared.table.CallEdge.{CallEdge}
use Rattle.ja_table.specs.Order.{below_edge, edge_of}
use Rattle.ja_table.proofs.Ordered.{parted_below, place_at}
use Rattle.ja_table.proofs.Places.{edges_order}
use Rattle.ja_table.proofs.table.ATable.edges_below.Goals as goal

pub returns-clause-place : goal.returns-clause-place
returns-clause-place c ordered =
    let e = c.args.edge in
    let ds = c.args.self.now.edges.items in
    let same = c.deref.ensures.value in
    let before = λ (d : CallEdge). below_edge d.edge e in
    place_at edge_of edges_order e ds c.partition_point.result
    (omega (arith, c.partition_point.ensures.bound, ap length same))
    (subst (λ (cs : List CallEdge). IsPartitionPoint (λ d. before d ≡ true)
    (λ d. before d ≡ false) cs c.partition_point.result) same
    (IsPartitionPoint-from_clause before _ _ c.partition_point.ensures.partitioned
    (subst (IsPartitionedBy before) (sym same)
    (parted_below edge_of edges_order e ds ordered))
    (λ a r q k. search rules)))
