use Rattle.std.proofs.Common.{◌≡◌, true, false, not, List, length, ap, sym, subst, arith, rules}
use Rattle.std.specs.List.Sorted.{IsPartitionedBy, IsPartitionPoint}
use Rattle.std.proofs.lemmas.List.Sorted.{IsPartitionPoint-from_clause}
use Rattle.ja_table.specs.declared.table.ContextTable.{ContextTable}
use Rattle.ja_table.specs.Order.{below_context, context_of}
use Rattle.ja_table.proofs.Ordered.{parted_above}
use Rattle.ja_table.proofs.Places.{contexts_order, place_behind_context}
use Rattle.ja_table.proofs.table.ATable.contexts_up_to.Goals as goal

pub returns : goal.returns
returns c ordered =
    let x = c.args.context in
    let cs = c.args.self.now.contexts.items in
    let same = c.deref.ensures.value in
    let before = λ (d : ContextTable). not (below_context x d.context) in
    place_behind_context x cs c.partition_point.result
    (omega (arith, c.partition_point.ensures.bound, ap length same))
    (subst (λ (ds : List ContextTable). IsPartitionPoint (λ d. before d ≡ true)
    (λ d. before d ≡ false) ds c.partition_point.result) same
    (IsPartitionPoint-from_clause before _ _ c.partition_point.ensures.partitioned
    (subst (IsPartitionedBy before) (sym same)
    (parted_above context_of contexts_order x cs ordered))
    (λ a r q k. search rules)))
