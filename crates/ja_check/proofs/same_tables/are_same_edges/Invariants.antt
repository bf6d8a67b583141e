-- The edges so far are the same.
use Rattle.ja_table.specs.declared.table.CallEdge.{CallEdge}
use Rattle.ja_check.proofs.Lists.{AreSameTo}
use Rattle.ja_check.proofs.same_tables.are_same_edges.Given as goal

abbrev pub invariant-loop-place : goal.invariant-loop-place
invariant-loop-place l = AreSameTo (λ (d : CallEdge). d.edge) l.own l.other l.place
