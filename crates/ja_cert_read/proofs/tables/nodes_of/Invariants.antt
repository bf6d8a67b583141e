use Rattle.std.specs.Vec.Iter.{into_iter_items}
use Rattle.ja_cert_read.proofs.TablesBuilt.{IsFront}
use Rattle.ja_cert_read.proofs.tables.nodes_of.Given as goal

-- the nodes so far, and what is listed of those behind them
abbrev pub invariant-loop-point : goal.invariant-loop-point
invariant-loop-point l =
    IsFront l.program l.function l.fn.points.items (into_iter_items l.point-iterator) l.nodes.items
