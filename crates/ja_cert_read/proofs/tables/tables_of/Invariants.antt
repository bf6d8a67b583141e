use Rattle.std.specs.Vec.Iter.{into_iter_items}
use Rattle.ja_cert_read.proofs.TablesBuilt.{AreFrontTables}
use Rattle.ja_cert_read.proofs.tables.tables_of.Given as goal

-- the tables so far, and what is listed of those behind them
abbrev pub invariant-loop-listed : goal.invariant-loop-listed
invariant-loop-listed l =
    AreFrontTables l.program l.fn.contexts.items (into_iter_items l.listed-iterator) l.tables.items
