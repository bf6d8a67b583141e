use Rattle.std.proofs.Common.{◌∙◌, refl, sym}
use Rattle.ja_table.specs.Tables.{table_of}
use Rattle.ja_rules.proofs.SettledItems.{lacks_one}
use Rattle.ja_rules.proofs.settled.has_edges.Goals as goal

pub returns-then-not-has_edge : goal.returns-then-not-has_edge
returns-then-not-has_edge c = λ lacks.
    lacks_one (table_of c.args.table.now) c.args.edges.now c.loop-edge.edge-index _ _ refl
    c.loop-edge-test.true (sym c.has_edge.ensures ∙ c.if-not-has_edge.true)
