-- Items whose visit changes nothing.
use Rattle.std.specs.Prelude.{◌≡◌, List, true, false}
use Rattle.std.specs.List.{list_any}
use Rattle.ja_graph.specs.declared.program.Program.{Program}
use Rattle.ja_rows.specs.declared.table.Edge.{Edge}
use Rattle.ja_rows.specs.declared.table.Item.{Item}
use Rattle.ja_rows.specs.Table.{same_edge, Table, visited}

-- the table lacks one of some edges
abbrev pub LacksOneOf : Table → List Edge → Type 0
LacksOneOf t es =
    (e : Edge) × (list_any (λ (d : Edge). same_edge d e) es ≡ true) × (t.edge e ≡ false)

-- a visit of the item doesn't change the table
abbrev pub IsSettled : Program → Table → Item → Type 0
IsSettled p t item = visited p t item ≡ t
