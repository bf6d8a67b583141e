-- What clauses of the code cite beside `Table`, and no believed statement.
use Rattle.std.specs.Prelude.{ℕ, List, map}
use Rattle.std.specs.Borrow.{Bor}
use Rattle.ja_graph.specs.declared.attrs.Attrs.{Attrs}
use Rattle.ja_prelude.specs.declared.table.BuiltinObject.{BuiltinObject}
use Rattle.ja_prelude.specs.declared.table.Content.{Content}
use Rattle.ja_prelude.specs.Table.{TableEntry, entry_of, TableRow, row_of}

-- a property, and a row, as the code goes over them
abbrev pub SeenEntry : Type 0
SeenEntry = Bor (List ℕ) × Content × Attrs

abbrev pub SeenRow : Type 0
SeenRow = Bor (List ℕ) × BuiltinObject × Bor (List SeenEntry)

abbrev pub seen_entry : SeenEntry → TableEntry
seen_entry e = entry_of e.0.now e.1 e.2

abbrev pub seen_row : SeenRow → TableRow
seen_row row = row_of row.0.now row.1 (map seen_entry row.2.now)
