-- The rows of the table as the code goes over them, and as the table says them.
use Rattle.std.specs.Prelude.{◌≡◌, IsTrue, List, [], ◌∷◌, map}
use Rattle.std.specs.List.{list_all}
use Rattle.std.proofs.Common.{refl, ap, ◌∙◌}
use Rattle.ja_graph.specs.declared.program.ObjectSpec.{ObjectSpec}
use Rattle.ja_graph.specs.declared.program.PropertySpec.{PropertySpec}
use Rattle.ja_prim.specs.Texts.{is_short}
use Rattle.ja_prelude.specs.Table.{TableRow, object_of, object_with, property_of, table_rows}
use Rattle.ja_prelude.specs.code.Table.{SeenEntry, SeenRow, seen_entry, seen_row}

-- what is made of a row
abbrev pub made_of : SeenRow → ObjectSpec
made_of row = object_with row.1 (map (λ e. property_of (seen_entry e)) row.2.now)

pub properties_of_entries : (entries : List SeenEntry)
    → map (λ e. property_of (seen_entry e)) entries ≡ map property_of (map seen_entry entries)
properties_of_entries [] = refl
properties_of_entries (e ∷ entries) =
    ap (λ l. property_of (seen_entry e) ∷ l) (properties_of_entries entries)

pub objects_of_rows : (rows : List SeenRow)
    → map made_of rows ≡ map object_of (map seen_row rows)
objects_of_rows [] = refl
objects_of_rows (row ∷ rows) =
    ap (λ properties. object_with row.1 properties ∷ map made_of rows)
    (properties_of_entries row.2.now)
    ∙ ap (λ l. object_of (seen_row row) ∷ l) (objects_of_rows rows)

pub paths_are_short : IsTrue (list_all (λ (row : TableRow). is_short row.path) table_rows)
paths_are_short = refl
