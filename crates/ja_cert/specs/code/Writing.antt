-- How a certificate is written piece by piece.
use Rattle.std.specs.Prelude.{ℕ, List, [], ◌∷◌, ◌++◌, map, Option}
use Rattle.std.specs.List.{flat_map}
use Rattle.std.specs.Option.{option_map_or}
use lib.Chars.{codes}
use Rattle.serde_json.specs.Data.{Data, object, member, no_members}
use Rattle.serde_json.specs.Written.{compact_text}
use Rattle.ja_base.specs.declared.ids.FnId.{FnId}
use Rattle.ja_graph.specs.declared.program.Program.{Program}
use Rattle.ja_abstract.specs.AbstractState.{AbstractState}
use Rattle.ja_aheap.specs.Entries.{entries_of}
use Rattle.ja_rows.specs.Table.{node_numbers}
use Rattle.ja_table.specs.declared.table.ContextTable.{ContextTable}
use Rattle.ja_table.specs.Tables.{states_in}
use Rattle.ja_report.specs.Lines.{Line, entry_lines}
use Rattle.ja_rows.specs.Listed.{contexts_of, edges_of}
use Rattle.ja_rows.specs.Table.{Table}
use Rattle.ja_cert.specs.Certificate.{context_data, device_data, edge_data, label_data, line_data, lines_data, listed, state_data, whole}

-- the members of a list, with a comma behind each
unfoldable pub with_commas : List Data → List ℕ
with_commas ds = flat_map (λ (d : Data). compact_text d ++ codes ",") ds

-- lines of a table so
unfoldable pub lines_text : Program → List Line → List ℕ
lines_text p lines = with_commas (map (line_data p) lines)

-- a node of a function, where it has a state
unfoldable pub node_of : Program → FnId → (ℕ → Option AbstractState) → ℕ → List Data
node_of p f states n = option_map_or (λ (a : AbstractState). state_data p f n a ∷ []) (states n) []

-- those of a function that have one, in order
unfoldable pub points_of : Program → FnId → (ℕ → Option AbstractState) → List Data
points_of p f states = flat_map (node_of p f states) (node_numbers p f)

-- a context that a table keeps
unfoldable pub own_data : Program → ContextTable → Data
own_data p c =
    object (member (codes "entries") (lines_data p (entry_lines p (entries_of c.entries)))
    (member (codes "function") (whole c.context.function.0)
    (member (codes "points")
    (listed (points_of p c.context.function (states_in c.nodes.items)))
    (member (codes "receiver") (label_data c.context.receiver) no_members))))

-- what stands before the text of a program
unfoldable pub certificate_front : Program → Table → List ℕ
certificate_front p t =
    codes "{\"contexts\":" ++ compact_text (listed (map (context_data p t) (contexts_of p t)))
    ++ codes ",\"devices\":" ++ compact_text (listed (map device_data p.signatures))
    ++ codes ",\"edges\":" ++ compact_text (listed (map edge_data (edges_of p t)))
