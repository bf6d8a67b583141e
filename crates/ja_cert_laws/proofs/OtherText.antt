-- Programs that differ in their text alone: what a certificate lists is listed the same, and the
-- same is wrong.
use Rattle.std.proofs.Common.{◌≡◌, refl}
use Rattle.std.specs.Prelude.{String}
use Rattle.std.specs.declared.alloc.Global.{Global}
use Rattle.serde_json.specs.Data.{Data}
use Rattle.ja_graph.specs.declared.program.Program.{Program}
use Rattle.ja_table.specs.Tables.{FitsContext}
use Rattle.ja_table.specs.declared.table.ContextTable.{ContextTable}
use Rattle.ja_report.specs.Lines as lines
use Rattle.ja_report.specs.Lines.{entry_lines, is_undefined, mask_lines, object_lines, property_line, property_lines, register_line, register_lines}
use Rattle.ja_cert.specs.Certificate.{context_data, line_data, points_data, state_data, value_data}
use Rattle.ja_cert.specs.Wrong.{along_wrong, attrs_wrong, behind_word_wrong, context_wrong, edge_shape_wrong, edge_wrong, entry_wrong, item_wrong, mask_wrong, owned_wrong, part_wrong, point_wrong, property_wrong, register_wrong, step_wrong, value_wrong, wrong_of}
use Rattle.ja_cert_read.specs.code.Contexts.{own_data}

module _ (p : Program) (s : String Global) where
  abbrev pub other : Program
  other = record p { text = s }

  pub own_same : (c : ContextTable) → own_data other c ≡ own_data p c
  unfolding own_data context_data points_data state_data line_data value_data
      entry_lines register_lines register_line is_undefined
      property_lines object_lines property_line lines.is_entry mask_lines
  own_same c = refl

  pub fits_same : (c : ContextTable) → FitsContext other c → FitsContext p c
  fits_same c h = record {
    context = record { function = h.context.function; receiver = h.context.receiver };
    nodes = h.nodes;
    states = λ n a is.
        let kept = h.states n a is in
        record {
          heap = record { sites = kept.heap.sites; names = kept.heap.names };
          registers = kept.registers;
        };
    labels = h.labels;
    keys = h.keys;
  }

  pub wrong_same : (d : Data) → wrong_of other d ≡ wrong_of p d
  unfolding along_wrong attrs_wrong behind_word_wrong context_wrong edge_shape_wrong edge_wrong
      entry_wrong item_wrong mask_wrong owned_wrong part_wrong point_wrong
      property_wrong register_wrong step_wrong value_wrong wrong_of
  wrong_same d = refl
