-- Programs that differ in their text alone have the same report.
use Rattle.std.proofs.Common.{◌≡◌, Bool, List, refl}
use Rattle.std.specs.Prelude.{String}
use Rattle.std.specs.declared.alloc.Global.{Global}
use Rattle.ja_graph.specs.declared.program.Program.{Program}
use Rattle.ja_rows.specs.declared.table.Item.{Item}
use Rattle.ja_rows.specs.declared.table.Warning.{Warning}
use Rattle.ja_rows.specs.Table.{Table}
use Rattle.ja_report.specs.Lines.{context_lines, context_text, entry_lines, is_undefined, line_sites, line_text, mask_lines, node_lines, object_lines, owner_text, point_lines, property_line, property_lines, property_text, register_line, register_lines, state_lines}
use Rattle.ja_report.specs.Lines as lines
use Rattle.ja_report.specs.Report.{edge_text, edges_text, info_text, is_text_site, item_text, named_sites, report_head, report_text, site_line, sites_text, visits_text}
use Rattle.ja_report.specs.Texts.{device_of, key_text, label_text, site_text, value_parts, value_text}

module _ (p : Program) (s : String Global) where
  pub report_same : (t : Table) (visits : List Item) (built : Bool) (ws : List Warning)
      → report_text (record p { text = s }) t visits built ws ≡ report_text p t visits built ws
  unfolding context_lines context_text entry_lines is_undefined line_sites line_text mask_lines
      node_lines object_lines owner_text point_lines property_line property_lines property_text
      register_line register_lines state_lines lines.is_entry edge_text edges_text info_text
      is_text_site item_text named_sites report_head report_text site_line sites_text visits_text
      device_of key_text label_text site_text value_parts value_text
  report_same t visits built ws = refl
