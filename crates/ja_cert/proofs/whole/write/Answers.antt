use Rattle.std.proofs.Common.{◌++◌, ◌∙◌, ap, map, refl}
use Rattle.std.specs.String.{string_bytes}
use Rattle.serde_json.specs.Data.{Data, string}
use Rattle.serde_json.specs.Written.{compact_text}
use Rattle.ja_rows.specs.Listed.{contexts_of, edges_of}
use Rattle.ja_table.specs.Tables.{table_of}
use Rattle.ja_cert.specs.Certificate.{certificate_data, context_data, device_data, edge_data, item_data, listed}
use Rattle.ja_cert.specs.code.Writing.{certificate_front}
use Rattle.ja_cert.proofs.Floats.{none_of}
use Rattle.ja_cert.proofs.Wholes.{certificate_written}
use Rattle.ja_cert.proofs.whole.write.Goals as goal

pub push_value-requires : goal.push_value-requires
push_value-requires c = none_of _ _ c.in_ok-try_from_str.ensures refl

pub returns : goal.returns
unfolding certificate_front certificate_data
returns c =
    let p = c.args.program.now in
    let t = table_of c.args.table.now in
    certificate_written _ _ _ _ _ _ _ (listed (map (context_data p t) (contexts_of p t)))
    (listed (map device_data p.signatures)) (listed (map edge_data (edges_of p t)))
    (string (string_bytes p.text)) (listed (map item_data c.args.visits.now))
    c.new-text.ensures.items c.in_ok-push_table.ensures c.in_ok-extend_from_slice.ensures.items
    (c.in_ok-push_value.ensures
    ∙ ap (λ (d : Data). c.extend_from_slice.new.self.items ++ compact_text d)
    (c.in_ok-try_from_str.ensures ∙ ap string c.as_str.ensures.value))
    c.in_ok-extend_from_slice-2.ensures.items c.in_ok-push_visits.ensures
    c.in_ok-extend_from_slice-3.ensures.items
