use Rattle.std.proofs.Common.{◌∙◌, sym}
use Rattle.ja_cert.proofs.StateLemmas.{line_float, property_written}
use Rattle.ja_cert.proofs.write_states.push_property.Goals as goal

pub push_member-requires : goal.push_member-requires
push_member-requires c = line_float _ _ _ c.in_ok-line.ensures

pub returns : goal.returns
returns c =
    property_written _ _ _ _ _ _ _ _ (sym c.is_entry.ensures ∙ c.if-is_entry.false)
    c.in_ok-line.ensures c.push_member.ensures
