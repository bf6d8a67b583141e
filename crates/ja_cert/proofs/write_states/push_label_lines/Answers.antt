use Rattle.ja_cert.proofs.StateLemmas.{object_unkept}
use Rattle.ja_cert.proofs.write_states.push_label_lines.Goals as goal

pub returns-then-is_as_at_entry : goal.returns-then-is_as_at_entry
returns-then-is_as_at_entry c =
    object_unkept _ _ _ _ (c.is_as_at_entry.ensures.0 c.if-is_as_at_entry.true)
