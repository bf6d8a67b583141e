use Rattle.ja_cert.proofs.StateLemmas.{line_float, mask_written}
use Rattle.ja_cert.proofs.write_states.push_mask.Goals as goal

pub push_member-requires : goal.push_member-requires
push_member-requires c = line_float _ _ _ c.in_ok-line.ensures

pub returns : goal.returns
returns c =
    mask_written _ _ _ _ _ _ _ c.if-mask.false c.in_ok-line.ensures c.push_member.ensures
