use Rattle.ja_cert.proofs.StateLemmas.{property_unkept}
use Rattle.ja_cert.proofs.write_states.push_key_line.Goals as goal

pub returns-in_default : goal.returns-in_default
returns-in_default c = property_unkept _ _ _ _ _ c.in_default.ensures
