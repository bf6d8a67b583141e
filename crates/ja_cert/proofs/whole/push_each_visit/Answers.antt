use Rattle.ja_cert.specs.Certificate.{item_data}
use Rattle.ja_cert.proofs.Commas.{commas_listed}
use Rattle.ja_cert.proofs.Floats.{item_none, none_of}
use Rattle.ja_cert.proofs.whole.push_each_visit.Goals as goal

pub push_member-requires : goal.push_member-requires
push_member-requires c = none_of _ _ c.in_ok-item.ensures (item_none _)

pub returns : goal.returns
returns c = commas_listed item_data _ _ _ _ c.loop-visit.invariant c.loop-visit-test.false
