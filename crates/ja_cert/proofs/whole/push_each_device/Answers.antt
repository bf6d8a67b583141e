use Rattle.ja_cert.specs.Certificate.{device_data}
use Rattle.ja_cert.proofs.Commas.{commas_listed}
use Rattle.ja_cert.proofs.Names.{device_name}
use Rattle.ja_cert.proofs.Floats.{device_none, none_of}
use Rattle.ja_cert.proofs.whole.push_each_device.Goals as goal

pub device-requires : goal.device-requires
device-requires c =
    device_name c.args.signatures.now c.loop-signature.signature-index _ c.requires
    c.loop-signature-test.true c.signature-item.is

pub push_member-requires : goal.push_member-requires
push_member-requires c = none_of _ _ c.in_ok-device.ensures (device_none _)

pub returns : goal.returns
returns c = commas_listed device_data _ _ _ _ c.loop-signature.invariant c.loop-signature-test.false
