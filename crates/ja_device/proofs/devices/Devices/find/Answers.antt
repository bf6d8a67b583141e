-- The names of what is seen of the devices are those of the devices.
use Rattle.std.proofs.Common.{ap, ◌∙◌, map, subst}
use Rattle.ja_device.specs.Devices.{Seen, AllSeen}
use Rattle.ja_device.specs.Signatures.{IsPosition}
use Rattle.ja_device.proofs.Signing.{seen_through}
use Rattle.ja_device.proofs.devices.Devices.find.Goals as goal

pub returns : goal.returns
returns g c =
    let name = λ (d : Seen). d.name in
    let through = seen_through name g.D.Device.seen c.deref.result.now
    ∙ ap (λ xs. map name (map g.D.Device.seen xs)) c.deref.ensures.value
    ∙ ap (λ (v : AllSeen). map name v.devices) c.self.view_is in
    subst (λ names. IsPosition names c.args.name.now c.position.result) through c.position.ensures
