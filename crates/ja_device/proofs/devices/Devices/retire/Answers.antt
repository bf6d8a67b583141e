-- What is seen of the devices that are left is what was seen of all, with one taken out.
use Rattle.std.proofs.Common.{◌++◌, suc, sym, ap, ◌∙◌, take, drop, subst, add-one}
use Rattle.ja_device.specs.Devices.{AllSeen, signature_of}
use Rattle.ja_device.specs.Signatures.{AreSignatures}
use Rattle.ja_device.proofs.Signing.{one_fewer, one_fewer_seen}
use Rattle.ja_device.proofs.devices.Devices.retire.Goals as goal

pub invariant_of-self : goal.invariant_of-self
invariant_of-self g c =
    let left = one_fewer_seen g.D.Device.seen c.self.inside.list.items c.remove.new.self.items
    c.args.index c.remove.ensures.items in
    subst AreSignatures (sym (one_fewer_seen signature_of _ _ c.args.index left))
    (one_fewer _ c.args.index c.self.invariant)

pub returns : goal.returns
returns g c =
    ap (λ ds. record { devices = ds; failed = c.self.inside.failed })
    (one_fewer_seen g.D.Device.seen c.self.inside.list.items c.remove.new.self.items
    c.args.index c.remove.ensures.items)
    ∙ ap (λ (v : AllSeen). record v {
      devices = take c.args.index v.devices
          ++ drop (suc c.args.index) v.devices;
    }) c.self.view_is
    ∙ ap (λ n. record c.args.self.now {
      devices = take c.args.index c.args.self.now.devices
          ++ drop n c.args.self.now.devices;
    }) (sym (add-one c.args.index))
