-- the signatures so far
use Rattle.std.proofs.Common.{◌≡◌, map, take}
use Rattle.ja_device.specs.Devices.{signature_of}
use Rattle.ja_device.proofs.devices.Devices.signatures.Given as goal

abbrev pub invariant-loop-device : goal.invariant-loop-device
invariant-loop-device g l = record {
  devices : map g.D.Device.seen l.device-items ≡ l.self.devices;
  so_far : l.signatures.items ≡ take l.device-index
      (map signature_of (map g.D.Device.seen l.device-items));
}
