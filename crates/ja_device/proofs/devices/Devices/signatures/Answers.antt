-- The next signature is that of the next device, and its name is short.
use Rattle.std.proofs.Common.{◌≤◌, ap, sym, ◌∙◌, length, map, subst, arith}
use Rattle.ja_device.specs.Devices.{signature_of}
use Rattle.ja_device.specs.Signatures.{AreSignatures}
use Rattle.ja_device.proofs.Signing.{short_seen, next_signature}
use Rattle.ja_device.proofs.devices.Devices.signatures.Goals as goal

pub from_ascii-requires : goal.from_ascii-requires
from_ascii-requires g c =
    let are = subst (λ ds. AreSignatures (map signature_of (map g.D.Device.seen ds)))
    (sym c.deref-device-items.ensures.value) c.self.invariant in
    let short : length (g.D.Device.seen c.device-item.result).name
    ≤ 64 = short_seen g.D.Device.seen _ c.loop-device.device-index c.device-item.result
    c.loop-device-test.true c.device-item.is are in
    omega (arith, ap length c.as_bytes.ensures.value, ap length c.name.ensures)

pub loop-device-preserved : goal.loop-device-preserved
loop-device-preserved g c = record {
  devices = c.loop-device.invariant.devices;
  so_far =
      next_signature g.D.Device.seen _ c.loop-device.device-index c.device-item.result
      c.loop-device-test.true c.device-item.is _ _ c.in_ok-name.name c.kinds-kinds.result
      c.loop-device.invariant.so_far
      (c.in_ok-name.ensures ∙ c.as_bytes.ensures.value ∙ c.name.ensures) c.kinds-kinds.ensures
      c.in_ok-push.ensures.items;
}
