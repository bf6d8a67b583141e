-- those so far can be a program's, and there are at most 64
use Rattle.std.proofs.Common.{◌≤◌, length, map, take}
use Rattle.ja_device.specs.Devices.{signature_of}
use Rattle.ja_device.specs.Signatures.{AreSignatures}
use Rattle.ja_device.proofs.refusing.judged.Given as goal

abbrev pub invariant-loop-index : goal.invariant-loop-index
invariant-loop-index g l = record {
  few : length l.list ≤ 64;
  before : AreSignatures (take l.index (map (λ d. signature_of (g.D.Device.seen d)) l.list));
}
