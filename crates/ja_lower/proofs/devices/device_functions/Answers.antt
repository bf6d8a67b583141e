use Rattle.std.proofs.Common.{length, ap, arith}
use Rattle.ja_lower.proofs.DeviceBodies.{length-devices}
use Rattle.ja_lower.proofs.devices.device_functions.Goals as goal

pub whole_of-requires : goal.whole_of-requires
whole_of-requires c =
    record {
      few = omega (
        arith,
        ap length c.in_ok-bodies.ensures,
        length-devices c.args.signatures.now,
        c.requires.few,
      );
    }
