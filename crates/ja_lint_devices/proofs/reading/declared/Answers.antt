-- What is seen of the devices is what the values declare, and so are their signatures.
use Rattle.std.proofs.Common.{ap, ◌∙◌, map, subst, List}
use Rattle.ja_device.specs.Devices.{Seen, AllSeen, signature_of}
use Rattle.ja_device.specs.Signatures as device
use Rattle.ja_device.specs.Signatures.{AreSignatures}
use Rattle.ja_lint_devices.proofs.Refusing.{signatures_seen}
use Rattle.ja_lint_devices.proofs.Words.{texts_of}
use Rattle.ja_lint_devices.proofs.reading.declared.Goals as goal

pub returns-in-Ok-clause-declared : goal.returns-in-Ok-clause-declared
returns-in-Ok-clause-declared c =
    let made = c.in-Ok.ensures.devices
    ∙ ap (λ (seen : List Seen). record { devices = seen; failed = 0 })
    c.in_ok-devices_in.ensures.seen in record {
      kinds = c.in_ok-devices_in.ensures.kinds;
      fit =
          subst AreSignatures (ap (λ (all : AllSeen). map signature_of all.devices) made
          ∙ signatures_seen (texts_of c.args.values.now)) c.in-Ok.ensures.fit;
      devices = made;
    }

pub refusal-requires : goal.refusal-requires
refusal-requires c = (
  c.in_ok-devices_in.ensures.kinds,
  subst (λ signatures. device.IsRefused signatures c.in-Err.fault)
      (ap (map signature_of) c.in_ok-devices_in.ensures.seen
      ∙ signatures_seen (texts_of c.args.values.now)) c.in-Err.ensures.refused,
)
