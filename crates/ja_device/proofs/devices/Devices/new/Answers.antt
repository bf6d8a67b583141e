-- What is judged is what is seen of the list.
use Rattle.std.proofs.Common.{subst}
use Rattle.ja_device.specs.Signatures.{AreSignatures, IsRefused}
use Rattle.ja_device.proofs.Signing.{signatures_seen}
use Rattle.ja_device.proofs.devices.Devices.new.Goals as goal

pub invariant_of-result : goal.invariant_of-result
invariant_of-result g c =
    subst AreSignatures (signatures_seen g.D.Device.seen _ _ c.deref.ensures.value)
    c.in-None.ensures

pub returns-in-None-clause-fit : goal.returns-in-None-clause-fit
returns-in-None-clause-fit g c =
    subst AreSignatures (signatures_seen g.D.Device.seen _ _ c.deref.ensures.value)
    c.in-None.ensures

pub returns-in-Some-clause-refused : goal.returns-in-Some-clause-refused
returns-in-Some-clause-refused g c =
    subst (λ ss. IsRefused ss c.in-Some.fault)
    (signatures_seen g.D.Device.seen _ _ c.deref.ensures.value) c.in-Some.ensures
