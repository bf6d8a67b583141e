use Rattle.std.proofs.Common.{◌≡◌, ◌++◌, [], ◌∷◌, take}
use Rattle.std.specs.List.{flat_map}
use Rattle.ja_prim.specs.declared.signature.Signature.{Signature}
use Rattle.ja_cert.specs.Certificate.{device_data}
use Rattle.ja_cert.specs.code.Writing.{with_commas}
use Rattle.ja_cert.proofs.whole.push_each_device.Given as goal

abbrev pub invariant-loop-signature : goal.invariant-loop-signature
invariant-loop-signature l =
    l.text.items ≡ l.initial.text.items ++ flat_map (λ (s : Signature). with_commas
    (device_data s ∷ [])) (take l.signature-index l.signatures)
