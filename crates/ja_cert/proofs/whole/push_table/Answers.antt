use Rattle.std.proofs.Common.{◌++◌, ◌∙◌, List, ap, map}
use Rattle.serde_json.specs.Written.{compact_text}
use Rattle.ja_prim.specs.declared.signature.Signature.{Signature}
use Rattle.ja_cert.specs.Certificate.{device_data, listed}
use Rattle.ja_cert.specs.code.Writing.{certificate_front}
use Rattle.ja_cert.proofs.Wholes.{six}
use Rattle.ja_cert.proofs.whole.push_table.Goals as goal

pub returns : goal.returns
unfolding certificate_front
returns c =
    six _ _ _ _ _ _ _ _ _ _ _ _ _ c.in_ok-extend_from_slice.ensures.items
    c.in_ok-push_contexts.ensures c.in_ok-extend_from_slice-2.ensures.items
    (c.in_ok-push_devices.ensures ∙ ap (λ (ss : List Signature).
    c.extend_from_slice-2.new.self.items ++ compact_text (listed (map device_data ss)))
    c.signatures.ensures) c.in_ok-extend_from_slice-3.ensures.items c.in_ok-push_edges.ensures
