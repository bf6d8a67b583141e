use Rattle.std.proofs.Common.{◌≡◌, take}
use Rattle.ja_value.specs.Value.{labels_in}
use Rattle.ja_cert_parts.proofs.ValueLemmas.{among}
use Rattle.ja_cert_parts.proofs.values.labels_among.Given as goal

abbrev pub invariant-loop-part : goal.invariant-loop-part
invariant-loop-part l = labels_in l.labels ≡ among (take l.part-index l.parts)
