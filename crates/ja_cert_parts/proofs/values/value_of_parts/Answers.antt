use Rattle.std.specs.Prelude.{◌≡◌, map}
use Rattle.std.proofs.Common.{subst, sym}
use Rattle.ja_abstract.specs.AbstractValue.{AbstractValue}
use Rattle.ja_cert.specs.Certificate.{listed, value_data}
use Rattle.ja_cert_parts.specs.code.Own.{HasOwnLabels}
use Rattle.ja_cert_parts.specs.code.Parts.{part_data}
use Rattle.ja_cert_parts.proofs.ValueLemmas.{parts_written}
use Rattle.ja_value.specs.Value.{labels_in}
use Rattle.ja_cert_parts.proofs.values.value_of_parts.Goals as goal

-- a number part and a text part are of the profile as they are
pub returns : goal.returns
returns c =
    λ p from. subst (λ (v : AbstractValue). (value_data p v
    ≡ listed (map part_data c.args.parts.now)) × HasOwnLabels p v) (λ i. record {
      flags = c.take_flags.result.0;
      number = sym c.number_of_profile.ensures.same i;
      text = sym c.text_of_profile.ensures.same i;
      label = labels_in c.in_ok-labels.labels;
    }) (parts_written p (record {
      flags = c.take_flags.result.0;
      number = c.take_number-number.result.0;
      text = c.in_ok-text.text;
      label = labels_in c.in_ok-labels.labels;
    }) c.args.parts.now c.take_flags.result.1.now c.take_number-number.result.1.now
    c.in_ok-text.parts.now c.take_flags.ensures c.take_number-number.ensures c.in_ok-text.ensures
    c.in_ok-labels.ensures from)
