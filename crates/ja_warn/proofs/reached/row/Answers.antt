use Rattle.std.proofs.Common.{false, ap, ◌∙◌}
use Rattle.ja_abstract.specs.AbstractState.{labels_of}
use Rattle.ja_abstract.specs.AbstractValue.{AbstractProperty, has_part}
use Rattle.ja_warn.proofs.reached.row.Goals as goal

pub returns : goal.returns
returns c =
    let labels = labels_of c.args.reader.now.program.now in
    let read = c.in_ok-property.ensures.property in
    record {
      fault = ap (λ (q : AbstractProperty). q.value.flags.row) read;
      more =
          c.has_part_with.ensures ∙ ap (λ (q : AbstractProperty). has_part labels (record q.value {
            flags = record q.value.flags { row = false };
          })) read;
    }
