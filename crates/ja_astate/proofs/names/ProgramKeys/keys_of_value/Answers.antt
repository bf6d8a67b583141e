use Rattle.std.proofs.Common.{ap, ◌∙◌}
use Rattle.ja_value.specs.Value.{value_of}
use Rattle.ja_astate.specs.code.Insertion.{with_text, with_number, with_nan}
use Rattle.ja_astate.proofs.ValueLemmas.{all_inserted}
use Rattle.ja_astate.proofs.names.ProgramKeys.keys_of_value.Goals as goal

pub returns : goal.returns
returns c = λ p is.
    let v = value_of c.args.value.now in
    c.in_ok-insert_nan.ensures p is
    ∙ ap (with_nan p v.flags.nan) (c.in_ok-insert_number.ensures p is
    ∙ ap (with_number p v.number) (c.in_ok-insert_text.ensures p is
    ∙ ap (with_text p v.text) (c.in_ok-keys.ensures.items ∙ c.of_classes.ensures p is)))
    ∙ all_inserted p is.apart v
