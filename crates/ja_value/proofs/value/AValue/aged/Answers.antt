use Rattle.ja_value.proofs.ValueLemmas.{aged_copy}
use Rattle.ja_value.specs.Value.{value_of}
use Rattle.ja_value.proofs.value.AValue.aged.Goals as goal

pub returns : goal.returns
returns c =
    aged_copy (value_of c.in_ok-value.value) _ _ c.args.site c.in_ok-value.ensures
    c.in_ok-age.ensures.aged
