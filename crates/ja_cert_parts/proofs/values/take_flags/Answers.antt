use Rattle.ja_cert_parts.proofs.ValueLemmas.{takes_flags}
use Rattle.ja_cert_parts.proofs.values.take_flags.Goals as goal

pub returns : goal.returns
returns c =
    takes_flags _ c.args.parts.now c.take_flag-absent.result.1.now c.take_flag-entry.result.1.now
    c.take_flag-row.result.1.now c.take_flag-undefined.result.1.now c.take_flag-null.result.1.now
    c.take_flag-is_true.result.1.now c.take_flag-is_false.result.1.now
    c.take_flag-nan.result.1.now c.take_flag-absent.ensures c.take_flag-entry.ensures
    c.take_flag-row.ensures c.take_flag-undefined.ensures c.take_flag-null.ensures
    c.take_flag-is_true.ensures c.take_flag-is_false.ensures c.take_flag-nan.ensures
