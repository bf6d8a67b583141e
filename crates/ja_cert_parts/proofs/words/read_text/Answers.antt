use Rattle.ja_cert_parts.proofs.UnitLemmas.{few_units}
use Rattle.ja_cert_parts.proofs.words.read_text.Goals as goal

pub from_units-requires : goal.from_units-requires
from_units-requires c =
    let read = rw c.in-Some.is at c.in_ok-units.ensures in
    few_units c.args.digits.now c.in-Some.units.items read.1 c.if-digits.false
