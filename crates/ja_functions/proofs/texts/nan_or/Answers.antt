use Rattle.std.specs.Prelude.{true}
use Rattle.std.proofs.Common.{ap}
use Rattle.ja_abstract.specs.AbstractValue.{AbstractValue}
use Rattle.ja_functions.proofs.texts.nan_or.Goals as goal

pub returns : goal.returns
returns c =
    ap (λ (v : AbstractValue). let flags = v.flags in
    record v { flags = record flags { nan = true } }) c.of_number_part-value.ensures
