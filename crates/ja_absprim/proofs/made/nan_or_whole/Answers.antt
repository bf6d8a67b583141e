use Rattle.std.proofs.Common.{ap}
use Rattle.ja_abstract.specs.declared.abstraction.NumberPart.TheVariants as number_part
use Rattle.ja_abstract.specs.AbstractValue.{AbstractValue}
use Rattle.ja_absprim.proofs.made.nan_or_whole.Goals as goal

pub returns : goal.returns
returns c =
    ap (λ (v : AbstractValue). record v { number = number_part.Whole }) c.nan-value.ensures
