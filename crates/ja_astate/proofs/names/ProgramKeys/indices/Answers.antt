use Rattle.std.proofs.Common.{◌∙◌}
use Rattle.ja_astate.proofs.KeyLemmas.{indices_are}
use Rattle.ja_astate.proofs.names.ProgramKeys.indices.Goals as goal

pub returns : goal.returns
returns c = λ p is. c.deref.ensures.value ∙ is.numbers.indices ∙ indices_are p
