use Rattle.ja_value.proofs.FlagLemmas.{flags_decided}
use Rattle.ja_value.proofs.value.same_flags.Goals as goal

pub returns : goal.returns
returns c = flags_decided c.args.a c.args.b c.eq.result c.eq.ensures
