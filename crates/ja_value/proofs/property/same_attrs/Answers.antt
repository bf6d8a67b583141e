use Rattle.ja_value.proofs.FlagLemmas.{attrs_decided}
use Rattle.ja_value.proofs.property.same_attrs.Goals as goal

pub returns : goal.returns
returns c = attrs_decided c.args.a c.args.b c.eq.result c.eq.ensures
