use Rattle.ja_astate.proofs.ValueLemmas.{no_text}
use Rattle.ja_astate.proofs.names.ProgramKeys.insert_text.Goals as goal

pub returns-in_default : goal.returns-in_default
returns-in_default c = λ p is.
    no_text p c.args.text.now c.args.keys.now.items (λ u. c.in_default.not-One u)
