use Rattle.std.proofs.Common.{ap, sym, ◌∙◌, Some}
use Rattle.ja_astate.proofs.NameLemmas.{name_added}
use Rattle.ja_astate.proofs.names.add_name.Goals as goal

pub returns : goal.returns
returns c = λ has t.
    name_added c.args.program.now c.requires.program.distinct t c.in_ok-text.text c.args.number _ _
    c.requires.number (c.name.ensures ∙ ap Some (sym c.in_ok-text.ensures))
    (c.in_ok-insert.ensures.updates.0 t) (has t)
