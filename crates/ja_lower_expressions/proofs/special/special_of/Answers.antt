use Rattle.std.proofs.Common.{sym, ◌∙◌, refl}
use Rattle.ja_lower_expressions.proofs.SpecialLemmas.{found, missing, of_all}
use Rattle.ja_lower_expressions.proofs.special.special_of.Goals as goal

pub returns-then-spells : goal.returns-then-spells
returns-then-spells c =
    found c.args.name.now c.loop-table.table.now _ c.in-len1-up.len_at_least
    (sym c.spells.ensures ∙ c.if-spells.true)
    ∙ c.loop-table.invariant ∙ of_all c.args.name.now _ refl

pub returns : goal.returns
returns c =
    missing c.args.name.now c.loop-table.table.now c.in_default.len_below ∙ c.loop-table.invariant
    ∙ of_all c.args.name.now _ refl
