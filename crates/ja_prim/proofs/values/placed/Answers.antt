use Rattle.std.proofs.Common.{◌∙◌, sym}
use Rattle.std.specs.Str.Parse.{digits_value}
use Rattle.ja_prim.proofs.Placing.{code_below, code_above}
use Rattle.ja_prim.proofs.values.placed.Goals as goal

pub returns-then-below : goal.returns-then-below
returns-then-below c =
    rw c.if-below.true (c.cut.ensures
    ∙ sym (code_below c.args.negative c.args.whole.now c.args.places.now
    (digits_value 10 c.args.exponent.now) c.capped_after-power.result
    c.saturating_sub-count.result
    c.requires.all c.requires.short c.capped_after-power.ensures c.saturating_sub-count.ensures))

pub returns-else-below : goal.returns-else-below
returns-else-below c =
    rw c.if-below.false (c.cut-else-below.ensures
    ∙ sym (code_above c.args.negative c.args.whole.now c.args.places.now
    (digits_value 10 c.args.exponent.now) c.capped_after-power.result c.min.result
    c.saturating_sub.result
    c.requires.all c.requires.short_places c.capped_after-power.ensures c.min.ensures
    c.saturating_sub.ensures))
