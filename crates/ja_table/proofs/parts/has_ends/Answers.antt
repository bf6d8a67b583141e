use Rattle.std.proofs.Common.{◌∙◌, sym}
use Rattle.ja_table.proofs.OrderedParts.{ends_told, reached_told}
use Rattle.ja_table.proofs.parts.has_ends.Goals as goal

pub returns : goal.returns
returns c =
    let t = c.args.table.now in
    let e = c.args.kept.edge in
    ends_told t.contexts.items c.args.kept c.is_some-has_caller.result c.is_some-has_callee.result
    (reached_told t e.caller c.place_of.result c.requires c.place_of.ensures.found
    c.place_of.ensures.within ∙ sym c.is_some-has_caller.ensures)
    (reached_told t e.callee c.place_of-2.result c.requires c.place_of-2.ensures.found
    c.place_of-2.ensures.within ∙ sym c.is_some-has_callee.ensures)
