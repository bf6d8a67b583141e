use Rattle.std.proofs.Common.{◌∙◌, sym}
use Rattle.ja_table.proofs.Found.{at_some}
use Rattle.ja_rules.proofs.Lent.{item_there, no_item}
use Rattle.ja_table.proofs.Told.{told_by}
use Rattle.ja_check.proofs.following.has_state.Goals as goal

pub returns-in-Some : goal.returns-in-Some
returns-in-Some c =
    let p = c.args.program.now in
    let t = c.args.table.now in
    let own = c.in-Some.own in
    let found = at_some t c.args.context c.at.result c.at.ensures c.requires.ordered own
    c.in-Some.is in
    told_by c.is_some.result
    (λ e. item_there p t c.args.context own.now found c.requires c.args.node c.state.result
    c.state.ensures (sym c.is_some.ensures ∙ e))
    (λ e item. no_item p t c.args.context own.now found c.args.node c.state.result
    c.state.ensures (sym c.is_some.ensures ∙ e) item)
