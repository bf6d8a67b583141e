use Rattle.std.proofs.Common.{◌≡◌, None, subst}
use Rattle.std.proofs.lemmas.Result.{IfOk-weaker}
use Rattle.ja_base.specs.declared.ids.Context.{Context}
use Rattle.ja_table.specs.Tables.{find_context}
use Rattle.ja_table.proofs.Found.{at_none, at_some, state_none, state_some}
use Rattle.ja_table.proofs.Told.{told_none}
use Rattle.ja_check.proofs.Opening.{no_state, not_found, opening_told, own_shape}
use Rattle.ja_check.proofs.checking.has_opening.Goals as goal

pub returns-in_default : goal.returns-in_default
returns-in_default c =
    let t = c.args.table.now in
    told_none (not_found c.args.program.now t
    (subst (λ (x : Context). find_context x t.contexts.items ≡ None) c.own_context.ensures
    (at_none t c.own_context.result c.at.result c.at.ensures c.requires.fits.ordered
    c.in_default.is)))

pub returns-in_default-state : goal.returns-in_default-state
returns-in_default-state c =
    let t = c.args.table.now in
    let own = c.in-Some.own in
    told_none (no_state c.args.program.now t c.own_context.result own.now c.own_context.ensures
    (at_some t c.own_context.result c.at.result c.at.ensures c.requires.fits.ordered own
    c.in-Some.is) (state_none own.now.nodes.items 0 c.state.result c.state.ensures
    c.in_default-state.is))

pub is_leq-requires : goal.is_leq-requires
is_leq-requires c =
    let t = c.args.table.now in
    let own = c.in-Some.own in
    own_shape c.args.program.now t c.own_context.result own.now c.own_context.ensures
    (at_some t c.own_context.result c.at.result c.at.ensures c.requires.fits.ordered own
    c.in-Some.is) c.requires.fits c.in-Some-state.state.now c.in_ok-opening.opening
    (state_some own.now.nodes.items 0 c.state.result c.in-Some-state.state c.state.ensures
    c.in-Some-state.is) c.in_ok-opening.ensures.shape

pub returns : goal.returns
returns c =
    let t = c.args.table.now in
    let own = c.in-Some.own in
    IfOk-weaker c.is_leq.result _ _ (opening_told c.args.program.now t c.own_context.result own.now
    c.own_context.ensures (at_some t c.own_context.result c.at.result c.at.ensures
    c.requires.fits.ordered own c.in-Some.is) c.in-Some-state.state.now c.in_ok-opening.opening
    (state_some own.now.nodes.items 0 c.state.result c.in-Some-state.state c.state.ensures
    c.in-Some-state.is) c.in_ok-opening.ensures.state) c.is_leq.ensures
