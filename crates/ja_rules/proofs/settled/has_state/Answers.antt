use Rattle.std.proofs.lemmas.Result.{IfOk-weaker}
use Rattle.ja_machine.specs.Frames.{registers_of}
use Rattle.ja_astate.specs.State.{state_of}
use Rattle.ja_table.specs.Tables.{table_of}
use Rattle.ja_table.proofs.Found.{at_none, at_some, found_kept, found_no_state, missing_state, state_none, state_some}
use Rattle.ja_table.proofs.JoinedStates.{one_shape}
use Rattle.ja_rules.proofs.Lent.{kept_fits}
use Rattle.ja_rules.proofs.Settling.{no_state_same, state_telling}
use Rattle.ja_table.proofs.Told.{told_none}
use Rattle.ja_rules.proofs.settled.has_state.Goals as goal

pub returns-in_default : goal.returns-in_default
returns-in_default c =
    let t = c.args.table.now in
    let x = c.args.context in
    told_none (no_state_same (table_of t) x c.args.node.0 (state_of c.args.state.now)
    (missing_state t x c.args.node.0
    (at_none t x c.at.result c.at.ensures c.requires.fits.ordered c.in_default.is)))

pub returns-in_default-state : goal.returns-in_default-state
returns-in_default-state c =
    let t = c.args.table.now in
    let x = c.args.context in
    let own = c.in-Some.own.now in
    told_none (no_state_same (table_of t) x c.args.node.0 (state_of c.args.state.now)
    (found_no_state t x own
    (at_some t x c.at.result c.at.ensures c.requires.fits.ordered c.in-Some.own c.in-Some.is)
    c.args.node.0 (state_none own.nodes.items c.args.node.0 c.state.result c.state.ensures
    c.in_default-state.is)))

pub is_leq-requires : goal.is_leq-requires
is_leq-requires c =
    let p = c.args.program.now in
    let t = c.args.table.now in
    let x = c.args.context in
    let own = c.in-Some.own.now in
    one_shape p (registers_of p x.function) c.in-Some-state.kept.now c.args.state.now
    (kept_fits p t x own
    (at_some t x c.at.result c.at.ensures c.requires.fits.ordered c.in-Some.own c.in-Some.is)
    c.requires.fits c.args.node.0 c.in-Some-state.kept.now
    (state_some own.nodes.items c.args.node.0 c.state.result c.in-Some-state.kept c.state.ensures
    c.in-Some-state.is)) c.requires.state

pub returns : goal.returns
returns c =
    let t = c.args.table.now in
    let x = c.args.context in
    let own = c.in-Some.own.now in
    IfOk-weaker c.is_leq.result _ _
    (state_telling (table_of t) x c.args.node.0 (state_of c.args.state.now)
    (state_of c.in-Some-state.kept.now)
    (found_kept t x own
    (at_some t x c.at.result c.at.ensures c.requires.fits.ordered c.in-Some.own c.in-Some.is)
    c.args.node.0 c.in-Some-state.kept.now
    (state_some own.nodes.items c.args.node.0 c.state.result c.in-Some-state.kept c.state.ensures
    c.in-Some-state.is))) c.is_leq.ensures
