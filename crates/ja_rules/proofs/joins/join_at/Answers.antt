use Rattle.std.proofs.Common.{refl}
use Rattle.ja_machine.specs.Frames.{registers_of}
use Rattle.ja_astate.specs.State.{state_of}
use Rattle.ja_table.proofs.TableLemmas.{fits_put}
use Rattle.ja_table.proofs.StatesAt.{given_put, put_changes, put_stays, node_within, kept_shape, shape_fits}
use Rattle.ja_rules.proofs.joins.join_at.Goals as goal

pub join_kept-requires : goal.join_kept-requires
join_kept-requires c =
    let p = c.args.program.now in
    let own = c.args.own.now in
    kept_shape p own c.args.node.0 c.index_mut-at.result.now c.args.state c.requires.fits
    (node_within p own c.args.node c.requires.fits c.requires.node) c.index_mut-at.ensures.value
    c.requires.state

pub returns-clause-joined : goal.returns-clause-joined
returns-clause-joined c =
    let own = c.args.own.now in
    given_put own.nodes.items c.args.node.0 c.index_mut-at.result.now
    (node_within c.args.program.now own c.args.node c.requires.fits c.requires.node)
    c.index_mut-at.ensures.value _ (state_of c.args.state) c.in_ok-changed.ensures.joined

pub returns-clause-changed : goal.returns-clause-changed
returns-clause-changed c changed =
    let own = c.args.own.now in
    put_changes own.nodes.items c.args.node.0 c.index_mut-at.result.now
    (node_within c.args.program.now own c.args.node c.requires.fits c.requires.node)
    c.index_mut-at.ensures.value _ (c.in_ok-changed.ensures.changed changed)

pub returns-clause-same : goal.returns-clause-same
returns-clause-same c same =
    let own = c.args.own.now in
    put_stays own.nodes.items c.args.node.0 c.index_mut-at.result.now
    (node_within c.args.program.now own c.args.node c.requires.fits c.requires.node)
    c.index_mut-at.ensures.value _ (c.in_ok-changed.ensures.same same)

pub returns-clause-fits : goal.returns-clause-fits
returns-clause-fits c =
    let p = c.args.program.now in
    let own = c.args.own.now in
    fits_put p own _ c.args.node.0 _ c.requires.fits
    (node_within p own c.args.node c.requires.fits c.requires.node) refl refl
    (shape_fits p (registers_of p own.context.function) c.join_kept.new.kept c.args.state
    c.requires.state c.in_ok-changed.ensures.shape) refl
