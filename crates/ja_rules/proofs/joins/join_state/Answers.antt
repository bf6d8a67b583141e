use Rattle.std.specs.Prelude.{IsSome}
use Rattle.std.proofs.Common.{refl, sym, ap, subst}
use Rattle.std.proofs.lemmas.Result.{IfOk-weaker, on_ok_weaker}
use Rattle.ja_base.specs.declared.ids.Context.{Context}
use Rattle.ja_graph.specs.Program.{node_at}
use Rattle.ja_machine.specs.Frames.{registers_of}
use Rattle.ja_aheap.specs.Entries.{entries_of}
use Rattle.ja_astate.specs.State.{state_of, IsStateOf}
use Rattle.ja_table.proofs.ReachedContexts.{unreached, own_is, own_fits, other_keys, other_fits, state_joined, states_other, nothing_other}
use Rattle.ja_rules.proofs.joins.join_state.Goals as goal

pub join_at-requires-clause-fits : goal.join_at-requires-clause-fits
join_at-requires-clause-fits c =
    own_fits c.args.table.now c.args.context c.in-Some.place c.index_mut.result.now
    c.requires.fits.ordered c.in-Some.ensures.found c.in-Some.ensures.within
    c.index_mut.ensures.value c.args.program.now c.requires.fits

pub join_at-requires-clause-node : goal.join_at-requires-clause-node
join_at-requires-clause-node c =
    let is = own_is c.args.table.now c.args.context c.in-Some.place c.index_mut.result.now
    c.requires.fits.ordered c.in-Some.ensures.found c.in-Some.ensures.within
    c.index_mut.ensures.value in
    subst (λ (x : Context). IsSome (node_at c.args.program.now x.function c.args.node)) (sym is)
    c.requires.node

pub join_at-requires-clause-state : goal.join_at-requires-clause-state
join_at-requires-clause-state c =
    let is = own_is c.args.table.now c.args.context c.in-Some.place c.index_mut.result.now
    c.requires.fits.ordered c.in-Some.ensures.found c.in-Some.ensures.within
    c.index_mut.ensures.value in
    subst (λ (x : Context). IsStateOf c.args.program.now (registers_of c.args.program.now
    x.function) c.args.state) (sym is) c.requires.state

pub unreachable-requires : goal.unreachable-requires
unreachable-requires c =
    unreached c.args.table.now c.args.context c.requires.fits.ordered c.requires.context
    c.in-None.ensures.found

pub returns-clause-joined : goal.returns-clause-joined
returns-clause-joined c =
    IfOk-weaker c.join_at.result _ _ (λ b h. state_joined c.args.table.now c.args.context
    c.in-Some.place c.index_mut.result.now c.requires.fits.ordered c.in-Some.ensures.found
    c.in-Some.ensures.within c.index_mut.ensures.value c.join_at.new.own c.join_at.ensures.context
    c.args.node.0 (state_of c.args.state) h (ap entries_of c.join_at.ensures.entries))
    c.join_at.ensures.joined

pub returns-clause-changed : goal.returns-clause-changed
returns-clause-changed c =
    IfOk-weaker c.join_at.result _ _ (λ b h e. states_other c.args.table.now c.args.context
    c.in-Some.place c.index_mut.result.now c.requires.fits.ordered c.in-Some.ensures.found
    c.in-Some.ensures.within c.index_mut.ensures.value c.join_at.new.own c.join_at.ensures.context
    (h e)) c.join_at.ensures.changed

pub returns-clause-same : goal.returns-clause-same
returns-clause-same c =
    IfOk-weaker c.join_at.result _ _ (λ b h e. nothing_other c.args.table.now c.args.context
    c.in-Some.place c.index_mut.result.now c.requires.fits.ordered c.in-Some.ensures.found
    c.in-Some.ensures.within c.index_mut.ensures.value c.join_at.new.own c.join_at.ensures.context
    (h e) (ap entries_of c.join_at.ensures.entries)) c.join_at.ensures.same

pub returns-clause-kept : goal.returns-clause-kept
returns-clause-kept c =
    other_keys c.args.table.now c.args.context c.in-Some.place c.index_mut.result.now
    c.requires.fits.ordered c.in-Some.ensures.found c.in-Some.ensures.within
    c.index_mut.ensures.value c.join_at.new.own c.join_at.ensures.context _ refl refl

pub returns-clause-fits : goal.returns-clause-fits
returns-clause-fits c =
    on_ok_weaker c.join_at.result (λ here. other_fits c.args.table.now c.args.context
    c.in-Some.place c.index_mut.result.now c.requires.fits.ordered c.in-Some.ensures.found
    c.in-Some.ensures.within c.index_mut.ensures.value c.join_at.new.own c.join_at.ensures.context
    c.args.program.now _ refl refl c.requires.fits here) c.join_at.ensures.fits
