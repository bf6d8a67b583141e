use Rattle.std.proofs.Common.{◌≡◌, ◌∙◌, List, ap, refl, subst, sym}
use Rattle.std.specs.List.{AllByRecursion}
use Rattle.ja_graph.specs.declared.program.Program.{Program}
use Rattle.ja_abstract.specs.Reading.{View}
use Rattle.ja_rows.specs.declared.table.Edge.{Edge}
use Rattle.ja_rows.specs.Out.{Out}
use Rattle.ja_aheap.specs.Entries.{entries_of}
use Rattle.ja_astate.specs.declared.state.AState.{AState}
use Rattle.ja_astate.specs.State.{state_of}
use Rattle.ja_flow.specs.Flow.{IsCallerAt}
use Rattle.ja_astate.specs.Looks.{view_of}
use Rattle.ja_rules.specs.code.Stepping.{view_in, AreEntered}
use Rattle.ja_rules.proofs.Entered.{callers_are, steps_are}
use Rattle.ja_rules.proofs.Steps.{outcome_is}
use Rattle.ja_rules.proofs.visits.step_with.Goals as goal

pub new-reader-requires-clause-heap : goal.new-reader-requires-clause-heap
new-reader-requires-clause-heap c =
    (c.requires.fits.states c.args.node.0 c.args.state.now c.requires.state).heap

pub entries_along-requires : goal.entries_along-requires
entries_along-requires c =
    let p = c.args.program.now in
    let x = c.args.own.now.context in
    let i = c.node_info-info.result.now in
    let w = view_in p c.args.own.now c.args.state.now in
    let steps = steps_are p c.requires.program w refl x c.args.node i c.node_info-info.ensures
    c.deref.result.now (c.deref.ensures.value ∙ ap (λ (out : Out). out.edges) (outcome_is p c.args.own.now c.args.node
    c.args.state.now c.args.outcome i c.requires.outcome c.node_info-info.ensures)) in
    subst (λ (q : Program). AllByRecursion (IsCallerAt q i c.new-reader.result.state.now)
    c.deref.result.now) (sym c.new-reader.ensures.program)
    (subst (λ (a : AState). AllByRecursion (IsCallerAt p i a) c.deref.result.now)
    (sym c.new-reader.ensures.state)
    (callers_are p c.requires.program w refl x c.args.node i c.node_info-info.ensures
    c.args.state.now
    (c.requires.fits.states c.args.node.0 c.args.state.now c.requires.state)
    c.deref.result.now steps.from steps.into))

pub returns : goal.returns
returns c =
    let p = c.args.program.now in
    let i = c.node_info-info.result.now in
    let view_is : view_of c.new-reader.result ≡ view_in p c.args.own.now c.args.state.now =
    λ j. record {
      program = c.new-reader.ensures.program j;
      state = state_of (c.new-reader.ensures.state j);
      entries = entries_of (c.new-reader.ensures.entries j);
    } in (
      refl,
      record {
        info = i;
        info_is = c.node_info-info.ensures;
        state = c.args.state.now;
        state_is = c.requires.state;
        outcome =
            outcome_is p c.args.own.now c.args.node c.args.state.now c.args.outcome i
            c.requires.outcome c.node_info-info.ensures;
        fits = c.requires.outcome.fits;
        entered =
            subst (λ (es : List Edge). AreEntered p (view_in p c.args.own.now c.args.state.now) i es
            c.in_ok-entries.entries.items) c.deref.ensures.value
            (subst (λ (w : View). AreEntered p w i c.deref.result.now
            c.in_ok-entries.entries.items) view_is
            (subst (λ (q : Program). AreEntered q (view_of c.new-reader.result) i
            c.deref.result.now c.in_ok-entries.entries.items) c.new-reader.ensures.program
            c.in_ok-entries.ensures));
      },
    )
