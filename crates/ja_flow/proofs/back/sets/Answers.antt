use Rattle.std.proofs.Common.{◌≡◌, [], ℕ, Bool, true, sym, subst, ap, ◌∙◌}
use Rattle.std.proofs.lemmas.Result.{IfOk-weaker}
use Rattle.ja_abstract.specs.AbstractState.{AbstractState, labels_below, with_register}
use Rattle.ja_abstract.specs.AbstractValue.{is_present}
use Rattle.ja_abstract.specs.Composed.{composed}
use Rattle.ja_abstract.specs.Reading.{has_present}
use Rattle.ja_rows.specs.Out.{goes, sets_in}
use Rattle.ja_aheap.specs.Heap.{heap_of, IsHeapOf}
use Rattle.ja_astate.specs.declared.state.AState.{AState}
use Rattle.ja_astate.specs.State.{state_of}
use Rattle.ja_value.specs.Value.{value_of}
use Rattle.ja_flow.specs.Flow.{caller_view}
use Rattle.ja_flow.specs.code.Calling.{state_in}
use Rattle.ja_flow.proofs.Giving.{given_none, given_as}
use Rattle.ja_transfer.proofs.ShapeLemmas.{heap_alike}
use Rattle.ja_flow.proofs.back.sets.Goals as goal

pub returns-then-not-is_present : goal.returns-then-not-is_present
returns-then-not-is_present c =
    let k = c.args.caller.now in
    let v = value_of c.args.value in
    let own = state_in k.reader.state.now c.args.calling.now in
    let a = composed k.reader.program.now (state_of own) (state_of c.args.exit.now) in
    given_as k [] (sets_in (caller_view k) a c.args.dst v c.args.next) c.args.states.now
    c.args.states.now
    (ap (λ (b : Bool). goes b c.args.next (with_register a c.args.dst v))
    (sym c.if-not-is_present.true ∙ c.is_present.ensures
    ∙ ap (λ (n : ℕ). is_present (labels_below n) v) k.reader.sites_are))
    (given_none k c.args.states.now)

pub returns : goal.returns
returns c =
    let k = c.args.caller.now in
    let p = k.reader.program.now in
    let v = value_of c.args.value in
    let exit = state_of c.args.exit.now in
    let own = state_in k.reader.state.now c.args.calling.now in
    let of : IsHeapOf p (heap_of c.state-own.result.now.heap) =
    subst (λ (a : AState). IsHeapOf p (heap_of a.heap)) (sym c.state-own.ensures)
    (heap_alike p k.reader.state.now own k.reader.heap_is c.requires.calling.shape) in
    let there : true ≡ has_present (caller_view k) v =
    sym c.if-not-is_present.false ∙ c.is_present.ensures
    ∙ ap (λ (n : ℕ). is_present (labels_below n) v) k.reader.sites_are in
    let same : state_of c.set_register.new.self
    ≡ with_register (composed p (state_of own) exit) c.args.dst v =
    c.set_register.ensures.state ∙ ap (λ (a : AbstractState). with_register a c.args.dst v)
    (c.in_ok-state.ensures.state p of
    ∙ ap (λ (a : AState). composed p (state_of a) exit) c.state-own.ensures) in
    IfOk-weaker c.gives.result _ _ (λ _ given. given_as k _
    (sets_in (caller_view k) (composed p (state_of own) exit) c.args.dst v c.args.next)
    c.args.states.now c.gives.new.states (λ i. goes (there i) c.args.next (same i)) given)
    c.gives.ensures
