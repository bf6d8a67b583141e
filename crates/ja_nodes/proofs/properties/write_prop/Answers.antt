use Rattle.std.proofs.Common.{◌≡◌, ◌++◌, Bool, List, subst, sym, ap, ◌∙◌}
use Rattle.std.specs.List.{filter, list_any}
use Rattle.ja_base.specs.declared.ids.Label.{Label}
use Rattle.ja_graph.specs.declared.builtins.TheConstants as builtins
use Rattle.ja_machine.specs.Events.{array_length_message}
use Rattle.ja_abstract.specs.declared.abstraction.Key.{Key}
use Rattle.ja_abstract.specs.AbstractValue.{AbstractValue}
use Rattle.ja_abstract.specs.AbstractState.{labels_of}
use Rattle.ja_abstract.specs.InProgram.{AreKeys}
use Rattle.ja_abstract.specs.Writes.{put_states, put_may_throw, may_be_wrong_length, demands_of_puts}
use Rattle.ja_abstract.proofs.WritesInProgram.{keys_of_value_are}
use Rattle.ja_rows.specs.Out.{out, all_go, throws, at, keys_in}
use Rattle.ja_value.specs.Value.{value_of}
use Rattle.ja_astate.specs.code.Puts.{some_throw}
use Rattle.ja_transfer.specs.Outcomes.{at_view, IsOutcome}
use Rattle.ja_transfer.proofs.Filters.{any_filter}
use Rattle.ja_transfer.proofs.GivenLemmas.{added_as, given_first, given_more, outcome_of}
use Rattle.ja_nodes.proofs.properties.write_prop.Goals as goal

pub puts-requires : goal.puts-requires
puts-requires c =
    let p = c.args.stepper.now.reader.program.now in
    let keys_are = c.deref.ensures.value ∙ c.in_ok-keys.ensures in
    let known = keys_of_value_are p (at (at_view c.args.stepper.now) c.args.key) in
    record { keys = subst (AreKeys p) (sym keys_are) known }

pub returns : goal.returns
returns c =
    let s = c.args.stepper.now in
    let w = at_view s in
    let i = s.info.now in
    let o = c.outcome.result in
    let u = value_of c.register.result.now in
    let v = value_of c.register-value.result.now in
    let ks = c.deref.result.now in
    let keys_are : ks ≡ keys_in w c.args.key = c.deref.ensures.value ∙ c.in_ok-keys.ensures in
    let members_are : c.deref-2.result.now ≡ filter u.label (labels_of w.program) =
    c.deref-2.ensures.value ∙ c.in_ok-members.ensures in
    let same_keys : c.deref-3.result.now ≡ ks =
    c.deref-3.ensures.value ∙ sym c.deref.ensures.value in
    let thrown = λ (b : Bool). throws w b i c.args.error builtins.RANGE_ERROR_PROTOTYPE
    array_length_message in
    let given = λ (x y : AbstractValue) (keys : List Key).
    out (all_go i.next (put_states w x.label keys y)
    ++ thrown (put_may_throw w x.label keys y)) (demands_of_puts w x.label keys) in
    let wrong = c.in_ok-is_wrong.ensures
    ∙ (λ n. some_throw w (members_are n) (same_keys n) v)
    ∙ any_filter u.label (λ (l : Label). list_any (λ (k : Key). may_be_wrong_length w l k v) ks)
    (labels_of w.program) in
    subst (λ (x : AbstractValue). IsOutcome s (given x (at w c.args.src) (keys_in w c.args.key)) o)
    c.register.ensures
    (subst (λ (y : AbstractValue). IsOutcome s (given u y (keys_in w c.args.key)) o)
    c.register-value.ensures
    (subst (λ (keys : List Key). IsOutcome s (given u v keys) o) keys_are
    (outcome_of s _ c.in_ok-demands.demands _ c.range_error.new.states o
    (given_more s _ _ c.puts.new.states c.range_error.new.states
    (given_first s _ c.new-states.result c.puts.new.states c.new-states.ensures
    c.in_ok-demands.ensures.states)
    (added_as s _ _ c.puts.new.states c.range_error.new.states (ap thrown wrong)
    c.in_ok-range_error.ensures)) c.in_ok-demands.ensures.demands c.outcome.ensures)))
