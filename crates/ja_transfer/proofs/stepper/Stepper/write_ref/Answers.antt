use Rattle.std.proofs.Common.{subst, ap, ◌∙◌}
use Rattle.std.proofs.lemmas.Bool.{lt-ltb}
use Rattle.ja_abstract.specs.AbstractValue.{AbstractValue, Labels}
use Rattle.ja_abstract.specs.Writes.{or_global, put_states, demands_of_puts}
use Rattle.ja_rows.specs.Names.{without_arrays}
use Rattle.ja_rows.specs.Out.{out, all_go, at, name_keys}
use Rattle.ja_value.specs.Value.{labels_in}
use Rattle.ja_transfer.specs.Outcomes.{at_view, IsOutcome}
use Rattle.ja_transfer.proofs.GivenLemmas.{given_first, outcome_of}
use Rattle.ja_transfer.proofs.stepper.Stepper.write_ref.Goals as goal

pub puts-requires : goal.puts-requires
puts-requires c = record { keys = (lt-ltb _ _ c.requires.name, tt) }

pub returns : goal.returns
returns c =
    let s = c.args.self.now in
    let w = at_view s in
    let keys = name_keys c.args.name in
    let o = c.outcome.result in
    let given = λ (set : Labels) (v : AbstractValue).
    out (all_go s.info.now.next (put_states w set keys v)) (demands_of_puts w set keys) in
    let target = λ (v : AbstractValue). without_arrays w.program (or_global v) in
    let set_is = c.in_ok-target.ensures ∙ ap target c.register.ensures in
    subst (λ (set : Labels). IsOutcome s (given set (at w c.args.src)) o) set_is
    (subst (λ (v : AbstractValue). IsOutcome s (given (labels_in c.in_ok-target.target) v) o) c.register-value.ensures
    (outcome_of s _ c.in_ok-demands.demands _ c.puts.new.states o
    (given_first s _ c.new-states.result c.puts.new.states c.new-states.ensures c.in_ok-demands.ensures.states)
    c.in_ok-demands.ensures.demands c.outcome.ensures))
