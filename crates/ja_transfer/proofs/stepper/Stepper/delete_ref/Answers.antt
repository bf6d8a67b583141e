use Rattle.std.proofs.Common.{◌++◌, true, false, subst}
use Rattle.std.proofs.lemmas.Bool.{lt-ltb}
use Rattle.ja_abstract.specs.AbstractState.{with_register}
use Rattle.ja_abstract.specs.AbstractValue.{AbstractValue}
use Rattle.ja_abstract.specs.Primitives.{of_bools}
use Rattle.ja_abstract.specs.Writes.{delete_states, demands_of_delete}
use Rattle.ja_rows.specs.Out.{out, goes, sets_results, name_keys}
use Rattle.ja_transfer.specs.Outcomes.{at_view, IsOutcome}
use Rattle.ja_transfer.proofs.GivenLemmas.{given_first, given_more, outcome_of}
use Rattle.ja_transfer.proofs.stepper.Stepper.delete_ref.Goals as goal

pub deletes-requires : goal.deletes-requires
deletes-requires c = record { dst = c.requires.dst; keys = (lt-ltb _ _ c.requires.name, tt) }

pub returns : goal.returns
returns c =
    let s = c.args.self.now in
    let w = at_view s in
    let next = s.info.now.next in
    let keys = name_keys c.args.name in
    let o = c.outcome.result in
    let unbound = with_register w.state c.args.dst (of_bools true false) in
    subst (λ (v : AbstractValue). IsOutcome s (out (goes v.flags.null next unbound
    ++ sets_results w c.args.dst next (delete_states w v.label keys))
    (demands_of_delete w v.label keys)) o) c.register-base.ensures
    (outcome_of s _ c.in_ok-demands.demands _ c.deletes.new.states o
    (given_more s _ _ c.gives_bool.new.states c.deletes.new.states
    (given_first s _ c.new-states.result c.gives_bool.new.states c.new-states.ensures
    c.in_ok-gives_bool.ensures) c.in_ok-deletes.ensures) c.in_ok-demands.ensures
    c.outcome.ensures)
