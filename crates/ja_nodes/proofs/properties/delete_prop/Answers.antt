use Rattle.std.proofs.Common.{◌≡◌, List, subst, sym, ap, ◌∙◌}
use Rattle.ja_abstract.specs.declared.abstraction.Key.{Key}
use Rattle.ja_abstract.specs.AbstractValue.{AbstractValue}
use Rattle.ja_abstract.specs.InProgram.{AreKeys}
use Rattle.ja_abstract.specs.Writes.{delete_states, demands_of_delete}
use Rattle.ja_abstract.proofs.WritesInProgram.{keys_of_value_are}
use Rattle.ja_rows.specs.Out.{out, sets_results, at, keys_in}
use Rattle.ja_value.specs.Value.{value_of}
use Rattle.ja_transfer.specs.Outcomes.{at_view, IsOutcome}
use Rattle.ja_transfer.proofs.GivenLemmas.{given_first, outcome_of}
use Rattle.ja_nodes.proofs.properties.delete_prop.Goals as goal

pub deletes-requires : goal.deletes-requires
deletes-requires c =
    let p = c.args.stepper.now.reader.program.now in
    let keys_are = c.deref.ensures.value ∙ c.in_ok-keys.ensures in
    record {
      dst = c.requires.dst;
      keys = subst (AreKeys p) (sym keys_are)
          (keys_of_value_are p (at (at_view c.args.stepper.now) c.args.key));
    }

pub returns : goal.returns
returns c =
    let s = c.args.stepper.now in
    let w = at_view s in
    let next = s.info.now.next in
    let o = c.outcome.result in
    let given = λ (v : AbstractValue) (keys : List Key).
    out (sets_results w c.args.dst next (delete_states w v.label keys))
    (demands_of_delete w v.label keys) in
    let u = value_of c.register.result.now in
    let ks = c.deref.result.now in
    let keys_are : ks ≡ keys_in w c.args.key = c.deref.ensures.value ∙ c.in_ok-keys.ensures in
    let same_keys : c.deref-2.result.now ≡ ks =
    c.deref-2.ensures.value ∙ sym c.deref.ensures.value in
    let demands_are = c.in_ok-demands.ensures ∙ ap (demands_of_delete w u.label) same_keys in
    subst (λ (v : AbstractValue). IsOutcome s (given v (keys_in w c.args.key)) o)
    c.register.ensures
    (subst (λ (keys : List Key). IsOutcome s (given u keys) o) keys_are
    (outcome_of s _ c.in_ok-demands.demands _ c.deletes.new.states o
    (given_first s _ c.new-states.result c.deletes.new.states c.new-states.ensures
    c.in_ok-deletes.ensures) demands_are c.outcome.ensures))
