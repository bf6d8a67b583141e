use Rattle.std.proofs.Common.{◌++◌, ◌&&◌, ap, subst, sym, ◌∙◌}
use Rattle.std.specs.List.{filter}
use Rattle.std.proofs.lemmas.Bool.{lt-ltb}
use Rattle.ja_abstract.specs.declared.abstraction.Key.TheVariants as key
use Rattle.ja_abstract.specs.AbstractValue.{AbstractValue}
use Rattle.ja_abstract.specs.Reading.{some_label}
use Rattle.ja_abstract.specs.Writes.{declared, is_missing, demands_of_delete}
use Rattle.ja_rows.specs.Out.{out, goes, name_keys}
use Rattle.ja_value.specs.Value.{labels_in}
use Rattle.ja_transfer.specs.Outcomes.{at_view, IsOutcome}
use Rattle.ja_transfer.specs.code.Declares.{declared_property}
use Rattle.ja_transfer.specs.code.Deletes.{is_there}
use Rattle.ja_transfer.proofs.DeclareLemmas.{there_is, declared_given}
use Rattle.ja_transfer.proofs.GivenLemmas.{added_as, given_first, given_more, outcome_of}
use Rattle.ja_transfer.proofs.MemberLemmas.{members_labels, kept_labels}
use Rattle.ja_transfer.proofs.stepper.Stepper.declare.Goals as goal

pub declares-requires : goal.declares-requires
declares-requires c =
    let s = c.args.self.now in
    let p = s.reader.program.now in
    let k = key.Name c.args.name in
    let set = labels_in c.register.result.now.labels in
    let ls = c.deref.result.now in
    let are = c.deref.ensures.value ∙ c.in_ok-members.ensures in
    let missing = c.deref-3.ensures.value ∙ c.in_ok-is_there.ensures.missing in
    record {
      members =
          members_labels p set c.deref-2.result.now
          (c.deref-2.ensures.value ∙ c.in_ok-members.ensures);
      missing =
          kept_labels p (λ l. is_missing (at_view s) l k) ls c.deref-3.result.now missing
          (members_labels p set ls are);
      key = lt-ltb _ _ c.requires.name;
    }

pub returns : goal.returns
returns c =
    let s = c.args.self.now in
    let w = at_view s in
    let next = s.info.now.next in
    let k = key.Name c.args.name in
    let o = c.outcome.result in
    let set = labels_in c.register.result.now.labels in
    let ls = c.deref.result.now in
    let are = c.deref.ensures.value ∙ c.in_ok-members.ensures in
    let ls2 = c.deref-2.result.now in
    let are2 = c.deref-2.ensures.value ∙ c.in_ok-members.ensures in
    let missing = c.deref-3.ensures.value ∙ c.in_ok-is_there.ensures.missing
    ∙ ap (filter (λ l. is_missing w l k)) (are ∙ sym are2) in
    let there = c.in_ok-is_there.ensures.is_there ∙ there_is w set k ls are in
    let stays = ap (λ b. goes b next w.state) there in
    let declares = declared_given w set k ls2 are2 c.deref-3.result.now missing next in
    subst (λ (v : AbstractValue). IsOutcome s (out
    (goes (some_label w (λ l. v.label l && is_there w l k)) next w.state
    ++ goes (some_label w (λ l. v.label l && is_missing w l k)) next
    (declared w v.label k declared_property)) (demands_of_delete w v.label (name_keys c.args.name)))
    o) c.register.ensures
    (outcome_of s _ c.in_ok-demands.demands _ c.declares.new.states o
    (given_more s _ _ c.goes.new.states c.declares.new.states
    (given_first s _ c.new-states.result c.goes.new.states c.new-states.ensures
    (added_as s _ _ c.new-states.result c.goes.new.states stays c.in_ok-goes.ensures))
    (added_as s _ _ c.goes.new.states c.declares.new.states declares c.in_ok-declares.ensures))
    c.in_ok-demands.ensures c.outcome.ensures)
