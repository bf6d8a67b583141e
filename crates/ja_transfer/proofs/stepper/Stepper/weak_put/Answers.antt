use Rattle.std.proofs.Common.{ap, subst, sym, refl, ◌∙◌, false}
use Rattle.std.specs.List.{list_any}
use Rattle.ja_base.specs.declared.ids.Label.{Label}
use Rattle.ja_abstract.specs.declared.abstraction.Key.{Key}
use Rattle.ja_abstract.specs.InProgram.{AreAtKeys}
use Rattle.ja_abstract.specs.Writes.{put_list, puts_something}
use Rattle.ja_astate.specs.State.{state_of}
use Rattle.ja_value.specs.Value.{value_of}
use Rattle.ja_transfer.specs.Outcomes.{at_view}
use Rattle.ja_transfer.specs.code.Puts.{Putting, demands_of_keys}
use Rattle.ja_transfer.proofs.MemberLemmas.{some_more, demands_more}
use Rattle.ja_abstract.proofs.WritesInProgram.{put_list_is}
use Rattle.ja_transfer.proofs.WeakLemmas.{weak_none, weak_more}
use Rattle.ja_transfer.proofs.stepper.Stepper.weak_put.Goals as goal

abbrev first : Label
first = record { site = record { 0 = 0 }; old = false }

pub loop-label-init : goal.loop-label-init
loop-label-init c =
    let w = at_view c.args.self.now in
    record {
      state =
          c.in_ok-state.ensures.state
          ∙ sym (weak_none w.program w.state
          (put_list w c.args.keys.now (value_of c.args.value.now)));
      shape = c.in_ok-state.ensures.shape;
      something = refl;
      demanded = c.new-demands.ensures;
    }

pub weakly-requires : goal.weakly-requires
weakly-requires c =
    let w = at_view c.args.self.now in
    let i = c.loop-label.label-index in
    let within = c.loop-label-test.true in
    let puts = c.in_ok-here.ensures in
    record {
      shape = c.loop-label.invariant.shape;
      label = c.requires.labels i first within;
      keys =
          subst (AreAtKeys w.program) (sym (ap (λ (x : Putting). x.writes) puts))
          (put_list_is w c.args.self.now.reader.keys_are.has_length (value_of c.args.value.now) _
          c.args.keys.now c.requires.keys);
    }

pub loop-label-preserved : goal.loop-label-preserved
loop-label-preserved c =
    let w = at_view c.args.self.now in
    let v = value_of c.args.value.now in
    let keys = c.args.keys.now in
    let members = c.args.members.now in
    let i = c.loop-label.label-index in
    let within = c.loop-label-test.true in
    let inv = c.loop-label.invariant in
    let puts = c.in_ok-here.ensures in
    record {
      state =
          weak_more w.program w.state (state_of c.loop-label.state)
          (state_of c.weakly.new.state) (put_list w keys v) members i first _ within inv.state
          (ap (λ (x : Putting). x.writes) puts) c.in_ok-weakly.ensures.state;
      shape = c.weakly.ensures.shape;
      something =
          some_more members i first within
          (λ l. list_any (λ (k : Key). puts_something w l k v) keys) _ _ _ inv.something
          (ap (λ (x : Putting). x.is_something) puts) refl;
      demanded =
          demands_more members i first within (demands_of_keys w keys) _ _ _ inv.demanded
          (ap (λ (x : Putting). x.demands) puts) c.in_ok-join.ensures.joined;
    }
