use Rattle.std.proofs.Common.{[], ◌∷◌, ◌++◌, Bool, List, Option, None, ap, subst, sym, ◌∙◌, append-nil}
use Rattle.std.specs.Prelude.{unwrap_or}
use Rattle.std.specs.Option.{option_map}
use Rattle.ja_abstract.specs.InProgram.{AreAtKeys}
use Rattle.ja_abstract.specs.Reading.{may_refuse}
use Rattle.ja_abstract.specs.Writes.{Write, asked_at}
use Rattle.ja_rows.specs.Out.{goes}
use Rattle.ja_aheap.specs.Objects.{writes_of}
use Rattle.ja_value.specs.Value.{value_of}
use Rattle.ja_transfer.specs.Outcomes.{at_view}
use Rattle.ja_transfer.specs.code.Puts.{OnePut}
use Rattle.ja_transfer.proofs.GivenLemmas.{added_as, added_both}
use Rattle.ja_transfer.proofs.PutLemmas.{accepted_keys, strong_given}
use Rattle.ja_transfer.proofs.stepper.Stepper.strong_put.Goals as goal

pub strongly-requires : goal.strongly-requires
strongly-requires c =
    let w = at_view c.args.self.now in
    let put = c.in_ok-refuses.ensures in
    let writes = sym (ap (option_map writes_of) c.in-Some.is)
    ∙ ap (λ (x : OnePut). x.writes) put in
    record {
      label = c.requires.label;
      keys =
          subst (λ (o : Option (List Write)). AreAtKeys w.program (unwrap_or o [])) (sym writes)
          (accepted_keys w c.args.self.now.reader.keys_are.has_length c.args.label c.args.key
          (value_of c.args.value.now) c.requires.key);
    }

pub returns-clause-states : goal.returns-clause-states
returns-clause-states c =
    let s = c.args.self.now in
    let w = at_view s in
    let next = s.info.now.next in
    let put = c.in_ok-refuses.ensures in
    let refuses = ap (λ (x : OnePut). x.refuses) put in
    let writes = sym (ap (option_map writes_of) c.in-Some.is)
    ∙ ap (λ (x : OnePut). x.writes) put in
    let same = (λ n. goes (refuses n) next w.state
    ++ ((next.0, c.in_ok-state.ensures.state n) ∷ []))
    ∙ strong_given w c.args.label c.args.key (value_of c.args.value.now) next _ writes in
    added_as s _ _ c.args.states.now c.gives.new.states same (added_both s _ _ c.args.states.now
    c.goes.new.states c.gives.new.states c.in_ok-goes.ensures c.in_ok-gives.ensures)

pub returns-clause-demands : goal.returns-clause-demands
returns-clause-demands c = ap (λ (x : OnePut). x.demands) c.in_ok-refuses.ensures

-- nothing is written
pub returns-in_default-clause-states : goal.returns-in_default-clause-states
returns-in_default-clause-states c =
    let s = c.args.self.now in
    let w = at_view s in
    let next = s.info.now.next in
    let put = c.in_ok-refuses.ensures in
    let refuses = ap (λ (x : OnePut). x.refuses) put in
    let writes = sym (ap (option_map writes_of) c.in_default.is)
    ∙ ap (λ (x : OnePut). x.writes) put in
    let same = ap (λ (b : Bool). goes b next w.state) refuses
    ∙ sym (append-nil (goes (may_refuse (asked_at w c.args.label c.args.key)) next w.state))
    ∙ strong_given w c.args.label c.args.key (value_of c.args.value.now) next None writes in
    added_as s _ _ c.args.states.now c.goes.new.states same c.in_ok-goes.ensures

pub returns-in_default-clause-demands : goal.returns-in_default-clause-demands
returns-in_default-clause-demands c = ap (λ (x : OnePut). x.demands) c.in_ok-refuses.ensures
