use Rattle.std.proofs.Common.{List, [], ◌∷◌, ap, subst, sym, ◌∙◌, false}
use Rattle.ja_base.specs.declared.ids.Label.{Label}
use Rattle.ja_abstract.specs.AbstractValue.{AbstractProperty}
use Rattle.ja_abstract.specs.InProgram.{AreAtKeys}
use Rattle.ja_abstract.specs.Writes.{Write, sets_at}
use Rattle.ja_astate.specs.State.{state_of}
use Rattle.ja_value.specs.Value.{property_of}
use Rattle.ja_transfer.specs.Outcomes.{at_view}
use Rattle.ja_transfer.proofs.WeakLemmas.{weak_more}
use Rattle.ja_transfer.proofs.stepper.Stepper.defines_weakly.Goals as goal

abbrev first : Label
first = record { site = record { 0 = 0 }; old = false }

pub weakly-requires : goal.weakly-requires
weakly-requires c =
    let i = c.loop-label.label-index in
    let within = c.loop-label-test.true in
    record {
      shape = c.loop-label.invariant.shape;
      label = c.requires.labels i first within;
      keys =
          subst (AreAtKeys c.args.self.now.reader.program.now) (sym c.in_ok-writes.ensures)
          (c.requires.key, tt);
    }

pub loop-label-preserved : goal.loop-label-preserved
loop-label-preserved c =
    let w = at_view c.args.self.now in
    let k = c.args.key in
    let writes : AbstractProperty → List Write = λ q. sets_at k q ∷ [] in
    record {
      state =
          weak_more w.program w.state (state_of c.loop-label.state)
          (state_of c.weakly.new.state) (λ l. writes (property_of c.args.property.now))
          c.args.labels.now c.loop-label.label-index first _ c.loop-label-test.true
          c.loop-label.invariant.state
          (c.in_ok-writes.ensures ∙ ap writes c.in_ok-copy.ensures) c.in_ok-weakly.ensures.state;
      shape = c.weakly.ensures.shape;
    }
