use Rattle.std.proofs.Common.{◌≡◌, [], ◌∷◌, take}
use Rattle.ja_abstract.specs.Writes.{sets_at}
use Rattle.ja_astate.specs.State.{state_of, HaveOneShape}
use Rattle.ja_value.specs.Value.{property_of}
use Rattle.ja_transfer.specs.Outcomes.{at_view}
use Rattle.ja_transfer.specs.code.Members.{weakly_over}
use Rattle.ja_transfer.proofs.stepper.Stepper.defines_weakly.Given as goal

abbrev pub invariant-loop-label : goal.invariant-loop-label
invariant-loop-label l = record {
  state : state_of l.state ≡ weakly_over l.self.reader.program.now (at_view l.self).state
      (take l.label-index l.labels) (λ x. sets_at l.key (property_of l.property) ∷ []);
  shape : HaveOneShape l.self.reader.state.now l.state;
}
