use Rattle.std.proofs.Common.{◌≡◌, take}
use Rattle.ja_aheap.specs.Objects.{demands_in}
use Rattle.ja_abstract.specs.Writes.{put_list}
use Rattle.ja_astate.specs.State.{state_of, HaveOneShape}
use Rattle.ja_value.specs.Value.{value_of}
use Rattle.ja_transfer.specs.Outcomes.{at_view}
use Rattle.ja_transfer.specs.code.Members.{weakly_over, demands_over}
use Rattle.ja_transfer.specs.code.Puts.{demands_of_keys, puts_at_some}
use Rattle.ja_transfer.proofs.stepper.Stepper.weak_put.Given as goal

abbrev pub invariant-loop-label : goal.invariant-loop-label
invariant-loop-label l = record {
  state : state_of l.state ≡ weakly_over l.self.reader.program.now (at_view l.self).state
      (take l.label-index l.members) (put_list (at_view l.self) l.keys (value_of l.value));
  shape : HaveOneShape l.self.reader.state.now l.state;
  something : l.is_something
      ≡ puts_at_some (at_view l.self) (take l.label-index l.members) l.keys (value_of l.value);
  demanded : demands_in l.demands
      ≡ demands_over (take l.label-index l.members) (demands_of_keys (at_view l.self) l.keys);
}
