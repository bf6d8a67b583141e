use Rattle.std.proofs.Common.{◌≡◌, take}
use Rattle.std.specs.List.{list_any}
use Rattle.ja_abstract.specs.Writes.{delete_list}
use Rattle.ja_astate.specs.State.{state_of, HaveOneShape}
use Rattle.ja_transfer.specs.Outcomes.{at_view}
use Rattle.ja_transfer.specs.code.Deletes.{deletes_some, keeps_some}
use Rattle.ja_transfer.specs.code.Members.{weakly_over}
use Rattle.ja_transfer.proofs.stepper.Stepper.weak_delete.Given as goal

abbrev pub invariant-loop-label : goal.invariant-loop-label
invariant-loop-label l = record {
  state : state_of l.state ≡ weakly_over l.self.reader.program.now (at_view l.self).state
      (take l.label-index l.members) (delete_list (at_view l.self) l.keys);
  shape : HaveOneShape l.self.reader.state.now l.state;
  deleted : l.is_deleted
      ≡ list_any (deletes_some (at_view l.self) l.keys) (take l.label-index l.members);
  kept : l.is_kept ≡ list_any (keeps_some (at_view l.self) l.keys) (take l.label-index l.members);
}
