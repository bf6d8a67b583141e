use Rattle.std.proofs.Common.{ap, subst, sym, refl, false}
use Rattle.ja_base.specs.declared.ids.Label.{Label}
use Rattle.ja_abstract.specs.InProgram.{AreAtKeys}
use Rattle.ja_abstract.specs.Writes.{delete_list}
use Rattle.ja_astate.specs.State.{state_of}
use Rattle.ja_transfer.specs.Outcomes.{at_view}
use Rattle.ja_transfer.specs.code.Deletes.{Deleting, deletes_some, keeps_some}
use Rattle.ja_transfer.proofs.DeleteLemmas.{delete_list_keys}
use Rattle.ja_transfer.proofs.MemberLemmas.{some_more}
use Rattle.ja_transfer.proofs.WeakLemmas.{weak_more}
use Rattle.ja_transfer.proofs.stepper.Stepper.weak_delete.Goals as goal

abbrev first : Label
first = record { site = record { 0 = 0 }; old = false }

pub weakly-requires : goal.weakly-requires
weakly-requires c =
    let w = at_view c.args.self.now in
    record {
      shape = c.loop-label.invariant.shape;
      label = c.requires.labels c.loop-label.label-index first c.loop-label-test.true;
      keys =
          subst (AreAtKeys w.program) (sym (ap (λ (x : Deleting). x.writes) c.in_ok-deleted.ensures))
          (delete_list_keys w _ c.args.keys.now c.requires.keys);
    }

pub loop-label-preserved : goal.loop-label-preserved
loop-label-preserved c =
    let w = at_view c.args.self.now in
    let keys = c.args.keys.now in
    let members = c.args.members.now in
    let i = c.loop-label.label-index in
    let within = c.loop-label-test.true in
    let inv = c.loop-label.invariant in
    let deletes = c.in_ok-deleted.ensures in
    record {
      state =
          weak_more w.program w.state (state_of c.loop-label.state)
          (state_of c.weakly.new.state) (delete_list w keys) members i first _ within inv.state
          (ap (λ (x : Deleting). x.writes) deletes) c.in_ok-weakly.ensures.state;
      shape = c.weakly.ensures.shape;
      deleted =
          some_more members i first within (deletes_some w keys) _ _ _ inv.deleted
          (ap (λ (x : Deleting). x.is_deleted) deletes) refl;
      kept =
          some_more members i first within (keeps_some w keys) _ _ _ inv.kept
          (ap (λ (x : Deleting). x.is_kept) deletes) refl;
    }
