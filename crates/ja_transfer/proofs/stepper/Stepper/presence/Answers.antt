use Rattle.std.proofs.Common.{ap, refl, false}
use Rattle.ja_base.specs.declared.ids.Label.{Label}
use Rattle.ja_abstract.specs.Writes.{is_missing}
use Rattle.ja_transfer.specs.Outcomes.{at_view}
use Rattle.ja_transfer.specs.code.Deletes.{is_there}
use Rattle.ja_transfer.specs.declared.deletes.OwnAt.{OwnAt}
use Rattle.ja_transfer.proofs.MemberLemmas.{some_more, kept_more}
use Rattle.ja_transfer.proofs.stepper.Stepper.presence.Goals as goal

pub loop-label-preserved : goal.loop-label-preserved
loop-label-preserved c =
    let w = at_view c.args.self.now in
    let k = c.args.key in
    let members = c.args.members.now in
    let i = c.loop-label.label-index in
    let first : Label = record { site = record { 0 = 0 }; old = false } in
    let within = c.loop-label-test.true in
    let own = c.in_ok-own.ensures in
    record {
      there =
          some_more members i first within (λ l. is_there w l k) _ _ _
          c.loop-label.invariant.there (ap (λ (o : OwnAt). o.is_there) own) refl;
      lacking =
          kept_more members i first within (λ l. is_missing w l k) _ _ _
          c.loop-label.invariant.lacking (ap (λ (o : OwnAt). o.is_missing) own)
          c.in_ok-push_if.ensures;
    }
