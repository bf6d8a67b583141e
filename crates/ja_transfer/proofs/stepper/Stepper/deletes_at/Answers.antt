use Rattle.std.proofs.Common.{ap, ◌∙◌, get_or}
use Rattle.ja_abstract.specs.declared.abstraction.Key.TheVariants as key
use Rattle.ja_transfer.specs.Outcomes.{at_view}
use Rattle.ja_transfer.specs.code.Deletes.{deleting_of, delete_more}
use Rattle.ja_transfer.proofs.DeleteLemmas.{deleting_more}
use Rattle.ja_transfer.proofs.stepper.Stepper.deletes_at.Goals as goal

pub loop-key-preserved : goal.loop-key-preserved
loop-key-preserved c =
    let now = deleting_of c.loop-key.deletes in
    let keys = c.args.keys.now in
    let i = c.loop-key.key-index in
    deleting_more (at_view c.args.self.now) c.args.label keys i (key.Name (record { 0 = 0 }))
    c.loop-key-test.true now (deleting_of c.add.new.self) c.loop-key.invariant
    (c.in_ok-add.ensures ∙ ap (delete_more now (get_or keys i (key.Name (record { 0 = 0 })))) c.in_ok-own.ensures)
