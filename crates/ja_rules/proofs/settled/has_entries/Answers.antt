use Rattle.std.proofs.Common.{◌≡◌, List, refl, subst, sym}
use Rattle.std.specs.Prelude.{◌↔◌, IsTrue}
use Rattle.std.specs.List.{fold}
use Rattle.std.proofs.lemmas.List.{take_all}
use Rattle.ja_rules.specs.declared.visits.Entry.{Entry}
use Rattle.ja_table.specs.Tables.{table_of}
use Rattle.ja_rules.specs.code.Stepping.{with_entered, FitsEntered}
use Rattle.ja_rules.proofs.Entered.{all_or}
use Rattle.ja_rules.proofs.Settling.{entries_next}
use Rattle.ja_table.proofs.Told.{told_some}
use Rattle.ja_rules.proofs.settled.has_entries.Goals as goal

pub loop-entry-init : goal.loop-entry-init
loop-entry-init c = told_some refl

pub has_entry-requires-clause-entry : goal.has_entry-requires-clause-entry
has_entry-requires-clause-entry c =
    let P = FitsEntered c.args.program.now (table_of c.args.table.now) in
    subst P (sym c.entry-item.is)
    (all_or P c.args.entries.now c.requires.entries c.loop-entry.entry-index
    c.loop-entry-test.true c.entry-item.result)

pub loop-entry-preserved : goal.loop-entry-preserved
loop-entry-preserved c =
    entries_next (table_of c.args.table.now) c.args.entries.now c.loop-entry.entry-index
    c.entry-item.result c.loop-entry.all c.in_ok-has.has c.loop-entry-test.true
    c.entry-item.is c.loop-entry.invariant c.in_ok-has.ensures

pub returns : goal.returns
returns c =
    subst (λ (xs : List Entry). IsTrue c.loop-entry.all
    ↔ (fold with_entered (table_of c.args.table.now) xs ≡ table_of c.args.table.now))
    (take_all c.loop-entry.entry-index c.args.entries.now c.loop-entry-test.false)
    c.loop-entry.invariant
