use Rattle.std.proofs.Common.{subst, sym, ◌∙◌}
use Rattle.std.specs.Prelude.{List, All}
use Rattle.std.proofs.lemmas.Bool.{false≢true}
use Rattle.std.proofs.lemmas.List.{take_all}
use Rattle.std.proofs.lemmas.List.Elements.{All-more}
use Rattle.ja_rows.specs.declared.table.Item.{Item}
use Rattle.ja_rows.specs.declared.table.Item.TheVariants.{Open}
use Rattle.ja_table.specs.Tables.{table_of}
use Rattle.ja_rules.specs.code.Settled.{IsSettled}
use Rattle.ja_check.proofs.ItemLemmas.{first_among}
use Rattle.ja_check.proofs.checking.test_all.Goals as goal

pub settled-requires-clause-item : goal.settled-requires-clause-item
settled-requires-clause-item c =
    c.requires.items c.loop-item.item-index Open c.loop-item-test.true

pub returns-then-not-is_settled-clause-fault : goal.returns-then-not-is_settled-clause-fault
returns-then-not-is_settled-clause-fault c =
    first_among c.args.analysis.now.program.now (table_of c.args.table.now) c.args.items.now
    c.loop-item.item-index Open c.loop-item-test.true c.loop-item.invariant
    (λ same. false≢true (sym c.if-not-is_settled.true ∙ c.in_ok-is_settled.ensures.1 same))

pub loop-item-preserved : goal.loop-item-preserved
loop-item-preserved c =
    All-more (IsSettled c.args.analysis.now.program.now (table_of c.args.table.now))
    c.args.items.now c.loop-item.item-index Open c.loop-item-test.true c.loop-item.invariant
    (c.in_ok-is_settled.ensures.0 c.if-not-is_settled.false)

pub returns-clause-settled : goal.returns-clause-settled
returns-clause-settled c =
    subst (λ (xs : List Item). All (IsSettled c.args.analysis.now.program.now
    (table_of c.args.table.now)) xs) (take_all c.loop-item.item-index c.args.items.now
    c.loop-item-test.false) c.loop-item.invariant
