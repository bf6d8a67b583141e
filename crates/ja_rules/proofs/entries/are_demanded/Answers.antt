use Rattle.std.proofs.Common.{List, false, subst}
use Rattle.std.specs.Prelude.{All}
use Rattle.std.proofs.lemmas.List.{take_all}
use Rattle.std.proofs.lemmas.List.Elements.{All-more}
use Rattle.ja_base.specs.declared.ids.Label.{Label}
use Rattle.ja_abstract.specs.declared.abstraction.Key.{Key}
use Rattle.ja_abstract.specs.declared.abstraction.Key.TheVariants as key
use Rattle.ja_aheap.specs.Entries.{entries_of}
use Rattle.ja_rules.specs.code.Entries.{IsDemanded}
use Rattle.ja_rules.proofs.Settling.{entry_missing, entry_there}
use Rattle.ja_table.proofs.Told.{told_none, told_some}
use Rattle.ja_rules.proofs.entries.are_demanded.Goals as goal

abbrev no_pair : Label × Key
no_pair = (record { site = record { 0 = 0 }; old = false }, key.Name (record { 0 = 0 }))

pub returns-then-is_none : goal.returns-then-is_none
returns-then-is_none c =
    told_none (λ all. entry_missing c.args.entries.now _ _ c.get.result c.is_none.result
    c.get.ensures c.is_none.ensures c.if-is_none.true
    (all c.loop-pair.pair-index no_pair c.loop-pair-test.true))

pub loop-pair-preserved : goal.loop-pair-preserved
loop-pair-preserved c =
    All-more (IsDemanded (entries_of c.args.entries.now)) c.args.pairs.now
    c.loop-pair.pair-index no_pair c.loop-pair-test.true c.loop-pair.invariant
    (entry_there c.args.entries.now _ _ c.get.result c.is_none.result c.get.ensures
    c.is_none.ensures c.if-is_none.false)

pub returns : goal.returns
returns c =
    told_some (subst (λ (ps : List (Label × Key)). All (IsDemanded (entries_of
    c.args.entries.now)) ps) (take_all c.loop-pair.pair-index c.args.pairs.now
    c.loop-pair-test.false) c.loop-pair.invariant)
