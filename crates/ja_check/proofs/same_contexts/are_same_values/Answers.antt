use Rattle.std.proofs.Common.{◌≡◌, List, false, refl, subst}
use Rattle.std.proofs.lemmas.Bool.{false≢true}
use Rattle.std.proofs.lemmas.List.{take_all}
use Rattle.std.proofs.lemmas.List.Elements.{All-more}
use Rattle.ja_base.specs.declared.ids.Label.{Label}
use Rattle.ja_abstract.specs.declared.abstraction.Key.{Key}
use Rattle.ja_abstract.specs.declared.abstraction.Key.TheVariants as key
use Rattle.ja_aheap.specs.Entries.{entries_of}
use Rattle.ja_table.proofs.Told.{told_none, told_some}
use Rattle.ja_check.specs.code.Checking.{AreSameAt}
use Rattle.ja_check.proofs.same_contexts.are_same_values.Goals as goal

abbrev no_pair : Label × Key
no_pair = (record { site = record { 0 = 0 }; old = false }, key.Name (record { 0 = 0 }))

pub returns-then-not-is_same_value : goal.returns-then-not-is_same_value
returns-then-not-is_same_value c =
    told_none (λ all. false≢true (c.if-not-is_same_value.ensures.1
    (all c.loop-pair.pair-index no_pair c.loop-pair-test.true)))

pub loop-pair-preserved : goal.loop-pair-preserved
loop-pair-preserved c =
    All-more (λ (q : Label × Key). entries_of c.args.own.now q.0 q.1
    ≡ entries_of c.args.other.now q.0 q.1) c.args.pairs.now c.loop-pair.pair-index no_pair
    c.loop-pair-test.true c.loop-pair.invariant (c.if-not-is_same_value.ensures.0 refl)

pub returns : goal.returns
returns c =
    told_some (subst (λ (ps : List (Label × Key)). AreSameAt (entries_of c.args.own.now)
    (entries_of c.args.other.now) ps) (take_all c.loop-pair.pair-index c.args.pairs.now
    c.loop-pair-test.false) c.loop-pair.invariant)
