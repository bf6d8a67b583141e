use Rattle.std.proofs.Common.{◌&&◌, subst}
use Rattle.ja_aheap.specs.Entries.{entries_of, IsEntryAt}
use Rattle.ja_value.specs.Value.{property_of}
use Rattle.ja_check.proofs.Entries.{property_told}
use Rattle.ja_check.proofs.Lists.{told_options}
use Rattle.ja_check.proofs.same_contexts.is_same_value.Goals as goal

pub returns-in-Some-Some : goal.returns-in-Some-Some
returns-in-Some-Some c =
    let own = c.args.own.now in
    let other = c.args.other.now in
    let a = property_of c.in-Some-Some.property.now in
    let b = property_of c.in-Some-Some.kept.now in
    told_options (entries_of own c.args.label c.args.key) (entries_of other c.args.label c.args.key)
    a b (subst (IsEntryAt own c.args.label c.args.key) c.in-Some-Some.is-0 c.get.ensures)
    (subst (IsEntryAt other c.args.label c.args.key) c.in-Some-Some.is-1 c.get-2.ensures)
    (c.leq.result && c.leq-in-Some-Some.result)
    (property_told a b c.leq.result c.leq-in-Some-Some.result c.leq.ensures.order
    c.leq-in-Some-Some.ensures.order)
