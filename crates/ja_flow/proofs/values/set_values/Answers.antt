use Rattle.std.proofs.Common.{arith, ap, sym, ◌∙◌}
use Rattle.ja_base.proofs.Lists.{empty_by_length}
use Rattle.ja_aheap.specs.Entries.{entries_of}
use Rattle.ja_flow.specs.code.Pairs.{with_set}
use Rattle.ja_flow.proofs.Changes.{set_turn}
use Rattle.ja_flow.proofs.values.set_values.Goals as goal

pub values-preserved : goal.values-preserved
values-preserved c =
    set_turn (entries_of c.values.entries) (entries_of c.set.new.self) c.values.left.items
    c.pop.new.self.items c.in-Some.field-0 c.in-Some.ensures.items
    c.in_ok-set.ensures.set ∙ c.values.invariant

pub returns-clause-set : goal.returns-clause-set
returns-clause-set c =
    ap (with_set (entries_of c.values.entries))
    (sym (empty_by_length c.values.left.items (omega (arith, c.in_default.ensures.cases.0))))
    ∙ c.values.invariant
