use Rattle.std.proofs.Common.{◌≡◌, ◌≢◌, true, false, vec_len}
use Rattle.ja_rules.specs.code.Entries.{demanded}
use Rattle.ja_abstract.proofs.Order.{LeqEntries}
use Rattle.ja_aheap.specs.Entries.{entries_of}
use Rattle.ja_aheap.specs.Objects.{demands_in}
use Rattle.ja_rules.proofs.Demands.{demands_of_list}
use Rattle.ja_rules.proofs.entries.demand_all.Given as goal

abbrev pub invariant-demands : goal.invariant-demands
invariant-demands l = record {
  demanded : demanded (entries_of l.entries) (demands_of_list l.pairs.items)
      ≡ demanded (entries_of l.fn.entries) (demands_in l.fn.demands);
  rises : LeqEntries (entries_of l.fn.entries) (entries_of l.entries);
  changed : l.changed ≡ true → entries_of l.entries ≢ entries_of l.fn.entries;
  same : l.changed ≡ false → entries_of l.entries ≡ entries_of l.fn.entries;
}

abbrev pub decreases-demands : goal.decreases-demands
decreases-demands l = vec_len l.pairs
