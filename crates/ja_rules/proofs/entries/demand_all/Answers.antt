use Rattle.std.proofs.Common.{rules, length, ◌≡◌, refl, sym, ◌∙◌}
use Rattle.std.proofs.lemmas.Bool.{false≢true}
use Rattle.ja_abstract.proofs.Order.{LeqEntries, entries_same, entries_both, entries_equal}
use Rattle.ja_aheap.specs.Entries.{entries_of}
use Rattle.ja_rules.proofs.Demands.{rose, stayed, demanded_step, one_pair-leq, demanded_none}
use Rattle.ja_rules.proofs.entries.demand_all.Goals as goal

pub demands-init : goal.demands-init
demands-init c =
    record {
      demanded = refl;
      rises = entries_same _;
      changed = λ e. absurd (false≢true e);
      same = λ e. refl;
    }

pub demands-preserved : goal.demands-preserved
demands-preserved c =
    let h = c.in_ok-changed.ensures.demanded in
    let inv = c.demands.invariant in
    let up : LeqEntries (entries_of c.demands.entries) (entries_of c.demand.new.self) = one_pair-leq
    (entries_of c.demands.entries) (entries_of c.demand.new.self) c.in-Some.label c.in-Some.key
    h in
    record {
      demanded =
          demanded_step (entries_of c.demands.entries) (entries_of c.demand.new.self)
          c.demands.pairs.items c.pop.new.self.items c.in-Some.label c.in-Some.key h
          c.in-Some.ensures.items ∙ inv.demanded;
      rises = entries_both _ _ _ inv.rises up;
      changed =
          rose LeqEntries entries_equal _ _ _ inv.rises up c.demands.changed c.in_ok-changed.field-0
          inv.changed c.in_ok-changed.ensures.changed;
      same =
          stayed _ _ _ c.demands.changed c.in_ok-changed.field-0 inv.same
          c.in_ok-changed.ensures.same;
    }

pub returns-clause-demanded : goal.returns-clause-demanded
returns-clause-demanded c =
    let none : length c.demands.pairs.items ≡ 0 = search (rules, c.in_default.ensures.cases.0) in
    let k = c.demands.pairs.ok in sym (demanded_none _ c.demands.pairs.items none)
    ∙ c.demands.invariant.demanded
