use Rattle.std.proofs.Common.{◌≡◌, ◌≤◌, ◌+◌, ◌++◌, ◌^◌, length}
use Rattle.std.specs.List.{AllByRecursion}
use Rattle.std.specs.Vec.Iter.{into_iter_items}
use Rattle.ja_graph.specs.WellFormed.{max_registers}
use Rattle.ja_lower.specs.Lowering as spec
use Rattle.ja_lower.proofs.whole.whole_of.Given as goal

abbrev pub invariant-loop-body : goal.invariant-loop-body
invariant-loop-body l = record {
  few : l.first_function + length l.whole.functions.items + length (into_iter_items l.body-iterator)
      ≤ 2 ^ 32;
  functions : l.whole.functions.items ++ spec.functions_of
      (l.first_site + length l.whole.sites.items) (into_iter_items l.body-iterator)
      ≡ spec.functions_of l.first_site l.fn.bodies.items;
  sites : l.whole.sites.items ++ spec.sites_of (l.first_function + length l.whole.functions.items)
      (into_iter_items l.body-iterator) ≡ spec.sites_of l.first_function l.fn.bodies.items;
  registers : AllByRecursion (λ f. f.registers ≤ max_registers) l.whole.functions.items;
}
