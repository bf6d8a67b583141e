use Rattle.std.proofs.Common.{◌≡◌, ℕ, List, ◌++◌, take, drop}
use Rattle.std.specs.Prelude.{filter, is_some, nat_eq}
use Rattle.std.specs.List.{list_any}
use Rattle.std.specs.HashSet.{contains}
use Rattle.std.specs.Cmp.Lexicographic.{pointwise}
use Rattle.ja_machine.specs.Heap.{own}
use Rattle.ja_machine.specs.Enumeration.{names_along, names}
use Rattle.ja_heap.proofs.InSight.{in_sight}
use Rattle.ja_heap.proofs.heap.Heap.names.Given as goal

abbrev pub invariant-loop-depth : goal.invariant-loop-depth
invariant-loop-depth l = record {
  listed : l.names.items ++ filter (in_sight l.self (take l.depth l.chain.items))
      (names_along l.self (drop l.depth l.chain.items)) ≡ names l.self l.fn.a;
  hidden : (name : List ℕ) → contains (pointwise nat_eq) l.nearer name
      ≡ list_any (λ b. is_some (own l.self b name)) (take l.depth l.chain.items);
}
