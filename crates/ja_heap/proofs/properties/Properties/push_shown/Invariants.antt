use Rattle.std.proofs.Common.{◌≡◌, ℕ, Bool, List, ◌++◌, drop, not}
use Rattle.std.specs.Prelude.{nat_eq}
use Rattle.std.specs.HashSet.{contains}
use Rattle.std.specs.Cmp.Lexicographic.{pointwise}
use Rattle.ja_heap.specs.code.Slots.{shown}
use Rattle.ja_heap.proofs.properties.Properties.push_shown.Given as goal

abbrev pub invariant-loop-i : goal.invariant-loop-i
invariant-loop-i l =
    let test : List ℕ → Bool = λ name. not (contains (pointwise nat_eq) l.hidden name) in
    l.names.items ++ shown test (drop l.i l.self-inside.slots.items) ≡ l.initial.names.items
    ++ shown test l.self-inside.slots.items
