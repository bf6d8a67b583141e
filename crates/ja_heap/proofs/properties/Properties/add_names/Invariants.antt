use Rattle.std.proofs.Common.{◌≡◌, ℕ, List, drop}
use Rattle.std.specs.Prelude.{nat_eq, is_some, find, ◌||◌}
use Rattle.std.specs.HashSet.{contains}
use Rattle.std.specs.Cmp.Lexicographic.{pointwise}
use Rattle.ja_heap.specs.code.Slots.{live}
use Rattle.ja_heap.proofs.InSlots.{is_named}
use Rattle.ja_heap.proofs.properties.Properties.add_names.Given as goal

abbrev pub invariant-loop-i : goal.invariant-loop-i
invariant-loop-i l =
    (name : List ℕ)
    → (contains (pointwise nat_eq) l.names name
    || is_some (find (is_named name) (live (drop l.i l.self-inside.slots.items))))
    ≡ (contains (pointwise nat_eq) l.initial.names name
    || is_some (find (is_named name) (live l.self-inside.slots.items)))
