use Rattle.std.proofs.Common.{◌≡◌, take}
use Rattle.std.specs.List.{flat_map}
use Rattle.ja_abstract.specs.PrimitiveOperations.{taken_at}
use Rattle.ja_absprim.specs.Primitives.{atom_of}
use Rattle.ja_functions.proofs.texts.taken_of.Given as goal

abbrev pub invariant-loop-atom : goal.invariant-loop-atom
invariant-loop-atom l =
    l.list.items ≡ flat_map (λ a. taken_at l.sort (atom_of a)) (take l.atom-index l.atom-items)
