use Rattle.std.proofs.Common.{◌≡◌, ◌++◌, ◌∷◌, [], List, length, map}
use Rattle.ja_machine.specs.TextOperations.{row}
use Rattle.ja_abstract.specs.PrimitiveOperations as spec
use Rattle.ja_absprim.specs.Primitives.{abstracted_of}
use Rattle.ja_absprim.proofs.Onto.{onto}
use Rattle.ja_functions.proofs.texts.+over_operands.Given as goal

-- each choice is behind those that were chosen
abbrev pub invariant-loop-taken : goal.invariant-loop-taken
invariant-loop-taken l =
    let f = spec.of_taken (row l.operation) (spec.class l.operation) in
    onto (λ (x : spec.Taken). spec.over_operands
    (λ (rest : List spec.Taken). f ((l.chosen ++ x ∷ []) ++ rest))
    (map (λ v. v.items) l.rest)) (abstracted_of l.all) l.taken-iterator.iter.rest.now
    ≡ spec.over_operands (λ (rest : List spec.Taken). f (l.chosen ++ rest))
    (map (λ v. v.items) l.lists)

abbrev pub decreases-over_operands : goal.decreases-over_operands
decreases-over_operands l = length l.lists.now
