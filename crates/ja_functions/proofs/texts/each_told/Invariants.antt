use Rattle.std.proofs.Common.{◌≡◌, ◌++◌, List, drop}
use Rattle.std.specs.Option.{option_map}
use Rattle.ja_prim.specs.declared.primitive.Primitive.{Primitive}
use Rattle.ja_abstract.specs.PrimitiveOperations.{each_told}
use Rattle.ja_functions.proofs.texts.each_told.Given as goal

abbrev pub invariant-loop-taken : goal.invariant-loop-taken
invariant-loop-taken l =
    option_map (λ (qs : List Primitive). l.list.items ++ qs)
    (each_told (drop l.taken-index l.chosen))
    ≡ each_told l.chosen
