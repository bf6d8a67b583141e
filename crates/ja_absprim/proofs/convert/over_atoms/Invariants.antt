use Rattle.std.proofs.Common.{◌≡◌}
use Rattle.ja_abstract.specs.Primitives.{over}
use Rattle.ja_absprim.specs.Primitives.{abstracted_of, atom_of}
use Rattle.ja_absprim.specs.code.Conversions.{converted_by}
use Rattle.ja_absprim.proofs.Onto.{onto}
use Rattle.ja_absprim.proofs.convert.over_atoms.Given as goal

abbrev pub invariant-loop-atom : goal.invariant-loop-atom
invariant-loop-atom l =
    onto (λ a. converted_by l.conversion (atom_of a)) (abstracted_of l.all)
    l.atom-iterator.iter.rest.now
    ≡ over (λ a. converted_by l.conversion (atom_of a)) l.atoms
