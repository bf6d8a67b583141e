use Rattle.ja_absprim.specs.Primitives.{atom_of, abstracted_of}
use Rattle.ja_absprim.specs.code.Conversions.{converted_by}
use Rattle.ja_absprim.proofs.Onto.{call_over}
use Rattle.ja_absprim.proofs.convert.unary.Goals as goal

pub returns : goal.returns
returns c =
    call_over c.over_atoms.result abstracted_of atom_of (converted_by c.args.conversion) _
    c.in_ok-atoms.atoms.items _ c.deref.ensures.value c.in_ok-atoms.ensures c.over_atoms.ensures
