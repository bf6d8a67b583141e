-- What the analyser's atoms and results stand for.
use Rattle.ja_abstract.specs.Primitives.{Atom, Abstracted, exactly, index, other_whole, whole, index_text, other_text, any_text}
use Rattle.ja_value.specs.Value.{value_of}
use Rattle.ja_absprim.specs.declared.abstracted.Abstracted.{Abstracted as Kept}
use Rattle.ja_absprim.specs.declared.atoms.Atom.{Atom as KeptAtom}
use Rattle.ja_absprim.specs.declared.atoms.Atom.TheVariants as kept

abbrev pub abstracted_of : Kept → Abstracted
abstracted_of r = record { value = value_of r.value; may_stop = r.may_stop }

abbrev pub atom_of : KeptAtom → Atom
atom_of (kept.Exactly q) = exactly q
atom_of kept.Index = index
atom_of kept.OtherWhole = other_whole
atom_of kept.Whole = whole
atom_of kept.IndexText = index_text
atom_of kept.OtherText = other_text
atom_of kept.AnyText = any_text
