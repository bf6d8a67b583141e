use Rattle.std.proofs.Common.{refl, sym, ◌∙◌}
use Rattle.ja_prim.specs.Arithmetic as numbers
use Rattle.ja_prim.specs.Bits as bits
use Rattle.ja_absprim.proofs.Turned.{by_number, not_of_nan}
use Rattle.ja_absprim.proofs.convert.converted.Goals as goal

pub returns-in-Neg : goal.returns-in-Neg
returns-in-Neg c = rw c.in-Neg.is (c.neg_atom.ensures ∙ sym (by_number numbers.neg _ refl _))

pub returns-in-Not : goal.returns-in-Not
returns-in-Not c = rw c.in-Not.is (c.not_atom.ensures ∙ sym (by_number bits.not _ not_of_nan _))
