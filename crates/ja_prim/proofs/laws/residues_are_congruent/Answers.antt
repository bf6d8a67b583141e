use Rattle.ja_prim.proofs.Residues.{unsigned_residue, signed_residue}
use Rattle.ja_prim.proofs.laws.residues_are_congruent.Goals as goal

pub returns-clause-unsigned : goal.returns-clause-unsigned
returns-clause-unsigned c = unsigned_residue

pub returns-clause-signed : goal.returns-clause-signed
returns-clause-signed c = signed_residue
