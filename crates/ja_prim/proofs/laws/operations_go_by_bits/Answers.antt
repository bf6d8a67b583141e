use Rattle.ja_prim.proofs.Bitwise.{and_is, or_is, xor_is, not_is}
use Rattle.ja_prim.proofs.laws.operations_go_by_bits.Goals as goal

pub returns-clause-and : goal.returns-clause-and
returns-clause-and c = and_is

pub returns-clause-or : goal.returns-clause-or
returns-clause-or c = or_is

pub returns-clause-xor : goal.returns-clause-xor
returns-clause-xor c = xor_is

pub returns-clause-not : goal.returns-clause-not
returns-clause-not c = not_is
