use Rattle.ja_prim.proofs.Shifts.{left, right, unsigned}
use Rattle.ja_prim.proofs.laws.shifts_are_by_powers_of_two.Goals as goal

pub returns-clause-left : goal.returns-clause-left
returns-clause-left c = left

pub returns-clause-right : goal.returns-clause-right
returns-clause-right c = right

pub returns-clause-unsigned : goal.returns-clause-unsigned
returns-clause-unsigned c = unsigned
