use Rattle.ja_operations.proofs.Operations.{numbers_operated}
use Rattle.ja_operations.proofs.operators.of_primitives.Goals as goal

pub returns-in-Sub : goal.returns-in-Sub
returns-in-Sub c =
    rw c.of_numbers.ensures (numbers_operated c.args.op c.args.m.now c.args.n.now c.in-Sub.is)
