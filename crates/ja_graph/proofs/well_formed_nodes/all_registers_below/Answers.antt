use Rattle.std.proofs.Common.{arith}
use Rattle.std.proofs.lemmas.Bool.{leb-true, le-leb}
use Rattle.ja_graph.specs.Node.{registers_named}
use Rattle.ja_graph.proofs.RegisterLemmas.{few_exactly}
use Rattle.ja_graph.proofs.well_formed_nodes.all_registers_below.Goals as goal

pub returns : goal.returns
returns c =
    let few = few_exactly c.args.limit (registers_named c.args.node.now) in
    let count = c.registers_with_named.result in (
      λ is. few.0 (omega (
        arith,
        leb-true count c.from.result is,
        c.registers_with_named.ensures,
        c.from.ensures,
      )),
      λ each. le-leb count c.from.result (omega
          (arith, few.1 each, c.registers_with_named.ensures, c.from.ensures)),
    )
