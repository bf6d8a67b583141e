-- What a visit leaves as it was is settled.
use Rattle.std.proofs.Common.{subst, sym}
use Rattle.ja_graph.specs.declared.program.Program.{Program}
use Rattle.ja_table.specs.Tables.{table_of}
use Rattle.ja_rules.specs.code.Settled.{IsSettled}
use Rattle.ja_solve.specs.code.Sweeps.{program_of}
use Rattle.ja_solve.proofs.Sweeps.{program_is, settled_since}
use Rattle.ja_solve.proofs.solver.Work.settle.Goals as goal

pub returns-clause-settled : goal.returns-clause-settled
returns-clause-settled c = λ same.
    let was = c.args.self.now in
    let now = c.take_turn.new.self in
    let on = c.in_ok-take_turn.ensures.goes_on in
    subst (λ (q : Program). IsSettled q (table_of now.table) c.args.item)
    (sym (program_is was now on))
    (settled_since (program_of was) (table_of was.table) (table_of now.table) c.args.item
    c.in_ok-take_turn.ensures.visited (on.same same))
