use Rattle.std.proofs.Common.{arith, rules}
use Rattle.ja_base.proofs.Lists.{within_from_some}
use Rattle.ja_graph.specs.declared.program.Program.{Program}
use Rattle.ja_graph.specs.Program.{nodes_of}
use Rattle.ja_rows.specs.declared.table.Item.TheVariants.{Step}
use Rattle.ja_rows.specs.Table.{IsItem, Table}
use Rattle.ja_table.specs.Tables.{table_of}
use Rattle.ja_solve.specs.code.Sweeps.{program_of}
use Rattle.ja_table.proofs.Found.{at_none, at_some}
use Rattle.ja_rules.proofs.Lent.{count_nodes, no_context}
use Rattle.ja_rules.proofs.NodeFacts.{few_nodes}
use Rattle.ja_solve.proofs.Sweeps.{both_unchanged, carried, carried_back, explains_from, goes_both, goes_same, more_stepped, AreSteppedBelow}
use Rattle.ja_solve.proofs.solver.Work.settle_context.Goals.{in-Some, in-None}
use Rattle.ja_solve.proofs.solver.Work.settle_context.Goals as goal

pub loop-node-init : goal.loop-node-init
loop-node-init c =
    let s = c.args.self.now in
    let ordered = c.requires.built.fits.ordered in
    elim c.match-at.branch [
      | in-Some w ↦
          let own_is = at_some s.table c.args.context c.at.result c.at.ensures ordered
          w.in-Some.own w.in-Some.is in
          let count = count_nodes (program_of s) s.table c.args.context w.in-Some.own.now own_is
          c.requires.built.fits in
          record {
            built = c.requires.built;
            goes_on = goes_same s;
            few = omega (
              arith,
              w.nodes-is,
              w.len-nodes.ensures,
              count,
              few_nodes (program_of s) c.requires.built.program c.args.context.function,
            );
            all = λ n i. omega (
              arith,
              w.nodes-is,
              w.len-nodes.ensures,
              count,
              within_from_some (nodes_of (program_of s) c.args.context.function) n.0 i.0,
            );
            settled = λ same k less. absurd (omega (arith, less));
          }
      | in-None w ↦
          let none = at_none s.table c.args.context c.at.result c.at.ensures ordered
          w.in-None.is in
          record {
            built = c.requires.built;
            goes_on = goes_same s;
            few = omega (arith, w.nodes-is);
            all = λ n i. absurd (no_context (program_of s) s.table c.args.context none n i);
            settled = λ same k less. absurd (omega (arith, less));
          }
    ]

pub overflow_cast-node : goal.overflow_cast-node
overflow_cast-node c = omega (arith, c.loop-node.invariant.few)

pub returns-in_err-settle_step-clause-fault : goal.returns-in_err-settle_step-clause-fault
returns-in_err-settle_step-clause-fault c =
    explains_from c.args.self.now c.loop-node.self c.loop-node.invariant.goes_on _ (search rules)

pub loop-node-preserved : goal.loop-node-preserved
loop-node-preserved c =
    let was = c.loop-node.self in
    let now = c.settle_step.new.self in
    let x = c.args.context in
    record {
      built = c.in_ok-settle_step.ensures.built;
      goes_on =
          goes_both c.args.self.now was now c.loop-node.invariant.goes_on
          c.in_ok-settle_step.ensures.goes_on;
      few = c.loop-node.invariant.few;
      all = c.loop-node.invariant.all;
      settled =
          λ same. let u = both_unchanged c.args.self.now was now
          c.loop-node.invariant.goes_on c.in_ok-settle_step.ensures.goes_on same in
          more_stepped (program_of now) (table_of now.table) x c.loop-node.node
          (carried (λ (p : Program) (t : Table). AreSteppedBelow p t x c.loop-node.node) was now
          c.in_ok-settle_step.ensures.goes_on u.second
          (c.loop-node.invariant.settled u.first))
          (c.in_ok-settle_step.ensures.settled u.second);
    }

pub returns-clause-settled : goal.returns-clause-settled
returns-clause-settled c = λ same n i.
    let before = carried_back (λ (p : Program) (t : Table). IsItem p t (Step c.args.context n))
    c.args.self.now c.loop-node.self c.loop-node.invariant.goes_on same i in
    let within = c.loop-node.invariant.all n before in
    c.loop-node.invariant.settled same n (omega (arith, within, c.loop-node-test.false)) i
