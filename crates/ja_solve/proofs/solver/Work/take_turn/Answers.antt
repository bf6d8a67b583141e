-- A visit that changed the table is one visit more.
use Rattle.std.proofs.Common.{arith, refl, subst, sym}
use Rattle.ja_solve.specs.Solving.{Explains}
use Rattle.ja_table.specs.Tables.{table_of}
use Rattle.ja_solve.specs.code.Sweeps.{program_of}
use Rattle.ja_rows.specs.Table.{IsBuilt}
use Rattle.ja_solve.proofs.Sweeps.{builds_kept, was_spent}
use Rattle.ja_solve.proofs.solver.Work.take_turn.Goals as goal

pub returns-then-not-changed-clause-built : goal.returns-then-not-changed-clause-built
returns-then-not-changed-clause-built c = record {
  program = c.requires.built.program;
  fits = c.in_ok-changed.ensures.fits;
  built = subst (IsBuilt (program_of c.args.self.now) c.args.self.now.visits.items)
      (sym (c.in_ok-changed.ensures.visited.same c.if-not-changed.true)) c.requires.built.built;
  few = c.requires.built.few;
}

pub returns-then-not-changed-clause-visited : goal.returns-then-not-changed-clause-visited
returns-then-not-changed-clause-visited c = c.in_ok-changed.ensures.visited.visited_is

pub returns-then-not-changed-clause-goes_on : goal.returns-then-not-changed-clause-goes_on
returns-then-not-changed-clause-goes_on c = record {
  analysis = refl;
  budget = refl;
  more = omega arith;
  same = λ e. c.in_ok-changed.ensures.visited.same c.if-not-changed.true;
}

pub returns-then-len-self-clause-fault : goal.returns-then-len-self-clause-fault
returns-then-len-self-clause-fault c =
    subst (Explains (program_of c.args.self.now) c.args.self.now.budget) (sym c.spent.ensures)
    (was_spent (program_of c.args.self.now) c.args.self.now.budget c.args.self.now.visits.items
    (table_of c.args.self.now.table) (table_of c.visit_with.new.table) c.args.item
    c.requires.built.built
    (omega (arith, c.requires.built.few, c.args.self.now.visits.ok.0, c.if-len-self.true))
    c.requires.item c.in_ok-changed.ensures.visited.visited_is
    (c.in_ok-changed.ensures.visited.other c.if-not-changed.false))

pub returns-clause-built : goal.returns-clause-built
returns-clause-built c = record {
  program = c.requires.built.program;
  fits = c.in_ok-changed.ensures.fits;
  built = builds_kept (program_of c.args.self.now) c.args.self.now.visits.items
      c.push.new.self.items (table_of c.args.self.now.table) (table_of c.visit_with.new.table)
      c.args.item c.requires.built.built c.requires.item
      c.in_ok-changed.ensures.visited.visited_is
      (c.in_ok-changed.ensures.visited.other c.if-not-changed.false)
      c.in_ok-push.ensures.items;
  few = omega (arith, c.if-len-self.false, c.in_ok-push.ensures.len);
}

pub returns-clause-visited : goal.returns-clause-visited
returns-clause-visited c = c.in_ok-changed.ensures.visited.visited_is

pub returns-clause-goes_on : goal.returns-clause-goes_on
returns-clause-goes_on c = record {
  analysis = refl;
  budget = refl;
  more = omega (arith, c.in_ok-push.ensures.len);
  same = λ e. absurd (omega (arith, e, c.in_ok-push.ensures.len));
}
