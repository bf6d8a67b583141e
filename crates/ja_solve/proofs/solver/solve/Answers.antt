-- A sweep that added no visit leaves a closed table.
use Rattle.std.proofs.Common.{◌≤◌, ◌∙◌, arith, length, subst, sym}
use Rattle.ja_graph.specs.declared.program.Program.{Program}
use Rattle.ja_graph.specs.WellFormed.{IsWellFormed}
use Rattle.ja_rows.specs.Table.{IsBuilt, IsClosed}
use Rattle.ja_table.specs.Tables.{table_of, Fits}
use Rattle.ja_solve.specs.code.Sweeps.{program_of}
use Rattle.ja_solve.proofs.Sweeps.{closed, program_now}
use Rattle.ja_solve.proofs.solver.solve.Goals as goal

pub close-requires : goal.close-requires
close-requires c =
    let back = sym c.in_ok-analysis.ensures in
    record {
      built = record {
        program = subst IsWellFormed back c.requires.program;
        fits = subst (λ (q : Program). Fits q c.in_ok-opening.field-0) back
            c.in_ok-opening.ensures.fits;
        built = subst (λ (q : Program). IsBuilt q c.new-2.result.items
            (table_of c.in_ok-opening.field-0)) back
            (subst (λ xs. IsBuilt c.args.program.now xs (table_of c.in_ok-opening.field-0))
            (sym c.new-2.ensures.items) (sym c.in_ok-opening.ensures.table));
        few = omega (arith, c.new-2.ensures.len);
      };
    }

pub returns-clause-fits : goal.returns-clause-fits
returns-clause-fits c =
    subst (λ (q : Program). Fits q c.close.new.self.table)
    (program_now c.in_ok-close.ensures.goes_on.analysis ∙ c.in_ok-analysis.ensures)
    c.in_ok-close.ensures.built.fits

pub returns-clause-built : goal.returns-clause-built
returns-clause-built c =
    subst (λ xs. IsBuilt c.args.program.now xs (table_of c.close.new.self.table))
    (sym c.from_vec.ensures)
    (subst (λ (q : Program). IsBuilt q c.close.new.self.visits.items
    (table_of c.close.new.self.table))
    (program_now c.in_ok-close.ensures.goes_on.analysis ∙ c.in_ok-analysis.ensures)
    c.in_ok-close.ensures.built.built)

pub returns-clause-closed : goal.returns-clause-closed
returns-clause-closed c =
    subst (λ (q : Program). IsClosed q (table_of c.close.new.self.table))
    (program_now c.in_ok-close.ensures.goes_on.analysis ∙ c.in_ok-analysis.ensures)
    (closed (program_of c.close.new.self) c.close.new.self.visits.items
    (table_of c.close.new.self.table) c.in_ok-close.ensures.built.built
    c.in_ok-close.ensures.settled)

pub returns-clause-few : goal.returns-clause-few
returns-clause-few c =
    subst (λ xs. length xs ≤ c.args.budget) (sym c.from_vec.ensures)
    (omega (
      arith,
      c.in_ok-close.ensures.built.few,
      c.in_ok-close.ensures.goes_on.budget,
      c.close.new.self.visits.ok.0,
    ))

pub returns-clause-covers : goal.returns-clause-covers
returns-clause-covers c =
    c.closed_covers.ensures c.args.program.now (table_of c.close.new.self.table)
    c.requires.program (subst (λ (q : Program). IsClosed q (table_of c.close.new.self.table))
    (program_now c.in_ok-close.ensures.goes_on.analysis ∙ c.in_ok-analysis.ensures)
    (closed (program_of c.close.new.self) c.close.new.self.visits.items
    (table_of c.close.new.self.table) c.in_ok-close.ensures.built.built
    c.in_ok-close.ensures.settled))
