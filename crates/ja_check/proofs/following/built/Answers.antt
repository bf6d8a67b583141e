use Rattle.std.proofs.Common.{subst, sym}
use Rattle.std.proofs.lemmas.Result.{IfOk-weaker}
use Rattle.ja_graph.specs.declared.program.Program.{Program}
use Rattle.ja_graph.specs.WellFormed.{IsWellFormed}
use Rattle.ja_rows.specs.Table.{Builds}
use Rattle.ja_table.specs.Tables.{table_of, Fits}
use Rattle.ja_check.proofs.Building.{built_told}
use Rattle.ja_check.proofs.following.built.Goals as goal

pub follow-requires-clause-program : goal.follow-requires-clause-program
follow-requires-clause-program c =
    subst IsWellFormed (sym c.in_ok-analysis.ensures) c.requires.program

pub follow-requires-clause-fits : goal.follow-requires-clause-fits
follow-requires-clause-fits c =
    subst (λ (q : Program). Fits q c.in_ok-own.own) (sym c.in_ok-analysis.ensures)
    c.in_ok-own.ensures.fits

pub is_same_table-requires-clause-own : goal.is_same_table-requires-clause-own
is_same_table-requires-clause-own c =
    subst (λ (q : Program). Fits q c.follow.new.table) c.in_ok-analysis.ensures
    c.in_ok-followed.ensures.fits

pub returns : goal.returns
returns c =
    IfOk-weaker c.is_same_table.result _ _
    (built_told c.args.program.now c.args.visits.now (table_of c.in_ok-own.own)
    (table_of c.follow.new.table) (table_of c.args.table.now) c.in_ok-own.ensures.table
    (subst (λ (q : Program). Builds q (table_of c.in_ok-own.own) c.args.visits.now
    (table_of c.follow.new.table)) c.in_ok-analysis.ensures
    (c.in_ok-followed.ensures.built c.if-not-followed.false))) c.is_same_table.ensures
