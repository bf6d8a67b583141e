use Rattle.std.proofs.Common.{◌∙◌, ap, subst, sym}
use Rattle.ja_graph.specs.declared.program.Program.{Program}
use Rattle.ja_rows.specs.declared.table.Edge.{Edge}
use Rattle.ja_table.specs.Tables.{table_of, FitsContext}
use Rattle.ja_rules.specs.code.Ends.{AreEndsOf}
use Rattle.ja_table.proofs.Found.{found_context, found_fits}
use Rattle.ja_rules.proofs.Lent.{given_is, left_is, nothing_kept}
use Rattle.ja_rules.proofs.visits.given_by.Goals as goal

pub returns-in_default : goal.returns-in_default
returns-in_default c =
    nothing_kept c.args.program.now (table_of c.args.table.now) c.args.edge
    (subst (AreEndsOf c.args.program.now c.args.table.now c.args.edge) c.in_default.is
    c.ends_of.ensures)

pub has_exit-requires-clause-fits : goal.has_exit-requires-clause-fits
has_exit-requires-clause-fits c =
    let h = subst (AreEndsOf c.args.program.now c.args.table.now c.args.edge) c.in-Some.is
    c.ends_of.ensures in
    found_fits c.args.table.now c.args.edge.callee c.in-Some.field-0.callee.now h.callee_is
    c.args.program.now c.requires.fits

pub returns-then-not-has_exit : goal.returns-then-not-has_exit
returns-then-not-has_exit c =
    let p = c.args.program.now in
    let t = c.args.table.now in
    let e = c.args.edge in
    record {
      nothing =
          λ i a calling. sym (left_is p t e c.in-Some.field-0
          (subst (AreEndsOf p t e) c.in-Some.is c.ends_of.ensures)) ∙ sym c.has_exit.ensures
          ∙ c.if-not-has_exit.true;
    }

pub all_given-requires-clause-caller : goal.all_given-requires-clause-caller
all_given-requires-clause-caller c =
    (subst (AreEndsOf c.args.program.now c.args.table.now c.args.edge) c.in-Some.is
    c.ends_of.ensures).caller

pub all_given-requires-clause-fits : goal.all_given-requires-clause-fits
all_given-requires-clause-fits c =
    let h = subst (AreEndsOf c.args.program.now c.args.table.now c.args.edge) c.in-Some.is
    c.ends_of.ensures in
    subst (λ (q : Program). FitsContext q c.in-Some.field-0.callee.now) (sym h.program_is)
    (found_fits c.args.table.now c.args.edge.callee c.in-Some.field-0.callee.now h.callee_is
    c.args.program.now c.requires.fits)

pub all_given-requires-clause-callee : goal.all_given-requires-clause-callee
all_given-requires-clause-callee c =
    let h = subst (AreEndsOf c.args.program.now c.args.table.now c.args.edge) c.in-Some.is
    c.ends_of.ensures in
    found_context c.args.table.now c.args.edge.callee c.in-Some.field-0.callee.now h.callee_is
    ∙ ap (λ (e : Edge). e.callee) (sym h.edge_is)

pub returns : goal.returns
returns c =
    let p = c.args.program.now in
    let t = c.args.table.now in
    let e = c.args.edge in
    let ends = c.in-Some.field-0 in
    let h = subst (AreEndsOf p t e) c.in-Some.is c.ends_of.ensures in
    given_is p t e ends h c.in_ok-given.given c.in_ok-given.ensures
    (sym (left_is p t e ends h) ∙ sym c.has_exit.ensures ∙ c.if-not-has_exit.false)
