use Rattle.std.proofs.Common.{subst, sym}
use Rattle.std.specs.Prelude.{IsTrue}
use Rattle.ja_graph.specs.declared.program.Program.{Program}
use Rattle.ja_abstract.specs.AbstractState.{is_key, is_label}
use Rattle.ja_rules.specs.code.Ends.{AreEndsOf}
use Rattle.ja_table.proofs.Found.{found_fits}
use Rattle.ja_rules.proofs.Lent.{filled_is}
use Rattle.ja_rules.proofs.visits.filled_by.Goals as goal

pub returns-in_default : goal.returns-in_default
returns-in_default c =
    subst (AreEndsOf c.args.program.now c.args.table.now c.args.edge) c.in_default.is
    c.ends_of.ensures

pub fill-requires-clause-caller : goal.fill-requires-clause-caller
fill-requires-clause-caller c =
    (subst (AreEndsOf c.args.program.now c.args.table.now c.args.edge) c.in-Some.is
    c.ends_of.ensures).caller

pub fill-requires-clause-keys : goal.fill-requires-clause-keys
fill-requires-clause-keys c =
    let h = subst (AreEndsOf c.args.program.now c.args.table.now c.args.edge) c.in-Some.is
    c.ends_of.ensures in
    λ l k some. subst (λ (q : Program). IsTrue (is_key q k)) (sym h.program_is)
    ((found_fits c.args.table.now c.args.edge.callee c.in-Some.field-0.callee.now h.callee_is
    c.args.program.now c.requires.fits).keys l k some)

pub fill-requires-clause-labels : goal.fill-requires-clause-labels
fill-requires-clause-labels c =
    let h = subst (AreEndsOf c.args.program.now c.args.table.now c.args.edge) c.in-Some.is
    c.ends_of.ensures in
    λ l k some. subst (λ (q : Program). IsTrue (is_label q l)) (sym h.program_is)
    ((found_fits c.args.table.now c.args.edge.callee c.in-Some.field-0.callee.now h.callee_is
    c.args.program.now c.requires.fits).labels l k some)

pub returns : goal.returns
returns c =
    let p = c.args.program.now in
    let t = c.args.table.now in
    let e = c.args.edge in
    let done = c.in_ok-filled.ensures in
    filled_is p t e c.in-Some.field-0 (subst (AreEndsOf p t e) c.in-Some.is c.ends_of.ensures)
    c.in_ok-filled.filled (done.values, done.changed, done.demands)
