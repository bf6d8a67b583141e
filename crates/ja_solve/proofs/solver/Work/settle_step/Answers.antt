use Rattle.std.proofs.Common.{◌∙◌, ap, is_some, subst, sym}
use Rattle.std.proofs.lemmas.Bool.{false≢true}
use Rattle.ja_rows.specs.declared.table.Item.TheVariants.{Step}
use Rattle.ja_rows.specs.Table.{IsItem}
use Rattle.ja_table.specs.Tables.{table_of}
use Rattle.ja_rules.specs.code.Settled.{IsSettled}
use Rattle.ja_solve.specs.declared.solver.Work.{Work}
use Rattle.ja_solve.specs.code.Sweeps.{program_of, GoesOn, HasBuilt, IsUnchanged}
use Rattle.ja_table.proofs.Found.{at_none, at_some, missing_state}
use Rattle.ja_rules.proofs.Lent.{item_there, no_item}
use Rattle.ja_solve.proofs.Sweeps.{goes_same}
use Rattle.ja_solve.proofs.solver.Work.settle_step.Goals.{then-is_some+in_ok-settle, else-is_some}
use Rattle.ja_solve.proofs.solver.Work.settle_step.Goals as goal

pub returns-in_default-clause-goes_on : goal.returns-in_default-clause-goes_on
returns-in_default-clause-goes_on c = goes_same c.args.self.now

pub returns-in_default-clause-settled : goal.returns-in_default-clause-settled
returns-in_default-clause-settled c = λ same item.
    absurd (false≢true (ap is_some (sym (missing_state c.args.self.now.table c.args.context
    c.args.node.0 (at_none c.args.self.now.table c.args.context c.at.result c.at.ensures
    c.requires.built.fits.ordered c.in_default.is))) ∙ item.1))

pub settle-requires-clause-item : goal.settle-requires-clause-item
settle-requires-clause-item c =
    let s = c.args.self.now in
    item_there (program_of s) s.table c.args.context c.in-Some.own.now
    (at_some s.table c.args.context c.at.result c.at.ensures c.requires.built.fits.ordered
    c.in-Some.own c.in-Some.is) c.requires.built.fits c.args.node c.state.result c.state.ensures
    (sym c.is_some.ensures ∙ c.if-is_some.true)

pub returns-clause-built : goal.returns-clause-built
returns-clause-built c =
    elim c.if-is_some.branch [
      | then-is_some+in_ok-settle w ↦
          subst HasBuilt (sym w.self-is) w.in_ok-settle.ensures.built
      | else-is_some w ↦ subst HasBuilt (sym w.self-is) c.requires.built
    ]

pub returns-clause-goes_on : goal.returns-clause-goes_on
returns-clause-goes_on c =
    elim c.if-is_some.branch [
      | then-is_some+in_ok-settle w ↦
          subst (GoesOn c.args.self.now) (sym w.self-is) w.in_ok-settle.ensures.goes_on
      | else-is_some w ↦
          subst (GoesOn c.args.self.now) (sym w.self-is) (goes_same c.args.self.now)
    ]

pub returns-clause-settled : goal.returns-clause-settled
returns-clause-settled c = λ same item.
    let s = c.args.self.now in
    let step = Step c.args.context c.args.node in
    elim c.if-is_some.branch [
      | then-is_some+in_ok-settle w ↦
          subst (λ (z : Work). IsSettled (program_of z) (table_of z.table) step) (sym w.self-is)
          (w.in_ok-settle.ensures.settled (subst (IsUnchanged s) w.self-is same))
      | else-is_some w ↦
          let there = subst (λ (z : Work). IsItem (program_of z) (table_of z.table) step)
          w.self-is item in
          absurd (no_item (program_of s) s.table c.args.context c.in-Some.own.now
          (at_some s.table c.args.context c.at.result c.at.ensures c.requires.built.fits.ordered
          c.in-Some.own c.in-Some.is) c.args.node c.state.result c.state.ensures
          (sym c.is_some.ensures ∙ w.if-is_some.false) there)
    ]
