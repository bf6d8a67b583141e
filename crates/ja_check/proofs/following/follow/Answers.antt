use Rattle.std.proofs.Common.{◌∙◌, refl, subst}
use Rattle.std.proofs.lemmas.Bool.{false≢true}
use Rattle.std.proofs.lemmas.List.{take_all}
use Rattle.ja_rows.specs.declared.table.Item.{Item}
use Rattle.ja_rows.specs.declared.table.Item.TheVariants.{Open}
use Rattle.ja_rows.specs.Table.{Builds}
use Rattle.ja_table.specs.Tables.{table_of}
use Rattle.std.specs.Prelude.{List}
use Rattle.ja_check.proofs.Building.{builds_next, next_changes, next_is_item}
use Rattle.ja_check.proofs.following.follow.Goals as goal

pub loop-item-init : goal.loop-item-init
loop-item-init c = record { built = refl; fits = c.requires.fits }

pub loop-item-preserved : goal.loop-item-preserved
loop-item-preserved c = record {
  built = builds_next c.args.analysis.now.program.now (table_of c.args.table.now)
      (table_of c.loop-item.table) c.args.visits.now c.loop-item.item-index Open
      c.loop-item-test.true c.loop-item.invariant.built (table_of c.visit.new.table)
      (c.if-not-is_item.ensures.0 refl)
      c.in_ok-changed.ensures.visited.visited_is
      (c.in_ok-changed.ensures.visited.other c.if-not-changed.false);
  fits = c.in_ok-changed.ensures.fits;
}

pub returns-then-not-is_item-clause-other : goal.returns-then-not-is_item-clause-other
returns-then-not-is_item-clause-other c = λ e t all.
    false≢true (c.if-not-is_item.ensures.1 (next_is_item c.args.analysis.now.program.now
    (table_of c.args.table.now) (table_of c.loop-item.table) c.args.visits.now
    c.loop-item.item-index Open c.loop-item-test.true c.loop-item.invariant.built t all))

pub returns-then-not-changed-clause-other : goal.returns-then-not-changed-clause-other
returns-then-not-changed-clause-other c = λ e t all.
    next_changes c.args.analysis.now.program.now (table_of c.args.table.now)
    (table_of c.loop-item.table) c.args.visits.now c.loop-item.item-index Open
    c.loop-item-test.true c.loop-item.invariant.built t all
    (c.in_ok-changed.ensures.visited.visited_is
    ∙ c.in_ok-changed.ensures.visited.same c.if-not-changed.true)

pub returns-clause-built : goal.returns-clause-built
returns-clause-built c = λ e.
    subst (λ (xs : List Item). Builds c.args.analysis.now.program.now
    (table_of c.args.table.now) xs (table_of c.loop-item.table)) (take_all
    c.loop-item.item-index c.args.visits.now c.loop-item-test.false)
    c.loop-item.invariant.built

pub returns-clause-fits : goal.returns-clause-fits
returns-clause-fits c = c.loop-item.invariant.fits
