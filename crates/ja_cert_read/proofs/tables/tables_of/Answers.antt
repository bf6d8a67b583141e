use Rattle.std.proofs.Common.{arith}
use Rattle.std.specs.Vec.Iter.{into_iter_items}
use Rattle.ja_base.proofs.Lists.{empty_by_length}
use Rattle.ja_cert_read.proofs.TablesBuilt.{tables_begin, tables_ended, tables_more, tables_next}
use Rattle.ja_cert_read.proofs.tables.tables_of.Goals as goal

pub loop-listed-init : goal.loop-listed-init
loop-listed-init c =
    tables_begin c.args.program.now c.args.contexts.items _ _ c.requires.right
    c.into_iter-listed-iterator.ensures.into_iter_gives.0 c.new-tables.ensures.items

pub table_at-requires-clause-right : goal.table_at-requires-clause-right
table_at-requires-clause-right c =
    (tables_next c.args.program.now c.args.contexts.items _ c.in-Some.listed
    (into_iter_items c.next.new.self) c.loop-listed.tables.items c.loop-listed.invariant
    c.in-Some.ensures.steps.0).right.0

pub loop-listed-preserved : goal.loop-listed-preserved
loop-listed-preserved c =
    tables_more c.args.program.now c.args.contexts.items c.in-Some.listed
    (into_iter_items c.next.new.self) c.loop-listed.tables.items c.push.new.self.items _
    (tables_next c.args.program.now c.args.contexts.items _ c.in-Some.listed
    (into_iter_items c.next.new.self) c.loop-listed.tables.items c.loop-listed.invariant
    c.in-Some.ensures.steps.0)
    c.in_ok-table_at.ensures.fits c.in_ok-table_at.ensures.context
    c.in_ok-table_at.ensures.listed c.in_ok-table_at.ensures.said c.in_ok-push.ensures.items

pub returns : goal.returns
returns c =
    tables_ended c.args.program.now c.args.contexts.items
    (into_iter_items c.loop-listed.listed-iterator) c.loop-listed.tables.items
    c.loop-listed.invariant
    (empty_by_length _ (omega (
      arith,
      c.in-None.ensures.steps.0,
      c.loop-listed.listed-iterator.rest.ok.0,
    )))
