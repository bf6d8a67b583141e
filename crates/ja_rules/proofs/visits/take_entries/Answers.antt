use Rattle.std.proofs.Common.{◌∙◌, List, ap, subst, sym}
use Rattle.std.specs.List.{fold, AllByRecursion}
use Rattle.std.specs.Vec.Iter.{into_iter_items}
use Rattle.ja_rows.specs.Table.{Table}
use Rattle.ja_rules.specs.declared.visits.Entry.{Entry}
use Rattle.ja_table.specs.Tables.{table_of}
use Rattle.ja_rules.specs.code.Stepping.{with_entered, FitsEntered}
use Rattle.ja_height.proofs.Grows.{grown_both, grown_none}
use Rattle.ja_rules.proofs.Visiting.{entered_grown, entries_keep}
use Rattle.ja_rules.proofs.visits.take_entries.Goals as goal

pub loop-entry-init : goal.loop-entry-init
loop-entry-init c =
    let t = table_of c.args.table.now in
    let items = c.into_iter-entry-iterator.ensures.into_iter_gives.0 in
    record {
      fits = c.requires.fits;
      taken = ap (λ (es : List Entry). fold with_entered t es) items;
      grown = grown_none t;
      rest = subst (AllByRecursion (FitsEntered c.args.program.now t)) (sym items)
          c.requires.entries;
    }

pub take_entry-requires-clause-entry : goal.take_entry-requires-clause-entry
take_entry-requires-clause-entry c =
    let rest = subst (AllByRecursion (FitsEntered c.args.program.now (table_of c.loop-entry.table)))
    c.in-Some.ensures.steps.0 c.loop-entry.invariant.rest in
    rest.0

pub loop-entry-preserved : goal.loop-entry-preserved
loop-entry-preserved c =
    let t = table_of c.loop-entry.table in
    let u = table_of c.take_entry.new.table in
    let others = into_iter_items c.next.new.self in
    let rest = subst (AllByRecursion (FitsEntered c.args.program.now t)) c.in-Some.ensures.steps.0
    c.loop-entry.invariant.rest in
    record {
      fits = c.in_ok-taken.ensures.fits;
      taken =
          ap (λ (v : Table). fold with_entered v others) c.in_ok-taken.ensures.taken
          ∙ ap (λ (es : List Entry). fold with_entered t es) (sym c.in-Some.ensures.steps.0)
          ∙ c.loop-entry.invariant.taken;
      grown =
          grown_both (table_of c.args.table.now) t u c.loop-entry.changed c.in_ok-taken.taken
          c.loop-entry.invariant.grown
          (entered_grown t u c.in-Some.entry c.in_ok-taken.taken c.in_ok-taken.ensures.taken
          c.in_ok-taken.ensures.changed c.in_ok-taken.ensures.same);
      rest =
          subst (λ (v : Table). AllByRecursion (FitsEntered c.args.program.now v) others)
          (sym c.in_ok-taken.ensures.taken)
          (entries_keep c.args.program.now t c.in-Some.entry others rest.1);
    }

pub returns-clause-changed : goal.returns-clause-changed
returns-clause-changed c = c.loop-entry.invariant.grown.other

pub returns-clause-same : goal.returns-clause-same
returns-clause-same c = c.loop-entry.invariant.grown.same
