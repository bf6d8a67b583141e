use Rattle.std.proofs.Common.{arith, rules, subst, sym}
use Rattle.ja_graph.specs.declared.program.Program.{Program}
use Rattle.ja_rows.specs.declared.table.Edge.{Edge}
use Rattle.ja_rows.specs.declared.table.Item.{Item}
use Rattle.ja_rows.specs.Table.{IsItem, Table}
use Rattle.ja_table.specs.declared.table.CallEdge.{CallEdge}
use Rattle.ja_table.specs.Tables.{table_of}
use Rattle.ja_table.specs.code.Growing.{HasSameEdges}
use Rattle.ja_rules.specs.code.Settled.{IsSettled}
use Rattle.ja_solve.specs.code.Sweeps.{item_along, program_of}
use Rattle.ja_solve.proofs.Sweeps.{all_edges, along_keys, along_there, both_unchanged, carried, explains_from, goes_both, goes_same, more_edges, same_count, AreSettledEdges}
use Rattle.ja_table.proofs.Kept.{same_at, slice_at}
use Rattle.ja_table.proofs.SameMeaning.{keys_both, keys_same}
use Rattle.ja_solve.proofs.solver.Work.settle_along.Goals as goal

pub loop-place-init : goal.loop-place-init
loop-place-init c = record {
  built = c.requires.built;
  goes_on = goes_same c.args.self.now;
  keys = keys_same c.args.self.now.table;
  settled = λ same k d less is. absurd (omega (arith, less));
}

pub index-requires : goal.index-requires
index-requires c =
    omega (
      arith,
      same_count c.args.self.now.table c.loop-place.self.table c.loop-place.invariant.keys,
    )

pub settle-requires-clause-item : goal.settle-requires-clause-item
settle-requires-clause-item c =
    let p = (program_of c.loop-place.self) in
    let t = c.loop-place.self.table in
    subst (IsItem p (table_of t)) (sym c.item.ensures)
    (along_there p t c.args.along c.loop-place.place c.index.result.now
    (slice_at t.edges.items c.loop-place.place c.index.result.now
    (omega (
      arith,
      same_count c.args.self.now.table t c.loop-place.invariant.keys,
      c.loop-place-test.true,
      c.len-place-end.ensures,
      t.edges.ok.0,
    )) c.index.ensures))

pub returns-in_err-settle-clause-fault : goal.returns-in_err-settle-clause-fault
returns-in_err-settle-clause-fault c =
    explains_from c.args.self.now c.loop-place.self c.loop-place.invariant.goes_on _
    (search rules)

pub loop-place-preserved : goal.loop-place-preserved
loop-place-preserved c =
    let first = c.args.self.now in
    let was = c.loop-place.self in
    let now = c.settle.new.self in
    let at = slice_at was.table.edges.items c.loop-place.place c.index.result.now
    (omega (
      arith,
      same_count first.table was.table c.loop-place.invariant.keys,
      c.loop-place-test.true,
      c.len-place-end.ensures,
      was.table.edges.ok.0,
    )) c.index.ensures in
    record {
      built = c.in_ok-settle.ensures.built;
      goes_on =
          goes_both first was now c.loop-place.invariant.goes_on c.in_ok-settle.ensures.goes_on;
      keys =
          keys_both first.table was.table now.table c.loop-place.invariant.keys
          (along_keys c.args.along c.index.result.now.edge was.table now.table
          (subst (λ (i : Item). HasSameEdges i was.table now.table) c.item.ensures
          c.in_ok-settle.ensures.edges));
      settled =
          λ same. let u = both_unchanged first was now c.loop-place.invariant.goes_on
          c.in_ok-settle.ensures.goes_on same in
          more_edges (program_of now) (table_of now.table) c.args.along first.table.edges.items
          c.loop-place.place
          (carried (λ (p : Program) (t : Table). AreSettledEdges p t c.args.along
          first.table.edges.items c.loop-place.place) was now c.in_ok-settle.ensures.goes_on
          u.second (c.loop-place.invariant.settled u.first))
          (λ d is. subst (λ (e : Edge). IsSettled (program_of now) (table_of now.table)
          (item_along c.args.along e))
          (same_at (λ (f : CallEdge). f.edge) was.table.edges.items first.table.edges.items
          c.loop-place.place c.index.result.now d c.loop-place.invariant.keys.edges at is)
          (subst (IsSettled (program_of now) (table_of now.table)) c.item.ensures
          (c.in_ok-settle.ensures.settled u.second)));
    }

pub returns-clause-settled : goal.returns-clause-settled
returns-clause-settled c = λ same.
    all_edges (program_of c.loop-place.self) c.args.self.now.table
    (table_of c.loop-place.self.table) c.args.along c.loop-place.place
    (omega (arith, c.loop-place-test.false, c.len-place-end.ensures))
    (c.loop-place.invariant.goes_on.same same) (c.loop-place.invariant.settled same)
