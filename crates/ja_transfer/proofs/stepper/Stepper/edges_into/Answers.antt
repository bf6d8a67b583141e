use Rattle.std.proofs.Common.{arith, ◌++◌, List, map, ap, ◌∙◌}
use Rattle.ja_rows.specs.declared.table.Edge.{Edge}
use Rattle.ja_rows.specs.Edges.{edge}
use Rattle.ja_transfer.specs.Outcomes.{point_of}
use Rattle.ja_transfer.specs.code.Callees.{some_run, edges_below}
use Rattle.ja_transfer.proofs.CalleeLemmas.{edges_rest, edges_next}
use Rattle.ja_transfer.proofs.stepper.Stepper.edges_into.Goals as goal

pub loop-function-preserved : goal.loop-function-preserved
loop-function-preserved c =
    let s = c.args.self.now in
    let is_run = some_run c.args.entry s.reader.program.now c.args.callees.now in
    let g = c.in-Some.function.0 in (
      omega (arith, c.in-Some.ensures.below),
      c.in_ok-add_edges.ensures
          ∙ ap (λ (es : List Edge). es ++ map (edge (point_of s) g) c.args.receivers.now)
          c.loop-function.invariant.1
          ∙ edges_next (point_of s) is_run c.args.receivers.now c.loop-function.from g
          c.in-Some.ensures.from_on c.in-Some.ensures.run c.in-Some.ensures.first,
    )

pub returns : goal.returns
returns c =
    let s = c.args.self.now in
    c.loop-function.invariant.1
    ∙ edges_rest (point_of s) (some_run c.args.entry s.reader.program.now c.args.callees.now)
    c.args.receivers.now c.loop-function.from c.len-end.result c.loop-function.invariant.0
    c.in_default.ensures
    ∙ ap (edges_below (point_of s) (some_run c.args.entry s.reader.program.now c.args.callees.now)
    c.args.receivers.now) c.len-end.ensures
