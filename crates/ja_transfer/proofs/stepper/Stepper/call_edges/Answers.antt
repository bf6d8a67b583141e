use Rattle.std.proofs.Common.{arith, ◌∙◌, ap}
use Rattle.std.specs.List.{filter}
use Rattle.ja_abstract.specs.AbstractState.{labels_of}
use Rattle.ja_rows.specs.Edges.{receivers}
use Rattle.ja_value.specs.Value.{value_of}
use Rattle.ja_transfer.specs.Outcomes.{at_view, point_of}
use Rattle.ja_transfer.specs.declared.sites.Entry.TheVariants.{Call}
use Rattle.ja_transfer.specs.code.Callees.{some_run, edges_below}
use Rattle.ja_transfer.proofs.CalleeLemmas.{none_next, edges_rest}
use Rattle.ja_transfer.proofs.stepper.Stepper.call_edges.Goals as goal

pub returns-then-is_none : goal.returns-then-is_none
returns-then-is_none c =
    let s = c.args.self.now in
    let p = s.reader.program.now in
    let is_run = some_run Call p c.args.callees.now in
    let all = filter (receivers (at_view s) (value_of c.args.receiver.now)) (labels_of p) in
    c.new.ensures.items
    ∙ edges_rest (point_of s) is_run all 0 c.len-end.result (omega arith)
    (none_next is_run 0 c.len-end.result c.next_run.result c.if-is_none.ensures
    c.next_run.ensures)
    ∙ ap (edges_below (point_of s) is_run all) c.len-end.ensures
