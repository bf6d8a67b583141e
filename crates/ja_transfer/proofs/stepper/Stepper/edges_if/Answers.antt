use Rattle.std.proofs.Common.{arith, ◌≡◌, ◌==◌, Bool, List, [], ◌++◌, if◌then◌else◌, map, subst, sym, ap, ◌∙◌}
use Rattle.std.specs.List.{filter}
use Rattle.ja_base.specs.declared.ids.Label.{Label}
use Rattle.ja_abstract.specs.AbstractState.{labels_of}
use Rattle.ja_rows.specs.declared.table.Edge.{Edge}
use Rattle.ja_rows.specs.Edges.{edge, edges_to}
use Rattle.ja_value.specs.Value.{labels_in}
use Rattle.ja_transfer.specs.Outcomes.{at_view, point_of}
use Rattle.ja_transfer.proofs.CalleeLemmas.{edges_to_one, edges_to_none}
use Rattle.ja_transfer.proofs.stepper.Stepper.edges_if.Goals as goal

pub returns-then-len-function : goal.returns-then-len-function
returns-then-len-function c =
    let s = c.args.self.now in
    let p = s.reader.program.now in
    let keep = labels_in c.args.receivers.now in
    let all = edges_to (at_view s) (point_of s) (λ g. g == c.args.function.0) keep in
    subst (λ (b : Bool). c.new-edges.result.items ≡ (if b then all else []))
    (sym c.if-not-is_run.false) (c.new-edges.ensures.items
    ∙ edges_to_none (point_of s) (filter keep (labels_of p)) c.args.function.0 _
    (omega (arith, c.if-len-function.true, c.len.ensures)))

pub returns : goal.returns
returns c =
    let s = c.args.self.now in
    let p = s.reader.program.now in
    let keep = labels_in c.args.receivers.now in
    let f = c.args.function.0 in
    let all = edges_to (at_view s) (point_of s) (λ g. g == f) keep in
    subst (λ (b : Bool). c.add_edges.new.edges.items ≡ (if b then all else []))
    (sym c.if-not-is_run.false) (c.in_ok-add_edges.ensures
    ∙ ap (λ (es : List Edge). es ++ map (edge (point_of s) f) c.deref.result.now)
    c.new-edges.ensures.items
    ∙ ap (λ (ls : List Label). map (edge (point_of s) f) ls)
    (c.deref.ensures.value ∙ c.in_ok-receivers.ensures)
    ∙ edges_to_one (point_of s) (filter keep (labels_of p)) f _
    (omega (arith, c.if-len-function.false, c.len.ensures)))
