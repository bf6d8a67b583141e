use Rattle.std.proofs.Common.{◌==◌, Bool, List, [], if◌then◌else◌, subst, ap, ◌∙◌}
use Rattle.ja_base.specs.declared.ids.FnId.{FnId}
use Rattle.ja_abstract.specs.AbstractValue.{AbstractValue, join, of_labels}
use Rattle.ja_abstract.specs.Values.{value_if, primitives_of}
use Rattle.ja_machine.specs.Calls.{default_function}
use Rattle.ja_rows.specs.declared.table.Edge.{Edge}
use Rattle.ja_rows.specs.Out.{sets, at}
use Rattle.ja_rows.specs.Edges.{edges_to, is_kept, is_converted}
use Rattle.ja_value.specs.Value.{value_of}
use Rattle.ja_transfer.specs.Outcomes.{at_view, point_of, AreAdded}
use Rattle.ja_transfer.proofs.GivenLemmas.{outcome_with}
use Rattle.ja_transfer.proofs.stepper.Stepper.convert.Goals as goal

pub returns : goal.returns
returns c =
    let s = c.args.self.now in
    let w = at_view s in
    let next = s.info.now.next in
    let value = λ (kept : Bool) (u : AbstractValue). join (value_if kept (of_labels u.label))
    (primitives_of u) in
    let edges : Bool → FnId → AbstractValue → List Edge = λ b f u. if b
    then edges_to w (point_of s) (λ g. g == f.0) u.label else [] in
    let u = value_of c.register-value.result.now in
    let v = at w c.args.src in
    let value_is = c.in_ok-value.ensures ∙ ap (λ b. value b u) c.is_kept.ensures
    ∙ ap (value (is_kept w c.args.other)) c.register-value.ensures in
    let edges_are = c.in_ok-edges.ensures
    ∙ ap (λ b. edges b c.default_function-function.result u) c.in_ok-is_converted.ensures
    ∙ ap (λ f. edges (is_converted w c.args.other) f u) c.default_function-function.ensures
    ∙ ap (edges (is_converted w c.args.other) (default_function w.program c.args.kind))
    c.register-value.ensures in
    outcome_with s (sets w c.args.dst (value (is_kept w c.args.other) v) next) _
    c.new-states.result _ c.new-states.ensures
    (subst (λ x. AreAdded s (sets w c.args.dst x next) c.new-states.result c.sets.new.states)
    value_is c.in_ok-sets.ensures) c.new.ensures edges_are
