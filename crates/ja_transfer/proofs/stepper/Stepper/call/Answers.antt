use Rattle.std.proofs.Common.{◌≡◌, Bool, ◌||◌, not, List, length, subst, ap, ◌∙◌}
use Rattle.std.specs.List.{list_any, filter}
use Rattle.std.specs.Option.{is_some}
use Rattle.ja_base.specs.declared.ids.Label.{Label}
use Rattle.ja_abstract.specs.AbstractValue.{AbstractValue}
use Rattle.ja_abstract.specs.AbstractState.{labels_of}
use Rattle.ja_machine.specs.Events.{not_a_function_message}
use Rattle.ja_rows.specs.Out.{type_error, at}
use Rattle.ja_rows.specs.Edges.{has_other, calls_at, edges_to, some_runs, receivers}
use Rattle.ja_value.specs.Value.{value_of}
use Rattle.ja_transfer.specs.declared.outcome.Outcome.{Outcome}
use Rattle.ja_transfer.specs.Outcomes.{at_view, point_of, AreAdded, IsOutcome}
use Rattle.ja_transfer.specs.declared.sites.Entry.TheVariants.{Call}
use Rattle.ja_transfer.specs.code.Callees.{some_run, edges_below}
use Rattle.ja_transfer.proofs.CalleeLemmas.{entered_edges, other_callees}
use Rattle.ja_transfer.proofs.GivenLemmas.{with_edges, outcome_with}
use Rattle.ja_transfer.proofs.stepper.Stepper.call.Goals as goal

pub returns : goal.returns
returns c dst args =
    let s = c.args.self.now in
    let w = at_view s in
    let p = w.program in
    let x = point_of s in
    let u = value_of c.register-callee.result.now in
    let r = value_of c.register.result.now in
    let labels = c.in_ok-callees.callees.items in
    let entry = calls_at p in
    let o : Outcome = record {
      states = c.type_error.new.states;
      demands = c.new.result;
      edges = c.in_ok-edges.edges;
    } in
    let thrown = λ (b : Bool). type_error w b s.info.now c.args.error not_a_function_message in
    let out = λ (v q : AbstractValue). with_edges (thrown (has_other w entry v))
    (edges_to w x (some_runs w entry v) (receivers w q)) in
    let other : (c.has_atoms.result || c.some_without.result) ≡ has_other w entry u =
    ap (λ b. c.has_atoms.result || b) (c.some_without.ensures
    ∙ ap (list_any (λ l. not (is_some (entry l)))) c.deref.ensures.value)
    ∙ other_callees w Call u labels c.in_ok-callees.ensures c.has_atoms.result c.has_atoms.ensures in
    let edges = c.in_ok-edges.ensures
    ∙ ap (λ (ls : List Label). edges_below x (some_run Call p ls)
    (filter (receivers w r) (labels_of p)) (length p.functions)) c.deref-2.ensures.value
    ∙ entered_edges w Call u labels c.in_ok-callees.ensures x (receivers w r) in
    subst (λ v. IsOutcome s (out v (at w c.args.receiver)) o) c.register-callee.ensures
    (subst (λ q. IsOutcome s (out u q) o) c.register.ensures
    (outcome_with s (thrown (has_other w entry u)) _ c.new-states.result o c.new-states.ensures
    (subst (λ b. AreAdded s (thrown b) c.new-states.result c.type_error.new.states) other
    c.in_ok-type_error.ensures) c.new.ensures edges))
