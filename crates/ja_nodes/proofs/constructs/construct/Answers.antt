use Rattle.std.proofs.Common.{arith, ◌≡◌, ◌<◌, Bool, ◌||◌, not, List, [], ◌∷◌, length, subst, sym, ap, ◌∙◌}
use Rattle.std.specs.List.{list_any}
use Rattle.std.specs.Option.{is_some}
use Rattle.ja_base.specs.declared.ids.Label.{Label}
use Rattle.ja_abstract.specs.AbstractValue.{AbstractValue, same_label}
use Rattle.ja_abstract.specs.AbstractState.{new}
use Rattle.ja_machine.specs.Events.{not_a_constructor_message}
use Rattle.ja_rows.specs.Out.{type_error}
use Rattle.ja_rows.specs.Edges.{has_other, constructs_at, edges_to, some_runs}
use Rattle.ja_value.specs.Value.{value_of}
use Rattle.ja_transfer.specs.declared.outcome.Outcome.{Outcome}
use Rattle.ja_transfer.specs.Outcomes.{at_view, point_of, AreAdded, IsOutcome}
use Rattle.ja_transfer.specs.declared.sites.Entry.TheVariants.{Construct}
use Rattle.ja_transfer.specs.code.Callees.{some_run, edges_below}
use Rattle.ja_transfer.proofs.CalleeLemmas.{entered_edges, other_callees}
use Rattle.ja_transfer.proofs.GivenLemmas.{with_edges, outcome_with}
use Rattle.ja_nodes.proofs.MemberLemmas.{new_of_site}
use Rattle.ja_nodes.proofs.constructs.construct.Goals as goal

pub returns : goal.returns
returns c dst args =
    let s = c.args.stepper.now in
    let w = at_view s in
    let p = w.program in
    let x = point_of s in
    let u = value_of c.register-callee.result.now in
    let labels = c.in_ok-callees.callees.items in
    let entry = constructs_at p in
    let o : Outcome = record {
      states = c.type_error.new.states;
      demands = c.new.result;
      edges = c.in_ok-edges.edges;
    } in
    let made = same_label (new c.args.site) in
    let thrown = λ (b : Bool). type_error w b s.info.now c.args.error not_a_constructor_message in
    let out = λ (v : AbstractValue). with_edges (thrown (has_other w entry v))
    (edges_to w x (some_runs w entry v) made) in
    let other : (c.has_atoms.result || c.some_without-without.result) ≡ has_other w entry u =
    ap (λ b. c.has_atoms.result || b) (c.some_without-without.ensures
    ∙ ap (list_any (λ l. not (is_some (entry l)))) c.deref.ensures.value)
    ∙ other_callees w Construct u labels c.in_ok-callees.ensures c.has_atoms.result
    c.has_atoms.ensures in
    let within : c.args.site.0 < length p.sites =
    omega (arith, c.requires.site, s.reader.heap_is.sites) in
    let edges = c.in_ok-edges.ensures
    ∙ ap (λ (ls : List Label). edges_below x (some_run Construct p ls) (new c.args.site ∷ [])
    (length p.functions)) c.deref-2.ensures.value
    ∙ ap (λ (rs : List Label). edges_below x (some_run Construct p labels) rs
    (length p.functions)) (sym (new_of_site p c.args.site within))
    ∙ entered_edges w Construct u labels c.in_ok-callees.ensures x made in
    subst (λ v. IsOutcome s (out v) o) c.register-callee.ensures
    (outcome_with s (thrown (has_other w entry u)) _ c.new-states.result o c.new-states.ensures
    (subst (λ b. AreAdded s (thrown b) c.new-states.result c.type_error.new.states) other
    c.in_ok-type_error.ensures) c.new.ensures edges)
