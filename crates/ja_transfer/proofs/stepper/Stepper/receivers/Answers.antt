use Rattle.std.proofs.Common.{arith, ◌≡◌, ◌<◌, ◌&&◌, ◌||◌, ◌∷◌, [], ◌++◌, Bool, List, if◌then◌else◌, length, ap, ◌∙◌}
use Rattle.std.specs.List.{filter, list_any}
use Rattle.ja_base.specs.declared.ids.Label.{Label}
use Rattle.ja_graph.specs.Program.{global}
use Rattle.ja_abstract.specs.AbstractState.{labels_of, new}
use Rattle.ja_rows.specs.Edges.{is_activation_label, counts_as_global}
use Rattle.ja_value.specs.Value.{labels_in, value_of}
use Rattle.ja_transfer.specs.Outcomes.{at_view}
use Rattle.ja_transfer.specs.code.Receivers.{is_more}
use Rattle.ja_transfer.proofs.Filters.{any_filter}
use Rattle.ja_transfer.proofs.ReceiverLemmas.{receivers_are}
use Rattle.ja_transfer.proofs.stepper.Stepper.receivers.Goals as goal

pub returns : goal.returns
returns c =
    let s = c.args.self.now in
    let p = s.reader.program.now in
    let v = c.args.value.now in
    let keep = labels_in v.labels in
    let act = is_activation_label p in
    let global_is : c.some_activation.result ≡ list_any (λ l. keep l && act l) (labels_of p) =
    c.some_activation.ensures
    ∙ ap (list_any act) (c.deref.ensures.value ∙ c.in_ok-labels.ensures)
    ∙ any_filter keep act (labels_of p) in
    let listed = ap (λ b. v.flags.undefined || (v.flags.null || b)) global_is in
    let some : 0 < length p.sites = omega (arith, c.requires, s.reader.heap_is.sites) in
    c.in_ok-add_receivers.ensures
    ∙ ap (λ (ls : List Label). ls ++ filter (is_more p
    (v.flags.undefined || (v.flags.null || c.some_activation.result))) c.deref-2.result.now)
    c.in_ok-receivers.ensures
    ∙ ap (λ (ls : List Label). (if (v.flags.undefined || (v.flags.null
    || c.some_activation.result)) then new global ∷ [] else []) ++ filter (is_more p
    (v.flags.undefined || (v.flags.null || c.some_activation.result))) ls)
    (c.deref-2.ensures.value ∙ c.in_ok-labels.ensures)
    ∙ ap (λ (g : Bool). (if g then new global ∷ [] else []) ++ filter (is_more p g)
    (filter keep (labels_of p))) listed
    ∙ receivers_are p keep (counts_as_global (at_view s) (value_of v)) some
