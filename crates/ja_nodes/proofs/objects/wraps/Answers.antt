use Rattle.std.proofs.Common.{◌≡◌, ℕ, true, sym, ap, ◌∙◌}
use Rattle.std.proofs.lemmas.Result.{IfOk-weaker}
use Rattle.ja_abstract.specs.AbstractValue.{is_present}
use Rattle.ja_abstract.specs.AbstractState.{labels_below}
use Rattle.ja_abstract.specs.Made.{wrapper_own}
use Rattle.ja_abstract.specs.Reading.{has_present}
use Rattle.ja_rows.specs.Out.{makes_if}
use Rattle.ja_value.specs.Value.{value_of}
use Rattle.ja_aheap.specs.Objects.{own_in}
use Rattle.ja_transfer.specs.Outcomes.{at_view}
use Rattle.ja_transfer.proofs.GivenLemmas.{added_as}
use Rattle.ja_nodes.proofs.objects.wraps.Goals as goal

pub returns : goal.returns
returns c =
    let s = c.args.stepper.now in
    let w = at_view s in
    let v = value_of c.args.value in
    let next = s.info.now.next in
    let there : true ≡ has_present w v =
    sym c.if-not-is_present.false ∙ c.is_present.ensures
    ∙ ap (λ (n : ℕ). is_present (labels_below n) v) s.reader.sites_are in
    let same : makes_if w true c.args.dst c.args.site (own_in c.in_ok-made.made) next
    ≡ makes_if w (has_present w v) c.args.dst c.args.site (wrapper_own c.args.prototype v) next =
    λ n. makes_if w (there n) c.args.dst c.args.site (c.in_ok-made.ensures n) next in
    IfOk-weaker c.gives_made.result _ _ (λ _ added. added_as s _ _ c.args.states.now
    c.gives_made.new.states same added) c.gives_made.ensures
