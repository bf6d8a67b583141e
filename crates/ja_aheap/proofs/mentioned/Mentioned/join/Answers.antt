use Rattle.std.proofs.Common.{ap, sym, ◌∙◌}
use Rattle.ja_value.specs.Value.{labels_in}
use Rattle.ja_aheap.proofs.KeptLemmas.{or_turned}
use Rattle.ja_aheap.proofs.mentioned.Mentioned.join.Goals as goal

pub returns-then-not-covers-clause-joined : goal.returns-then-not-covers-clause-joined
returns-then-not-covers-clause-joined c =
    let its = ap labels_in (c.deref.ensures ∙ c.other.view_is) in
    let own = ap labels_in (c.deref-2.ensures ∙ c.self.view_is) in
    ap labels_in (c.in_ok-self-inside.ensures.cases ∙ sym c.deref.ensures)
    ∙ sym (c.covers.ensures.0 c.if-covers.true)
    ∙ (λ i l. or_turned (its i l) (own i l) i)
