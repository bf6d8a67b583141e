use Rattle.std.proofs.Common.{ap, ◌∙◌, ℕ, List}
use Rattle.ja_value.specs.Labels.{has}
use Rattle.ja_value.proofs.AscendingLemmas.{contained}
use Rattle.ja_value.proofs.ascending.Ascending.contains.Goals as goal

pub returns : goal.returns
returns c =
    c.is_ok.ensures.value
    ∙ contained _ _ c.args.number _ c.as_slice.ensures c.self.invariant
    c.binary_search.ensures.position
    ∙ ap (λ (ks : List ℕ). has ks c.args.number) c.self.view_is
