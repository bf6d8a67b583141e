use Rattle.ja_lower_draft.proofs.KeptLemmas.{kept_both}
use Rattle.ja_lower_draft.proofs.draft.Draft.then.Goals as goal

pub invariant_of-result : goal.invariant_of-result
invariant_of-result c =
    rw (c.grown-listed.ensures, c.saturating_add.ensures, c.or.ensures, c.in_ok-parts.ensures)
    (kept_both c.self.invariant c.listing.invariant)
