use Rattle.std.proofs.Common.{ap, ◌∙◌}
use Rattle.ja_lower_listing.specs.Listing.{begins_with_node}
use Rattle.ja_lower_draft.specs.Lines.{Listing}
use Rattle.ja_lower_draft.proofs.KeptLemmas.{kept_begins}
use Rattle.ja_lower_draft.proofs.draft.Draft.begins_with_node.Goals as goal

pub returns : goal.returns
returns c =
    c.unwrap_or.ensures ∙ (kept_begins c.self.invariant
    ∙ ap (λ (l : Listing). begins_with_node l.items) c.self.view_is)
