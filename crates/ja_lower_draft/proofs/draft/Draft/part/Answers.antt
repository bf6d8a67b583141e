use Rattle.ja_lower_draft.proofs.KeptLemmas.{kept_both, kept_line, kept_long}
use Rattle.ja_lower_draft.proofs.draft.Draft.part.Goals as goal

pub invariant_of-self-2 : goal.invariant_of-self-2
invariant_of-self-2 c =
    rw (c.grown-listed.ensures, c.or-begins.ensures)
    (kept_long c.in_ok-keep.ensures.kept (rw c.saturating_add-nodes.ensures
    (kept_both c.self.invariant (kept_line c.args.part c.args.nodes c.is_node.result c.requires
    c.is_node.ensures))))
