use Rattle.ja_lower_listing.specs.Listing.{block_of}
use Rattle.ja_lower_draft.proofs.KeptLemmas.{kept_long_copy}
use Rattle.ja_lower_draft.proofs.draft.Draft.long_copy.Goals as goal

pub invariant_of-self : goal.invariant_of-self
invariant_of-self c =
    rw (c.grown-self-inside.ensures, c.saturating_add-self-inside.ensures, c.or-self-inside.ensures)
    (kept_long_copy c.self.invariant c.args.moves (block_of c.args.block.now.lines) c.args.nodes
    c.requires.counted c.requires.long)
