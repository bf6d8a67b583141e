use Rattle.std.proofs.lemmas.Bool.{not-true}
use Rattle.ja_aheap.proofs.ComposedLemmas.{kept_whole}
use Rattle.ja_aheap.proofs.sources.Sources.is_kept.Goals as goal

pub returns-then-is_as_at_entry : goal.returns-then-is_as_at_entry
returns-then-is_as_at_entry c = λ said.
    kept_whole c.args.names c.args.self.now c.in-Some-None.first c.in-Some-None.is-0
    c.in-Some-None.is-1 (c.is_as_at_entry.ensures.0 c.if-is_as_at_entry.true)
    (c.is_renamed.ensures (not-true c.is_renamed.result said))
