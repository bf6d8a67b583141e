-- What is collected is what was left behind the first.
use Rattle.std.specs.Prelude.{ℕ, Ok}
use Rattle.std.specs.Vec.Iter.{into_iter_items, into_iter_len}
use Rattle.std.proofs.Common.{◌∙◌, ap}
use Rattle.std.proofs.lemmas.Iterator.{items_from_collect}
use Rattle.std.proofs.lemmas.Iterator.Adapters.{YieldsList-from_skip, YieldsList-from_vec}
use Rattle.ja_host.proofs.arguments.behind_name.Goals as goal

pub returns-in-Ok-clause-words : goal.returns-in-Ok-clause-words
returns-in-Ok-clause-words c =
    items_from_collect {E = ℕ} (Ok c.in-Ok.words) c.in-Ok.ensures.ran
    (YieldsList-from_skip 1 (YieldsList-from_vec (into_iter_items c.args.arguments)
    (ap into_iter_items c.skip.ensures.source)
    (ap into_iter_len c.skip.ensures.source ∙ c.args.arguments.rest.ok.0)) c.skip.ensures.count)
