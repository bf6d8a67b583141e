use Rattle.std.proofs.Common.{rules}
use Rattle.std.proofs.lemmas.Iterator.{items_from_collect, YieldsList-from_map, YieldsList-from_slice}
use Rattle.std.proofs.lemmas.Iterator.Consumers.{YieldsList-at}
use Rattle.ja_warn.specs.declared.reached.Told.{Told}
use Rattle.ja_warn.proofs.faults.warnings_in.Goals as goal

pub returns : goal.returns
returns c =
    items_from_collect c.collect.result c.collect.ensures.ran
    (YieldsList-from_map _ (λ (x : Told). x.warning) (YieldsList-at c.map.ensures.source
    (YieldsList-from_slice c.args.told.now c.iter.ensures.rest)) c.map.ensures.closure
    (λ x r q k. search rules))
