use Rattle.std.proofs.Common.{ap, rules}
use Rattle.std.specs.Ordering.{nat_cmp}
use Rattle.std.specs.BTreeMap.{get}
use Rattle.ja_abstract.specs.AbstractState.{key_number, aged_property}
use Rattle.ja_value.specs.Value.{property_of}
use Rattle.ja_aheap.specs.Objects.{shared_property}
use Rattle.ja_aheap.proofs.MapLemmas.{found, filled_once}
use Rattle.ja_aheap.proofs.object.AObject.aged.Goals as goal

pub returns : goal.returns
returns c =
    let a = c.args.self.now in
    λ i k. filled_once _ shared_property (aged_property c.args.site)
    (get nat_cmp a.listed (key_number k)) (get nat_cmp c.new-listed.result (key_number k))
    (get nat_cmp c.fill.new.into (key_number k))
    (property_of a.common) (property_of c.in_ok-common.common)
    (ap (λ es. found es (key_number k)) c.new-listed.ensures.empty)
    (c.in_ok-fill.ensures (key_number k))
    (λ v w is makes. search rules) c.in_ok-common.ensures i
