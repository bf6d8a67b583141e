use Rattle.std.proofs.Common.{◌≡◌, ap}
use Rattle.std.specs.declared.rc.Rc.{Rc}
use Rattle.std.specs.Global.{Global}
use Rattle.ja_abstract.specs.AbstractState.{key_number}
use Rattle.ja_value.specs.declared.property.AProp.{AProp}
use Rattle.ja_value.specs.Value.{property_of}
use Rattle.ja_aheap.specs.Objects.{shared_property}
use Rattle.ja_aheap.proofs.MapLemmas.{cloned}
use Rattle.ja_aheap.proofs.object.AObject.copy.Goals as goal

pub returns : goal.returns
returns c =
    let o = c.args.self.now in
    λ i k. cloned (λ (p q : Rc AProp Global). q.value ≡ p.value) shared_property _
    (property_of o.common) o.listed.entries _ (λ p q same. ap property_of same)
    c.in_ok-copy.ensures c.in_ok-clone.ensures.cases (key_number k) i
