use Rattle.std.proofs.Common.{Option, IsSome, ◌⊎◌, ⊎_elim, rules}
use Rattle.std.proofs.lemmas.Bool.{false≢true}
use Rattle.std.specs.Option.{option_map_or}
use Rattle.std.specs.Ordering.{nat_cmp}
use Rattle.std.specs.declared.rc.Rc.{Rc}
use Rattle.std.specs.Global.{Global}
use Rattle.std.specs.BTreeMap.{get}
use Rattle.ja_abstract.specs.Order.{LeqProperty}
use Rattle.ja_value.specs.declared.property.AProp.{AProp}
use Rattle.ja_value.specs.Value.{property_of}
use Rattle.ja_aheap.specs.Objects.{shared_property}
use Rattle.ja_aheap.proofs.MapLemmas.{beside_holds}
use Rattle.ja_aheap.proofs.object.AObject.leq_beside.Goals as goal

pub returns : goal.returns
returns c = λ said q.
    beside_holds _
    (λ (o p : Option (Rc AProp Global)). IsSome o ⊎ IsSome p
    → LeqProperty (option_map_or shared_property o (property_of c.args.self.now.common))
    (option_map_or shared_property p (property_of c.args.other.now.common)))
    (λ v w is one. search rules) (λ one. absurd (⊎_elim false≢true false≢true one))
    (get nat_cmp c.args.self.now.listed q) (get nat_cmp c.args.other.now.listed q)
    (c.all_beside.ensures said q)
