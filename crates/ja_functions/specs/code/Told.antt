-- What the operations of the built-in functions tell, as it is kept.
use Rattle.std.specs.Prelude.{◌≡◌, ◌||◌, Bool, List}
use Rattle.std.specs.List.{list_any}
use Rattle.ja_base.specs.declared.ids.Label.{Label}
use Rattle.ja_prim.specs.declared.primitive.Primitive.TheVariants as primitive
use Rattle.ja_graph.specs.declared.program.Program.{Program}
use Rattle.ja_machine.specs.Intrinsics.{class_name}
use Rattle.ja_machine.specs.Machine.{class_of_site}
use Rattle.ja_abstract.specs.declared.abstraction.Key.{Key}
use Rattle.ja_abstract.specs.AbstractValue.{AbstractValue, AbstractProperty, of_primitive}
use Rattle.ja_abstract.specs.Made.{value_key}
use Rattle.ja_abstract.specs.Operations.{Looked}
use Rattle.ja_abstract.specs.Reading.{View, own, slot, may_have, may_lack, may_be_enumerable, may_be_hidden}
use Rattle.ja_abstract.specs.Values.{primitives_of}
use Rattle.ja_aheap.specs.Objects.{demands_in}
use Rattle.ja_value.specs.Value.{value_of}
use Rattle.ja_functions.specs.declared.told.Told.{Told}
use Rattle.ja_functions.specs.declared.owns.Asked.{Asked}
use Rattle.ja_functions.specs.declared.owns.Asked.TheVariants.{Having, Enumerable}

-- what an operation tells is what its row looks up
pub record IsTold (looked : Looked) (told : Told) : Type 0 where
  pub value : value_of told.value ≡ looked.value
  pub demands_are : demands_in told.demands ≡ looked.demands

-- what is asked of a property: whether it may hold, and whether it may fail
abbrev pub may_hold : View → Asked → AbstractProperty → Bool
may_hold w Having q = may_have w q
may_hold w Enumerable q = may_be_enumerable w q

abbrev pub may_fail : View → Asked → AbstractProperty → Bool
may_fail w Having q = may_lack q
may_fail w Enumerable q = may_lack q || may_be_hidden w q

-- the name of the class of a label's objects, and the primitives that they may keep
abbrev pub class_text : Program → Label → AbstractValue
class_text p l = of_primitive (primitive.Text (class_name (class_of_site p l.site.0)))

abbrev pub held : View → Label → AbstractValue
held w l = primitives_of (slot w l value_key)

-- whether some label's own property holds what is asked
abbrev pub some_own : View → (AbstractProperty → Bool) → List Key → List Label → Bool
some_own w holds keys = list_any (λ (l : Label). holds (own w l keys))
