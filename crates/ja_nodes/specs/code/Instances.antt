-- The parts of `instanceof`.
use Rattle.std.specs.Prelude.{◌≡◌, Bool, ◌&&◌, List}
use Rattle.std.specs.List.{list_any}
use Rattle.ja_base.specs.declared.ids.Label.{Label}
use Rattle.ja_graph.specs.declared.program.Program.{Program}
use Rattle.ja_aheap.specs.declared.demands.DemandList.{DemandList}
use Rattle.ja_aheap.specs.Objects.{demands_in}
use Rattle.ja_abstract.specs.AbstractValue.{Labels, same_label}
use Rattle.ja_abstract.specs.Reading.{View, some_label, demands_if, get, demands_of_get, proper_ancestors, demands_of_ancestors}
use Rattle.ja_abstract.specs.Values.{is_function_label, value_if}
use Rattle.ja_value.specs.Value.{value_of}
use Rattle.ja_astate.specs.declared.gets.Looked.{Looked}
use Rattle.ja_rows.specs.Properties.{prototype_keys}

-- the labels of functions among some
abbrev pub functions_among : Program → List Label → Labels
functions_among p labels l =
    list_any (λ (m : Label). is_function_label p m && same_label m l) labels

-- what some functions have at `prototype`, if it is asked for
pub record IsPrototype (w : View) (is_asked : Bool) (functions : Labels) (looked : Looked)
    : Type 0 where
  pub value : value_of looked.property.value
      ≡ value_if is_asked (get w functions (prototype_keys w.program)).value
  pub demands_are : demands_in looked.demands
      ≡ demands_if is_asked (demands_of_get w functions (prototype_keys w.program))

-- whether an object is on the chain of another, if that is asked for
pub record AreAbove (w : View) (is_asked : Bool) (start prototypes : Labels)
    (found : Bool × DemandList) : Type 0 where
  pub above : found.0
      ≡ (is_asked && some_label w (λ l. proper_ancestors w start l && prototypes l))
  pub demands_are : demands_in found.1 ≡ demands_if is_asked (demands_of_ancestors w start)
