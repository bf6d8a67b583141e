-- What a reader reads, and what its readings stand for.
use Rattle.std.specs.Prelude.{◌≡◌}
use Rattle.ja_abstract.specs.AbstractValue.{Labels, AbstractValue, AbstractProperty}
use Rattle.ja_abstract.specs.Reading.{View}
use Rattle.ja_abstract.specs.Resolved.{Demands}
use Rattle.ja_value.specs.Value.{value_of, property_of, labels_in}
use Rattle.ja_aheap.specs.Entries.{entries_of}
use Rattle.ja_aheap.specs.Objects.{demands_in}
use Rattle.ja_astate.specs.State.{state_of}
use Rattle.ja_astate.specs.declared.gets.Looked.{Looked}
use Rattle.ja_astate.specs.declared.scopes.Found.{Found}
use Rattle.ja_astate.specs.declared.shown.Ancestors.{Ancestors}
use Rattle.ja_astate.specs.declared.shown.Shown.{Shown}
use Rattle.ja_astate.specs.declared.reader.Reader.{Reader}

abbrev pub view_of : Reader → View
view_of r = record {
  program = r.program.now;
  state = state_of r.state.now;
  entries = entries_of r.entries.now;
}

-- a property that was read, with what it demands
pub record IsLooked (q : AbstractProperty) (demands : Demands) (looked : Looked) : Type 0 where
  pub property : property_of looked.property ≡ q
  pub demands_are : demands_in looked.demands ≡ demands

-- the objects of a name
pub record IsFound (v : AbstractValue) (demands : Demands) (found : Found) : Type 0 where
  pub value : value_of found.value ≡ v
  pub demands_are : demands_in found.demands ≡ demands

-- the objects on the prototype chains of some labels
pub record AreAncestors (all proper : Labels) (demands : Demands) (found : Ancestors) : Type 0 where
  pub all_are : labels_in found.all ≡ all
  pub proper_are : labels_in found.proper ≡ proper
  pub demands_are : demands_in found.demands ≡ demands

-- the names that are shown
pub record IsShown (v : AbstractValue) (demands : Demands) (shown : Shown) : Type 0 where
  pub value : value_of shown.value ≡ v
  pub demands_are : demands_in shown.demands ≡ demands
