-- What the functions that find names need of each other.
use Rattle.std.specs.Prelude.{◌<◌, ℕ, List}
use Rattle.std.specs.List.{AllByRecursion}
use Rattle.std.specs.Option.{option_map_or}
use Rattle.ja_base.specs.declared.ids.Reg.{Reg}
use Rattle.ja_graph.specs.declared.node.NodeInfo.{NodeInfo}
use Rattle.ja_graph.specs.Node.{registers_named}
use Rattle.ja_abstract.specs.AbstractValue.{AbstractValue, no_value}
use Rattle.ja_abstract.specs.Reading.{View}
use Rattle.ja_rows.specs.Out.{at}
use Rattle.ja_warn.specs.Told.{first_key}

-- the registers that some nodes name are among so many
abbrev pub AreWithin : ℕ → List NodeInfo → Type 0
AreWithin count =
    AllByRecursion (λ (i : NodeInfo). AllByRecursion (λ (r : Reg). r.0 < count)
    (registers_named i.node))

-- the value of the key of the first property whose object is in a register
abbrev pub key_value : View → Reg → List NodeInfo → AbstractValue
key_value w r behind = option_map_or (at w) (first_key r behind) no_value
