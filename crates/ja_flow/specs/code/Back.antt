-- The parts of what an exit gives back.
use Rattle.std.specs.Prelude.{Option, Some, None}
use Rattle.ja_base.specs.declared.ids.Reg.{Reg}
use Rattle.ja_graph.specs.declared.node.Node.{Node}
use Rattle.ja_graph.specs.declared.node.Node.TheVariants as node
use Rattle.ja_abstract.specs.AbstractValue.{AbstractValue}
use Rattle.ja_rows.specs.Calls.{constructed}

-- the register that has what a function returned
abbrev pub destination : Node → Option Reg
destination (node.Call dst callee receiver list error) = Some dst
destination (node.New dst callee list site error) = Some dst
destination (node.Convert dst src kind other) = Some dst
destination n = None

-- what a node has of a value that a function returned
abbrev pub returned_value : Node → AbstractValue → AbstractValue → AbstractValue
returned_value (node.New dst callee list site error) this v = constructed this v
returned_value n this v = v
