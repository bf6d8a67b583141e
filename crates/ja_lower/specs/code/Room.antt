-- What is too large for the room that is left.
use Rattle.std.specs.Prelude.{◌<◌, ℕ}
use Rattle.ja_graph.specs.WellFormed.{max_names}
use Rattle.ja_lower.specs.declared.fault.LowerFault.{LowerFault}
use Rattle.ja_lower.specs.declared.fault.LowerFault.TheVariants.{Functions, Nodes, Names, Memory}

-- what a fault says of a size, where there is this much room
abbrev pub Exceeds : ℕ → ℕ → LowerFault → Type 0
Exceeds room size Functions = ⊥
Exceeds room size Nodes = room < size
Exceeds room size Names = ⊥
Exceeds room size Memory = Unit {0}

-- what a fault says of so many names
abbrev pub HasTooMany : ℕ → LowerFault → Type 0
HasTooMany names Functions = ⊥
HasTooMany names Nodes = ⊥
HasTooMany names Names = max_names < names
HasTooMany names Memory = Unit {0}
