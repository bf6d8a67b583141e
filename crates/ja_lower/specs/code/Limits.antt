-- What clauses of the code cite beside `Limits`, and no believed statement.
use Rattle.std.specs.Prelude.{◌<◌, ◌≤◌, ℕ, false, List, length}
use Rattle.ja_graph.specs.WellFormed.{max_names}
use Rattle.ja_lower.specs.declared.fault.LowerFault.{LowerFault}
use Rattle.ja_lower.specs.declared.fault.LowerFault.TheVariants.{Functions, Nodes, Names, Memory}
use Rattle.ja_lower.specs.Lowering.{names_of, prelude_names}
use Rattle.ja_syntax.specs.declared.tree.Statement.{Statement}
use Rattle.ja_lower.specs.Limits.{max_functions, max_size, function_count, prelude_count, size_of, prelude_size_of, IsWithinSize}

-- the greatest number of names that stand before those of a text
abbrev pub max_names_before : ℕ
max_names_before = 65536

-- what a fault says of so many functions of this size, with so many names
abbrev pub ExplainsSize : ℕ → ℕ → ℕ → LowerFault → Type 0
ExplainsSize functions size names Functions = max_functions < functions
ExplainsSize functions size names Nodes = (functions ≤ max_functions) × (max_size < size)
ExplainsSize functions size names Names =
    (functions ≤ max_functions) × (size ≤ max_size) × (max_names < names)
ExplainsSize functions size names Memory = Unit {0}

abbrev pub Explains : List (List ℕ) → List Statement → LowerFault → Type 0
Explains names statements fault =
    ExplainsSize (function_count statements) (size_of names statements)
    (length (names_of false names statements)) fault

abbrev pub ExplainsPrelude : List (List ℕ) → List Statement → LowerFault → Type 0
ExplainsPrelude names statements fault =
    ExplainsSize (prelude_count statements) (prelude_size_of names statements)
    (length (prelude_names names statements)) fault

abbrev pub IsPreludeWithin : List (List ℕ) → List Statement → Type 0
IsPreludeWithin names statements =
    IsWithinSize (prelude_count statements) (prelude_size_of names statements)
