-- Why a tree has no program.
use Rattle.std.specs.Prelude.{◌<◌, ◌≤◌, false, List, length}
use Rattle.ja_grammar.specs.declared.fault.ParseFault.TheVariants as parse
use Rattle.ja_graph.specs.WellFormed.{max_names}
use Rattle.ja_load.specs.declared.fault.LoadFault.{LoadFault}
use Rattle.ja_load.specs.declared.fault.LoadFault.TheVariants as fault
use Rattle.ja_load.specs.Loading.{names_before}
use Rattle.ja_lower.specs.Limits.{max_functions, max_size, function_count, size_of, IsWithin}
use Rattle.ja_lower.specs.Lowering.{names_of}
use Rattle.ja_prim.specs.declared.signature.Signature.{Signature}
use Rattle.ja_syntax.specs.declared.tree.Statement.{Statement}

-- what a fault says of a tree; want of memory is explained by nothing
abbrev pub Explains : List Signature → List Statement → LoadFault → Type 0
Explains signatures statements (fault.Parse parse.Memory) = Unit {0}
Explains signatures statements (fault.Parse f) = ⊥
Explains signatures statements fault.Functions = max_functions < function_count statements
Explains signatures statements fault.Nodes =
    (function_count statements ≤ max_functions)
    × (max_size < size_of (names_before signatures) statements)
Explains signatures statements fault.Names =
    IsWithin (names_before signatures) statements
    × (max_names < length (names_of false (names_before signatures) statements))
