-- The operation on texts and numbers that has a number, and no believed statement.
use Rattle.std.specs.Prelude.{ℕ, List, ◌∷◌, map, Option, Some, None, slice_get}
use Rattle.std.specs.Option.{option_map_or}
use Rattle.ja_machine.specs.declared.machine.TextOperation.{TextOperation}
use Rattle.ja_machine.specs.TextOperations.{text_operations}

-- those of the first numbers read the heap
abbrev pub by_number : List (Option TextOperation)
by_number = None ∷ None ∷ None ∷ None ∷ None ∷ None ∷ None ∷ map Some text_operations

abbrev pub text_operation : ℕ → Option TextOperation
text_operation which =
    option_map_or (λ (o : Option TextOperation). o) (slice_get by_number which) None
