-- What clauses of the code cite beside `Lookups`, and no believed statement.
use Rattle.std.specs.Prelude.{ℕ, ◌==◌, if◌then◌else◌, List, [], ◌∷◌, length}

-- the entries of a table whose texts have a length
abbrev pub of_length : {A : Type 0} → ℕ → List (List ℕ × A) → List (List ℕ × A)
of_length n [] = []
of_length n (entry ∷ entries) =
    if length entry.0 == n then entry ∷ of_length n entries else of_length n entries
