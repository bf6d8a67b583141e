-- What is too large to be lowered.
use Rattle.std.specs.Prelude.{◌≤◌, ◌+◌, ℕ, false, List, length}
use Rattle.std.specs.List.{sum_by}
use Rattle.ja_lower_names.specs.TextOrder.{functions_in}
use Rattle.ja_lower.specs.declared.body.Body.{Body}
use Rattle.ja_lower.specs.Lowering.{names_of, scene_of, bodies_of, prelude_names, prelude_bodies}
use Rattle.ja_syntax.specs.declared.tree.Statement.{Statement}

-- the greatest number of functions of a text, and the greatest size of them all
abbrev pub max_functions : ℕ
max_functions = 4096

abbrev pub max_size : ℕ
max_size = 65536

-- how many functions a text has, the program among them
abbrev pub function_count : List Statement → ℕ
function_count statements = 1 + length (functions_in statements)

-- how many functions the texts of built-in functions have
abbrev pub prelude_count : List Statement → ℕ
prelude_count statements = length (functions_in statements)

-- the nodes of a function, with one more for each of its parameters
abbrev pub size_of_body : Body → ℕ
size_of_body body = length body.nodes + length body.parameters

abbrev pub size_of_bodies : List Body → ℕ
size_of_bodies bodies = sum_by size_of_body bodies

-- of a text whose program has these names first, and of built-in functions
unfoldable pub size_of : List (List ℕ) → List Statement → ℕ
size_of names statements =
    size_of_bodies (bodies_of (scene_of (names_of false names statements) statements) statements)

unfoldable pub prelude_size_of : List (List ℕ) → List Statement → ℕ
prelude_size_of names statements =
    size_of_bodies (prelude_bodies (prelude_names names statements) statements)

-- what holds of so many functions of this size that are lowered
pub record IsWithinSize (count size : ℕ) : Type 0 where
  pub functions : count ≤ max_functions
  pub nodes : size ≤ max_size

abbrev pub IsWithin : List (List ℕ) → List Statement → Type 0
IsWithin names statements = IsWithinSize (function_count statements) (size_of names statements)
