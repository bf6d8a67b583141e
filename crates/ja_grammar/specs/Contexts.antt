-- What stands around a statement, within its function.
use Rattle.std.specs.Prelude.{ℕ, zero, suc, Bool, true, false, not, ◌&&◌, ◌||◌, ◌==◌, List, [], ◌∷◌, length}
use Rattle.std.specs.List.{list_any}
use Rattle.std.specs.Str.{bytes_eq}

-- a label (12.12), and whether its statement is a loop
pub record Label : Type 0 where
  pub name : List ℕ
  pub is_loop : Bool

-- what stands around a statement: a function; a loop; a loop or a `switch`; and the labels, the
-- innermost first
pub record Context : Type 0 where
  pub in_function : Bool
  pub in_loop : Bool
  pub in_breakable : Bool
  pub labels : List Label

-- around the statements of the program, and of a function's body
abbrev pub program_context : Context
program_context = record { in_function = false; in_loop = false; in_breakable = false; labels = [] }

abbrev pub function_context : Context
function_context = record { in_function = true; in_loop = false; in_breakable = false; labels = [] }

-- the innermost n labels are those of a loop
unfoldable pub marked : ℕ → List Label → List Label
marked zero ls = ls
marked (suc n) [] = []
marked (suc n) (l ∷ ls) = record { name = l.name; is_loop = true } ∷ marked n ls

-- around the body of a loop that n labels stand directly before (its label set, 12.12)
abbrev pub loop_context : Context → ℕ → Context
loop_context c n =
    record {
      in_function = c.in_function;
      in_loop = true;
      in_breakable = true;
      labels = marked n c.labels;
    }

-- around the clauses of a `switch`
abbrev pub switch_context : Context → Context
switch_context c =
    record {
      in_function = c.in_function;
      in_loop = c.in_loop;
      in_breakable = true;
      labels = c.labels;
    }

-- around a labelled statement
abbrev pub labelled_context : Context → List ℕ → Context
labelled_context c name =
    record {
      in_function = c.in_function;
      in_loop = c.in_loop;
      in_breakable = c.in_breakable;
      labels = record { name = name; is_loop = false } ∷ c.labels;
    }

-- there is a label of this name
unfoldable pub has_label : Context → List ℕ → Bool
has_label c name = list_any (λ l. bytes_eq l.name name) c.labels

-- there is a loop with a label of this name
unfoldable pub has_loop : Context → List ℕ → Bool
has_loop c name = list_any (λ l. l.is_loop && bytes_eq l.name name) c.labels

-- a `break` may stand here (12.8)
abbrev pub may_break : Context → Bool
may_break c = c.in_breakable || not (length c.labels == 0)
