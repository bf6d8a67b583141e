-- The functions that the objects of some labels run, one after another, and call edges into them.
use Rattle.std.specs.Prelude.{◌≡◌, ◌<◌, ◌≤◌, ℕ, Bool, true, false, if◌then◌else◌, List, [], map, Option, Some, None}
use Rattle.std.specs.List.{list_any, flat_map, range_with_len}
use Rattle.ja_base.specs.declared.ids.FnId.{FnId}
use Rattle.ja_base.specs.declared.ids.Label.{Label}
use Rattle.ja_graph.specs.declared.program.Program.{Program}
use Rattle.ja_rows.specs.declared.table.Edge.{Edge}
use Rattle.ja_rows.specs.Out.{Point}
use Rattle.ja_rows.specs.Edges.{calls_at, constructs_at, runs, edge}
use Rattle.ja_transfer.specs.declared.sites.Entry.{Entry}
use Rattle.ja_transfer.specs.declared.sites.Entry.TheVariants.{Call, Construct}

-- the function that the objects of a label run
abbrev pub entry_by : Entry → Program → Label → Option FnId
entry_by Call = calls_at
entry_by Construct = constructs_at

-- some of the labels run a function
abbrev pub some_run : Entry → Program → List Label → ℕ → Bool
some_run entry p labels f = list_any (runs (entry_by entry p) f) labels

-- the least function from a number on, and below another, that is run
pub record IsLeast (is_run : ℕ → Bool) (from end g : ℕ) : Type 0 where
  pub from_on : from ≤ g
  pub below : g < end
  pub run : is_run g ≡ true
  pub first : (f : ℕ) → from ≤ f → f < g → is_run f ≡ false

abbrev pub IsNext : (ℕ → Bool) → ℕ → ℕ → Option FnId → Type 0
IsNext is_run from end None = (f : ℕ) → from ≤ f → f < end → is_run f ≡ false
IsNext is_run from end (Some g) = IsLeast is_run from end g.0

-- the edges into a function, if it is run, and into those below a number
abbrev pub edges_at : Point → (ℕ → Bool) → List Label → ℕ → List Edge
edges_at x is_run receivers f = if is_run f then map (edge x f) receivers else []

abbrev pub edges_below : Point → (ℕ → Bool) → List Label → ℕ → List Edge
edges_below x is_run receivers n =
    flat_map (edges_at x is_run receivers) (range_with_len 0 n)
