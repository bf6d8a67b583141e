-- What the functions inside the crate say of the edges of a table.
use Rattle.std.specs.Prelude.{◌≡◌, ◌<◌, ◌≤◌, ◌+◌, ℕ, Bool, true, false, not, ◌&&◌, ◌==◌, if◌then◌else◌, nat_lt, IsTrue, All, List, length, map, count_by, slice_index_or, slice_set, Option, None}
use Rattle.std.specs.declared.cmp.Ordering.{Ordering}
use Rattle.std.specs.List.{range_with_len}
use Rattle.std.specs.Option.{option_map, option_and_then}
use Rattle.std.specs.Ordering.{nat_cmp, ordering_then}
use Rattle.ja_base.specs.declared.ids.FnId.{FnId}
use Rattle.ja_base.specs.declared.ids.Place.{Place}
use Rattle.ja_graph.specs.declared.node.NodeInfo.{NodeInfo}
use Rattle.ja_graph.specs.declared.program.Program.{Program}
use Rattle.ja_graph.specs.Program.{node_at}
use Rattle.ja_rows.specs.declared.table.Edge.{Edge}
use Rattle.ja_rows.specs.Table.{Table}
use Rattle.ja_table.specs.declared.table.CallEdge.{CallEdge}
use Rattle.ja_lint_top.specs.declared.links.Link.{Link}
use Rattle.ja_lint_top.specs.Calls.{place_of, IsOfText, Leads}

-- ---- the functions that lead to one, marked by their numbers

abbrev pub is_marked : List Bool → FnId → Bool
is_marked marks f = slice_index_or marks f.0 false

-- one of the program alone
abbrev pub alone : Program → FnId → List Bool
alone p f = map (λ (n : ℕ). n == f.0) (range_with_len 0 (length p.functions))

-- each that is marked leads to one
abbrev pub AllLead : Program → Table → FnId → List Bool → Type 0
AllLead p t f marks = (g : FnId) → IsTrue (is_marked marks g) → (n : ℕ) × Leads p t n g f

-- .. and of the program no other does
pub record AreLeading (p : Program) (t : Table) (f : FnId) (marks : List Bool) : Type 0 where
  pub sound : AllLead p t f marks
  pub complete : (g : FnId) (n : ℕ) → g.0 < length p.functions → Leads p t n g f
      → IsTrue (is_marked marks g)

-- a built-in function calls one that is marked
abbrev pub IsNext : Program → List Bool → Edge → Type 0
IsNext p marks e =
    IsTrue (is_marked marks e.callee.function) × (IsOfText p e.caller.function → ⊥)

-- then it is marked too, if it is one of the program
abbrev pub IsDone : Program → List Bool → Edge → Type 0
IsDone p marks e =
    IsNext p marks e → e.caller.function.0 < length marks
    → IsTrue (is_marked marks e.caller.function)

-- an edge adds its caller, or has nothing to add
abbrev pub Adds : Program → Edge → List Bool → List Bool → Bool → Type 0
Adds p e old new true =
    IsNext p old e × (is_marked old e.caller.function ≡ false)
    × (e.caller.function.0 < length old) × (new ≡ slice_set old e.caller.function.0 true)
Adds p e old new false = (new ≡ old) × IsDone p old e

-- Some edges add their callers. Where there are none to add, the edges are done; otherwise fewer
-- functions are left.
pub record Grows (p : Program) (t : Table) (edges : List CallEdge) (old new : List Bool)
    (grows : Bool) : Type 0 where
  pub size : length new ≡ length old
  pub kept : (g : FnId) → IsTrue (is_marked old g) → IsTrue (is_marked new g)
  pub sound : (f : FnId) → AllLead p t f old → AllLead p t f new
  pub fewer : count_by not new + (if grows then 1 else 0) ≤ count_by not old
  pub done : grows ≡ false → All (λ (d : CallEdge). IsDone p new d.edge) edges

-- ---- places, by their numbers

abbrev pub Spot : Type 0
Spot = ℕ × ℕ

abbrev pub spot_cmp : Spot → Spot → Ordering
spot_cmp x y = ordering_then (nat_cmp x.0 y.0) (nat_cmp x.1 y.1)

abbrev pub spot_of : Place → Spot
spot_of at = (at.line, at.column)

abbrev pub place_at : Spot → Place
place_at s = record { line = s.0; column = s.1 }

-- where the node of an edge stands
abbrev pub edge_place : Program → Edge → Option Place
edge_place p e = option_map (λ (i : NodeInfo). i.place) (node_at p e.caller.function e.node)

abbrev pub is_of_text : Program → FnId → Bool
is_of_text p f = nat_lt f.0 p.text_functions

-- the place of the text from which an edge leads to a function that is marked
abbrev pub spot_into : Program → List Bool → Edge → Option Spot
spot_into p marks e =
    if is_of_text p e.caller.function && is_marked marks e.callee.function then
    option_map spot_of (edge_place p e) else None

-- ---- links, by their numbers

abbrev pub Ends : Type 0
Ends = Spot × Spot

abbrev pub ends_cmp : Ends → Ends → Ordering
ends_cmp x y = ordering_then (spot_cmp x.0 y.0) (spot_cmp x.1 y.1)

abbrev pub link_at : Ends → Link
link_at s = record { from = place_at s.0; to = place_at s.1 }

-- the ends of an edge between functions of the text
abbrev pub ends_of : Program → Edge → Option Ends
ends_of p e =
    if is_of_text p e.caller.function && is_of_text p e.callee.function then
    option_and_then (λ (from : Place). option_map (λ (to : Place). (spot_of from, spot_of to))
    (place_of p e.callee.function)) (edge_place p e)
    else None
