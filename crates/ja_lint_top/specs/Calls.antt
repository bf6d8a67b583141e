-- Which calls of a text lead where, by the call edges of a table.
use Rattle.std.specs.Prelude.{◌≡◌, ◌⊎◌, ◌<◌, ℕ, zero, suc, IsTrue, List, [], ◌∷◌, Option, Some, Contains}
use Rattle.std.specs.List.{AllByRecursion}
use Rattle.std.specs.Option.{option_map}
use Rattle.ja_base.specs.declared.ids.FnId.{FnId}
use Rattle.ja_base.specs.declared.ids.Place.{Place}
use Rattle.ja_graph.specs.declared.node.NodeInfo.{NodeInfo}
use Rattle.ja_graph.specs.declared.program.Program.{Program}
use Rattle.ja_graph.specs.Program.{node_at}
use Rattle.ja_rows.specs.declared.table.Edge.{Edge}
use Rattle.ja_rows.specs.Table.{Table}
use Rattle.ja_lint_top.specs.declared.links.Link.{Link}

-- ---- calls

-- a function of the text, and one that is built in
abbrev pub IsOfText : Program → FnId → Type 0
IsOfText p f = f.0 < p.text_functions

-- an operation of the text at a place calls a function, in some contexts
pub record Calls (p : Program) (t : Table) (at : Place) (f : FnId) : Type 0 where
  pub edge : Edge
  pub edge_is : IsTrue (t.edge edge)
  pub caller : IsOfText p edge.caller.function
  pub info : NodeInfo
  pub info_is : node_at p edge.caller.function edge.node ≡ Some info
  pub place_is : info.place ≡ at
  pub callee_is : edge.callee.function ≡ f

-- so many calls lead from one function to another, each of them made by a built-in function
abbrev pub Leads : Program → Table → ℕ → FnId → FnId → Type 0
Leads p t zero from f = from ≡ f
Leads p t (suc n) from f =
    (e : Edge) × IsTrue (t.edge e) × (e.caller.function ≡ from) × (IsOfText p from → ⊥)
    × Leads p t n e.callee.function f

-- an operation of the text at a place calls a function, itself or through built-in functions
abbrev pub IsCaller : Program → Table → FnId → Place → Type 0
IsCaller p t f at = (g : FnId) × (n : ℕ) × Calls p t at g × Leads p t n g f

-- ---- where they stand

abbrev pub IsBelow : Place → Place → Type 0
IsBelow a b = (a.line < b.line) ⊎ ((a.line ≡ b.line) × (a.column < b.column))

abbrev pub ArePlacesOrdered : List Place → Type 0
ArePlacesOrdered [] = Unit {0}
ArePlacesOrdered (at ∷ places) = AllByRecursion (IsBelow at) places × ArePlacesOrdered places

-- the places of the text that call a function, itself or through built-in functions, each once
pub record AreCallers (p : Program) (t : Table) (f : FnId) (places : List Place) : Type 0 where
  pub ordered : ArePlacesOrdered places
  pub each : AllByRecursion (IsCaller p t f) places
  pub complete : (at : Place) → IsCaller p t f at → Contains places at

-- ---- links

-- where a function stands: at its first node
abbrev pub place_of : Program → FnId → Option Place
place_of p f = option_map (λ (i : NodeInfo). i.place) (node_at p f (record { 0 = 0 }))

-- an operation of the text calls a function of the text
abbrev pub IsLink : Program → Table → Link → Type 0
IsLink p t link =
    (f : FnId) × IsOfText p f × Calls p t link.from f × (place_of p f ≡ Some link.to)

abbrev pub IsLinkBelow : Link → Link → Type 0
IsLinkBelow a b = IsBelow a.from b.from ⊎ ((a.from ≡ b.from) × IsBelow a.to b.to)

abbrev pub AreLinksOrdered : List Link → Type 0
AreLinksOrdered [] = Unit {0}
AreLinksOrdered (link ∷ links) =
    AllByRecursion (IsLinkBelow link) links × AreLinksOrdered links

-- the calls of functions of the text, each once
pub record AreLinks (p : Program) (t : Table) (links : List Link) : Type 0 where
  pub ordered : AreLinksOrdered links
  pub each : AllByRecursion (IsLink p t) links
  pub complete : (link : Link) → IsLink p t link → Contains links link
