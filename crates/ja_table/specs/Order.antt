-- The order in which a table keeps its contexts and its call edges.
use Rattle.std.specs.Prelude.{ℕ, Bool, ◌&&◌, ◌||◌, ◌==◌, nat_lt, IsTrue, List, [], ◌∷◌}
use Rattle.std.specs.List.{AllByRecursion}
use Rattle.ja_base.specs.declared.ids.Context.{Context}
use Rattle.ja_abstract.specs.AbstractState.{label_number}
use Rattle.ja_rows.specs.declared.table.Edge.{Edge}
use Rattle.ja_rows.specs.Table.{same_context}
use Rattle.ja_table.specs.declared.table.CallEdge.{CallEdge}
use Rattle.ja_table.specs.declared.table.ContextTable.{ContextTable}

-- by function and receiver
abbrev pub context_key : Context → ℕ × ℕ
context_key x = (x.function.0, label_number x.receiver)

abbrev pub below_context : Context → Context → Bool
below_context x y =
    nat_lt x.function.0 y.function.0
    || ((x.function.0 == y.function.0) && nat_lt (label_number x.receiver) (label_number y.receiver))

-- by caller, node and callee
abbrev pub below_edge : Edge → Edge → Bool
below_edge e d =
    below_context e.caller d.caller || (same_context e.caller d.caller
    && (nat_lt e.node.0 d.node.0 || ((e.node.0 == d.node.0) && below_context e.callee d.callee)))

-- each element comes before all later ones, by their keys
module _ {X K : Type 0} (key : X → K) (below : K → K → Bool) where
  abbrev pub AreOrdered : List X → Type 0
  AreOrdered [] = Unit {0}
  AreOrdered (c ∷ cs) =
      AllByRecursion (λ (d : X). IsTrue (below (key c) (key d))) cs × AreOrdered cs

abbrev pub context_of : ContextTable → Context
context_of c = c.context

abbrev pub edge_of : CallEdge → Edge
edge_of d = d.edge

abbrev pub AreContextsOrdered : List ContextTable → Type 0
AreContextsOrdered contexts = AreOrdered context_of below_context contexts

abbrev pub AreEdgesOrdered : List CallEdge → Type 0
AreEdgesOrdered edges = AreOrdered edge_of below_edge edges
