-- Places of contexts and of edges among those that are kept in order.
use Rattle.std.specs.Prelude.{◌≡◌, ℕ, Bool, List, Option, IsTrue, false, drop, find, take}
use Rattle.std.specs.List.{AllByRecursion}
use Rattle.ja_base.specs.declared.ids.Context.{Context}
use Rattle.ja_rows.specs.declared.table.Edge.{Edge}
use Rattle.ja_rows.specs.Table.{same_edge}
use Rattle.ja_table.specs.declared.table.CallEdge.{CallEdge}
use Rattle.ja_table.specs.declared.table.ContextTable.{ContextTable}
use Rattle.ja_table.specs.Order.{below_context, below_edge, context_of, edge_of}

abbrev pub find_edge : Edge → List CallEdge → Option CallEdge
find_edge e edges = find (λ (d : CallEdge). same_edge d.edge e) edges

module _ {X K : Type 0} (key : X → K) (below : K → K → Bool) where
  -- the elements before the place come before the key, and no other one does
  pub record IsPlaceAmong (k : K) (xs : List X) (n : ℕ) : Type 0 where
    pub before : AllByRecursion (λ (c : X). IsTrue (below (key c) k)) (take n xs)
    pub behind : AllByRecursion (λ (c : X). below (key c) k ≡ false) (drop n xs)

abbrev pub IsPlaceOf : Context → List ContextTable → ℕ → Type 0
IsPlaceOf x contexts n = IsPlaceAmong context_of below_context x contexts n

abbrev pub IsPlaceOfEdge : Edge → List CallEdge → ℕ → Type 0
IsPlaceOfEdge e edges n = IsPlaceAmong edge_of below_edge e edges n

-- the contexts before the place don't come behind the context, and each other one does
pub record IsPlaceBehind (x : Context) (contexts : List ContextTable) (n : ℕ) : Type 0 where
  pub before : AllByRecursion (λ (c : ContextTable). below_context x c.context ≡ false)
      (take n contexts)
  pub behind : AllByRecursion (λ (c : ContextTable). IsTrue (below_context x c.context))
      (drop n contexts)
