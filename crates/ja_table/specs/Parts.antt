-- What a table may be made of.
use Rattle.std.specs.Prelude.{List, IsTrue, All}
use Rattle.std.specs.List.{list_any}
use Rattle.ja_table.specs.declared.table.CallEdge.{CallEdge}
use Rattle.ja_table.specs.declared.table.ContextTable.{ContextTable}
use Rattle.ja_table.specs.Order.{AreContextsOrdered, AreEdgesOrdered}
use Rattle.ja_table.specs.Tables.{is_of}

-- the caller and the callee of an edge are among contexts
pub record HasEnds (contexts : List ContextTable) (d : CallEdge) : Type 0 where
  pub caller : IsTrue (list_any (is_of d.edge.caller) contexts)
  pub callee : IsTrue (list_any (is_of d.edge.callee) contexts)

-- contexts and edges in order, none of them twice, each edge between two of the contexts
pub record AreParts (contexts : List ContextTable) (edges : List CallEdge) : Type 0 where
  pub ordered : AreContextsOrdered contexts
  pub edges_ordered : AreEdgesOrdered edges
  pub ends : All (HasEnds contexts) edges
