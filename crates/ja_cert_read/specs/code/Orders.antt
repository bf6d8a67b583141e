-- The numbers by which what is listed is in order.
use Rattle.std.specs.Prelude.{ℕ, ◌-◌, Bool, List, [], ◌∷◌, length, slice_get}
use Rattle.std.specs.Option.{option_map}
use Rattle.ja_base.specs.declared.ids.Context.{Context}
use Rattle.ja_abstract.specs.AbstractState.{label_number}
use Rattle.ja_rows.specs.declared.table.Edge.{Edge}
use Rattle.ja_table.specs.declared.table.CallEdge.{CallEdge}
use Rattle.ja_cert_read.specs.declared.contexts.ContextAt.{ContextAt}
use Rattle.ja_cert_read.specs.declared.points.PointAt.{PointAt}
use Rattle.ja_cert.specs.Wrong.{is_behind}

-- the last one before, if there is one, has lower numbers
abbrev pub comes_behind : {X : Type 0} → (X → List ℕ) → List X → List ℕ → Bool
comes_behind rank before numbers =
    is_behind (option_map rank (slice_get before (length before - 1))) numbers

abbrev pub node_rank : PointAt → List ℕ
node_rank x = x.node.0 ∷ []

abbrev pub context_rank : Context → List ℕ
context_rank x = x.function.0 ∷ label_number x.receiver ∷ []

abbrev pub context_at_rank : ContextAt → List ℕ
context_at_rank x = context_rank x.context

abbrev pub edge_rank : Edge → List ℕ
edge_rank e =
    e.caller.function.0 ∷ label_number e.caller.receiver ∷ e.node.0 ∷ e.callee.function.0
    ∷ label_number e.callee.receiver ∷ []

abbrev pub call_edge_rank : CallEdge → List ℕ
call_edge_rank d = edge_rank d.edge
