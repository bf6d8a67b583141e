-- The contexts and the call edges of a table of a program, in order.
use Rattle.std.specs.Prelude.{ℕ, if◌then◌else◌, List, [], ◌∷◌, filter, length, map}
use Rattle.std.specs.List.{flat_map, range_with_len}
use Rattle.ja_base.specs.declared.ids.Context.{Context}
use Rattle.ja_base.specs.declared.ids.Label.{Label}
use Rattle.ja_graph.specs.declared.program.Program.{Program}
use Rattle.ja_abstract.specs.AbstractState.{labels_of}
use Rattle.ja_rows.specs.declared.table.Edge.{Edge}
use Rattle.ja_rows.specs.Table.{Table, node_numbers}

-- the contexts of a function, by receiver
abbrev pub context_at : ℕ → Label → Context
context_at f r = record { function = record { 0 = f }; receiver = r }

abbrev pub contexts_with : Program → ℕ → List Context
contexts_with p f = map (context_at f) (labels_of p)

abbrev pub all_contexts : Program → List Context
all_contexts p = flat_map (contexts_with p) (range_with_len 0 (length p.functions))

-- by function and receiver
abbrev pub contexts_of : Program → Table → List Context
contexts_of p t = filter t.context (all_contexts p)

-- the edges from a node into a context
abbrev pub edge_into : Table → Context → ℕ → Context → List Edge
edge_into t x n y =
    let e : Edge = record { caller = x; node = record { 0 = n }; callee = y } in
    if t.edge e then e ∷ [] else []

abbrev pub edges_from : Program → Table → Context → List Edge
edges_from p t x =
    flat_map (λ (n : ℕ). flat_map (edge_into t x n) (contexts_of p t)) (node_numbers p x.function)

-- by caller, node and callee
abbrev pub edges_of : Program → Table → List Edge
edges_of p t = flat_map (edges_from p t) (contexts_of p t)
