-- The built-in functions as each program has them, and what is read of their nodes.
use Rattle.std.specs.Prelude.{ℕ, nat_lt, Bool, true, false, List, [], ◌∷◌, map, filter, length, slice_get}
use Rattle.std.specs.List.{flat_map, list_any}
use Rattle.std.specs.Option.{option_map_or}
use Rattle.std.specs.Str.{bytes_eq}
use lib.Chars.{codes}
use Rattle.ja_base.specs.declared.ids.ScopeKind.{ScopeKind}
use Rattle.ja_graph.specs.declared.builtins.TheConstants.{INTRINSICS}
use Rattle.ja_graph.specs.WellFormed.{builtin_names}
use Rattle.ja_graph.specs.declared.node.Node.{Node}
use Rattle.ja_graph.specs.declared.node.Node.TheVariants.{Call, Intrinsic, New, Stop, ToObject}
use Rattle.ja_graph.specs.declared.node.NodeInfo.{NodeInfo}
use Rattle.ja_lower.specs.Lowering as lower
use Rattle.ja_lower.specs.declared.body.Body.{Body}
use Rattle.ja_prelude.specs.Reading.{tree_of}
use Rattle.ja_prelude.specs.Functions.{functions}
use Rattle.ja_syntax.specs.declared.tree.Statement.{Statement}

-- the trees of the texts: each is one function
unfoldable pub prelude_statements : List Statement
prelude_statements = flat_map (λ f. tree_of f.1) functions

-- the paths of the functions
unfoldable pub prelude_paths : List (List ℕ)
prelude_paths = map (λ f. f.0) functions

-- the names that each program begins with: those of the table, then those that only the texts have
abbrev pub prelude_names : List (List ℕ)
prelude_names = lower.prelude_names builtin_names prelude_statements

-- The functions, each with its path as its name. The sites of their nodes are numbered for each
-- node by itself.
unfoldable pub prelude_bodies : List Body
prelude_bodies =
    lower.at_paths prelude_paths (lower.prelude_bodies prelude_names prelude_statements)

-- how many parameters each function has
abbrev pub parameter_counts : List ℕ
parameter_counts = map (λ (body : Body). length body.parameters) prelude_bodies

-- ---- the names of the texts that are none of the table's, in their order

abbrev pub own_names : List (List ℕ)
own_names =
    codes "value" ∷ codes "count" ∷ codes "list" ∷ codes "i" ∷ codes "number" ∷ codes ""
    ∷ codes "error" ∷ codes "text" ∷ codes "radix" ∷ codes "[object " ∷ codes "]"
    ∷ codes "receiver" ∷ codes "values" ∷ codes "function"
    ∷ codes "second argument of apply is not an array" ∷ codes "result" ∷ codes "part"
    ∷ codes "room" ∷ codes "receiver is of another kind" ∷ codes "," ∷ codes "other" ∷ codes "k"
    ∷ codes "item" ∷ codes "n" ∷ codes "separator" ∷ codes "is_there" ∷ codes "0" ∷ codes "start"
    ∷ codes "end" ∷ codes "size" ∷ codes "from" ∷ codes "code" ∷ codes "position" ∷ codes "limit"
    ∷ codes "none" ∷ codes ": " ∷ codes "next" ∷ codes "no primitive value" ∷ []

-- ---- what is read of the nodes of a function

abbrev pub nodes_of : Body → List Node
nodes_of body = map (λ (info : NodeInfo). info.node) body.nodes

-- the kinds with which a function may stop, at which of its nodes it does
abbrev pub stop_at : Node → List ScopeKind
stop_at (Stop kind) = kind ∷ []
stop_at node = []

abbrev pub stops : List Node → List ScopeKind
stops nodes = flat_map stop_at nodes

-- the operations at which a function may leave the profile with more than TextLength, by their
-- names
abbrev pub may_stop : List ℕ → Bool
may_stop name =
    list_any (bytes_eq name)
    (codes "$lower" ∷ codes "$upper" ∷ codes "$parse_int" ∷ codes "$parse_float" ∷ [])

abbrev pub name_of : ℕ → List ℕ
name_of which = option_map_or (λ row. row.0.now) (slice_get INTRINSICS which) []

abbrev pub stopping_at : Node → List (List ℕ)
stopping_at (Intrinsic dst which args) = filter may_stop (name_of which ∷ [])
stopping_at node = []

abbrev pub stopping_operations : List Node → List (List ℕ)
stopping_operations nodes = flat_map stopping_at nodes

-- the nodes that may be warned of: calls, `new`, and objects made of values
abbrev pub is_warned : Node → Bool
is_warned (ToObject dst src sites error) = true
is_warned (Call dst callee receiver args error) = true
is_warned (New dst callee args site error) = true
is_warned node = false

-- how many there are, if any
abbrev pub warned_nodes : List Node → List ℕ
warned_nodes nodes = filter (λ n. nat_lt 0 n) (length (filter is_warned nodes) ∷ [])

abbrev pub warned_told : List (List ℕ × ℕ)
warned_told =
    (codes "Object", 1) ∷ (codes "Object", 1) ∷ (codes "String", 1) ∷ (codes "String", 2)
    ∷ (codes "Boolean", 1) ∷ (codes "Number", 1) ∷ (codes "Number", 2)
    ∷ (codes "Function.prototype.apply", 3) ∷ (codes "Function.prototype.call", 2)
    ∷ (codes "%valueFirst", 2) ∷ (codes "%textFirst", 2) ∷ []

-- something of the nodes of each function, with the function's path
abbrev pub by_path : {A : Type 0} → (List Node → List A) → List Body → List (List ℕ × A)
by_path read bodies =
    flat_map (λ (body : Body). map (λ a. (body.name, a)) (read (nodes_of body))) bodies
