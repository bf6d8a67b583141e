-- How what is listed of contexts is written, and what is built of it.
use Rattle.std.specs.Prelude.{◌≡◌, ◌&&◌, ℕ, Bool, false, List, [], ◌∷◌, map, length, slice_get, Option, Some}
use Rattle.std.specs.List.{flat_map, list_any, AllByRecursion}
use Rattle.std.specs.Option.{option_and_then, option_map, option_map_or}
use lib.Chars.{codes}
use Rattle.serde_json.specs.Data.{Data, object, member, no_members}
use Rattle.ja_base.specs.declared.ids.Context.{Context}
use Rattle.ja_base.specs.declared.ids.FnId.{FnId}
use Rattle.ja_base.specs.declared.ids.Label.{Label}
use Rattle.ja_graph.specs.declared.program.Program.{Program}
use Rattle.ja_prim.specs.Texts.{same_text}
use Rattle.ja_graph.specs.declared.node.NodeInfo.{NodeInfo}
use Rattle.ja_graph.specs.Program.{node_at, nodes_of}
use Rattle.ja_machine.specs.Frames.{registers_of}
use Rattle.ja_abstract.specs.declared.abstraction.Key.{Key}
use Rattle.ja_abstract.specs.AbstractState.{AbstractState}
use Rattle.ja_aheap.specs.Entries.{entries_of}
use Rattle.ja_astate.specs.declared.state.AState.{AState}
use Rattle.ja_astate.specs.State.{state_of, IsStateOf}
use Rattle.ja_rows.specs.declared.table.Edge.{Edge}
use Rattle.ja_rows.specs.Table.{Table, node_numbers, same_context}
use Rattle.ja_table.specs.declared.table.ContextTable.{ContextTable}
use Rattle.ja_table.specs.declared.table.NodeTable.{NodeTable}
use Rattle.ja_table.specs.Tables.{kept_state, states_in, FitsContext, IsContext}
use Rattle.ja_cert_read.specs.declared.contexts.ContextAt.{ContextAt}
use Rattle.ja_cert_read.specs.declared.points.PointAt.{PointAt}
use Rattle.ja_cert.specs.Certificate.{context_data, label_data, listed, state_data, whole}
use Rattle.ja_cert.specs.Wrong.{calls, entry_wrong, point_wrong}
use Rattle.ja_cert_read.specs.code.Orders.{context_at_rank, context_rank}
use Rattle.ja_cert_read.specs.Said.{said_property, said_state}
use Rattle.ja_cert_read.specs.code.Building.{entry_data, AreRight, IsOwnEntryAt, IsOwnState, SaysAll}

-- ---- what is listed

abbrev pub point_data : Program → FnId → PointAt → Data
point_data p f x = state_data p f x.node.0 (state_of x.state)

unfoldable pub listed_data : Program → ContextAt → Data
listed_data p x =
    object (member (codes "entries") (listed (map (entry_data p) x.entries.items))
    (member (codes "function") (whole x.context.function.0)
    (member (codes "points") (listed (map (point_data p x.context.function) x.points.items))
    (member (codes "receiver") (label_data x.context.receiver) no_members))))

-- ---- what isn't wrong of it

-- a state of the function stands at the node, with all that is listed of it; it says nothing of
-- what no program has
pub record HasOwnState (p : Program) (f : FnId) (x : PointAt) : Type 0 where
  pub fits : IsStateOf p (registers_of p f) x.state
  pub said : said_state p (state_of x.state) ≡ state_of x.state
  pub all : SaysAll x.listed.pairs.items x.listed.sites.items (state_of x.state)

abbrev pub HaveOwnStates : Program → ContextAt → Type 0
HaveOwnStates p x = AllByRecursion (HasOwnState p x.context.function) x.points.items

-- .. and no more do the values at entry
pub record HasOwnParts (p : Program) (x : ContextAt) : Type 0 where
  pub states : HaveOwnStates p x
  pub entries : AllByRecursion (IsOwnEntryAt p) x.entries.items

pub record IsContextAt (p : Program) (x : ContextAt) : Type 0 where
  pub context : IsContext p x.context
  pub entries : AreRight (entry_wrong p) (entry_data p) x.entries.items
  pub points : AreRight (point_wrong p x.context.function) (point_data p x.context.function)
      x.points.items
  pub own : HasOwnParts p x

-- ---- contexts that are listed

abbrev pub is_among : List ContextAt → Context → Bool
is_among xs x = list_any (λ (y : ContextAt). same_text (context_at_rank y) (context_rank x)) xs

-- an edge from a call or a conversion, between two of them
abbrev pub is_between : Program → List ContextAt → Edge → Bool
is_between p xs e =
    is_among xs e.caller && is_among xs e.callee
    && option_map_or (λ (i : NodeInfo). calls i.node) (node_at p e.caller.function e.node) false

-- ---- what is built

-- a table of this context alone
abbrev pub alone : ContextTable → Table
alone c = record {
  context = same_context c.context;
  state = λ x. states_in c.nodes.items;
  entry = λ x. entries_of c.entries;
  edge = λ e. false;
}

unfoldable pub own_data : Program → ContextTable → Data
own_data p c = context_data p (alone c) c.context

-- the state of a node, if it has one
abbrev pub node_state : Program → FnId → ℕ → Option NodeTable → List Data
node_state p f n at =
    option_map_or (λ (a : AbstractState). state_data p f n a ∷ [])
    (option_map state_of (option_and_then (λ (t : NodeTable). t.state) at)) []

-- so many nodes of a function, of which those have a state that are listed
pub record AreNodesOf (p : Program) (f : FnId) (points : List PointAt) (nodes : List NodeTable) :
    Type 0 where
  pub count : length nodes ≡ length (nodes_of p f)
  pub states : (n : ℕ) (s : AState) → kept_state nodes n ≡ Some s → IsOwnState p f s
  pub listed : flat_map (λ n. node_state p f n (slice_get nodes n)) (node_numbers p f)
      ≡ map (point_data p f) points

-- a table of a context that says nothing of what no program has
pub record IsSaidOf (p : Program) (c : ContextTable) : Type 0 where
  pub states : (n : ℕ)
      → option_map (said_state p) (states_in c.nodes.items n) ≡ states_in c.nodes.items n
  pub entries : (l : Label) (k : Key)
      → option_map (said_property p k) (entries_of c.entries l k) ≡ entries_of c.entries l k

-- the tables of contexts, in their order
pub record AreTablesOf (p : Program) (contexts : List ContextAt) (tables : List ContextTable) :
    Type 0 where
  pub fit : AllByRecursion (FitsContext p) tables
  pub contexts_are : map (λ (c : ContextTable). c.context) tables
      ≡ map (λ (x : ContextAt). x.context) contexts
  pub listed : map (own_data p) tables ≡ map (listed_data p) contexts
  pub said : AllByRecursion (IsSaidOf p) tables
