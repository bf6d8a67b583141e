-- The edges that a step gives lead from its node.
use Rattle.std.specs.Prelude.{◌≡◌, ℕ, Bool, if◌then◌else◌, List, [], ◌∷◌, map, filter}
use Rattle.std.specs.List.{AllByRecursion, flat_map}
use Rattle.std.proofs.Common.{refl}
use Rattle.std.proofs.lemmas.Bool.{cond_both}
use Rattle.ja_base.specs.declared.ids.Context.{Context}
use Rattle.ja_base.specs.declared.ids.Label.{Label}
use Rattle.ja_base.specs.declared.ids.NodeId.{NodeId}
use Rattle.ja_base.proofs.Lists.{all_append}
use Rattle.ja_graph.specs.declared.node.Node.{Node}
use Rattle.ja_graph.specs.declared.node.Node.TheVariants as node
use Rattle.ja_graph.specs.declared.node.NodeInfo.{NodeInfo}
use Rattle.ja_graph.specs.declared.program.Program.{Program}
use Rattle.ja_machine.proofs.Lists.{all_map, all_of}
use Rattle.ja_abstract.specs.AbstractValue.{Labels}
use Rattle.ja_abstract.specs.AbstractState.{labels_of}
use Rattle.ja_abstract.specs.Reading.{View}
use Rattle.ja_rows.specs.declared.table.Edge.{Edge}
use Rattle.ja_rows.specs.declared.table.Item.TheVariants.{Step}
use Rattle.ja_rows.specs.Edges.{edge, edges_to, is_converted}
use Rattle.ja_rows.specs.Out.{Point}
use Rattle.ja_rows.specs.Table.{Table, effects, effects_step, point, view_at}
use Rattle.ja_rows.specs.Transfer.{transfer, transfer_node}
use Rattle.ja_rows.proofs.Views.{with_view_by}

-- an edge leads from a node in a context
abbrev pub IsFrom : Context → NodeId → Edge → Type 0
IsFrom x n e = (e.caller ≡ x) × (e.node ≡ n)

module _ (w : View) (x : Point) where
  abbrev IsHere : Edge → Type 0
  IsHere = IsFrom x.context x.number

  all_here : (is_run : ℕ → Bool) (receivers : Labels) (fs : List ℕ)
      → AllByRecursion IsHere (flat_map (λ (f : ℕ). if is_run f then map (edge x f)
      (filter receivers (labels_of w.program)) else []) fs)
  all_here is_run receivers [] = tt
  all_here is_run receivers (f ∷ fs) =
      let here = map (edge x f) (filter receivers (labels_of w.program)) in
      let more = all_here is_run receivers fs in
      all_append IsHere (if is_run f then here else []) _ (cond_both (is_run f) here []
      (AllByRecursion IsHere) (λ _. all_map (λ (r : Label). Unit {0}) IsHere (edge x f)
      (λ r u. (refl, refl)) _ (all_of (λ (r : Label). Unit {0}) (λ r. tt) _)) (λ _. tt)) more

  edges_here : (is_run : ℕ → Bool) (receivers : Labels)
      → AllByRecursion IsHere (edges_to w x is_run receivers)
  edges_here is_run receivers = all_here is_run receivers _

  -- each edge that a node gives leads from it
  pub edges_from_node : (i : NodeInfo) (n : Node)
      → AllByRecursion IsHere (transfer_node w x i n).edges
  edges_from_node i (node.Convert dst src kind other) =
      cond_both (is_converted w other) (edges_to w x _ _) [] (AllByRecursion IsHere)
      (λ _. edges_here _ _) (λ _. tt)
  edges_from_node i (node.Call dst callee receiver args error) = edges_here _ _
  edges_from_node i (node.New dst callee args site error) = edges_here _ _
  edges_from_node i n = tt

module _ (p : Program) (t : Table) where
  -- each edge that a visit of a step gives leads from its node
  pub edges_from_step : (x : Context) (n : NodeId)
      → AllByRecursion (IsFrom x n) (effects p t (Step x n)).edges
  edges_from_step x n =
      with_view_by p t x n (λ w i. effects_step w (point x n i) (transfer w (point x n i)))
      (λ fx. AllByRecursion (IsFrom x n) fx.edges) tt
      (λ i a i_is a_is. edges_from_node (view_at p t x a) (point x n i) i i.node)
