-- Effects by the state and the node of a context, and contexts that are the same.
use Rattle.std.specs.Prelude.{◌≡◌, ◌==◌, IsTrue, Option, Some, None}
use Rattle.std.specs.Option.{option_map_or}
use Rattle.std.proofs.Common.{refl, ap, ◌∙◌}
use Rattle.std.proofs.lemmas.Bool.{and_parts, eqb-true}
use Rattle.ja_base.specs.declared.ids.Context.{Context}
use Rattle.ja_base.specs.declared.ids.NodeId.{NodeId}
use Rattle.ja_graph.specs.declared.node.NodeInfo.{NodeInfo}
use Rattle.ja_graph.specs.declared.program.Program.{Program}
use Rattle.ja_graph.specs.Program.{node_at}
use Rattle.ja_abstract.specs.AbstractState.{AbstractState}
use Rattle.ja_abstract.specs.Reading.{View}
use Rattle.ja_abstract.proofs.Labels.{same_label-true}
use Rattle.ja_rows.specs.Table.{Table, same_context, Effects, no_effects, view_at, with_view}

-- ---- effects at a node

module _ (p : Program) (t : Table) (x : Context) (n : NodeId) (f : View → NodeInfo → Effects) where
  -- what there is nothing of, and what the node gives of its state, have it
  pub with_view_by : (P : Effects → Type 0) → P no_effects
      → ((i : NodeInfo) (a : AbstractState) → node_at p x.function n ≡ Some i
      → t.state x n.0 ≡ Some a → P (f (view_at p t x a) i)) → P (with_view p t x n f)
  with_view_by P nothing there = at_node_by (node_at p x.function n) refl
    where
      by_state : (i : NodeInfo) → node_at p x.function n ≡ Some i → (s : Option AbstractState)
          → t.state x n.0 ≡ s
          → P (option_map_or (λ (a : AbstractState). f (view_at p t x a) i) s no_effects)
      by_state i i_is None e = nothing
      by_state i i_is (Some a) e = there i a i_is e

      at_node_by : (o : Option NodeInfo) → node_at p x.function n ≡ o
          → P (option_map_or (λ (i : NodeInfo). option_map_or
          (λ (a : AbstractState). f (view_at p t x a) i) (t.state x n.0) no_effects) o no_effects)
      at_node_by None e = nothing
      at_node_by (Some i) e = by_state i e (t.state x n.0) refl

  pub with_view_at : (i : NodeInfo) (a : AbstractState) → node_at p x.function n ≡ Some i
      → t.state x n.0 ≡ Some a → with_view p t x n f ≡ f (view_at p t x a) i
  with_view_at i a i_is a_is =
      ap (λ o. option_map_or (λ (i : NodeInfo). option_map_or
      (λ (a : AbstractState). f (view_at p t x a) i) (t.state x n.0) no_effects) o no_effects) i_is
      ∙ ap (λ o. option_map_or (λ (a : AbstractState). f (view_at p t x a) i) o no_effects) a_is

-- ---- contexts

-- contexts that the test calls the same are equal
pub same_context-true : (x y : Context) → IsTrue (same_context x y) → x ≡ y
same_context-true x y h =
    let (f, r) = and_parts (x.function.0 == y.function.0) _ h in
    let function_is : x.function.0 ≡ y.function.0 = eqb-true x.function.0 y.function.0 f in
    let receiver_is : x.receiver ≡ y.receiver = same_label-true x.receiver y.receiver r in
    λ i. record { function = record { 0 = function_is i }; receiver = receiver_is i }
