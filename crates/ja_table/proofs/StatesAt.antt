-- The states of a context by node, with one joined in.
use Rattle.std.specs.Prelude.{◌≡◌, ◌≢◌, ◌<◌, ◌==◌, ℕ, true, List, length, set, get_or, Option, Some, None, IfSome, IsSome}
use Rattle.std.specs.Option.{option_map, option_and_then}
use Rattle.std.proofs.Common.{refl, sym, ◌∙◌, ap, subst, inl, inr}
use Rattle.std.proofs.lemmas.Bool.{cond-true, cond-false}
use Rattle.std.proofs.lemmas.Option.{slice_get-get_or}
use Rattle.ja_base.specs.declared.ids.NodeId.{NodeId}
use Rattle.ja_base.proofs.Lists.{within_from_some}
use Rattle.ja_graph.specs.declared.program.Program.{Program}
use Rattle.ja_graph.specs.Program.{node_at, nodes_of}
use Rattle.ja_machine.specs.Frames.{registers_of}
use Rattle.ja_abstract.specs.AbstractState.{AbstractState}
use Rattle.ja_rows.specs.Table.{joined_state}
use Rattle.ja_astate.specs.declared.state.AState.{AState}
use Rattle.ja_astate.specs.State.{HaveOneShape, IsStateOf}
use Rattle.ja_astate.specs.State.{state_of}
use Rattle.ja_table.specs.declared.table.ContextTable.{ContextTable}
use Rattle.ja_table.specs.declared.table.NodeTable.{NodeTable}
use Rattle.ja_table.specs.Tables.{kept_state, states_in, FitsContext}
use Rattle.ja_table.specs.code.Growing.{with_given}
use Rattle.ja_table.proofs.JoinedStates.{of_shape, one_shape}
use Rattle.ja_table.proofs.TableLemmas.{same_or_apart, states_set}

module _ (xs : List NodeTable) (i : ℕ) (old : NodeTable) (within : i < length xs)
    (is : old ≡ get_or xs i old) where
  -- the state that is read at a place
  pub kept_read : kept_state xs i ≡ old.state
  kept_read =
      ap (option_and_then (λ (s : NodeTable). s.state)) (slice_get-get_or xs i old within
      ∙ ap Some (sym is))

  module _ (z : NodeTable) where
    -- another state in its place is joined in
    pub given_put : (a : AbstractState) → option_map state_of z.state
        ≡ Some (joined_state (option_map state_of old.state) a)
        → states_in (set xs i z) ≡ with_given (states_in xs) (i, a)
    given_put a joined = λ j n. at n j
      where
        at : (n : ℕ) → states_in (set xs i z) n ≡ with_given (states_in xs) (i, a) n
        at n =
            states_set xs i z within n ∙ elim (same_or_apart i n) [
              | inl e ↦
                  let here : states_in xs n ≡ option_map state_of old.state =
                  ap (states_in xs) (sym e.1) ∙ ap (option_map state_of) kept_read in
                  cond-true (i == n) _ _ e.0 ∙ joined
                  ∙ ap (λ o. Some (joined_state o a)) (sym here) ∙ sym (cond-true (i == n) _ _ e.0)
              | inr e ↦ cond-false (i == n) _ _ e.0 ∙ sym (cond-false (i == n) _ _ e.0)
            ]

    -- a change of the state is one of the states
    pub put_changes : option_map state_of z.state ≢ option_map state_of old.state
        → states_in (set xs i z) ≢ states_in xs
    put_changes apart same =
        apart (sym (states_set xs i z within i ∙ cond-true (i == i) _ _ itself)
        ∙ (λ j. same j i) ∙ ap (option_map state_of) kept_read)
      where
        itself : (i == i) ≡ true
        itself = elim (same_or_apart i i) [ inl e ↦ e.0 | inr e ↦ absurd (e.1 refl) ]

    -- .. and where it stays the states do
    pub put_stays : option_map state_of z.state ≡ option_map state_of old.state
        → states_in (set xs i z) ≡ states_in xs
    put_stays same = λ j n. at n j
      where
        at : (n : ℕ) → states_in (set xs i z) n ≡ states_in xs n
        at n =
            states_set xs i z within n ∙ elim (same_or_apart i n) [
              | inl e ↦ cond-true (i == n) _ _ e.0 ∙ same
                  ∙ ap (option_map state_of) (sym kept_read) ∙ ap (states_in xs) e.1
              | inr e ↦ cond-false (i == n) _ _ e.0
            ]

-- a node of a context's function has a place in the context's table
pub node_within : (p : Program) (c : ContextTable) (n : NodeId) → FitsContext p c
    → IsSome (node_at p c.context.function n) → n.0 < length c.nodes.items
node_within p c n fits some =
    subst (λ m. n.0 < m) (sym fits.nodes ∙ c.nodes.ok.0)
    (within_from_some (nodes_of p c.context.function) n.0 some)

-- the state that is kept there has the shape of each state of the function
pub kept_shape : (p : Program) (c : ContextTable) (i : ℕ) (old : NodeTable) (state : AState)
    → FitsContext p c → i < length c.nodes.items → old ≡ get_or c.nodes.items i old
    → IsStateOf p (registers_of p c.context.function) state
    → IfSome old.state (λ s. HaveOneShape s state)
kept_shape p c i old state fits within is of = by old.state (kept_read c.nodes.items i old within is)
  where
    by : (o : Option AState) → kept_state c.nodes.items i ≡ o → IfSome o (λ s. HaveOneShape s state)
    by None e = tt
    by (Some s) e = one_shape p (registers_of p c.context.function) s state (fits.states i s e) of

-- what has the shape of a state of the function is one
pub shape_fits : (p : Program) (count : ℕ) (o : Option AState) (state : AState)
    → IsStateOf p count state → IfSome o (HaveOneShape state) → (s : AState) → o ≡ Some s
    → IsStateOf p count s
shape_fits p count o state of shape s e =
    of_shape p count state s (subst (λ q. IfSome q (HaveOneShape state)) e shape) of
