-- Each state of a table that visits build speaks of the program's labels, keys and sites alone.
use Rattle.std.specs.Prelude.{◌≡◌, ◌&&◌, ◌==◌, ℕ, length, map, slice_get, List, [], ◌∷◌, Option, Some, None, IfSome, IsTrue}
use Rattle.std.specs.List.{AllByRecursion, flat_map}
use Rattle.std.specs.Option.{option_map_or, option_to_list}
use Rattle.std.proofs.Common.{refl, subst, ap}
use Rattle.std.proofs.lemmas.Bool.{cond_both, lt-ltb}
use Rattle.std.proofs.lemmas.Option.{none-some}
use lib.Chars.{codes}
use Rattle.ja_base.specs.declared.ids.Context.{Context}
use Rattle.ja_base.specs.declared.ids.FnId.{FnId}
use Rattle.ja_base.specs.declared.ids.NodeId.{NodeId}
use Rattle.ja_base.proofs.Lists.{all_append, element_taken, within_from_some}
use Rattle.ja_graph.specs.declared.builtins.TheConstants as builtins
use Rattle.ja_graph.specs.declared.node.NodeInfo.{NodeInfo}
use Rattle.ja_graph.specs.declared.program.Function.{Function}
use Rattle.ja_graph.specs.declared.program.Program.{Program}
use Rattle.ja_graph.specs.Node.{makings, makes_arguments, name_in}
use Rattle.ja_graph.specs.Program.{node_at}
use Rattle.ja_graph.specs.WellFormed.{IsWellFormed, IsName, builtin_names}
use Rattle.ja_machine.proofs.Lists.{all_map, all_of, is_some_from}
use Rattle.ja_machine.proofs.Nodes.{AreMade, node_makings}
use Rattle.ja_abstract.specs.AbstractState.{AbstractState, is_key}
use Rattle.ja_abstract.specs.InProgram.{IsInProgram}
use Rattle.ja_abstract.specs.Made.{length_key}
use Rattle.ja_abstract.proofs.InProgram.{entered_in, joined_in}
use Rattle.ja_rows.specs.declared.table.Edge.{Edge}
use Rattle.ja_rows.specs.declared.table.Item.{Item}
use Rattle.ja_rows.specs.declared.table.Item.TheVariants.{Open, Step, Fill, Back}
use Rattle.ja_rows.specs.Calls.{given_back}
use Rattle.ja_rows.specs.Table.{Table, root, same_context, opening_state, opening_table, StateAt, Effects, joined_state, with_state, with_states, effects, effects_step, effects_fill, effects_back, node_numbers, exit_at, view_at, at_node, entry_state_of, point, visited, Builds, IsBuilt}
use Rattle.ja_rows.specs.Transfer.{transfer}
use Rattle.ja_rows.proofs.StepsInProgram.{given_in, back_in}
use Rattle.ja_rows.proofs.Views.{with_view_by}

-- ---- the facts of a node of the program

module _ (p : Program) (good : IsWellFormed p) where
  pub has_length : IsTrue (is_key p length_key)
  has_length =
      let is : slice_get p.names builtins.LENGTH.0 ≡ Some (codes "length") = element_taken
      (length builtin_names) p.names builtins.LENGTH.0 (codes "length")
      (ap (λ (names : List (List ℕ)). slice_get names builtins.LENGTH.0) good.names) in
      lt-ltb builtins.LENGTH.0 (length p.names)
      (within_from_some p.names builtins.LENGTH.0 (is_some_from _ (codes "length") is))

  -- its names and its sites
  pub record IsNodeOf (i : NodeInfo) : Type 0 where
    pub names : AllByRecursion (IsName p) (option_to_list (name_in i.node))
    pub sites : AreMade p (λ s. makes_arguments s i.node) (makings i.node)

  pub node_of : (f : FnId) (n : NodeId) (i : NodeInfo) → node_at p f n ≡ Some i → IsNodeOf i
  node_of f n i is = by (slice_get p.functions f.0) refl is
    where
      by : (o : Option Function) → slice_get p.functions f.0 ≡ o
          → slice_get (option_map_or (λ (fn : Function). fn.nodes) o []) n.0 ≡ Some i → IsNodeOf i
      by None e is = absurd (none-some i is)
      by (Some fn) e is = record {
        names = ((good.each f.0 fn e).each n.0 i is).name;
        sites = node_makings p good f.0 fn n.0 i e is;
      }

  -- ---- tables

  abbrev pub StatesAreIn : Table → Type 0
  StatesAreIn t = (x : Context) (n : ℕ) → IfSome (t.state x n) (IsInProgram p)

  abbrev AreEffectsIn : Effects → Type 0
  AreEffectsIn fx = AllByRecursion (λ (g : StateAt). IsInProgram p g.state) fx.states

  joined_state_in : (o : Option AbstractState) (a : AbstractState) → IfSome o (IsInProgram p)
      → IsInProgram p a → IsInProgram p (joined_state o a)
  joined_state_in None a before g = g
  joined_state_in (Some b) a before g = joined_in p b a before g

  states_in : (x : Context) (n : ℕ) (gs : List StateAt) (o : Option AbstractState)
      → AllByRecursion (λ (g : StateAt). IsInProgram p g.state) gs → IfSome o (IsInProgram p)
      → IfSome (with_states o x n gs) (IsInProgram p)
  states_in x n [] o all before = before
  states_in x n (g ∷ gs) o all before =
      states_in x n gs (with_state o x n g) all.1 (cond_both
      (same_context g.context x && (g.node == n)) (Some (joined_state o g.state)) o
      (λ r. IfSome r (IsInProgram p)) (λ _. joined_state_in o g.state before all.0) (λ _. before))

  opening_in : StatesAreIn (opening_table p)
  opening_in x n =
      cond_both (same_context root x && (n == 0)) (Some (opening_state p)) None
      (λ r. IfSome r (IsInProgram p)) (λ _. entered_in p (opening_state p).register) (λ _. tt)

  module _ (t : Table) (f : StatesAreIn t) where
    state_in : (x : Context) (n : ℕ) (a : AbstractState) → t.state x n ≡ Some a → IsInProgram p a
    state_in x n a is = subst (λ o. IfSome o (IsInProgram p)) is (f x n)

    step_in : (x : Context) (n : NodeId) → AreEffectsIn (effects p t (Step x n))
    step_in x n =
        with_view_by p t x n (λ w i. effects_step w (point x n i) (transfer w (point x n i)))
        AreEffectsIn tt (λ i a i_is a_is.
        let w = view_at p t x a in
        let here = node_of x.function n i i_is in
        let g = state_in x n.0 a a_is in
        let o = transfer w (point x n i) in
        all_append (λ (s : StateAt). IsInProgram p s.state) (map (at_node x) o.states) _
        (all_map (λ (s : ℕ × AbstractState). IsInProgram p s.1)
        (λ (s : StateAt). IsInProgram p s.state) (at_node x) (λ s k. k) o.states
        (given_in w g has_length (point x n i) i _ i.node here.names here.sites))
        (all_map (λ (e : Edge). Unit {0}) (λ (s : StateAt). IsInProgram p s.state)
        (entry_state_of w i) (λ e u. entered_in p (entry_state_of w i e).state.register) o.edges
        (all_of (λ (e : Edge). Unit {0}) (λ e. tt) o.edges)))

    exits_in : (e : Edge) (a : AbstractState) (i : NodeInfo) → IsInProgram p a → IsNodeOf i
        → (ns : List ℕ) → AllByRecursion (λ (s : ℕ × AbstractState). IsInProgram p s.1)
        (flat_map (exit_at p t e (view_at p t e.caller a) i) ns)
    exits_in e a i g here [] = tt
    exits_in e a i g here (n ∷ ns) =
        all_append (λ (s : ℕ × AbstractState). IsInProgram p s.1)
        (exit_at p t e (view_at p t e.caller a) i n) _ (by (t.state e.callee n) (f e.callee n)
        (node_at p e.callee.function (record { 0 = n }))) (exits_in e a i g here ns)
      where
        by : (o : Option AbstractState) → IfSome o (IsInProgram p) → (at : Option NodeInfo)
            → AllByRecursion (λ (s : ℕ × AbstractState). IsInProgram p s.1)
            (option_map_or (λ (exit : AbstractState). option_map_or
            (λ (at : NodeInfo). given_back (view_at p t e.caller a) e i exit at.node) at []) o [])
        by None h at = tt
        by (Some exit) h None = tt
        by (Some exit) h (Some at) =
            back_in (view_at p t e.caller a) g has_length e i _ exit at.node here.sites h

    back_effects_in : (e : Edge) → AreEffectsIn (effects p t (Back e))
    back_effects_in e =
        with_view_by p t e.caller e.node (effects_back p t e) AreEffectsIn tt (λ i a i_is a_is.
        let here = node_of e.caller.function e.node i i_is in
        all_map (λ (s : ℕ × AbstractState). IsInProgram p s.1)
        (λ (s : StateAt). IsInProgram p s.state) (at_node e.caller) (λ s k. k) _
        (exits_in e a i (state_in e.caller e.node.0 a a_is) here
        (node_numbers p e.callee.function)))

    effects_in : (item : Item) → AreEffectsIn (effects p t item)
    effects_in Open = tt
    effects_in (Step x n) = step_in x n
    effects_in (Fill e) =
        with_view_by p t e.caller e.node (effects_fill t e) AreEffectsIn tt (λ i a i_is a_is. tt)
    effects_in (Back e) = back_effects_in e

    pub visited_in : (item : Item) → StatesAreIn (visited p t item)
    visited_in item x n =
        states_in x n (effects p t item).states (t.state x n) (effects_in item) (f x n)

  builds_in : (from : Table) (items : List Item) (t : Table) → Builds p from items t
      → StatesAreIn from → StatesAreIn t
  builds_in from [] t same f = subst StatesAreIn same f
  builds_in from (item ∷ items) t builds f =
      builds_in (visited p from item) items t builds.2 (visited_in from f item)

  pub built_in : (items : List Item) (t : Table) → IsBuilt p items t → StatesAreIn t
  built_in items t built = builds_in (opening_table p) items t built opening_in
