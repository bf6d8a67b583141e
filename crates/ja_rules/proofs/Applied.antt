-- What visits join in, one part after another, is what their effects join in.
use Rattle.std.specs.Prelude.{◌≡◌, ◌==◌, ◌||◌, ◌&&◌, ◌++◌, ℕ, Bool, true, false, if◌then◌else◌, List, [], ◌∷◌, map, Option, Some}
use Rattle.std.specs.List.{list_any}
use Rattle.std.specs.Option.{option_map}
use Rattle.std.proofs.Common.{refl, sym, ap, ◌∙◌}
use Rattle.ja_base.specs.declared.ids.Context.{Context}
use Rattle.ja_base.specs.declared.ids.Label.{Label}
use Rattle.ja_abstract.specs.declared.abstraction.Key.{Key}
use Rattle.ja_abstract.specs.AbstractState.{AbstractState}
use Rattle.ja_abstract.specs.AbstractValue.{AbstractProperty, join_properties}
use Rattle.ja_abstract.specs.Resolved.{Demands}
use Rattle.ja_rows.specs.declared.table.Edge.{Edge}
use Rattle.ja_rows.specs.Out.{Given}
use Rattle.ja_rows.specs.Table.{applied, at_node, demands_at_context, is_demanded, joined_state, no_effects, same_context, same_edge, with_demand, with_state, with_states, with_value, DemandsOf, Effects, StateAt, Table, ValuesOf}
use Rattle.ja_rows.proofs.Views.{same_context-true}
use Rattle.ja_flow.specs.code.Pairs.{filled}
use Rattle.ja_rules.specs.code.Entries.{demanded}
use Rattle.ja_table.specs.code.Growing.{with_context, with_edge, with_entries_at, with_given, with_state_at, with_states_at}
use Rattle.ja_rules.specs.code.Entries.{with_demands_at}

-- ---- effects after effects

-- the second have no values
abbrev pub then_effects : Effects → Effects → Effects
then_effects f g = record {
  contexts = f.contexts ++ g.contexts;
  states = f.states ++ g.states;
  demands = f.demands ++ g.demands;
  values = f.values;
  edges = f.edges ++ g.edges;
}

always : (b : Bool) → (if b then true else true) ≡ true
always true = refl
always false = refl

any_then : {X : Type 0} (test : X → Bool) (xs ys : List X) (c : Bool)
    → (if list_any test ys then true else (if list_any test xs then true else c))
    ≡ (if list_any test (xs ++ ys) then true else c)
any_then test [] ys c = refl
any_then test (x ∷ xs) ys c =
    elim (test x) as (λ b. (if list_any test ys then true else (if b || list_any test xs then true
    else c)) ≡ (if b || list_any test (xs ++ ys) then true else c)) [
      | true ↦ always (list_any test ys)
      | false ↦ any_then test xs ys c
    ]

states_then : (x : Context) (n : ℕ) (fs gs : List StateAt) (o : Option AbstractState)
    → with_states (with_states o x n fs) x n gs ≡ with_states o x n (fs ++ gs)
states_then x n [] gs o = refl
states_then x n (f ∷ fs) gs o = states_then x n fs gs (with_state o x n f)

demanded_again : (o : Option AbstractProperty) (c : Bool)
    → with_demand (with_demand o true) c ≡ with_demand o true
demanded_again o true = refl
demanded_again o false = refl

demands_then : (x : Context) (l : Label) (k : Key) (ds es : List DemandsOf)
    (o : Option AbstractProperty)
    → with_demand (with_demand o (is_demanded x l k ds)) (is_demanded x l k es)
    ≡ with_demand o (is_demanded x l k (ds ++ es))
demands_then x l k [] es o = refl
demands_then x l k (d ∷ ds) es o =
    elim (same_context d.context x && d.demands l k) as (λ b.
    with_demand (with_demand o (b || is_demanded x l k ds)) (is_demanded x l k es)
    ≡ with_demand o (b || is_demanded x l k (ds ++ es))) [
      | true ↦ demanded_again o (is_demanded x l k es)
      | false ↦ demands_then x l k ds es o
    ]

applied_both : (t : Table) (f : Effects) (contexts : List Context) (states : List StateAt)
    (demands : List DemandsOf) (edges : List Edge)
    → applied (applied t f) (record {
      contexts = contexts;
      states = states;
      demands = demands;
      values = [];
      edges = edges;
    }) ≡ applied t (record {
      contexts = f.contexts ++ contexts;
      states = f.states ++ states;
      demands = f.demands ++ demands;
      values = f.values;
      edges = f.edges ++ edges;
    })
applied_both t f contexts states demands edges = λ i. record {
  context =
      λ x. any_then (λ (y : Context). same_context y x) f.contexts contexts (t.context x) i;
  state = λ x n. states_then x n f.states states (t.state x n) i;
  entry =
      λ x l k. demands_then x l k f.demands demands (with_value (t.entry x l k) x l k f.values) i;
  edge = λ e. any_then (λ (d : Edge). same_edge d e) f.edges edges (t.edge e) i;
}

pub applied_then : (t : Table) (f g : Effects) → g.values ≡ []
    → applied (applied t f) g ≡ applied t (then_effects f g)
applied_then t f g none =
    ap (λ (vs : List ValuesOf). applied (applied t f) (record g { values = vs })) none
    ∙ applied_both t f g.contexts g.states g.demands g.edges

-- one effect after another, by equations
pub effects_then : (t u v : Table) (f g : Effects) → g.values ≡ [] → u ≡ applied t f
    → v ≡ applied u g → v ≡ applied t (then_effects f g)
effects_then t u v f g none first second =
    second ∙ ap (λ (w : Table). applied w g) first ∙ applied_then t f g none

-- ---- one part

abbrev pub of_state : StateAt → Effects
of_state s = record no_effects { states = s ∷ [] }

abbrev pub of_context : Context → Effects
of_context x = record no_effects { contexts = x ∷ [] }

abbrev pub of_demands : Context → Demands → Effects
of_demands x d = record no_effects { demands = demands_at_context x d ∷ [] }

abbrev pub of_edge : Edge → Effects
of_edge e = record no_effects { edges = e ∷ [] }

abbrev pub of_values : ValuesOf → Effects
of_values v = record no_effects { values = v ∷ [] }

abbrev pub of_given : Context → Given → Effects
of_given x given = record no_effects { states = map (at_node x) given }

only : (b c : Bool) → (if b then true else c) ≡ (if b || false then true else c)
only true c = refl
only false c = refl

pub context_applied : (t : Table) (x : Context) → with_context t x ≡ applied t (of_context x)
context_applied t x = λ i. record t { context = λ y. only (same_context x y) (t.context y) i }

pub edge_applied : (t : Table) (e : Edge) → with_edge t e ≡ applied t (of_edge e)
edge_applied t e = λ i. record t { edge = λ d. only (same_edge e d) (t.edge d) i }

given_at : (states : ℕ → Option AbstractState) (n m : ℕ) (a : AbstractState) (b : Bool)
    → (if b then with_given states (n, a) else states) m
    ≡ (if b && (n == m) then Some (joined_state (states m) a) else states m)
given_at states n m a true = refl
given_at states n m a false = refl

pub state_applied : (t : Table) (x : Context) (n : ℕ) (a : AbstractState)
    → with_state_at t x n a
    ≡ applied t (of_state (record { context = x; node = n; state = a }))
state_applied t x n a =
    λ i. record t { state = λ y m. given_at (t.state y) n m a (same_context x y) i }

pub states_applied : (t : Table) (x : Context) (given : Given)
    → with_states_at t x given ≡ applied t (of_given x given)
states_applied t x [] = refl
states_applied t x (g ∷ gs) =
    states_applied (with_state_at t x g.0 g.1) x gs
    ∙ ap (λ (u : Table). applied u (of_given x gs)) (state_applied t x g.0 g.1)
    ∙ applied_then t (of_state (at_node x g)) (of_given x gs) refl

-- a property of the values at the entry of one context, by whether it is the one
at_entry : (t : Table) (x y : Context) (f g : Context → Label → Key → Option AbstractProperty)
    (l : Label) (k : Key)
    → (same_context x y ≡ true → f x l k ≡ g y l k) → (same_context x y ≡ false
    → t.entry y l k ≡ g y l k) → (if same_context x y then f x else t.entry y) l k ≡ g y l k
at_entry t x y f g l k here there = by (same_context x y) refl
  where
    by : (b : Bool) → same_context x y ≡ b → (if b then f x else t.entry y) l k ≡ g y l k
    by true e = here e
    by false e = there e

demanded_by : (o : Option AbstractProperty) (b c : Bool) → b ≡ true
    → with_demand o c ≡ with_demand o ((b && c) || false)
demanded_by o b true e = ap (λ d. with_demand o ((d && true) || false)) (sym e)
demanded_by o b false e = ap (λ d. with_demand o ((d && false) || false)) (sym e)

undemanded_by : (o : Option AbstractProperty) (b c : Bool) → b ≡ false
    → o ≡ with_demand o ((b && c) || false)
undemanded_by o b c e = ap (λ d. with_demand o ((d && c) || false)) (sym e)

pub demands_applied : (t : Table) (x : Context) (d : Demands)
    → with_demands_at t x d ≡ applied t (of_demands x d)
demands_applied t x d =
    λ i. record t {
      entry = λ y l k. at_entry t x y (λ z. demanded (t.entry z) d)
          (λ z m j. with_demand (t.entry z m j) ((same_context x z && d m j) || false)) l k
          (λ e. demanded_by (t.entry x l k) (same_context x y) (d l k) e
          ∙ ap (λ z. with_demand (t.entry z l k) ((same_context x y && d l k) || false))
          (same_context-true x y e))
          (λ e. undemanded_by (t.entry y l k) (same_context x y) (d l k) e) i;
    }

value_by : (o : Option AbstractProperty) (q : AbstractProperty) (b : Bool) → b ≡ true
    → option_map (λ (r : AbstractProperty). join_properties r q) o
    ≡ (if b then option_map (λ (r : AbstractProperty). join_properties r q) o else o)
value_by o q b e =
    ap (λ c. if c then option_map (λ (r : AbstractProperty). join_properties r q) o else o) (sym e)

no_value_by : (o : Option AbstractProperty) (q : AbstractProperty) (b : Bool) → b ≡ false
    → o ≡ (if b then option_map (λ (r : AbstractProperty). join_properties r q) o else o)
no_value_by o q b e =
    ap (λ c. if c then option_map (λ (r : AbstractProperty). join_properties r q) o else o) (sym e)

pub values_applied : (t : Table) (v : ValuesOf)
    → with_entries_at t v.context (filled (t.entry v.context) v.value) ≡ applied t (of_values v)
values_applied t v =
    λ i. record t {
      entry = λ y l k. at_entry t v.context y (λ z. filled (t.entry z) v.value)
          (λ z m j. if same_context v.context z then option_map
          (λ (r : AbstractProperty). join_properties r (v.value m j)) (t.entry z m j)
          else t.entry z m j) l k
          (λ e. value_by (t.entry v.context l k) (v.value l k) (same_context v.context y) e
          ∙ ap (λ z. if same_context v.context y then option_map
          (λ (r : AbstractProperty). join_properties r (v.value l k)) (t.entry z l k)
          else t.entry z l k) (same_context-true v.context y e))
          (λ e. no_value_by (t.entry y l k) (v.value l k) (same_context v.context y) e) i;
    }
