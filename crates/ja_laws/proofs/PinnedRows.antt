-- The laws of `specs/RowLaws.antt`: that calls enter functions, and visits reach callees.
use Rattle.std.specs.Prelude.{◌≡◌, ◌&&◌, ◌||◌, ◌==◌, ◌++◌, ℕ, Bool, true, false, not, IsTrue, List, [], ◌∷◌, map, Option, Some, None, IsSome, is_some}
use Rattle.std.specs.List.{AllByRecursion, flat_map, list_any}
use Rattle.std.specs.Option.{option_map_or}
use Rattle.std.proofs.Common.{refl, sym, subst, ap, ◌∙◌, inl, inr}
use Rattle.std.proofs.lemmas.Bool.{cond-true, cond-false, false≢true}
use Rattle.ja_base.specs.declared.ids.Context.{Context}
use Rattle.ja_base.specs.declared.ids.FnId.{FnId}
use Rattle.ja_base.specs.declared.ids.Label.{Label}
use Rattle.ja_graph.specs.declared.node.NodeInfo.{NodeInfo}
use Rattle.ja_abstract.specs.declared.abstraction.Key.{Key}
use Rattle.ja_abstract.specs.AbstractValue.{Labels, AbstractValue, AbstractProperty}
use Rattle.ja_abstract.specs.AbstractState.{AbstractState, labels_of}
use Rattle.ja_abstract.specs.Order.{LeqState, LeqProperty}
use Rattle.ja_abstract.specs.Reading.{View, some_label}
use Rattle.ja_abstract.proofs.Least.{state-join_right, property-join_right}
use Rattle.ja_abstract.proofs.Lists.{Member, member-append_left, member-append_right, member-map}
use Rattle.ja_abstract.proofs.Order.{state-join, state_both, state_same, property-join, property_both, property_same}
use Rattle.ja_laws.proofs.PinnedStates.{no_label_of}
use Rattle.ja_rows.specs.declared.table.Edge.{Edge}
use Rattle.ja_rows.specs.Calls.{filled_with}
use Rattle.ja_rows.specs.Edges.{has_other, some_runs, runs, edges_to}
use Rattle.ja_laws.specs.RowLaws.{AllRun, NoneRun, HasOne, AreThere, IsJoined, IsEntered}
use Rattle.ja_rows.specs.Out.{Out, Point}
use Rattle.ja_rows.specs.Table.{Table, StateAt, DemandsOf, ValuesOf, Effects, with_value, with_demand, is_demanded, applied, at_node, entry_state_of, entry_demands_of, effects_step, effects_fill, same_context, same_edge}
use Rattle.ja_rows.proofs.Applied.{HasState, IfDemanded, state-within, value-within, values-some, demand-there, context-there, edge-there}

-- ---- calls

not_other : (b c : Bool) → (IsTrue b → IsTrue c) → (b && not c) ≡ false
not_other true true h = refl
not_other true false h = absurd (false≢true (h refl))
not_other false c h = refl

pub no_other : (w : View) (entry : Label → Option FnId) (v : AbstractValue) → AllRun entry v
    → has_other w entry v ≡ false
no_other w entry v all =
    ap (λ b. b || some_label w (λ l. v.label l && not (is_some (entry l)))) all.0
    ∙ no_label_of (λ l. v.label l && not (is_some (entry l))) (labels_of w.program)
    (λ l. not_other (v.label l) (is_some (entry l)) (all.1 l))

none_given : {A B : Type 0} (f : A → List B) (xs : List A) → ((x : A) → f x ≡ [])
    → flat_map f xs ≡ []
none_given f [] none = refl
none_given f (x ∷ xs) none =
    ap (λ ys. ys ++ flat_map f xs) (none x) ∙ none_given f xs none

none_runs : (w : View) (entry : Label → Option FnId) (v : AbstractValue) → NoneRun entry v
    → (f : ℕ) → some_runs w entry v f ≡ false
none_runs w entry v none f =
    no_label_of (λ l. v.label l && runs entry f l) (labels_of w.program)
    (λ l. runs_not (v.label l) (entry l) (none l))
  where
    runs_not : (b : Bool) (o : Option FnId) → (IsTrue b → o ≡ None)
        → (b && option_map_or (λ (g : FnId). g.0 == f) o false) ≡ false
    runs_not true o h =
        ap (λ r. option_map_or (λ (g : FnId). g.0 == f) r false) (h refl)
    runs_not false o h = refl

pub no_edge : (w : View) (x : Point) (entry : Label → Option FnId) (v : AbstractValue)
    (receivers : Labels) → NoneRun entry v → edges_to w x (some_runs w entry v) receivers ≡ []
no_edge w x entry v receivers none =
    none_given _ _ (λ f. cond-false (some_runs w entry v f) _ [] (none_runs w entry v none f))

-- ---- visits

all_of : {A : Type 0} (P : A → Type 0) (xs : List A) → ((x : A) → Member x xs → P x)
    → AllByRecursion P xs
all_of P [] each = tt
all_of P (x ∷ xs) each = (each x (inl refl), all_of P xs (λ y m. each y (inr m)))

one_of : (P : AbstractState → Type 0) (o : Option AbstractState) → HasState P o → HasOne P o
one_of P None h = h
one_of P (Some a) h = h

-- a state that is joined in is below the one that is there then
state_joined : (t : Table) (fx : Effects) (g : StateAt) → Member g fx.states
    → HasOne (LeqState g.state) ((applied t fx).state g.context g.node)
state_joined t fx g m =
    one_of (LeqState g.state) ((applied t fx).state g.context g.node)
    (state-within (LeqState g.state)
    (λ a b h. state_both g.state a _ h (state-join a b))
    (λ a b h. state_both g.state b _ h (state-join_right a b)) fx.states g m
    (state_same g.state) (t.state g.context g.node))

demands_joined : (t : Table) (fx : Effects) (d : DemandsOf) → Member d fx.demands
    → AreThere (applied t fx) d.context d.demands
demands_joined t fx d m l k h =
    subst (λ b. IsSome (with_demand (with_value (t.entry d.context l k) d.context l k fx.values) b))
    (sym (demand-there fx.demands d l k m h)) refl

pub states_joined : (t : Table) (w : View) (x : Point) (o : Out)
    → AllByRecursion (IsJoined (applied t (effects_step w x o)) x.context) o.states
states_joined t w x o =
    all_of _ o.states (λ g m. state_joined t (effects_step w x o) (at_node x.context g)
    (member-append_left (at_node x.context g) (map (at_node x.context) o.states)
    (map (entry_state_of w x.info) o.edges) (member-map (at_node x.context) g o.states m)))

pub callees_entered : (t : Table) (w : View) (x : Point) (o : Out)
    → AllByRecursion (IsEntered w x (applied t (effects_step w x o))) o.edges
callees_entered t w x o = all_of _ o.edges (λ e m. entered e m)
  where
    entered : (e : Edge) → Member e o.edges → IsEntered w x (applied t (effects_step w x o)) e
    entered e m =
        let fx = effects_step w x o in
        let callee : Edge → Context = λ (d : Edge). d.callee in
        record {
          edge =
              cond-true (list_any (λ (d : Edge). same_edge d e) fx.edges) true (t.edge e)
              (edge-there o.edges e m);
          context =
              cond-true (list_any (λ (y : Context). same_context y e.callee) fx.contexts) true
              (t.context e.callee)
              (context-there (map callee o.edges) e.callee (member-map callee e o.edges m));
          state =
              state_joined t fx (entry_state_of w x.info e)
              (member-append_right (entry_state_of w x.info e) (map (at_node x.context) o.states)
              (map (entry_state_of w x.info) o.edges)
              (member-map (entry_state_of w x.info) e o.edges m));
          demands =
              demands_joined t fx (entry_demands_of w x.context x.info e)
              (inr (member-map (entry_demands_of w x.context x.info) e o.edges m));
        }

filled_one : (P : AbstractProperty → Type 0) (o : Option AbstractProperty) (b : Bool)
    → IfDemanded P o → IsSome o → HasOne P (with_demand o b)
filled_one P None b h s = absurd (false≢true s)
filled_one P (Some q) true h s = h
filled_one P (Some q) false h s = h

pub fills : (t : Table) (e : Edge) (w : View) (i : NodeInfo) (l : Label) (k : Key)
    → IsSome (t.entry e.callee l k) → HasOne (LeqProperty (filled_with w e i.node l k))
    ((applied t (effects_fill t e w i)).entry e.callee l k)
fills t e w i l k there =
    let fx = effects_fill t e w i in
    let q = filled_with w e i.node l k in
    let v : ValuesOf = record { context = e.callee; value = filled_with w e i.node } in
    filled_one (LeqProperty q) (with_value (t.entry e.callee l k) e.callee l k fx.values)
    (is_demanded e.callee l k fx.demands)
    (value-within (LeqProperty q) (λ a b h. property_both q a _ h (property-join a b))
    (λ a b h. property_both q b _ h (property-join_right a b)) fx.values v l k (inl refl)
    (property_same q) (t.entry e.callee l k))
    (values-some e.callee l k fx.values (t.entry e.callee l k) there)
