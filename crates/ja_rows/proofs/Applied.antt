-- A table that a visit's effects leave as it was has each of them already.
use Rattle.std.specs.Prelude.{◌≡◌, ◌&&◌, ◌==◌, ℕ, Bool, true, false, if◌then◌else◌, IsTrue, List, [], ◌∷◌, Option, Some, None, IsSome}
use Rattle.std.specs.List.{list_any}
use Rattle.std.specs.Option.{option_map}
use Rattle.std.proofs.Common.{refl, sym, subst, ap, ◌∙◌, inl, inr}
use Rattle.std.proofs.lemmas.Bool.{or_left, or_right, and_from, eq-eqb, cond_both, cond-true, false≢true}
use Rattle.ja_base.specs.declared.ids.Context.{Context}
use Rattle.ja_base.specs.declared.ids.Label.{Label}
use Rattle.ja_abstract.specs.declared.abstraction.Key.{Key}
use Rattle.ja_abstract.specs.AbstractValue.{AbstractProperty, join_properties}
use Rattle.ja_abstract.specs.AbstractState.{AbstractState, join_states}
use Rattle.ja_abstract.proofs.Labels.{same_label-self}
use Rattle.ja_abstract.proofs.Lists.{Member}
use Rattle.ja_rows.specs.declared.table.Edge.{Edge}
use Rattle.ja_rows.specs.Table.{Table, same_context, same_edge, StateAt, DemandsOf, ValuesOf, Effects, joined_state, with_state, with_states, with_value, is_demanded, with_demand, applied}

pub same_context-self : (x : Context) → IsTrue (same_context x x)
same_context-self x =
    and_from _ _ (eq-eqb x.function.0 x.function.0 refl) (same_label-self x.receiver)

pub same_edge-self : (e : Edge) → IsTrue (same_edge e e)
same_edge-self e =
    and_from _ _ (same_context-self e.caller) (and_from _ _ (eq-eqb e.node.0 e.node.0 refl)
    (same_context-self e.callee))

-- ---- states: of what a join keeps

-- a state is there that has it
abbrev pub HasState : (AbstractState → Type 0) → Option AbstractState → Type 0
HasState P None = ⊥
HasState P (Some s) = P s

-- the value, if there is one, has it
abbrev pub IfDemanded : (AbstractProperty → Type 0) → Option AbstractProperty → Type 0
IfDemanded P None = Unit {0}
IfDemanded P (Some q) = P q

module _ (P : AbstractState → Type 0) (left : (a b : AbstractState) → P a → P (join_states a b))
    (right : (a b : AbstractState) → P b → P (join_states a b)) where
  joined-keeps : (o : Option AbstractState) (a : AbstractState) → HasState P o
      → P (joined_state o a)
  joined-keeps None a h = elim h [ ]
  joined-keeps (Some b) a h = left b a h

  joined-has : (o : Option AbstractState) (a : AbstractState) → P a → P (joined_state o a)
  joined-has None a h = h
  joined-has (Some b) a h = right b a h

  keeps : (x : Context) (n : ℕ) (gs : List StateAt) (o : Option AbstractState) → HasState P o
      → HasState P (with_states o x n gs)
  keeps x n [] o h = h
  keeps x n (g ∷ gs) o h =
      keeps x n gs (with_state o x n g) (cond_both (same_context g.context x && (g.node == n))
      (Some (joined_state o g.state)) o (HasState P) (λ _. joined-keeps o g.state h) (λ _. h))

  -- a state that is joined in is within the one that is there then
  pub state-within : (gs : List StateAt) (g : StateAt) → Member g gs → P g.state
      → (o : Option AbstractState) → HasState P (with_states o g.context g.node gs)
  state-within [] g m h o = elim m [ ]
  state-within (f ∷ fs) g (inl is) h o =
      keeps g.context g.node fs (with_state o g.context g.node f)
      (subst (λ (k : StateAt). HasState P (with_state o g.context g.node k)) (sym is)
      (subst (HasState P) (sym (cond-true (same_context g.context g.context && (g.node == g.node))
      (Some (joined_state o g.state)) o (and_from _ _ (same_context-self g.context)
      (eq-eqb g.node g.node refl)))) (joined-has o g.state h)))
  state-within (f ∷ fs) g (inr m) h o = state-within fs g m h (with_state o g.context g.node f)

-- ---- values at entry

module _ (P : AbstractProperty → Type 0) (left : (a b : AbstractProperty) → P a
    → P (join_properties a b)) (right : (a b : AbstractProperty) → P b → P (join_properties a b))
  where
    map-keeps : (o : Option AbstractProperty) (r : AbstractProperty) → IfDemanded P o
        → IfDemanded P (option_map (λ (q : AbstractProperty). join_properties q r) o)
    map-keeps None r h = tt
    map-keeps (Some q) r h = left q r h

    map-has : (o : Option AbstractProperty) (r : AbstractProperty) → P r
        → IfDemanded P (option_map (λ (q : AbstractProperty). join_properties q r) o)
    map-has None r h = tt
    map-has (Some q) r h = right q r h

    values-keep : (x : Context) (l : Label) (k : Key) (vs : List ValuesOf)
        (o : Option AbstractProperty) → IfDemanded P o → IfDemanded P (with_value o x l k vs)
    values-keep x l k [] o h = h
    values-keep x l k (v ∷ vs) o h =
        values-keep x l k vs _ (cond_both (same_context v.context x)
        (option_map (λ (q : AbstractProperty). join_properties q (v.value l k)) o) o (IfDemanded P)
        (λ _. map-keeps o (v.value l k) h) (λ _. h))

    pub value-within : (vs : List ValuesOf) (v : ValuesOf) (l : Label) (k : Key) → Member v vs
        → P (v.value l k) → (o : Option AbstractProperty)
        → IfDemanded P (with_value o v.context l k vs)
    value-within [] v l k m h o = elim m [ ]
    value-within (u ∷ us) v l k (inl is) h o =
        values-keep v.context l k us _ (subst (λ (w : ValuesOf). IfDemanded P
        (if same_context w.context v.context then option_map
        (λ (q : AbstractProperty). join_properties q (w.value l k)) o else o)) (sym is)
        (subst (IfDemanded P) (sym (cond-true (same_context v.context v.context)
        (option_map (λ (q : AbstractProperty). join_properties q (v.value l k)) o) o
        (same_context-self v.context))) (map-has o (v.value l k) h)))
    value-within (u ∷ us) v l k (inr m) h o = value-within us v l k m h _

    -- where the pair was demanded before, a demand changes nothing
    pub with_demand-has : (o before : Option AbstractProperty) (b : Bool) → with_demand o b ≡ before
        → IfDemanded P o → IsSome o → IfDemanded P before
    with_demand-has None before b e h s = absurd (false≢true s)
    with_demand-has (Some q) before true e h s = subst (IfDemanded P) e h
    with_demand-has (Some q) before false e h s = subst (IfDemanded P) e h

-- a value that there was is still one
pub values-some : (x : Context) (l : Label) (k : Key) (vs : List ValuesOf) (o : Option
    AbstractProperty)
    → IsSome o → IsSome (with_value o x l k vs)
values-some x l k [] o s = s
values-some x l k (v ∷ vs) o s =
    values-some x l k vs (if same_context v.context x then option_map
    (λ (q : AbstractProperty). join_properties q (v.value l k)) o else o)
    (cond_both (same_context v.context x) (option_map
    (λ (q : AbstractProperty). join_properties q (v.value l k)) o) o (λ r. IsSome r)
    (λ _. mapped o s) (λ _. s))
  where
    mapped : (r : Option AbstractProperty) → IsSome r
        → IsSome (option_map (λ (q : AbstractProperty). join_properties q (v.value l k)) r)
    mapped None s = s
    mapped (Some q) s = refl

-- ---- a table that stays

pub demand-there : (ds : List DemandsOf) (d : DemandsOf) (l : Label) (k : Key) → Member d ds
    → IsTrue (d.demands l k) → IsTrue (is_demanded d.context l k ds)
demand-there [] d l k m h = elim m [ ]
demand-there (f ∷ fs) d l k (inl is) h =
    or_left _ _ (subst (λ (g : DemandsOf). IsTrue
    (same_context g.context d.context && g.demands l k)) (sym is)
    (and_from _ _ (same_context-self d.context) h))
demand-there (f ∷ fs) d l k (inr m) h =
    or_right (same_context f.context d.context && f.demands l k) _ (demand-there fs d l k m h)

pub context-there : (xs : List Context) (x : Context) → Member x xs
    → IsTrue (list_any (λ (y : Context). same_context y x) xs)
context-there [] x m = elim m [ ]
context-there (y ∷ ys) x (inl is) =
    or_left _ _ (subst (λ (z : Context). IsTrue (same_context z x)) (sym is) (same_context-self x))
context-there (y ∷ ys) x (inr m) = or_right (same_context y x) _ (context-there ys x m)

pub edge-there : (es : List Edge) (e : Edge) → Member e es
    → IsTrue (list_any (λ (d : Edge). same_edge d e) es)
edge-there [] e m = elim m [ ]
edge-there (f ∷ fs) e (inl is) =
    or_left _ _ (subst (λ (g : Edge). IsTrue (same_edge g e)) (sym is) (same_edge-self e))
edge-there (f ∷ fs) e (inr m) = or_right (same_edge f e) _ (edge-there fs e m)

module _ (t : Table) (fx : Effects) (same : applied t fx ≡ t) where
  pub settled-state : (P : AbstractState → Type 0)
      → ((a b : AbstractState) → P a → P (join_states a b))
      → ((a b : AbstractState) → P b → P (join_states a b)) → (g : StateAt) → Member g fx.states
      → P g.state → HasState P (t.state g.context g.node)
  settled-state P left right g m h =
      subst (HasState P) (ap (λ (u : Table). u.state g.context g.node) same)
      (state-within P left right fx.states g m h (t.state g.context g.node))

  pub settled-demand : (d : DemandsOf) (l : Label) (k : Key) → Member d fx.demands
      → IsTrue (d.demands l k) → IsSome (t.entry d.context l k)
  settled-demand d l k m h =
      subst (λ o. IsSome o) (ap (λ (u : Table). u.entry d.context l k) same)
      (subst (λ b. IsSome (with_demand (with_value (t.entry d.context l k) d.context l k fx.values)
      b)) (sym (demand-there fx.demands d l k m h)) refl)

  pub settled-context : (x : Context) → Member x fx.contexts → t.context x ≡ true
  settled-context x m =
      sym (ap (λ (u : Table). u.context x) same)
      ∙ cond-true (list_any (λ (y : Context). same_context y x) fx.contexts) true (t.context x)
      (context-there fx.contexts x m)

  pub settled-edge : (e : Edge) → Member e fx.edges → t.edge e ≡ true
  settled-edge e m =
      sym (ap (λ (u : Table). u.edge e) same) ∙ cond-true
      (list_any (λ (d : Edge). same_edge d e) fx.edges) true (t.edge e) (edge-there fx.edges e m)

  value_by : (P : AbstractProperty → Type 0) → ((a b : AbstractProperty) → P a
      → P (join_properties a b)) → ((a b : AbstractProperty) → P b → P (join_properties a b))
      → (v : ValuesOf) (l : Label) (k : Key) → Member v fx.values → P (v.value l k)
      → (r : Option AbstractProperty) → t.entry v.context l k ≡ r → IfDemanded P r
  value_by P left right v l k m h None e = tt
  value_by P left right v l k m h (Some q) e =
      let o = with_value (t.entry v.context l k) v.context l k fx.values in
      with_demand-has P left right o (Some q) (is_demanded v.context l k fx.demands)
      (ap (λ (u : Table). u.entry v.context l k) same ∙ e)
      (value-within P left right fx.values v l k m h (t.entry v.context l k))
      (values-some v.context l k fx.values (t.entry v.context l k)
      (subst (λ r. IsSome r) (sym e) refl))

  -- a value that is filled in is within the one that is there
  pub settled-value : (P : AbstractProperty → Type 0)
      → ((a b : AbstractProperty) → P a → P (join_properties a b))
      → ((a b : AbstractProperty) → P b → P (join_properties a b))
      → (v : ValuesOf) (l : Label) (k : Key) → Member v fx.values → P (v.value l k)
      → IfDemanded P (t.entry v.context l k)
  settled-value P left right v l k m h =
      value_by P left right v l k m h (t.entry v.context l k) refl
