-- Visits of the items of a table: what they come to, from what each part that is joined in tells.
use Rattle.std.specs.Prelude.{◌≡◌, ◌≢◌, ◌||◌, ◌&&◌, ◌↔◌, ℕ, Bool, true, false, not, if◌then◌else◌, IsSome, IsTrue, List, [], ◌∷◌, Option, None, Some, Result, Ok, Err, IfOk, OnOk}
use Rattle.std.specs.List.{list_any, AllByRecursion}
use Rattle.std.specs.Option.{option_map}
use Rattle.std.proofs.Common.{refl, sym, subst, ap, ◌∙◌}
use Rattle.std.proofs.lemmas.Bool.{and_from, cond-true, false≢true, true≢false, or_left, or_right}
use Rattle.ja_base.specs.declared.ids.Context.{Context}
use Rattle.ja_base.specs.declared.ids.Label.{Label}
use Rattle.ja_graph.specs.declared.program.Program.{Program}
use Rattle.ja_abstract.specs.declared.abstraction.Key.{Key}
use Rattle.ja_abstract.specs.AbstractState.{AbstractState, is_key, same_key, is_label}
use Rattle.ja_abstract.specs.AbstractValue.{join_properties, same_label, AbstractProperty}
use Rattle.ja_abstract.specs.Contents.{opened}
use Rattle.ja_abstract.specs.Resolved.{Demands, Entries}
use Rattle.ja_abstract.proofs.Keys.{same_key_from}
use Rattle.ja_abstract.proofs.Labels.{same_label-self}
use Rattle.ja_aheap.specs.Objects.{demands_in}
use Rattle.ja_astate.specs.State.{state_of}
use Rattle.ja_rows.specs.declared.table.Edge.{Edge}
use Rattle.ja_rows.specs.declared.table.Item.{Item}
use Rattle.ja_rows.specs.declared.table.Item.TheVariants.{Open}
use Rattle.ja_rows.specs.Out.{Given}
use Rattle.ja_rows.specs.Table.{root, same_context, same_edge, visited, Table, ValuesOf}
use Rattle.ja_rows.proofs.Applied.{same_context-self, same_edge-self}
use Rattle.ja_rows.proofs.Views.{same_context-true}
use Rattle.ja_value.specs.Value.{property_of}
use Rattle.ja_flow.specs.code.Pairs.{filled, with_set}
use Rattle.ja_flow.specs.declared.values.EntryValue.{EntryValue}
use Rattle.ja_table.specs.declared.table.ATable.{ATable}
use Rattle.ja_rules.specs.declared.visits.Entry.{Entry}
use Rattle.ja_table.specs.Tables.{table_of}
use Rattle.ja_rules.specs.Visits.{IsVisited}
use Rattle.ja_rules.specs.code.Filling.{IsOpened}
use Rattle.ja_table.specs.code.Growing.{with_context, with_edge, with_entries_at, with_state_at, with_states_at}
use Rattle.ja_rules.specs.code.Entries.{with_demands_at, AreValuesOf}
use Rattle.ja_rules.specs.code.Stepping.{with_entered, FitsEntered}
use Rattle.ja_rules.proofs.VisitEffects.{of_parts, parts_applied}
use Rattle.ja_rules.proofs.Applied.{context_applied, demands_applied, edge_applied, of_context, of_demands, of_edge, of_given, of_state, of_values, state_applied, states_applied, values_applied}
use Rattle.ja_height.proofs.Grows.{grown_by, IsGrown}
use Rattle.ja_table.proofs.Places.{edges_order}

-- ---- what each part tells

-- a visit by its table and what it tells
pub visit_is : (p : Program) (item : Item) (t u : Table) (changed : Bool) → visited p t item ≡ u
    → IsGrown t u changed → IsVisited p item t u changed
visit_is p item t u changed is grown =
    record { visited_is = is; other = grown.other; same = grown.same }

-- one that left the table as it was
pub visit_nothing : (p : Program) (item : Item) (t : Table) → visited p t item ≡ t
    → IsVisited p item t t false
visit_nothing p item t is = record {
  visited_is = is;
  other = λ e. absurd (false≢true e);
  same = λ e. refl;
}

-- one of a test that is told: a context more, an edge more
told_other : (b t : Bool) → t ≡ not b → t ≡ true → b ≡ false
told_other true t is e = absurd (false≢true (sym is ∙ e))
told_other false t is e = refl

told_same : (b t : Bool) → t ≡ not b → t ≡ false → b ≡ true
told_same true t is e = refl
told_same false t is e = absurd (true≢false (sym is ∙ e))

stays_true : (b c : Bool) → (b ≡ true → c ≡ true) → (if b then true else c) ≡ c
stays_true true c h = sym (h refl)
stays_true false c h = refl

pub context_grown : (t u : Table) (x : Context) (told : Bool) → u ≡ with_context t x
    → told ≡ not (t.context x) → IsGrown t u told
context_grown t u x told is tells =
    grown_by t u (of_context x) told (is ∙ context_applied t x)
    (λ e back. false≢true (sym (told_other (t.context x) told tells e)
    ∙ sym (ap (λ (v : Table). v.context x) (sym is ∙ back))
    ∙ cond-true (same_context x x) true (t.context x) (same_context-self x)))
    (λ e. is ∙ (λ i. record t {
      context = λ y. stays_true (same_context x y) (t.context y)
          (λ same. subst (λ z. t.context z ≡ true) (same_context-true x y same)
          (told_same (t.context x) told tells e)) i;
    }))

pub edge_grown : (t u : Table) (d : Edge) (told : Bool) → u ≡ with_edge t d
    → told ≡ not (t.edge d) → IsGrown t u told
edge_grown t u d told is tells =
    grown_by t u (of_edge d) told (is ∙ edge_applied t d)
    (λ e back. false≢true (sym (told_other (t.edge d) told tells e)
    ∙ sym (ap (λ (v : Table). v.edge d) (sym is ∙ back))
    ∙ cond-true (same_edge d d) true (t.edge d) (same_edge-self d)))
    (λ e. is ∙ (λ i. record t {
      edge = λ f. stays_true (same_edge d f) (t.edge f)
          (λ same. subst (λ g. t.edge g ≡ true) (edges_order.exact d f same)
          (told_same (t.edge d) told tells e)) i;
    }))

pub state_grown : (t u : Table) (x : Context) (n : ℕ) (a : AbstractState) (changed : Bool)
    → u ≡ with_state_at t x n a → (changed ≡ true → u ≢ t) → (changed ≡ false → u ≡ t)
    → IsGrown t u changed
state_grown t u x n a changed is other same =
    grown_by t u (of_state (record { context = x; node = n; state = a })) changed
    (is ∙ state_applied t x n a) other same

pub states_grown : (t u : Table) (x : Context) (given : Given) (changed : Bool)
    → u ≡ with_states_at t x given → (changed ≡ true → u ≢ t) → (changed ≡ false → u ≡ t)
    → IsGrown t u changed
states_grown t u x given changed is other same =
    grown_by t u (of_given x given) changed (is ∙ states_applied t x given) other same

pub demands_grown : (t u : Table) (x : Context) (d : Demands) (changed : Bool)
    → u ≡ with_demands_at t x d → (changed ≡ true → u ≢ t) → (changed ≡ false → u ≡ t)
    → IsGrown t u changed
demands_grown t u x d changed is other same =
    grown_by t u (of_demands x d) changed (is ∙ demands_applied t x d) other same

-- ---- values

back_there : (t : Table) (x y : Context) (b : Bool) → (b ≡ true → x ≡ y)
    → (if b then t.entry x else t.entry y) ≡ t.entry y
back_there t x y true h = ap t.entry (h refl)
back_there t x y false h = refl

pub entries_back : (t : Table) (x : Context) → with_entries_at t x (t.entry x) ≡ t
entries_back t x = λ i. record t {
  entry = λ y. back_there t x y (same_context x y)
      (λ e. same_context-true x y e) i;
}

-- values of the entry of a context that are set, where these change it
pub values_grown : (t u : Table) (x : Context) (e : Entries) (vs : List EntryValue)
    (v : Label → Key → AbstractProperty) (changed : Bool) → t.entry x ≡ e
    → u ≡ with_entries_at t x (with_set (t.entry x) vs) → with_set e vs ≡ filled e v
    → (vs ≢ [] → filled e v ≢ e) → (changed ≡ false ↔ (vs ≡ [])) → IsGrown t u changed
values_grown t u x e vs v changed e_is is set other told =
    let same_set : with_set (t.entry x) vs ≡ filled (t.entry x) v =
    ap (λ (f : Entries). with_set f vs) e_is ∙ set ∙ ap (λ (f : Entries). filled f v) (sym e_is) in
    let values : ValuesOf = record { context = x; value = v } in
    let there : u.entry x ≡ filled e v = ap (λ (w : Table). w.entry x) is
    ∙ cond-true (same_context x x) (with_set (t.entry x) vs) (t.entry x) (same_context-self x)
    ∙ same_set ∙ ap (λ (f : Entries). filled f v) e_is in
    grown_by t u (of_values values) changed
    (is ∙ ap (with_entries_at t x) same_set ∙ values_applied t values)
    (λ h back. other (λ none. false≢true (sym (told.1 none) ∙ h))
    (sym there ∙ ap (λ (w : Table). w.entry x) back ∙ e_is))
    (λ h. is ∙ ap (λ (ws : List EntryValue). with_entries_at t x (with_set (t.entry x) ws))
    (told.0 h) ∙ entries_back t x)

-- what the opening heap changes, by what the context has that is found
pub opens_by : (p : Program) (t : ATable) (e : Entries) (vs : List EntryValue)
    → (table_of t).entry root ≡ e → with_set e vs ≡ filled e (opened p)
    → (vs ≢ [] → filled e (opened p) ≢ e) → IsOpened p (table_of t) vs
opens_by p t e vs is set changed = record {
  set = subst (λ (f : Entries). with_set f vs ≡ filled f (opened p)) (sym is) set;
  changed =
      subst (λ (f : Entries). vs ≢ [] → filled f (opened p) ≢ f) (sym is) changed;
}

pub open_visited : (p : Program) (t u : Table) (vs : List EntryValue)
    → u ≡ with_entries_at t root (with_set (t.entry root) vs)
    → with_set (t.entry root) vs ≡ filled (t.entry root) (opened p) → visited p t Open ≡ u
open_visited p t u vs is set =
    sym (is ∙ ap (with_entries_at t root) set
    ∙ values_applied t (record { context = root; value = opened p }))

-- values that are set where pairs of the program are demanded are of the program
set_some : (e : Entries) (vs : List EntryValue) (l : Label) (k : Key)
    → IsTrue (list_any (λ (v : EntryValue). same_label v.label l && same_key v.key k) vs)
    → IsSome (with_set e vs l k)
set_some e [] l k h = absurd (false≢true h)
set_some e (v ∷ vs) l k h =
    elim (same_label v.label l && same_key v.key k) as (λ b.
    IsTrue (b || list_any (λ (u : EntryValue). same_label u.label l && same_key u.key k) vs)
    → IsSome (if b then Some (property_of v.value) else with_set e vs l k)) [
      | true ↦ (λ g. refl)
      | false ↦ (λ g. set_some e vs l k g)
    ] h

some_filled : (o : Option AbstractProperty) (q : AbstractProperty)
    → IsSome (option_map (λ (r : AbstractProperty). join_properties r q) o) → IsSome o
some_filled None q h = absurd (false≢true h)
some_filled (Some r) q h = refl

pub values_of : (p : Program) (e : Entries) (all vs : List EntryValue)
    (v : Label → Key → AbstractProperty) → with_set e all ≡ filled e v
    → ((l : Label) (k : Key) → IsSome (e l k) → IsTrue (is_label p l))
    → ((l : Label) (k : Key) → IsSome (e l k) → IsTrue (is_key p k))
    → ((l : Label) (k : Key)
    → IsTrue (list_any (λ (u : EntryValue). same_label u.label l && same_key u.key k) vs)
    → IsTrue (list_any (λ (u : EntryValue). same_label u.label l && same_key u.key k) all))
    → AreValuesOf p vs
values_of p e all [] v set labels keys among = tt
values_of p e all (u ∷ us) v set labels keys among =
    let here = set_some e all u.label u.key (among u.label u.key (or_left
    (same_label u.label u.label && same_key u.key u.key) _
    (and_from (same_label u.label u.label) (same_key u.key u.key) (same_label-self u.label)
    (same_key_from u.key u.key refl)))) in
    let some = some_filled (e u.label u.key) (v u.label u.key)
    (subst (λ (f : Entries). IsSome (f u.label u.key)) set here) in (
      (labels u.label u.key some, keys u.label u.key some),
      values_of p e all us v set labels keys (λ l k h. among l k (or_right
          (same_label u.label l && same_key u.key k) _ h)),
    )

-- ---- what is reached stays so

pub reached_there : (t u : Table) (x : Context) → u ≡ with_context t x → IsTrue (u.context x)
reached_there t u x is =
    ap (λ (v : Table). v.context x) is
    ∙ cond-true (same_context x x) true (t.context x) (same_context-self x)

still : (b c : Bool) → IsTrue c → IsTrue (if b then true else c)
still true c h = refl
still false c h = h

pub reached_more : (t u : Table) (x y : Context) → u ≡ with_context t x → IsTrue (t.context y)
    → IsTrue (u.context y)
reached_more t u x y is h =
    subst (λ (v : Table). IsTrue (v.context y)) (sym is)
    (still (same_context x y) (t.context y) h)

-- an entry keeps what is reached
pub entered_keeps : (t : Table) (e : Entry) (y : Context) → IsTrue (t.context y)
    → IsTrue ((with_entered t e).context y)
entered_keeps t e y h = still (same_context e.edge.callee y) (t.context y) h

-- so what fits the table still does
pub entries_keep : (p : Program) (t : Table) (e : Entry) (entries : List Entry)
    → AllByRecursion (FitsEntered p t) entries
    → AllByRecursion (FitsEntered p (with_entered t e)) entries
entries_keep p t e [] all = tt
entries_keep p t e (y ∷ ys) all = (
  record {
    caller = entered_keeps t e y.edge.caller all.0.caller;
    node = all.0.node;
    callee = all.0.callee;
    state = all.0.state;
    demands = all.0.demands;
  },
  entries_keep p t e ys all.1,
)

-- an entry grows the table
pub entered_grown : (t u : Table) (e : Entry) (changed : Bool) → u ≡ with_entered t e
    → (changed ≡ true → u ≢ t) → (changed ≡ false → u ≡ t) → IsGrown t u changed
entered_grown t u e changed is other same =
    grown_by t u (of_parts e.edge e.edge.caller (state_of e.entered.state)
    (demands_in e.entered.demands)) changed
    (is ∙ parts_applied t e.edge (state_of e.entered.state) (demands_in e.entered.demands))
    other same

-- states that are joined in keep what is reached
pub states_keep : (t : Table) (x : Context) (given : Given)
    → (with_states_at t x given).context ≡ t.context
states_keep t x [] = refl
states_keep t x (g ∷ gs) = states_keep (with_state_at t x g.0 g.1) x gs

pub states_reached : (t u : Table) (x y : Context) (given : Given) → u ≡ with_states_at t x given
    → IsTrue (t.context y) → IsTrue (u.context y)
states_reached t u x y given is h =
    subst (λ (v : Table). IsTrue (v.context y)) (sym is)
    (subst (λ (f : Context → Bool). IsTrue (f y)) (sym (states_keep t x given)) h)

pub values_of_pairs : (p : Program) (e : Entries) (vs : List EntryValue)
    (v : Label → Key → AbstractProperty) → with_set e vs ≡ filled e v
    → ((l : Label) (k : Key) → IsSome (e l k) → IsTrue (is_label p l) × IsTrue (is_key p k))
    → AreValuesOf p vs
values_of_pairs p e vs v set pairs =
    values_of p e vs vs v set (λ l k some. (pairs l k some).0) (λ l k some. (pairs l k some).1)
    (λ l k h. h)

-- ---- what holds of a result

pub both_ok : {T E : Type 0} {P Q R : T → Type 0} → (r : Result T E) → IfOk r P → IfOk r Q
    → ((x : T) → P x → Q x → R x) → IfOk r R
both_ok (Ok x) p q h = h x p q
both_ok (Err e) p q h = tt

pub ok_after : {T E P Q : Type 0} → (r : Result T E) → OnOk r P → (P → Q) → OnOk r Q
ok_after (Ok x) p h = h p
ok_after (Err e) p h = tt

-- Open, by the values that were set
pub open_told : (p : Program) (t u : Table) (x : Context) (e : Entries) (vs : List EntryValue)
    (changed : Bool) → x ≡ root → t.entry root ≡ e
    → u ≡ with_entries_at t x (with_set (t.entry x) vs) → with_set e vs ≡ filled e (opened p)
    → (vs ≢ [] → filled e (opened p) ≢ e) → (changed ≡ false ↔ (vs ≡ []))
    → IsVisited p Open t u changed
open_told p t u x e vs changed x_is e_is is set other told =
    let at_root : u ≡ with_entries_at t root (with_set (t.entry root) vs) =
    is ∙ ap (λ (y : Context). with_entries_at t y (with_set (t.entry y) vs)) x_is in
    visit_is p Open t u changed
    (open_visited p t u vs at_root
    (ap (λ (f : Entries). with_set f vs) e_is ∙ set
    ∙ ap (λ (f : Entries). filled f (opened p)) (sym e_is)))
    (values_grown t u root e vs (opened p) changed e_is at_root set other told)
