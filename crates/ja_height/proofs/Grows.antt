-- Tables that grow: what a table has stays, and so a change stays one.
use Rattle.std.specs.Prelude.{◌≡◌, ◌≢◌, ◌||◌, ℕ, Bool, true, false, if◌then◌else◌, IsTrue, List, [], ◌∷◌, Option, Some, None}
use Rattle.std.specs.List.{list_any}
use Rattle.std.specs.Option.{option_map}
use Rattle.std.proofs.Common.{refl, sym, subst, ◌∙◌}
use Rattle.std.proofs.lemmas.Bool.{true≢false}
use Rattle.ja_base.specs.declared.ids.Context.{Context}
use Rattle.ja_base.specs.declared.ids.Label.{Label}
use Rattle.ja_abstract.specs.declared.abstraction.Key.{Key}
use Rattle.ja_abstract.specs.AbstractValue.{AbstractProperty, join_properties}
use Rattle.ja_abstract.proofs.Order.{below_label, option_property_both, option_property_equal, option_property_same, option_state_both, option_state_equal, option_state_same, property-join, property_same, LeqOptionProperty, LeqOptionState}
use Rattle.ja_rows.specs.declared.table.Edge.{Edge}
use Rattle.ja_rows.specs.Table.{applied, is_demanded, same_context, with_demand, with_value, Effects, Table, ValuesOf}
use Rattle.ja_rows.proofs.Rising.{applied_rises}

-- each context, state, value at entry and edge of the first is in the second, or below it there
pub record Grows (t u : Table) : Type 0 where
  pub context : (x : Context) → IsTrue (t.context x) → IsTrue (u.context x)
  pub state : (x : Context) (n : ℕ) → LeqOptionState (t.state x n) (u.state x n)
  pub entry : (x : Context) (l : Label) (k : Key)
      → LeqOptionProperty (t.entry x l k) (u.entry x l k)
  pub edge : (e : Edge) → IsTrue (t.edge e) → IsTrue (u.edge e)

pub grows_same : (t : Table) → Grows t t
grows_same t = record {
  context = λ x h. h;
  state = λ x n. option_state_same (t.state x n);
  entry = λ x l k. option_property_same (t.entry x l k);
  edge = λ e h. h;
}

pub grows_both : (t u v : Table) → Grows t u → Grows u v → Grows t v
grows_both t u v h k = record {
  context = λ x i. k.context x (h.context x i);
  state =
      λ x n. option_state_both (t.state x n) (u.state x n) (v.state x n) (h.state x n)
      (k.state x n);
  entry =
      λ x l j. option_property_both (t.entry x l j) (u.entry x l j) (v.entry x l j)
      (h.entry x l j) (k.entry x l j);
  edge = λ e i. k.edge e (h.edge e i);
}

-- tables that have what each other has are equal
pub grows_equal : (t u : Table) → Grows t u → Grows u t → t ≡ u
grows_equal t u h k = λ i. record {
  context = λ x. below_label (t.context x) (u.context x) (h.context x) (k.context x) i;
  state = λ x n. option_state_equal (t.state x n) (u.state x n) (h.state x n) (k.state x n) i;
  entry =
      λ x l j. option_property_equal (t.entry x l j) (u.entry x l j) (h.entry x l j)
      (k.entry x l j) i;
  edge = λ e. below_label (t.edge e) (u.edge e) (h.edge e) (k.edge e) i;
}

-- ---- what a visit joins in

stays : (b c : Bool) → IsTrue c → IsTrue (if b then true else c)
stays true c h = refl
stays false c h = h

value-joined : (o : Option AbstractProperty) (q : AbstractProperty)
    → LeqOptionProperty o (option_map (λ (r : AbstractProperty). join_properties r q) o)
value-joined None q = tt
value-joined (Some r) q = property-join r q

chosen : (b : Bool) (o r : Option AbstractProperty) → LeqOptionProperty o r
    → LeqOptionProperty o (if b then r else o)
chosen true o r h = h
chosen false o r h = option_property_same o

values-joined : (x : Context) (l : Label) (k : Key) (vs : List ValuesOf)
    (o : Option AbstractProperty) → LeqOptionProperty o (with_value o x l k vs)
values-joined x l k [] o = option_property_same o
values-joined x l k (v ∷ vs) o =
    let more : Option AbstractProperty = option_map
    (λ (q : AbstractProperty). join_properties q (v.value l k)) o in
    let next : Option AbstractProperty = if same_context v.context x then more else o in
    option_property_both o next (with_value next x l k vs)
    (chosen (same_context v.context x) o more (value-joined o (v.value l k)))
    (values-joined x l k vs next)

demand-joined : (o : Option AbstractProperty) (b : Bool) → LeqOptionProperty o (with_demand o b)
demand-joined None b = tt
demand-joined (Some q) true = property_same q
demand-joined (Some q) false = property_same q

pub applied_grows : (t : Table) (fx : Effects) → Grows t (applied t fx)
applied_grows t fx =
    let rises = applied_rises t fx in
    record {
      context =
          λ x h. stays (list_any (λ (y : Context). same_context y x) fx.contexts) (t.context x) h;
      state = rises.state;
      entry =
          λ x l k. let o : Option AbstractProperty = with_value (t.entry x l k) x l k fx.values in
          option_property_both (t.entry x l k) o (with_demand o (is_demanded x l k fx.demands))
          (values-joined x l k fx.values (t.entry x l k))
          (demand-joined o (is_demanded x l k fx.demands));
      edge = rises.edge;
    }

-- ---- steps that tell whether they changed a table

-- a table grew, and it is told whether that changed it
pub record IsGrown (before after : Table) (changed : Bool) : Type 0 where
  pub grows : Grows before after
  pub other : changed ≡ true → after ≢ before
  pub same : changed ≡ false → after ≡ before

pub grown_none : (t : Table) → IsGrown t t false
grown_none t = record {
  grows = grows_same t;
  other = λ e. absurd (true≢false (sym e));
  same = λ e. refl;
}

-- where one of two steps changed the table, both did
pub grown_both : (t u v : Table) (b c : Bool) → IsGrown t u b → IsGrown u v c
    → IsGrown t v (b || c)
grown_both t u v true c h k = record {
  grows = grows_both t u v h.grows k.grows;
  other = λ e back. h.other refl (grows_equal u t (subst (λ w. Grows u w) back k.grows) h.grows);
  same = λ e. absurd (true≢false e);
}
grown_both t u v false c h k = record {
  grows = grows_both t u v h.grows k.grows;
  other = λ e back. k.other e (back ∙ sym (h.same refl));
  same = λ e. k.same e ∙ h.same refl;
}

-- a step by its effects
pub grown_by : (t u : Table) (fx : Effects) (changed : Bool) → u ≡ applied t fx
    → (changed ≡ true → u ≢ t) → (changed ≡ false → u ≡ t) → IsGrown t u changed
grown_by t u fx changed is other same = record {
  grows = subst (λ v. Grows t v) (sym is) (applied_grows t fx);
  other = other;
  same = same;
}
