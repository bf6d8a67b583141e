-- The table that says everything: each context, each edge, and at each node and each pair a state
-- and a value with every part. No visit changes it.
use Rattle.std.specs.Prelude.{◌≡◌, ◌||◌, ◌&&◌, ◌==◌, if◌then◌else◌, ℕ, Bool, true, false, List, [], ◌∷◌, Some}
use Rattle.std.specs.List.{list_any}
use Rattle.std.proofs.Common.{refl, ap, ◌∙◌}
use Rattle.ja_base.specs.declared.ids.Context.{Context}
use Rattle.ja_base.specs.declared.ids.Label.{Label}
use Rattle.ja_graph.specs.declared.program.Program.{Program}
use Rattle.ja_abstract.specs.declared.abstraction.AAttrs.{AAttrs}
use Rattle.ja_abstract.specs.declared.abstraction.Flags.{Flags}
use Rattle.ja_abstract.specs.declared.abstraction.Key.{Key}
use Rattle.ja_abstract.specs.declared.abstraction.Mask.{Mask}
use Rattle.ja_abstract.specs.declared.abstraction.May.{May}
use Rattle.ja_abstract.specs.declared.abstraction.NumberPart.{NumberPart}
use Rattle.ja_abstract.specs.declared.abstraction.NumberPart.TheVariants as number_part
use Rattle.ja_abstract.specs.declared.abstraction.TextPart.{TextPart}
use Rattle.ja_abstract.specs.declared.abstraction.TextPart.TheVariants as text_part
use Rattle.ja_abstract.specs.AbstractValue.{AbstractValue, AbstractProperty, join, join_flags, join_numbers, join_texts, join_may, join_attrs, join_properties}
use Rattle.ja_abstract.specs.AbstractState.{AbstractState, join_masks, join_states}
use Rattle.ja_abstract.specs.Order.{LeqValue, LeqState}
use Rattle.ja_rows.specs.Table.{Table, StateAt, ValuesOf, Effects, same_context, same_edge, with_states, with_value, is_demanded, with_demand, applied, effects, opening_state, IsClosed}

-- ---- every part

abbrev every_flag : Flags
every_flag = record {
  absent = true;
  entry = true;
  row = true;
  undefined = true;
  null = true;
  is_true = true;
  is_false = true;
  nan = true;
}

abbrev any_value : AbstractValue
any_value = record {
  flags = every_flag;
  number = number_part.Whole;
  text = text_part.Text;
  label = λ l. true;
}

abbrev either_way : May
either_way = record { set = true; unset = true }

abbrev any_attrs : AAttrs
any_attrs = record { read_only = either_way; dont_enum = either_way; dont_delete = either_way }

abbrev any_property : AbstractProperty
any_property = record { value = any_value; attrs = any_attrs }

abbrev any_mask : Mask
any_mask = record { none = true; some = true }

abbrev any_state : AbstractState
any_state = record {
  register = λ r. any_value;
  property = λ l k. any_property;
  mask = λ s. any_mask;
}

-- ---- nothing is joined to it

whole_stays : (n : NumberPart) → join_numbers number_part.Whole n ≡ number_part.Whole
whole_stays number_part.Nothing = refl
whole_stays (number_part.One z) = refl
whole_stays number_part.Index = refl
whole_stays number_part.OtherWhole = refl
whole_stays number_part.Whole = refl

text_stays : (t : TextPart) → join_texts text_part.Text t ≡ text_part.Text
text_stays text_part.Nothing = refl
text_stays (text_part.One u) = refl
text_stays text_part.IndexText = refl
text_stays text_part.OtherText = refl
text_stays text_part.Text = refl

value_stays : (v : AbstractValue) → join any_value v ≡ any_value
value_stays v =
    λ i. record {
      flags = every_flag;
      number = whole_stays v.number i;
      text = text_stays v.text i;
      label = λ l. true;
    }

property_stays : (q : AbstractProperty) → join_properties any_property q ≡ any_property
property_stays q = λ i. record { value = value_stays q.value i; attrs = any_attrs }

state_stays : (a : AbstractState) → join_states any_state a ≡ any_state
state_stays a =
    λ i. record {
      register = λ r. value_stays (a.register r) i;
      property = λ l k. property_stays (a.property l k) i;
      mask = λ s. any_mask;
    }

-- ---- it is above all

or_true : (b : Bool) → (b || true) ≡ true
or_true true = refl
or_true false = refl

flags_below : (f : Flags) → join_flags f every_flag ≡ every_flag
flags_below f =
    λ i. record {
      absent = or_true f.absent i;
      entry = or_true f.entry i;
      row = or_true f.row i;
      undefined = or_true f.undefined i;
      null = or_true f.null i;
      is_true = or_true f.is_true i;
      is_false = or_true f.is_false i;
      nan = or_true f.nan i;
    }

value_below : (v : AbstractValue) → LeqValue v any_value
value_below v = record {
  flags = flags_below v.flags;
  number = λ n h. refl;
  text = λ t h. refl;
  label = λ l h. refl;
}

may_below : (m : May) → join_may m either_way ≡ either_way
may_below m = λ i. record { set = or_true m.set i; unset = or_true m.unset i }

attrs_below : (a : AAttrs) → join_attrs a any_attrs ≡ any_attrs
attrs_below a =
    λ i. record {
      read_only = may_below a.read_only i;
      dont_enum = may_below a.dont_enum i;
      dont_delete = may_below a.dont_delete i;
    }

mask_below : (m : Mask) → join_masks m any_mask ≡ any_mask
mask_below m = λ i. record { none = or_true m.none i; some = or_true m.some i }

state_below : (a : AbstractState) → LeqState a any_state
state_below a = record {
  register = λ r. value_below (a.register r);
  property =
      λ l k. record {
        value = value_below (a.property l k).value;
        attrs = attrs_below (a.property l k).attrs;
      };
  mask = λ t. mask_below (a.mask t);
}

-- ---- the table

abbrev pub largest : Table
largest = record {
  context = λ x. true;
  state = λ x n. Some any_state;
  entry = λ x l k. Some any_property;
  edge = λ e. true;
}

-- what stays the same on one side of a test stays so by the test
if_stays : {A : Type 0} (b : Bool) (u v : A) → u ≡ v → (if b then u else v) ≡ v
if_stays true u v e = e
if_stays false u v e = refl

states_stay : (x : Context) (n : ℕ) (gs : List StateAt)
    → with_states (Some any_state) x n gs ≡ Some any_state
states_stay x n [] = refl
states_stay x n (g ∷ gs) =
    ap (λ o. with_states o x n gs)
    (if_stays (same_context g.context x && (g.node == n)) (Some (join_states any_state g.state))
    (Some any_state) (ap Some (state_stays g.state)))
    ∙ states_stay x n gs

values_stay : (x : Context) (l : Label) (k : Key) (vs : List ValuesOf)
    → with_value (Some any_property) x l k vs ≡ Some any_property
values_stay x l k [] = refl
values_stay x l k (v ∷ vs) =
    ap (λ o. with_value o x l k vs)
    (if_stays (same_context v.context x) (Some (join_properties any_property (v.value l k)))
    (Some any_property) (ap Some (property_stays (v.value l k))))
    ∙ values_stay x l k vs

entry_stays : (x : Context) (l : Label) (k : Key) (fx : Effects)
    → with_demand (with_value (Some any_property) x l k fx.values) (is_demanded x l k fx.demands)
    ≡ Some any_property
entry_stays x l k fx =
    ap (λ o. with_demand o (is_demanded x l k fx.demands)) (values_stay x l k fx.values)
    ∙ if_stays (is_demanded x l k fx.demands) (Some any_property) (Some any_property) refl

applied_stays : (fx : Effects) → applied largest fx ≡ largest
applied_stays fx =
    λ i. record {
      context =
          λ x. if_stays (list_any (λ (y : Context). same_context y x) fx.contexts) true true refl i;
      state = λ x n. states_stay x n fx.states i;
      entry = λ x l k. entry_stays x l k fx i;
      edge = λ e. if_stays (list_any (λ d. same_edge d e) fx.edges) true true refl i;
    }

pub largest_is_closed : (p : Program) → IsClosed p largest
largest_is_closed p = record {
  opening = record { state = any_state; state_is = refl; least = state_below (opening_state p) };
  settled = λ item there. applied_stays (effects p largest item);
}
