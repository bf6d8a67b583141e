-- What is read of a view of a program has labels of the program alone.
use Rattle.std.specs.Prelude.{◌&&◌, ℕ, zero, suc, Bool, if◌then◌else◌, List, [], ◌∷◌, length, map, Option, Some, None, IfSome}
use Rattle.std.specs.List.{list_any}
use Rattle.std.proofs.Common.{inl, inr}
use Rattle.std.proofs.lemmas.Bool.{and_parts, cond_both, false≢true, or_cases}
use Rattle.ja_base.specs.declared.ids.Label.{Label}
use Rattle.ja_graph.specs.declared.program.Program.{Program}
use Rattle.ja_abstract.specs.declared.abstraction.Key.{Key}
use Rattle.ja_abstract.specs.AbstractValue.{Labels, AbstractProperty, absent_property, no_property, no_value, null_value, present_part}
use Rattle.ja_abstract.specs.AbstractState.{labels_of}
use Rattle.ja_abstract.specs.Reading.{View, ends_at, found, get, get_absent, get_present, has_present, may_have, may_lack, next_scope, one_label, own, present_property, prototype_walk, scope_walk, slot}
use Rattle.ja_abstract.specs.Resolved.{join_all, outer, resolved, rounds}
use Rattle.ja_cert_laws.proofs.ShapedStates.{AreEntriesIn, IsEntryIn, IsPropertyIn, IsShapedIn, resolved_in}
use Rattle.ja_cert_laws.proofs.ShapedValues.{AreLabels, IsRegisterIn, joined_objects, left_objects, no_objects, of_join, of_nothing, of_null, of_some_labels, right_objects}

-- a view of a program, of which the state and the values at entry have their shape
pub record IsViewIn (w : View) : Type 0 where
  pub state : IsShapedIn w.program w.state
  pub entries : AreEntriesIn w.program w.entries

-- ---- sets that are closed under a step

module _ (p : Program) where
  -- what is led to from some labels
  pub led_to : (test : Label → Bool) (next : Label → Labels) → ((l : Label) → AreLabels p (next l))
      → (ls : List Label) → AreLabels p (λ m. list_any (λ (l : Label). test l && next l m) ls)
  led_to test next f [] m h = absurd (false≢true h)
  led_to test next f (l ∷ ls) m h =
      elim (or_cases (test l && next l m) (list_any (λ (k : Label). test k && next k m) ls) h) [
        | inl here ↦ f l m (and_parts (test l) (next l m) here).1
        | inr there ↦ led_to test next f ls m there
      ]

  pub rounds_in : (next : Label → Labels) (ls : List Label) (start : Labels)
      → ((l : Label) → AreLabels p (next l)) → AreLabels p start → (n : ℕ)
      → AreLabels p (rounds next ls start n)
  rounds_in next ls start f g zero = g
  rounds_in next ls start f g (suc n) =
      let before = rounds next ls start n in
      joined_objects p before (λ m. list_any (λ (l : Label). before l && next l m) ls)
      (rounds_in next ls start f g n) (led_to before next f ls)

-- ---- what is read

module _ (w : View) (f : IsViewIn w) where
  abbrev p : Program
  p = w.program

  -- objects of the program
  abbrev pub HasLabels : AbstractProperty → Type 0
  HasLabels q = AreLabels p q.value.label

  pub entries_are : (l : Label) (k : Key) → IfSome (w.entries l k) (IsPropertyIn p k)
  entries_are l k = by (w.entries l k) (f.entries l k)
    where
      by : (o : Option AbstractProperty) → IfSome o (IsEntryIn p k) → IfSome o (IsPropertyIn p k)
      by None h = tt
      by (Some q) h = h.property

  pub resolved_is : (l : Label) (k : Key) → IsPropertyIn p k (resolved w.state w.entries l k)
  resolved_is l k = resolved_in p w.state w.entries l k f.state.properties entries_are

  pub slot_labels : (l : Label) (k : Key) → AreLabels p (slot w l k).label
  slot_labels l k = (resolved_is l k).labels

  own_labels : (l : Label) (keys : List Key) → HasLabels (own w l keys)
  own_labels l [] = no_objects p
  own_labels l (k ∷ ks) =
      joined_objects p (slot w l k).label (own w l ks).value.label (slot_labels l k)
      (own_labels l ks)

  present_labels : (q : AbstractProperty) → HasLabels q → HasLabels (present_property w q)
  present_labels q g =
      cond_both (has_present w q.value) (record q { value = present_part q.value }) no_property
      HasLabels (λ _. g) (λ _. no_objects p)

  at_each : (set : Labels) (h : Label → AbstractProperty) → ((l : Label) → HasLabels (h l))
      → (ls : List Label)
      → HasLabels (join_all (map (λ (l : Label). if set l then h l else no_property) ls))
  at_each set h each [] = no_objects p
  at_each set h each (l ∷ ls) =
      let rest = join_all (map (λ (m : Label). if set m then h m else no_property) ls) in
      let here : HasLabels (if set l then h l else no_property) =
      cond_both (set l) (h l) no_property HasLabels (λ _. each l) (λ _. no_objects p) in
      joined_objects p (if set l then h l else no_property).value.label rest.value.label here
      (at_each set h each ls)

  pub get_labels : (start : Labels) (keys : List Key)
      → AreLabels p (get w start keys).value.label
  get_labels start keys =
      joined_objects p (get_present w start keys).value.label (get_absent w start keys).value.label
      (at_each (prototype_walk w start keys) (λ l. present_property w (own w l keys))
      (λ l. present_labels (own w l keys) (own_labels l keys)) (labels_of p))
      (at_each (λ l. prototype_walk w start keys l && ends_at w keys l) (λ l. absent_property)
      (λ l. no_objects p) (labels_of p))

  -- ---- scope chains

  next_labels : (keys : List Key) (l : Label) → AreLabels p (next_scope w keys l)
  next_labels keys l =
      right_objects p (λ m. may_lack (get w (one_label l) keys)) (slot w l outer).label
      (slot_labels l outer)

  walk_labels : (start : Labels) (keys : List Key) → AreLabels p start
      → AreLabels p (scope_walk w start keys)
  walk_labels start keys g =
      rounds_in p (next_scope w keys) (labels_of p) start (next_labels keys) g
      (length (labels_of p))

  pub of_found : (start : Labels) (keys : List Key) → AreLabels p start
      → IsRegisterIn p (found w start keys)
  of_found start keys g =
      of_join p _ _
      (cond_both _ null_value no_value (IsRegisterIn p) (λ _. of_null p) (λ _. of_nothing p))
      (of_some_labels p _ (left_objects p (scope_walk w start keys)
      (λ l. may_have w (get w (one_label l) keys)) (walk_labels start keys g)))
