-- What a walk over the objects that are asked comes to, as it is told label by label.
use Rattle.std.specs.Prelude.{◌≡◌, Bool, true, false, ◌&&◌, ◌||◌, if◌then◌else◌, List, [], ◌∷◌, filter, map}
use Rattle.std.specs.List.{list_any}
use Rattle.std.proofs.Common.{refl, sym, ap, ◌∙◌, cond}
use Rattle.ja_base.specs.declared.ids.Label.{Label}
use Rattle.ja_abstract.specs.declared.abstraction.Key.{Key}
use Rattle.ja_abstract.specs.AbstractValue.{Labels, join_properties, no_labels, no_property, absent_property}
use Rattle.ja_abstract.specs.AbstractState.{labels_of}
use Rattle.ja_abstract.specs.Reading.{View, both, demands_if, some_label, prototype_walk, ends_at, get_present, get, demands_of_get}
use Rattle.ja_abstract.specs.Resolved.{Demands, join_all}
use Rattle.ja_abstract.proofs.Least.{with_nothing}
use Rattle.ja_astate.specs.code.Asked.{object_met}
use Rattle.ja_astate.specs.code.Walks.{Meeting, met_over, met_from}
use Rattle.ja_astate.proofs.Meetings.{IsOfParts}

-- ---- the labels of a list that are kept, among all

module _ (meets : Label → Meeting) (keep : Labels) where
  pub found_over-filter : (ls : List Label) → (met_over meets (filter keep ls)).property
      ≡ join_all (map (λ (l : Label). if keep l then (meets l).property else no_property) ls)
  found_over-filter [] = refl
  found_over-filter (l ∷ ls) =
      elim (keep l) as (λ v.
      (met_over meets (cond v (l ∷ filter keep ls) (filter keep ls))).property
      ≡ join_properties (if v then (meets l).property else no_property)
      (join_all (map (λ (m : Label). if keep m then (meets m).property else no_property) ls))) [
        | true ↦ ap (join_properties (meets l).property) (found_over-filter ls)
        | false ↦ found_over-filter ls
      ]

  pub test_over-filter : (test : Meeting → Bool) → IsOfParts test → (ls : List Label)
      → test (met_over meets (filter keep ls))
      ≡ list_any (λ (l : Label). keep l && test (meets l)) ls
  test_over-filter test parts [] = parts.0
  test_over-filter test parts (l ∷ ls) =
      elim (keep l) as (λ v. test (met_over meets (cond v (l ∷ filter keep ls) (filter keep ls)))
      ≡ ((v && test (meets l)) || list_any (λ (m : Label). keep m && test (meets m)) ls)) [
        | true ↦ parts.1 (meets l) (met_over meets (filter keep ls))
            ∙ ap (λ (b : Bool). test (meets l) || b) (test_over-filter test parts ls)
        | false ↦ test_over-filter test parts ls
      ]

-- ---- gets

-- exactly absent where one of the labels is kept
absent_where : (keep : Labels) (ls : List Label)
    → join_all (map (λ (l : Label). if keep l then absent_property else no_property) ls)
    ≡ (if list_any keep ls then absent_property else no_property)
absent_where keep [] = refl
absent_where keep (l ∷ ls) =
    ap (join_properties (if keep l then absent_property else no_property)) (absent_where keep ls)
    ∙ either (keep l) (list_any keep ls)
  where
    either : (a b : Bool) → join_properties (if a then absent_property else no_property)
        (if b then absent_property else no_property)
        ≡ (if a || b then absent_property else no_property)
    either true true = refl
    either true false = refl
    either false b = refl

module _ (w : View) (start : Labels) (keys : List Key) (met : Meeting)
    (met_is : met ≡ met_from (object_met w keys) (labels_of w.program) start) where
  abbrev labels : List Label
  labels = labels_of w.program

  abbrev walk : Labels
  walk = prototype_walk w start keys

  present_is : met.property ≡ get_present w start keys
  present_is =
      ap (λ (m : Meeting). m.property) met_is ∙ found_over-filter (object_met w keys) walk labels

  end_is : met.may_end ≡ some_label w (λ l. walk l && ends_at w keys l)
  end_is =
      ap (λ (m : Meeting). m.may_end) met_is
      ∙ test_over-filter (object_met w keys) walk (λ (m : Meeting). m.may_end) (refl, λ a b. refl)
      labels

  -- the walk may end without the keys, or not
  pub get_absent_too : met.may_end ≡ true
      → join_properties met.property absent_property ≡ get w start keys
  get_absent_too e =
      ap (λ q. join_properties q absent_property) present_is
      ∙ ap (join_properties (get_present w start keys))
      (ap (λ (b : Bool). if b then absent_property else no_property) (sym e ∙ end_is)
      ∙ sym (absent_where (λ l. walk l && ends_at w keys l) labels))

  pub get_present_alone : met.may_end ≡ false → met.property ≡ get w start keys
  get_present_alone e =
      present_is ∙ sym (with_nothing (get_present w start keys))
      ∙ ap (join_properties (get_present w start keys))
      (ap (λ (b : Bool). if b then absent_property else no_property) (sym e ∙ end_is)
      ∙ sym (absent_where (λ l. walk l && ends_at w keys l) labels))

  pub get_demands : met.demands ≡ demands_of_get w start keys
  get_demands =
      ap (λ (m : Meeting). m.demands) met_is
      ∙ (λ i l k. test_over-filter (object_met w keys) walk (λ (m : Meeting). m.demands l k)
      (refl, λ a b. refl) labels i)

-- ---- where a label leads, by whether it does

pub leads_nowhere : (set none : Labels) (leads : Bool) → leads ≡ false → none ≡ no_labels
    → none ≡ (λ l. leads && set l)
leads_nowhere set none leads e is =
    is ∙ ap {B = Labels} (λ (b : Bool) (l : Label). b && set l) (sym e)

pub demands_where : (first more : Demands) (leads : Bool) → leads ≡ true
    → both first more ≡ both first (demands_if leads more)
demands_where first more leads e = ap (λ (b : Bool). both first (demands_if b more)) (sym e)

pub leads_same : (set next : Labels) (a b : Bool) → a ≡ b → next ≡ (λ l. a && set l)
    → next ≡ (λ l. b && set l)
leads_same set next a b e is = is ∙ ap {B = Labels} (λ (c : Bool) (l : Label). c && set l) e

pub demands_same : (own more now after : Demands) (a b : Bool) → a ≡ b → now ≡ own
    → after ≡ both now (demands_if a more) → after ≡ both own (demands_if b more)
demands_same own more now after a b e now_is after_is =
    after_is ∙ ap (λ (d : Demands). both d (demands_if a more)) now_is
    ∙ ap (λ (c : Bool). both own (demands_if c more)) e
