-- What a walk over the objects of scope chains comes to: those that may have the name, and whether
-- a chain may end.
use Rattle.std.specs.Prelude.{◌≡◌, ℕ, zero, suc, Bool, true, false, ◌&&◌, ◌||◌, if◌then◌else◌, IsTrue, List, [], ◌∷◌, filter, map, length}
use Rattle.std.specs.List.{list_any}
use Rattle.std.specs.Cmp.{both_ways}
use Rattle.std.proofs.Common.{refl, sym, subst, ap, ◌∙◌, inl, inr}
use Rattle.std.proofs.Math.Bool.{or-false}
use Rattle.std.proofs.lemmas.Bool.{and_parts, and_from, or_parts, cases_Bool, false≢true}
use Rattle.ja_base.specs.declared.ids.Label.{Label}
use Rattle.ja_abstract.specs.declared.abstraction.Key.{Key}
use Rattle.ja_abstract.specs.AbstractValue.{Labels, AbstractProperty, same_label, no_labels, join, join_properties, no_value, no_property, null_value, absent_property, bare, of_label, of_labels}
use Rattle.ja_abstract.specs.AbstractState.{labels_of}
use Rattle.ja_abstract.specs.Reading.{View, some_label, at_labels, own, present_property, slot, next_prototype, prototype_walk, ends_at, get, may_have, may_lack, one_label, scope_walk, found, demands_of_found}
use Rattle.ja_abstract.specs.Resolved.{one_more, rounds, join_all, outer}
use Rattle.ja_abstract.proofs.Labels.{IsAmong, same_label-true, same_label-self, some_among, among_some}
use Rattle.ja_astate.specs.code.Asked.{scope_met}
use Rattle.ja_astate.specs.code.Walks.{Meeting, met_over, met_from}
use Rattle.ja_astate.proofs.Asked.{test_over-filter}
use Rattle.ja_astate.proofs.Walking.{is_among, among-filter}

-- ---- labels that are none of the program's

-- where none passes a test, none passes it and another
any_none : (f g : Labels) (ls : List Label) → list_any f ls ≡ false
    → list_any (λ (l : Label). f l && g l) ls ≡ false
any_none f g [] e = refl
any_none f g (l ∷ ls) e =
    let (here, behind) = or_parts (f l) (list_any f ls) e in
    ap (λ (b : Bool). (b && g l) || list_any (λ (m : Label). f m && g m) ls) here
    ∙ any_none f g ls behind

-- .. nothing is there
nothing_there : (f : Labels) (at : Label → AbstractProperty) (ls : List Label)
    → list_any f ls ≡ false
    → join_all (map (λ (l : Label). if f l then at l else no_property) ls) ≡ no_property
nothing_there f at [] e = refl
nothing_there f at (l ∷ ls) e =
    let (here, behind) = or_parts (f l) (list_any f ls) e in
    let rest = join_all (map (λ (m : Label). if f m then at m else no_property) ls) in
    ap (λ (b : Bool). join_properties (if b then at l else no_property) rest) here
    ∙ nothing_there f at ls behind

-- a walk from such a label stays there
rounds_outside : (next : Label → Labels) (labels : List Label) (l : Label)
    → is_among l labels ≡ false → (n : ℕ) → rounds next labels (same_label l) n ≡ same_label l
rounds_outside next labels l e zero = refl
rounds_outside next labels l e (suc n) =
    ap (one_more next labels) (rounds_outside next labels l e n)
    ∙ (λ i m. same_label l m || any_none (same_label l) (λ (x : Label). next x m) labels e i)
    ∙ (λ i m. or-false (same_label l m) i)

pub no_label_there : (ls : List Label) → list_any no_labels ls ≡ false
no_label_there [] = refl
no_label_there (l ∷ ls) = no_label_there ls

-- .. and finds nothing
may_have_outside : (w : View) (l : Label) (keys : List Key)
    → is_among l (labels_of w.program) ≡ false → may_have w (get w (one_label l) keys) ≡ false
may_have_outside w l keys e =
    let labels = labels_of w.program in
    let walk = prototype_walk w (one_label l) keys in
    let alone : list_any walk labels ≡ false =
    ap (λ (s : Labels). list_any s labels)
    (rounds_outside (next_prototype w keys) labels l e (length labels)) ∙ e in
    let present = nothing_there walk (λ m. present_property w (own w m keys)) labels alone in
    let absent = nothing_there (λ m. walk m && ends_at w keys m) (λ m. absent_property) labels
    (any_none walk (ends_at w keys) labels alone) in
    ap (λ (q : AbstractProperty). may_have w (join_properties q
    (at_labels w (λ m. walk m && ends_at w keys m) (λ m. absent_property)))) present
    ∙ ap (λ (q : AbstractProperty). may_have w (join_properties no_property q)) absent
    ∙ no_label_there labels

-- ---- objects

module _ (w : View) (keys : List Key) where
  abbrev has_name : Labels
  has_name l = may_have w (get w (one_label l) keys)

  -- a label that may have the name is the same as this one
  abbrev is_it : Label → Labels
  is_it l m = has_name m && same_label m l

  -- the labels of a list whose objects may have the name
  objects_over : (ls : List Label) → (met_over (scope_met w keys) ls).property.value
      ≡ of_labels (λ l. list_any (is_it l) ls)
  objects_over [] = refl
  objects_over (m ∷ ms) =
      ap (join (if has_name m then bare (of_label m) else no_property).value) (objects_over ms)
      ∙ one (has_name m) m (λ l. list_any (is_it l) ms)
    where
      one : (b : Bool) (x : Label) (set : Labels)
          → join (if b then bare (of_label x) else no_property).value (of_labels set)
          ≡ of_labels (λ l. (b && same_label x l) || set l)
      one true x set = refl
      one false x set = refl

  -- .. are those of the program that are kept
  module _ (keep : Labels) (l : Label) where
    abbrev kept : List Label
    kept = filter keep (labels_of w.program)

    has_kept : IsTrue (list_any (is_it l) kept) → IsTrue (keep l && has_name l)
    has_kept e =
        let (m, a, t) = among_some (is_it l) kept e in
        let (h, s) = and_parts (has_name m) (same_label m l) t in
        let k = and_parts (keep m) (is_among m (labels_of w.program))
        (sym (among-filter keep (labels_of w.program) m) ∙ a) in
        subst (λ x. IsTrue (keep x && has_name x)) (same_label-true m l s)
        (and_from (keep m) (has_name m) k.0 h)

    is_kept : IsTrue (keep l && has_name l) → IsTrue (list_any (is_it l) kept)
    is_kept e =
        let (k, h) = and_parts (keep l) (has_name l) e in
        let p : IsAmong l (labels_of w.program) =
        elim (cases_Bool (is_among l (labels_of w.program))) [
          | inl p ↦ p
          | inr n ↦ absurd (false≢true (sym (may_have_outside w l keys n) ∙ h))
        ] in
        some_among (is_it l) kept l (among-filter keep (labels_of w.program) l
        ∙ and_from (keep l) (is_among l (labels_of w.program)) k p)
        (and_from (has_name l) (same_label l l) h (same_label-self l))

    kept_objects : list_any (is_it l) kept ≡ (keep l && has_name l)
    kept_objects = both_ways (list_any (is_it l) kept) (keep l && has_name l) has_kept is_kept

module _ (w : View) (start : Labels) (keys : List Key) (met : Meeting)
    (met_is : met ≡ met_from (scope_met w keys) (labels_of w.program) start) where
  abbrev labels : List Label
  labels = labels_of w.program

  abbrev walk : Labels
  walk = scope_walk w start keys

  objects_are : met.property.value
      ≡ of_labels (λ l. scope_walk w start keys l && may_have w (get w (one_label l) keys))
  objects_are =
      ap (λ (m : Meeting). m.property.value) met_is
      ∙ objects_over w keys (filter walk labels)
      ∙ ap of_labels (λ i l. kept_objects w keys walk l i)

  end_is : met.may_end ≡ some_label w (λ l. scope_walk w start keys l
      && (may_lack (get w (one_label l) keys) && (slot w l outer).flags.absent))
  end_is =
      ap (λ (m : Meeting). m.may_end) met_is
      ∙ test_over-filter (scope_met w keys) walk (λ (m : Meeting). m.may_end) (refl, λ a b. refl)
      labels

  pub found_is : join (if met.may_end then null_value else no_value) met.property.value
      ≡ found w start keys
  found_is =
      ap (λ (b : Bool). join (if b then null_value else no_value) met.property.value) end_is
      ∙ ap (join _) objects_are

  pub found_demands : met.demands ≡ demands_of_found w start keys
  found_demands =
      ap (λ (m : Meeting). m.demands) met_is
      ∙ (λ i l k. test_over-filter (scope_met w keys) walk (λ (m : Meeting). m.demands l k)
      (refl, λ a b. refl) labels i)
