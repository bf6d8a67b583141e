-- The labels whose objects a value is put at: all but those of arrays.
use Rattle.std.proofs.Common.{◌≡◌, ◌+◌, ◌<◌, ℕ, Bool, true, false, not, ◌&&◌, ◌||◌, List, [], length, take, get_or, Option, Some, None, refl, sym, ap, ◌∙◌}
use Rattle.std.specs.Prelude.{IsTrue, slice_get, if◌then◌else◌}
use Rattle.std.proofs.Math.Bool.{and-true, or-false}
use Rattle.std.specs.Cmp.{both_ways}
use Rattle.std.specs.List.{filter, list_any}
use Rattle.std.specs.Option.{option_map_or}
use Rattle.std.proofs.lemmas.Bool.{and_parts, and_from, false≢true}
use Rattle.std.proofs.lemmas.List.Folds.{list_any_more}
use Rattle.std.proofs.lemmas.Option.{slice_get_within}
use Rattle.ja_base.specs.declared.ids.Label.{Label}
use Rattle.ja_graph.specs.declared.program.Class.TheVariants as class
use Rattle.ja_graph.specs.declared.program.Program.{Program}
use Rattle.ja_graph.specs.declared.program.SiteInfo.{SiteInfo}
use Rattle.ja_machine.specs.Writes.{is_array}
use Rattle.ja_abstract.specs.AbstractValue.{Labels, same_label}
use Rattle.ja_abstract.specs.AbstractState.{labels_of}
use Rattle.ja_abstract.specs.Writes.{is_array_label}
use Rattle.ja_abstract.proofs.Labels.{same_label-true, same_label-self, some_among, among_some, labels_of-has}
use Rattle.ja_astate.proofs.Walking.{is_among, among-filter}
use Rattle.ja_rows.specs.Names.{without_arrays}

module _ (p : Program) where
  -- an array of a list is of this label
  abbrev pub array_in : List Label → Label → Bool
  array_in ls m = list_any (λ (l : Label). is_array_label p l && same_label l m) ls

  -- none is dropped yet
  pub none_dropped : (set : Labels) → set ≡ (λ m. set m && not (array_in [] m))
  none_dropped set = λ n m. sym (and-true (set m)) n

  -- a label more, that is dropped where it is an array's
  kept_more : (array : Bool) (now : Labels) (l m : Label) (s seen : Bool) → now m ≡ (s && not seen)
      → (if array then (λ x. now x && not (same_label l x)) else now) m
      ≡ (s && not (seen || (array && same_label l m)))
  kept_more true now l m s seen is =
      ap (λ b. b && not (same_label l m)) is ∙ dropped s seen (same_label l m)
    where
      dropped : (s seen same : Bool) → ((s && not seen) && not same) ≡ (s && not (seen || same))
      dropped false seen same = refl
      dropped true true same = refl
      dropped true false same = refl
  kept_more false now l m s seen is = is ∙ ap (λ b. s && not b) (sym (or-false seen))

  pub dropped_more : (set now after : Labels) (ls : List Label) (i : ℕ) (d : Label) (array : Bool)
      → i < length ls → array ≡ is_array_label p (get_or ls i d)
      → now ≡ (λ m. set m && not (array_in (take i ls) m))
      → after ≡ (if array then (λ m. now m && not (same_label (get_or ls i d) m)) else now)
      → after ≡ (λ m. set m && not (array_in (take (i + 1) ls) m))
  dropped_more set now after ls i d array within array_is now_is after_is =
      let l = get_or ls i d in
      after_is
      ∙ (λ n m. (kept_more array now l m (set m) (array_in (take i ls) m) (λ k. now_is k m)
      ∙ ap (λ b. set m && not (array_in (take i ls) m || (b && same_label l m))) array_is
      ∙ ap (λ b. set m && not b)
      (sym (list_any_more (λ (x : Label). is_array_label p x && same_label x m) ls i d within))) n)

  -- an array's label is one of the program
  array_within : (l : Label) → IsTrue (is_array_label p l) → l.site.0 < length p.sites
  array_within l e = by (slice_get p.sites l.site.0) refl e
    where
      by : (o : Option SiteInfo) → slice_get p.sites l.site.0 ≡ o
          → IsTrue (is_array (option_map_or (λ (i : SiteInfo). i.class) o class.Object))
          → l.site.0 < length p.sites
      by None at array = absurd (false≢true array)
      by (Some info) at array = slice_get_within p.sites l.site.0 info at

  arrays_are : (set : Labels) (m : Label) → IsTrue (set m)
      → array_in (filter set (labels_of p)) m ≡ is_array_label p m
  arrays_are set m here =
      let ls = filter set (labels_of p) in
      let test : Labels = λ l. is_array_label p l && same_label l m in
      both_ways (list_any test ls) (is_array_label p m)
      (λ e. let (l, a, t) = among_some test ls e in
      let (array, same) = and_parts (is_array_label p l) (same_label l m) t in
      sym (ap (is_array_label p) (same_label-true l m same)) ∙ array)
      (λ e. some_among test ls m
      (among-filter set (labels_of p) m ∙ and_from (set m) (is_among m (labels_of p)) here
      (labels_of-has p m (array_within m e)))
      (and_from (is_array_label p m) (same_label m m) e (same_label-self m)))

  without_by : (s a b : Bool) → (s ≡ true → a ≡ b) → (s && not a) ≡ (s && not b)
  without_by false a b same = refl
  without_by true a b same = ap not (same refl)

  -- what is left
  pub none_left : (set : Labels) (ls : List Label) → ls ≡ filter set (labels_of p)
      → (λ m. set m && not (array_in ls m)) ≡ without_arrays p set
  none_left set ls are =
      ap {B = Labels} (λ (xs : List Label) (m : Label). set m && not (array_in xs m)) are
      ∙ (λ n m. without_by (set m) (array_in (filter set (labels_of p)) m) (is_array_label p m)
      (arrays_are set m) n)
