-- What is met at lists of labels: of both of two lists, and of lists with the same labels.
use Rattle.std.specs.Prelude.{◌≡◌, Bool, false, ◌||◌, IsTrue, List, [], ◌∷◌, ◌++◌}
use Rattle.std.specs.List.{list_any}
use Rattle.std.specs.Cmp.{both_ways}
use Rattle.std.proofs.Common.{ℕ, ◌<◌, ◌+◌, length, take, get_or, refl, sym, subst, ap, ◌∙◌, inl, inr}
use Rattle.std.proofs.Math.Bool.{or_assoc, or-false}
use Rattle.std.proofs.lemmas.List.{take_more}
use Rattle.std.proofs.lemmas.Bool.{or_left, or_right, or_cases, false≢true}
use Rattle.ja_base.specs.declared.ids.Label.{Label}
use Rattle.ja_abstract.specs.AbstractValue.{AbstractProperty, same_label, join_properties}
use Rattle.ja_abstract.specs.Order.{LeqProperty}
use Rattle.ja_abstract.proofs.Labels.{IsAmong, same_label-true, same_label-self, some_among, among_some}
use Rattle.ja_abstract.proofs.Least.{property-join_right, property_least, no_property-least, properties_grouped, with_nothing}
use Rattle.ja_abstract.proofs.Order.{property-join, property_both, property_equal}
use Rattle.ja_astate.specs.code.Walks.{Meeting, nothing, join_meetings, met_over}

-- meetings are equal whose parts are
pub same_meeting : (a b : Meeting) → a.labels ≡ b.labels → a.property ≡ b.property
    → a.may_end ≡ b.may_end → a.demands ≡ b.demands → a ≡ b
same_meeting a b l p e d =
    λ i. record { labels = l i; property = p i; may_end = e i; demands = d i }

-- ---- both of two lists

pub meetings_grouped : (a b c : Meeting)
    → join_meetings (join_meetings a b) c ≡ join_meetings a (join_meetings b c)
meetings_grouped a b c =
    same_meeting (join_meetings (join_meetings a b) c) (join_meetings a (join_meetings b c))
    (λ i l. or_assoc (a.labels l) (b.labels l) (c.labels l) i)
    (properties_grouped a.property b.property c.property)
    (or_assoc a.may_end b.may_end c.may_end)
    (λ i l k. or_assoc (a.demands l k) (b.demands l k) (c.demands l k) i)

pub met_over-append : (meets : Label → Meeting) (xs ys : List Label)
    → met_over meets (xs ++ ys) ≡ join_meetings (met_over meets xs) (met_over meets ys)
met_over-append meets [] ys = refl
met_over-append meets (x ∷ xs) ys =
    ap (join_meetings (meets x)) (met_over-append meets xs ys)
    ∙ sym (meetings_grouped (meets x) (met_over meets xs) (met_over meets ys))

-- .. with one more
join_nothing : (m : Meeting) → join_meetings m nothing ≡ m
join_nothing m =
    same_meeting (join_meetings m nothing) m (λ i l. or-false (m.labels l) i)
    (with_nothing m.property) (or-false m.may_end) (λ i l k. or-false (m.demands l k) i)

pub met_over_more : (meets : Label → Meeting) (ls : List Label) (i : ℕ) (d : Label)
    → i < length ls → met_over meets (take (i + 1) ls)
    ≡ join_meetings (met_over meets (take i ls)) (meets (get_or ls i d))
met_over_more meets ls i d within =
    ap (met_over meets) (take_more ls i d within)
    ∙ met_over-append meets (take i ls) (get_or ls i d ∷ [])
    ∙ ap (join_meetings (met_over meets (take i ls))) (join_nothing (meets (get_or ls i d)))

-- ---- lists with the same labels

-- each label of the first list is one of the second
abbrev pub AreAmong : List Label → List Label → Type 0
AreAmong xs ys = (l : Label) → IsAmong l xs → IsAmong l ys

-- a test of a meeting that some part of it passes
abbrev pub IsOfParts : (Meeting → Bool) → Type 0
IsOfParts test =
    (test nothing ≡ false)
    × ((a b : Meeting) → test (join_meetings a b) ≡ (test a || test b))

module _ (meets : Label → Meeting) where
  -- the whole passes where one label does
  pub test_over : (test : Meeting → Bool) → IsOfParts test → (xs : List Label)
      → test (met_over meets xs) ≡ list_any (λ (l : Label). test (meets l)) xs
  test_over test parts [] = parts.0
  test_over test parts (x ∷ xs) =
      parts.1 (meets x) (met_over meets xs)
      ∙ ap (λ (b : Bool). test (meets x) || b) (test_over test parts xs)

  test_more : (test : Meeting → Bool) → IsOfParts test → (xs ys : List Label) → AreAmong xs ys
      → IsTrue (test (met_over meets xs)) → IsTrue (test (met_over meets ys))
  test_more test parts xs ys more e =
      let (l, a, t) = among_some (λ (m : Label). test (meets m)) xs
      (sym (test_over test parts xs) ∙ e) in
      test_over test parts ys ∙ some_among (λ (m : Label). test (meets m)) ys l (more l a) t

  test_same : (test : Meeting → Bool) → IsOfParts test → (xs ys : List Label) → AreAmong xs ys
      → AreAmong ys xs → test (met_over meets xs) ≡ test (met_over meets ys)
  test_same test parts xs ys there back =
      both_ways (test (met_over meets xs)) (test (met_over meets ys))
      (test_more test parts xs ys there) (test_more test parts ys xs back)

  -- what is found at one label is found at all, and nothing else is
  found_at_one : (xs : List Label) (l : Label) → IsAmong l xs
      → LeqProperty (meets l).property (met_over meets xs).property
  found_at_one [] l a = absurd (false≢true a)
  found_at_one (x ∷ xs) l a =
      let one = (meets x).property in
      let rest = (met_over meets xs).property in
      elim (or_cases (same_label l x) (list_any (same_label l) xs) a) [
        | inl s ↦ subst (λ m. LeqProperty (meets m).property (join_properties one rest))
            (sym (same_label-true l x s)) (property-join one rest)
        | inr r ↦ property_both (meets l).property rest (join_properties one rest)
            (found_at_one xs l r) (property-join_right one rest)
      ]

  found_least : (xs : List Label) (q : AbstractProperty)
      → ((l : Label) → IsAmong l xs → LeqProperty (meets l).property q)
      → LeqProperty (met_over meets xs).property q
  found_least [] q each = no_property-least q
  found_least (x ∷ xs) q each =
      property_least (meets x).property (met_over meets xs).property q
      (each x (or_left (same_label x x) (list_any (same_label x) xs) (same_label-self x)))
      (found_least xs q (λ l a. each l (or_right (same_label l x) (list_any (same_label l) xs) a)))

  found_more : (xs ys : List Label) → AreAmong xs ys
      → LeqProperty (met_over meets xs).property (met_over meets ys).property
  found_more xs ys more =
      found_least xs (met_over meets ys).property (λ l a. found_at_one ys l (more l a))

  pub met_over-same : (xs ys : List Label) → AreAmong xs ys → AreAmong ys xs
      → met_over meets xs ≡ met_over meets ys
  met_over-same xs ys there back =
      same_meeting (met_over meets xs) (met_over meets ys)
      (λ i l. test_same (λ (m : Meeting). m.labels l) (refl, λ a b. refl) xs ys there back i)
      (property_equal (met_over meets xs).property (met_over meets ys).property
      (found_more xs ys there) (found_more ys xs back))
      (test_same (λ (m : Meeting). m.may_end) (refl, λ a b. refl) xs ys there back)
      (λ i l k. test_same (λ (m : Meeting). m.demands l k) (refl, λ a b. refl) xs ys there back i)
