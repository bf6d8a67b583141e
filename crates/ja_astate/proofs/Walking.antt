-- A walk by rounds, each of which asks the labels that the round before it reached first: those
-- that were asked and those that are asked next are all that is reached.
use Rattle.std.specs.Prelude.{◌≡◌, ◌≤◌, ◌<◌, ◌+◌, ◌-◌, ◌==◌, ℕ, zero, suc, Bool, true, false, not, ◌&&◌, ◌||◌, IsTrue, List, [], ◌∷◌, ◌++◌, filter, length}
use Rattle.std.specs.List.{list_any}
use Rattle.std.specs.Cmp.{both_ways}
use Rattle.std.proofs.Common.{refl, sym, subst, ap, ◌∙◌, inl, inr, arith}
use Rattle.std.proofs.lemmas.Bool.{or_left, or_right, or_cases, and_parts, and_from, false≢true, cases_Bool, eqb-true, eqb-false}
use Rattle.std.proofs.lemmas.List.Folds.{list_any-append}
use Rattle.std.proofs.lemmas.Map.Views.{any-filter_same}
use Rattle.std.proofs.Math.Bool.{or-false}
use Rattle.ja_base.proofs.Lists.{empty_by_length}
use Rattle.ja_base.specs.declared.ids.Label.{Label}
use Rattle.ja_abstract.specs.AbstractValue.{Labels, same_label}
use Rattle.ja_abstract.specs.Resolved.{one_more, rounds, reached}
use Rattle.ja_abstract.proofs.Labels.{IsAmong, same_label-true, same_label-self, some_among, among_some}
use Rattle.ja_abstract.proofs.Rounds.{among, among-le, grows_or_stays}
use Rattle.ja_astate.specs.code.Walks.{Meeting, nothing, join_meetings, met_over, met_from}
use Rattle.ja_astate.proofs.Meetings.{same_meeting, meetings_grouped, met_over-append, met_over-same, test_over}

abbrev pub is_among : Label → List Label → Bool
is_among l ls = list_any (same_label l) ls

-- what is kept of a list
pub among-filter : (keep : Labels) (ls : List Label) (l : Label)
    → is_among l (filter keep ls) ≡ (keep l && is_among l ls)
among-filter keep ls l =
    any-filter_same (same_label l) keep (keep l)
    (λ m e. ap keep (sym (same_label-true l m e))) ls

-- ---- lists by the test of their length

first_member : (xs : List Label) (n : ℕ) → n ≡ length xs → (n == 0) ≡ false
    → (m : Label) × IsAmong m xs
first_member [] n long some = absurd (eqb-false n 0 some long)
first_member (x ∷ xs) n long some =
    (x, or_left (same_label x x) (list_any (same_label x) xs) (same_label-self x))

pub no_member : (xs : List Label) (n : ℕ) → n ≡ length xs → (n == 0) ≡ true → xs ≡ []
no_member xs n long none = empty_by_length xs (sym long ∙ eqb-true n 0 none)

-- ---- rounds that have settled

-- where a round adds nothing, no later one does
settled : (next : Label → Labels) (labels : List Label) (start : Labels) (i d n : ℕ) → n ≡ d + i
    → one_more next labels (rounds next labels start i) ≡ rounds next labels start i
    → rounds next labels start n ≡ rounds next labels start i
settled next labels start i zero n sum e =
    let same : n ≡ i = omega arith in ap (rounds next labels start) same
settled next labels start i (suc d) n sum e =
    let one : n ≡ suc (d + i) = omega arith in
    ap (rounds next labels start) one
    ∙ ap (one_more next labels) (settled next labels start i d (d + i) refl e) ∙ e

settled_at : (next : Label → Labels) (labels : List Label) (start now : Labels) (i : ℕ)
    → i ≤ length labels → now ≡ rounds next labels start i → one_more next labels now ≡ now
    → reached next labels start ≡ now
settled_at next labels start now i within e same =
    let d = length labels - i in
    let sum : length labels ≡ d + i = omega arith in
    settled next labels start i d (length labels) sum
    (ap (one_more next labels) (sym e) ∙ same ∙ e) ∙ sym e

-- ---- the invariant

-- before any label is asked
abbrev pub begun : Labels → Meeting
begun start = record nothing { labels = start }

-- a label that is still to be asked, or isn't reached
abbrev pub is_open : Labels → List Label → Labels
is_open set members l = is_among l members || not (set l)

-- how many labels are
abbrev pub open_count : Labels → List Label → List Label → ℕ
open_count set members labels = among (is_open set members) labels

-- the labels of a list are asked, and the members are asked next
pub record Walking (meets : Label → Meeting) (labels : List Label) (start : Labels)
    (met : Meeting) (members : List Label) : Type 0 where
  pub asked : List Label
  pub met_is : met ≡ join_meetings (begun start) (met_over meets asked)
  pub known : (l : Label) → (is_among l asked || is_among l members)
      ≡ (met.labels l && is_among l labels)
  pub count : ℕ
  pub labels_are : met.labels ≡ rounds (λ l. (meets l).labels) labels start count
  pub few : count + open_count met.labels members labels ≤ length labels

-- a round goes on with the walk, and leaves fewer labels open
pub record Round (meets : Label → Meeting) (labels : List Label) (start : Labels)
    (met : Meeting) (members : List Label) (met' : Meeting) (members' : List Label) : Type 0 where
  pub walking : Walking meets labels start met' members'
  pub fewer : open_count met'.labels members' labels < open_count met.labels members labels

module _ (meets : Label → Meeting) (labels : List Label) (start : Labels) where
  -- where a label leads, all do
  leads : (xs : List Label) (l : Label)
      → (met_over meets xs).labels l ≡ list_any (λ (m : Label). (meets m).labels l) xs
  leads xs l = test_over meets (λ (m : Meeting). m.labels l) (refl, λ a b. refl) xs

  begins : Walking meets labels start (begun start) (filter start labels)
  begins = record {
    asked = [];
    met_is =
        same_meeting (begun start) (join_meetings (begun start) nothing)
        (λ i l. sym (or-false (start l)) i) refl refl refl;
    known = among-filter start labels;
    count = 0;
    labels_are = refl;
    few = omega (arith, among-le (is_open start (filter start labels)) labels);
  }

  pub walking_begun : (met : Meeting) (members : List Label) → met ≡ begun start
      → members ≡ filter start labels → Walking meets labels start met members
  walking_begun met members met_is members_are =
      subst (λ m. Walking meets labels start m members) (sym met_is)
      (subst (λ ms. Walking meets labels start (begun start) ms) (sym members_are) begins)

  module _ (met : Meeting) (members : List Label) (w : Walking meets labels start met members) where
    -- what is asked, or asked next, is a label that is reached
    known_parts : (l : Label) → IsTrue (is_among l w.asked || is_among l members)
        → IsTrue (met.labels l) × IsTrue (is_among l labels)
    known_parts l e = and_parts (met.labels l) (is_among l labels) (sym (w.known l) ∙ e)

    member_parts : (l : Label) → IsAmong l members
        → IsTrue (met.labels l) × IsTrue (is_among l labels)
    member_parts l a = known_parts l (or_right (is_among l w.asked) (is_among l members) a)

    -- where a label that was asked leads is reached
    asked_leads : (m l : Label) → IsAmong m w.asked → IsTrue ((meets m).labels l)
        → IsTrue (met.labels l)
    asked_leads m l a n =
        ap (λ (x : Meeting). x.labels l) w.met_is
        ∙ or_right (start l) ((met_over meets w.asked).labels l)
        (leads w.asked l ∙ some_among (λ (x : Label). (meets x).labels l) w.asked m a n)

    -- what a round adds
    abbrev added : Labels
    added = (met_over meets members).labels

    round_adds : (l : Label) → IsTrue (added l)
        → IsTrue (one_more (λ m. (meets m).labels) labels met.labels l)
    round_adds l e =
        let (m, a, n) = among_some (λ (x : Label). (meets x).labels l) members
        (sym (leads members l) ∙ e) in
        let (s, p) = member_parts m a in
        or_right (met.labels l)
        (list_any (λ (x : Label). met.labels x && (meets x).labels l) labels)
        (some_among (λ (x : Label). met.labels x && (meets x).labels l) labels m p
        (and_from (met.labels m) ((meets m).labels l) s n))

    round_has : (l : Label) → IsTrue (one_more (λ m. (meets m).labels) labels met.labels l)
        → IsTrue (met.labels l || added l)
    round_has l e =
        elim (or_cases (met.labels l)
        (list_any (λ (x : Label). met.labels x && (meets x).labels l) labels) e) [
          | inl s ↦ or_left (met.labels l) (added l) s
          | inr r ↦
              let (m, a, t) = among_some (λ (x : Label). met.labels x && (meets x).labels l) labels
              r in
              let (s, n) = and_parts (met.labels m) ((meets m).labels l) t in
              elim (or_cases (is_among m w.asked) (is_among m members)
              (w.known m ∙ and_from (met.labels m) (is_among m labels) s a)) [
                | inl b ↦ or_left (met.labels l) (added l) (asked_leads m l b n)
                | inr b ↦ or_right (met.labels l) (added l) (leads members l
                    ∙ some_among (λ (x : Label). (meets x).labels l) members m b n)
              ]
        ]

    -- a round of the members is a round of all
    round_is : (l : Label) → (met.labels l || added l)
        ≡ one_more (λ m. (meets m).labels) labels met.labels l
    round_is l =
        both_ways (met.labels l || added l) (one_more (λ m. (meets m).labels) labels met.labels l)
        (λ e. elim (or_cases (met.labels l) (added l) e) [
          | inl s ↦ or_left (met.labels l)
              (list_any (λ (x : Label). met.labels x && (meets x).labels l) labels) s
          | inr n ↦ round_adds l n
        ])
        (round_has l)

    module _ (met' : Meeting) (members' : List Label)
        (met_is : met' ≡ join_meetings met (met_over meets members))
        (members_are : members' ≡ filter (λ l. not (met.labels l))
        (filter (met_over meets members).labels labels)) where
      labels_after : (l : Label) → met'.labels l ≡ (met.labels l || added l)
      labels_after l = ap (λ (x : Meeting). x.labels l) met_is

      new_member : (l : Label) → is_among l members'
          ≡ (not (met.labels l) && (added l && is_among l labels))
      new_member l =
          ap (is_among l) members_are
          ∙ among-filter (λ x. not (met.labels x)) (filter (met_over meets members).labels labels) l
          ∙ ap (λ (b : Bool). not (met.labels l) && b)
          (among-filter (met_over meets members).labels labels l)

      -- a label that is open after the round was open before
      open_less : (l : Label) → IsTrue (is_open met'.labels members' l)
          → IsTrue (is_open met.labels members l)
      open_less l e =
          or_right (is_among l members) (not (met.labels l))
          (elim (or_cases (is_among l members') (not (met'.labels l)) e) [
            | inl a ↦ (and_parts (not (met.labels l)) (added l && is_among l labels)
                (sym (new_member l) ∙ a)).0
            | inr n ↦ elim (cases_Bool (met.labels l)) [
              | inl s ↦ absurd (false≢true (sym (ap not (labels_after l
                  ∙ or_left (met.labels l) (added l) s)) ∙ n))
              | inr s ↦ ap not s
            ]
          ])

      -- a member that was asked is no more
      closed_member : (m : Label) → IsAmong m members
          → IsTrue (is_open met'.labels members' m) → ⊥
      closed_member m a e =
          let s = (member_parts m a).0 in
          elim (or_cases (is_among m members') (not (met'.labels m)) e) [
            | inl b ↦ false≢true (sym (ap not s) ∙ (and_parts (not (met.labels m))
                (added m && is_among m labels) (sym (new_member m) ∙ b)).0)
            | inr n ↦ false≢true (sym (ap not (labels_after m
                ∙ or_left (met.labels m) (added m) s)) ∙ n)
          ]

      fewer_open : (m : Label) → IsAmong m members
          → open_count met'.labels members' labels < open_count met.labels members labels
      fewer_open m a =
          elim (grows_or_stays (is_open met'.labels members') (is_open met.labels members) open_less
          labels) [
            | inl less ↦ less
            | inr same ↦ absurd (closed_member m a (same m (member_parts m a).1
                (or_left (is_among m members) (not (met.labels m)) a)))
          ]

      known_after : (l : Label) → (is_among l (w.asked ++ members) || is_among l members')
          ≡ (met'.labels l && is_among l labels)
      known_after l =
          ap (λ (b : Bool). b || is_among l members')
          (list_any-append (same_label l) w.asked members ∙ w.known l)
          ∙ ap (λ (b : Bool). (met.labels l && is_among l labels) || b) (new_member l)
          ∙ regrouped (met.labels l) (added l) (is_among l labels)
          ∙ ap (λ (b : Bool). b && is_among l labels) (sym (labels_after l))
        where
          regrouped : (s n a : Bool) → ((s && a) || (not s && (n && a))) ≡ ((s || n) && a)
          regrouped true n true = refl
          regrouped true n false = refl
          regrouped false n a = refl

      walking_more : (m : Label) → IsAmong m members → Walking meets labels start met' members'
      walking_more m a = record {
        asked = w.asked ++ members;
        met_is =
            met_is ∙ ap (λ (x : Meeting). join_meetings x (met_over meets members)) w.met_is
            ∙ meetings_grouped (begun start) (met_over meets w.asked) (met_over meets members)
            ∙ ap (join_meetings (begun start)) (sym (met_over-append meets w.asked members));
        known = known_after;
        count = suc w.count;
        labels_are =
            (λ i l. (labels_after l ∙ round_is l) i)
            ∙ ap (one_more (λ l. (meets l).labels) labels) w.labels_are;
        few = omega (arith, w.few, fewer_open m a);
      }

      -- there is a member, so that the round asked a label more
      pub round_done : (n : ℕ) → n ≡ length members → (n == 0) ≡ false
          → Round meets labels start met members met' members'
      round_done n long some = record {
        walking =
            walking_more (first_member members n long some).0 (first_member members n long some).1;
        fewer =
            fewer_open (first_member members n long some).0 (first_member members n long some).1;
      }

  -- where none is asked next, the walk is whole
  pub walking_done : (met : Meeting) → Walking meets labels start met []
      → met ≡ met_from meets labels start
  walking_done met w =
      let set = reached (λ l. (meets l).labels) labels start in
      let same : one_more (λ l. (meets l).labels) labels met.labels ≡ met.labels =
      λ i l. (sym (round_is met [] w l) ∙ or-false (met.labels l)) i in
      let all : set ≡ met.labels =
      settled_at (λ l. (meets l).labels) labels start met.labels w.count (omega (arith, w.few))
      w.labels_are same in
      let known : (l : Label) → is_among l w.asked ≡ is_among l (filter set labels) =
      λ l. sym (or-false (is_among l w.asked)) ∙ w.known l
      ∙ ap (λ (s : Labels). s l && is_among l labels) (sym all) ∙ sym (among-filter set labels l) in
      let over : met_over meets w.asked ≡ met_over meets (filter set labels) =
      met_over-same meets w.asked (filter set labels) (λ l a. sym (known l) ∙ a)
      (λ l a. known l ∙ a) in
      same_meeting met (met_from meets labels start) (sym all)
      (ap (λ (x : Meeting). x.property) (w.met_is ∙ ap (join_meetings (begun start)) over))
      (ap (λ (x : Meeting). x.may_end) (w.met_is ∙ ap (join_meetings (begun start)) over))
      (ap (λ (x : Meeting). x.demands) (w.met_is ∙ ap (join_meetings (begun start)) over))
