-- Places in order, and what is told of them by tests.
use Rattle.std.proofs.Common.{◌≡◌, ◌<◌, ◌≤◌, ◌⊎◌, inl, inr, Bool, true, false, ◌&&◌, ◌==◌, nat_lt, Option, Some, None, refl, sym, arith}
use Rattle.std.proofs.lemmas.Bool.{and_cases, and_from, and_parts, both_ways, cases_lt, eq-eqb, eqb-false, eqb-true, false_from_ne_true, ltb-false, ltb-true, or_cases, or_parts}
use Rattle.std.specs.Option.{option_map_or}
use Rattle.ja_base.specs.declared.ids.Place.{Place}
use Rattle.ja_files.specs.declared.file.Spot.{Spot}
use Rattle.ja_files.specs.Order.{IsSpotUpTo, IsUpTo}
use Rattle.ja_show.specs.Page.{Precedes, same_place, same_spot}
use Rattle.ja_show.specs.code.Walk.{is_before, is_passed, is_spot_before}

-- ---- two places

abbrev IsBehind : Place → Place → Type 0
IsBehind at a = (a.line < at.line) ⊎ ((a.line ≡ at.line) × (a.column < at.column))

behind_by_test : (at a : Place) → is_before at a ≡ true → IsBehind at a
behind_by_test at a h =
    elim (or_cases (nat_lt a.line at.line) ((a.line == at.line) && nat_lt a.column at.column) h) [
      | inl less ↦ inl (ltb-true a.line at.line less)
      | inr same ↦
          let p : ((a.line == at.line) ≡ true) × (nat_lt a.column at.column ≡ true) =
          and_parts (a.line == at.line) (nat_lt a.column at.column) same in
          inr (eqb-true a.line at.line p.0, ltb-true a.column at.column p.1)
    ]

up_to_by_test : (at a : Place) → is_before at a ≡ false → IsUpTo at a
up_to_by_test at a h =
    let p : (nat_lt a.line at.line ≡ false)
    × (((a.line == at.line) && nat_lt a.column at.column) ≡ false) =
    or_parts (nat_lt a.line at.line) ((a.line == at.line) && nat_lt a.column at.column) h in
    let low : at.line ≤ a.line = ltb-false a.line at.line p.0 in
    elim (cases_lt at.line a.line) [
      | inl less ↦ inl less
      | inr more ↦
          let same : a.line ≡ at.line = omega arith in
          elim (and_cases (a.line == at.line) (nat_lt a.column at.column) p.1) [
            | inl other ↦ absurd (eqb-false a.line at.line other same)
            | inr later ↦ inr (sym same, ltb-false a.column at.column later)
          ]
    ]

not_both : (at a : Place) → IsUpTo at a → IsBehind at a → ⊥
not_both at a (inl up) (inl behind) = omega arith
not_both at a (inl up) (inr behind) = omega arith
not_both at a (inr up) (inl behind) = omega arith
not_both at a (inr up) (inr behind) = omega arith

test_by_up_to : (at a : Place) → IsUpTo at a → is_before at a ≡ false
test_by_up_to at a up =
    false_from_ne_true (is_before at a) (λ t. not_both at a up (behind_by_test at a t))

place_up_to_itself : (at : Place) → IsUpTo at at
place_up_to_itself at = inr (refl, omega arith)

place_up_to_more : (a b c : Place) → IsUpTo a b → IsUpTo b c → IsUpTo a c
place_up_to_more a b c (inl first) (inl second) = inl (omega arith)
place_up_to_more a b c (inl first) (inr second) = inl (omega arith)
place_up_to_more a b c (inr first) (inl second) = inl (omega arith)
place_up_to_more a b c (inr first) (inr second) = inr (omega arith, omega arith)

same_parts : (a b : Place) → same_place a b ≡ true → (a.line ≡ b.line) × (a.column ≡ b.column)
same_parts a b h =
    let p : ((a.line == b.line) ≡ true) × ((a.column == b.column) ≡ true) =
    and_parts (a.line == b.line) (a.column == b.column) h in
    (eqb-true a.line b.line p.0, eqb-true a.column b.column p.1)

same_from_parts : (a b : Place) → a.line ≡ b.line → a.column ≡ b.column → same_place a b ≡ true
same_from_parts a b line column =
    and_from (a.line == b.line) (a.column == b.column) (eq-eqb a.line b.line line)
    (eq-eqb a.column b.column column)

between : (at a b : Place) → IsUpTo at a → IsUpTo a b
    → (at.line ≡ b.line) × (at.column ≡ b.column) → same_place at a ≡ true
between at a b (inl first) (inl second) same = absurd (omega arith)
between at a b (inl first) (inr second) same = absurd (omega arith)
between at a b (inr first) (inl second) same = absurd (omega arith)
between at a b (inr first) (inr second) same = same_from_parts at a (omega arith) (omega arith)

-- ---- two spots

abbrev IsSpotBehind : Spot → Spot → Type 0
IsSpotBehind at a = (a.file < at.file) ⊎ ((a.file ≡ at.file) × IsBehind at.place a.place)

spot_behind_by_test : (at a : Spot) → is_spot_before at a ≡ true → IsSpotBehind at a
spot_behind_by_test at a h =
    elim (or_cases (nat_lt a.file at.file) ((a.file == at.file) && is_before at.place a.place) h) [
      | inl less ↦ inl (ltb-true a.file at.file less)
      | inr same ↦
          let p : ((a.file == at.file) ≡ true) × (is_before at.place a.place ≡ true) =
          and_parts (a.file == at.file) (is_before at.place a.place) same in
          inr (eqb-true a.file at.file p.0, behind_by_test at.place a.place p.1)
    ]

spot_up_to_by_test : (at a : Spot) → is_spot_before at a ≡ false → IsSpotUpTo at a
spot_up_to_by_test at a h =
    let p : (nat_lt a.file at.file ≡ false)
    × (((a.file == at.file) && is_before at.place a.place) ≡ false) =
    or_parts (nat_lt a.file at.file) ((a.file == at.file) && is_before at.place a.place) h in
    let low : at.file ≤ a.file = ltb-false a.file at.file p.0 in
    elim (cases_lt at.file a.file) [
      | inl less ↦ inl less
      | inr more ↦
          let same : a.file ≡ at.file = omega arith in
          elim (and_cases (a.file == at.file) (is_before at.place a.place) p.1) [
            | inl other ↦ absurd (eqb-false a.file at.file other same)
            | inr later ↦ inr (sym same, up_to_by_test at.place a.place later)
          ]
    ]

not_both_spots : (at a : Spot) → IsSpotUpTo at a → IsSpotBehind at a → ⊥
not_both_spots at a (inl up) (inl behind) = omega arith
not_both_spots at a (inl up) (inr behind) = omega arith
not_both_spots at a (inr up) (inl behind) = omega arith
not_both_spots at a (inr up) (inr behind) = not_both at.place a.place up.1 behind.1

test_by_spot_up_to : (at a : Spot) → IsSpotUpTo at a → is_spot_before at a ≡ false
test_by_spot_up_to at a up =
    false_from_ne_true (is_spot_before at a)
    (λ t. not_both_spots at a up (spot_behind_by_test at a t))

pub up_to_itself : (at : Spot) → IsSpotUpTo at at
up_to_itself at = inr (refl, place_up_to_itself at.place)

pub up_to_more : (a b c : Spot) → IsSpotUpTo a b → IsSpotUpTo b c → IsSpotUpTo a c
up_to_more a b c (inl first) (inl second) = inl (omega arith)
up_to_more a b c (inl first) (inr second) = inl (omega arith)
up_to_more a b c (inr first) (inl second) = inl (omega arith)
up_to_more a b c (inr first) (inr second) =
    inr (omega arith, place_up_to_more a.place b.place c.place first.1 second.1)

abbrev IsSame : Spot → Spot → Type 0
IsSame a b =
    (a.file ≡ b.file) × ((a.place.line ≡ b.place.line) × (a.place.column ≡ b.place.column))

same_spot_parts : (a b : Spot) → same_spot a b ≡ true → IsSame a b
same_spot_parts a b h =
    let p : ((a.file == b.file) ≡ true) × (same_place a.place b.place ≡ true) =
    and_parts (a.file == b.file) (same_place a.place b.place) h in
    (eqb-true a.file b.file p.0, same_parts a.place b.place p.1)

same_up_to : (a b : Spot) → IsSame a b → IsSpotUpTo a b
same_up_to a b same = inr (same.0, inr (same.1.0, omega arith))

between_spots : (at a b : Spot) → IsSpotUpTo at a → IsSpotUpTo a b → IsSame at b
    → same_spot at a ≡ true
between_spots at a b (inl first) (inl second) same = absurd (omega arith)
between_spots at a b (inl first) (inr second) same = absurd (omega arith)
between_spots at a b (inr first) (inl second) same = absurd (omega arith)
between_spots at a b (inr first) (inr second) same =
    and_from (at.file == a.file) (same_place at.place a.place)
    (eq-eqb at.file a.file first.0)
    (between at.place a.place b.place first.1 second.1 same.1)

-- ---- spots of things

-- something stands at a spot
abbrev pub is_at : Spot → Option Spot → Bool
is_at at o = option_map_or (same_spot at) o false

-- what is before a spot stands at none from there on
pub passed_apart : (at p : Spot) (o : Option Spot) → IsSpotUpTo at p → is_passed at o ≡ true
    → is_at p o ≡ false
passed_apart at p None up passed = refl
passed_apart at p (Some a) up passed =
    false_from_ne_true (same_spot p a) (λ t.
    not_both_spots at a (up_to_more at p a up (same_up_to p a (same_spot_parts p a t)))
    (spot_behind_by_test at a passed))

pub later_not_passed : (at : Spot) (o p : Option Spot) → Precedes o p → is_passed at o ≡ false
    → is_passed at p ≡ false
later_not_passed at (Some a) (Some b) order passed =
    test_by_spot_up_to at b (up_to_more at a b (spot_up_to_by_test at a passed) order)
later_not_passed at None (Some b) order passed = absurd order
later_not_passed at o None order passed = refl

-- what isn't before a spot, and doesn't stand there, is before nothing that stands there
pub later_apart : (at : Spot) (o p : Option Spot) → Precedes o p → is_passed at o ≡ false
    → is_at at o ≡ false → is_at at p ≡ false
later_apart at (Some a) (Some b) order passed apart =
    false_from_ne_true (same_spot at b) (λ t.
    both_ways (same_spot at a) apart (between_spots at a b (spot_up_to_by_test at a passed) order
    (same_spot_parts at b t)))
later_apart at None (Some b) order passed apart = absurd order
later_apart at o None order passed apart = refl
