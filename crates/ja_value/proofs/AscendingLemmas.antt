-- Lists of numbers in ascending order: what a search, an insertion and a removal come to.
use Rattle.std.proofs.Common.{◌≡◌, ◌≢◌, ℕ, ◌+◌, ◌-◌, ◌<◌, ◌≤◌, true, false, not, ◌||◌, ◌&&◌, List, [], ◌∷◌, refl, sym, ap, subst, ◌∙◌, arith, length, get_or, ⊎_elim}
use Rattle.std.specs.Prelude.{◌==◌, nat_lt, Result, is_ok, Option, None, Some}
use Rattle.std.specs.declared.result.Result.TheVariants.{Ok, Err}
use Rattle.std.specs.List.{insert, filter}
use Rattle.std.specs.List.Sorted.{IsStrictlySortedBy, IsBinarySearchResult}
use Rattle.std.specs.Ordering.{nat_cmp}
use Rattle.std.specs.Option.{option_copied}
use Rattle.std.specs.Slice.{IsItemAt}
use Rattle.std.proofs.lemmas.Bool.{cases_eq, cases_lt, lt-ltb, ltb-true, true≢false}
use denote.Ref.{Bor}
use Rattle.std.proofs.lemmas.Bool.Decides.{eqb_tells, nat_tests}
use Rattle.std.proofs.lemmas.List.{get_or_default}
use Rattle.std.proofs.lemmas.List.Edits.{length-insert, get_or-insert_below, get_or-insert_at, get_or-insert_above}
use Rattle.std.proofs.lemmas.List.Folds.{list_any_at, list_any_none}
use Rattle.std.proofs.lemmas.List.Sorted.{searched, IsPermutation-insert, list_any-IsPermutation}
use Rattle.std.proofs.lemmas.Map.Keys.{below_from_sorted, non_decreasing_from_sorted, sorted_from_strictly_increasing}
use Rattle.std.proofs.lemmas.Map.Views.{any-filter_same}
use Rattle.ja_value.specs.Labels.{has, IsNext}

pub equal : (n k : ℕ) → k ≡ n → (n == k) ≡ true
equal n k e = grind (arith, nat_tests)

pub apart : (n k : ℕ) → n ≢ k → (n == k) ≡ false
apart n k ne = grind (arith, nat_tests)

-- ---- where a number is, or would be

-- a number that isn't in the list would stand at this place
pub record Gap (xs : List ℕ) (x place : ℕ) : Type 0 where
  pub within : place ≤ length xs
  pub below : (k : ℕ) → k < place → get_or xs k 0 < x
  pub above : (k : ℕ) → place ≤ k → k < length xs → x < get_or xs k 0

there_at : (xs : List ℕ) (x place : ℕ) → place < length xs → get_or xs place 0 ≡ x
    → has xs x ≡ true
there_at xs x place lower e =
    list_any_at (λ k. x == k) xs place 0 lower (equal x (get_or xs place 0) e)

-- what a search for a number in a slice of the list finds
pub found : (xs seen : List ℕ) (x place : ℕ) (r : Result ℕ ℕ) → seen ≡ xs
    → IsStrictlySortedBy nat_cmp xs → IsBinarySearchResult (λ y. nat_cmp y x) seen r
    → r ≡ Ok place → has xs x ≡ true
found xs seen x place r same s h e =
    let P : Result ℕ ℕ → Type 0 = IsBinarySearchResult (λ y. nat_cmp y x) xs in
    let at = searched xs x (Ok place) (subst P e (rw same at h))
    (λ i j. non_decreasing_from_sorted xs s i j 0) in
    there_at xs x place at.0 at.1

pub gap : (xs seen : List ℕ) (x place : ℕ) (r : Result ℕ ℕ) → seen ≡ xs
    → IsStrictlySortedBy nat_cmp xs → IsBinarySearchResult (λ y. nat_cmp y x) seen r
    → r ≡ Err place → Gap xs x place
gap xs seen x place r same s h e =
    let P : Result ℕ ℕ → Type 0 = IsBinarySearchResult (λ y. nat_cmp y x) xs in
    let at = searched xs x (Err place) (subst P e (rw same at h))
    (λ i j. non_decreasing_from_sorted xs s i j 0) in
    record { within = at.0; below = at.1; above = at.2 }

differs : (xs : List ℕ) (x place : ℕ) → Gap xs x place → (k : ℕ) → k < length xs
    → x ≢ get_or xs k 0
differs xs x place g k lower =
    ⊎_elim (λ less e. absurd (omega (arith, g.below k less)))
    (λ more e. absurd (omega (arith, g.above k more lower))) (cases_lt k place)

pub missed : (xs : List ℕ) (x place : ℕ) → Gap xs x place → has xs x ≡ false
missed xs x place g =
    list_any_none (λ k. x == k) xs
    (λ k d lower. apart x (get_or xs k d)
    (λ e. differs xs x place g k lower (e ∙ get_or_default xs k d 0 lower)))

pub contained : (xs seen : List ℕ) (x : ℕ) (r : Result ℕ ℕ) → seen ≡ xs
    → IsStrictlySortedBy nat_cmp xs → IsBinarySearchResult (λ y. nat_cmp y x) seen r
    → is_ok r ≡ has xs x
contained xs seen x (Ok place) same s h = sym (found xs seen x place (Ok place) same s h refl)
contained xs seen x (Err place) same s h =
    sym (missed xs x place (gap xs seen x place (Err place) same s h refl))

-- ---- no number

pub sorted-nil : (xs : List ℕ) → xs ≡ [] → IsStrictlySortedBy nat_cmp xs
unfolding IsStrictlySortedBy
sorted-nil xs e = subst (IsStrictlySortedBy nat_cmp) (sym e) tt

-- ---- one number more

-- a number that is there is there once more
pub there_too : (xs : List ℕ) (x : ℕ) → has xs x ≡ true → (q : ℕ)
    → has xs q ≡ ((q == x) || has xs q)
there_too xs x there q =
    ⊎_elim (λ yes. rw yes.0 (ap (has xs) yes.1 ∙ there)) (λ no. rw no.0 refl) (eqb_tells q x)

pub has-insert : (xs : List ℕ) (place x q : ℕ) → has (insert xs place x) q ≡ ((q == x) || has xs q)
has-insert xs place x q =
    sym (list_any-IsPermutation (λ k. q == k) (x ∷ xs) (insert xs place x)
    (IsPermutation-insert xs place x))

-- the number before the new one, the new one, and those beside neither
inserted_rises : (xs : List ℕ) (place x : ℕ) → IsStrictlySortedBy nat_cmp xs → Gap xs x place
    → (k : ℕ) → k + 1 < length (insert xs place x)
    → get_or (insert xs place x) k 0 < get_or (insert xs place x) (k + 1) 0
inserted_rises xs place x s g k more =
    let longer = length-insert xs place x g.within in
    ⊎_elim (λ (lower : k + 1 < place).
    omega (
      arith,
      get_or-insert_below xs place x 0 k (omega arith) g.within,
      get_or-insert_below xs place x 0 (k + 1) lower g.within,
      below_from_sorted xs k (k + 1) 0 s (omega arith) (omega (arith, g.within)),
    ))
    (λ (upper : place ≤ k + 1). ⊎_elim (λ (last : k < place).
    let next : k + 1 ≡ place = omega arith in
    rw next (omega (
      arith,
      get_or-insert_below xs place x 0 k last g.within,
      get_or-insert_at xs place x 0 g.within,
      g.below k last,
    )))
    (λ (after : place ≤ k). ⊎_elim (λ (first : k ≡ place).
    omega (
      arith,
      ap (λ (j : ℕ). get_or (insert xs place x) j 0) first,
      get_or-insert_at xs place x 0 g.within,
      get_or-insert_above xs place x 0 k after g.within,
      g.above k after (omega arith),
    ))
    (λ (other : k ≢ place).
    let before : (k - 1) + 1 ≡ k = omega arith in
    omega (
      arith,
      ap (λ (j : ℕ). get_or (insert xs place x) j 0) before,
      get_or-insert_above xs place x 0 (k - 1) (omega arith) g.within,
      get_or-insert_above xs place x 0 k after g.within,
      below_from_sorted xs (k - 1) k 0 s (omega arith) (omega arith),
    ))
    (cases_eq k place)) (cases_lt k place)) (cases_lt (k + 1) place)

pub sorted-insert : (xs : List ℕ) (place x : ℕ) → IsStrictlySortedBy nat_cmp xs → Gap xs x place
    → IsStrictlySortedBy nat_cmp (insert xs place x)
sorted-insert xs place x s g =
    sorted_from_strictly_increasing (insert xs place x) (inserted_rises xs place x s g)

-- ---- one number less

pub has-filter : (xs : List ℕ) (x q : ℕ)
    → has (filter (λ k. not (k == x)) xs) q ≡ (not (q == x) && has xs q)
has-filter xs x q =
    any-filter_same (λ k. q == k) (λ k. not (k == x)) (not (q == x))
    (λ k e. ap (λ (n : ℕ). not (n == x)) (grind (arith, nat_tests))) xs

-- ---- the number that stands next

-- nothing is there from a number up to the one that stands at its place
pub none_next : (xs : List ℕ) (x place : ℕ) → IsStrictlySortedBy nat_cmp xs → Gap xs x place
    → (q : ℕ) → x ≤ q → (place < length xs → q < get_or xs place 0) → has xs q ≡ false
none_next xs x place s g q from before =
    missed xs q place (record {
      within = g.within;
      below = λ k lower. omega (arith, g.below k lower, from);
      above = λ k more lower. ⊎_elim
          (λ (same : place ≡ k). subst (λ (j : ℕ). q < get_or xs j 0) same
          (before (omega (arith, more, lower))))
          (λ (other : place ≢ k). omega (
            arith,
            before (omega (arith, more, lower)),
            below_from_sorted xs place k 0 s (omega (arith, more, other)) lower,
          ))
          (cases_eq place k);
    })

-- what is read at the place of a number
pub next_at : (xs seen : List ℕ) (x place : ℕ) (read : Option (Bor ℕ)) → seen ≡ xs
    → IsStrictlySortedBy nat_cmp xs → Gap xs x place → IsItemAt seen place read
    → IsNext (has xs) x (option_copied read)
next_at xs seen x place None same s g at = record {
  there = tt;
  before =
      λ q from none. none_next xs x place s g q from
      (λ lower. absurd (true≢false (sym (lt-ltb place (length xs) lower)
      ∙ ap (λ (ys : List ℕ). nat_lt place (length ys)) (sym same) ∙ sym at.0)));
}
next_at xs seen x place (Some r) same s g at =
    let lower : place < length xs = ltb-true place (length xs)
    (ap (λ (ys : List ℕ). nat_lt place (length ys)) (sym same) ∙ sym at.0) in
    let here : r.now ≡ get_or xs place 0 =
    subst (λ (ys : List ℕ). r.now ≡ get_or ys place r.now) same at.1
    ∙ get_or_default xs place r.now 0 lower in
    record {
      there = (
        omega (arith, here, g.above place (omega arith) lower),
        ap (has xs) here ∙ there_at xs (get_or xs place 0) place lower refl,
      );
      before =
          λ q from less. none_next xs x place s g q from (λ lower. omega (arith, less, here));
    }
