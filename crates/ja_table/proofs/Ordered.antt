-- Lists in the order of their keys: the place of a key, an element more, and another one of its key.
use Rattle.std.specs.Prelude.{◌≡◌, ◌<◌, ◌≤◌, ℕ, zero, suc, ◌+◌, Bool, true, false, not, ◌||◌, cond, if◌then◌else◌, List, [], ◌∷◌, length, map, take, drop, set, get_or, Option, Some, None, is_some, slice_get, find, insert, IsTrue}
use Rattle.std.specs.List.{AllByRecursion, AllWithin, list_any}
use Rattle.std.specs.List.Sorted.{IsPartitionedBy, IsPartitionPoint}
use Rattle.std.specs.Option.{IfSome, option_and_then, option_or}
use Rattle.std.proofs.Common.{refl, sym, ◌∙◌, ap, subst, inl, inr, arith}
use Rattle.std.proofs.lemmas.Bool.{cases_Bool, cases_lt, true≢false, false_from_ne_true, not-true, or_parts, cond-true, cond-false}
use Rattle.std.proofs.lemmas.List.{get_or-take, get_or-drop, length-take-le, length-drop, take-append-drop}
use Rattle.std.proofs.lemmas.List.Elements.{recursion_from_All}
use Rattle.std.proofs.lemmas.List.Folds.{find-append}
use Rattle.std.proofs.lemmas.Option.{same_Some, slice_get-get_or, slice_get_past}
use Rattle.ja_base.proofs.Lists.{all_append, all_at, all_weaker, element_within}
use Rattle.ja_base.proofs.Options.{none_not_some}
use Rattle.ja_machine.proofs.Lists.{all_both, all_drop}
use Rattle.ja_table.specs.Order.{AreOrdered}
use Rattle.ja_table.specs.code.Places.{IsPlaceAmong}
use Rattle.ja_table.proofs.KeyOrders.{above_from, above_other, below_other, IsKeyOrder}

-- ---- lists of any kind

-- a test is passed by some element exactly if one is found
pub any_found : {X : Type 0} (test : X → Bool) (xs : List X)
    → list_any test xs ≡ is_some (find test xs)
any_found test [] = refl
any_found test (x ∷ xs) =
    elim (test x) as (λ b. (b || list_any test xs) ≡ is_some (cond b (Some x) (find test xs))) [
      | true ↦ refl
      | false ↦ any_found test xs
    ]

pub none_from_any : {X : Type 0} (test : X → Bool) (xs : List X) → list_any test xs ≡ false
    → find test xs ≡ None
none_from_any test [] h = refl
none_from_any test (x ∷ xs) h =
    let (f, g) = or_parts (test x) (list_any test xs) h in
    cond-false (test x) _ _ f ∙ none_from_any test xs g

pub none_found : {X : Type 0} (test : X → Bool) (xs : List X)
    → AllByRecursion (λ x. test x ≡ false) xs → find test xs ≡ None
none_found test [] h = refl
none_found test (x ∷ xs) h = cond-false (test x) _ _ h.0 ∙ none_found test xs h.1

pub all_fail : {X : Type 0} (test : X → Bool) (xs : List X) → find test xs ≡ None
    → AllByRecursion (λ x. test x ≡ false) xs
all_fail test [] h = tt
all_fail test (x ∷ xs) h =
    elim (cases_Bool (test x)) [
      | inl t ↦ absurd (true≢false (ap is_some (sym (cond-true (test x) (Some x) (find test xs) t)
          ∙ h)))
      | inr f ↦ (f, all_fail test xs (sym (cond-false (test x) (Some x) (find test xs) f) ∙ h))
    ]

all_taken : {X : Type 0} (P : X → Type 0) (n : ℕ) (xs : List X) → AllByRecursion P xs
    → AllByRecursion P (take n xs)
all_taken P zero xs each = tt
all_taken P (suc n) [] each = tt
all_taken P (suc n) (x ∷ xs) each = (each.0, all_taken P n xs each.1)

get_dropped : {X : Type 0} (n : ℕ) (xs : List X) → slice_get xs n ≡ slice_get (drop n xs) 0
get_dropped zero xs = refl
get_dropped (suc n) [] = refl
get_dropped (suc n) (x ∷ xs) = get_dropped n xs

-- ---- the parts of a list that a partition point tells

module _ {X : Type 0} (P : X → Type 0) (xs : List X) (n : ℕ) (within : n ≤ length xs) where
  pub taken_of : AllWithin P xs 0 n → AllByRecursion P (take n xs)
  taken_of each =
      recursion_from_All P (take n xs) (λ k d lt.
      let less : k < n = omega (arith, length-take-le n xs within) in
      subst P (sym (get_or-take n xs k d less)) (each k d (omega arith) less))

  pub dropped_of : AllWithin P xs n (length xs) → AllByRecursion P (drop n xs)
  dropped_of each =
      recursion_from_All P (drop n xs) (λ k d lt.
      subst P (sym (get_or-drop n xs k d)) (each (n + k) d (omega arith)
      (omega (arith, length-drop n xs))))

-- ---- elements in the order of their keys

module _ {X K : Type 0} (key : X → K) {below same : K → K → Bool} (o : IsKeyOrder below same) where
  abbrev InOrder : List X → Type 0
  InOrder xs = AreOrdered key below xs

  abbrev IsAt : K → List X → ℕ → Type 0
  IsAt k xs n = IsPlaceAmong key below k xs n

  abbrev pub has : K → X → Bool
  has k c = same (key c) k

  -- the first element of its key, if it has it
  abbrev pub if_has : K → Option X → Option X
  if_has k None = None
  if_has k (Some c) = if has k c then Some c else None

  -- ---- places

  pub ordered_at : (xs : List X) → InOrder xs → (i j : ℕ) (c d : X) → i < j
      → slice_get xs i ≡ Some c → slice_get xs j ≡ Some d → below (key c) (key d) ≡ true
  ordered_at [] h i j c d lt ci dj = absurd (none_not_some ci)
  ordered_at (b ∷ bs) h i zero c d lt ci dj = absurd (omega arith)
  ordered_at (b ∷ bs) h zero (suc j) c d lt ci dj =
      subst (λ (e : X). below (key e) (key d) ≡ true) (same_Some b c ci)
      (all_at (λ (e : X). IsTrue (below (key b) (key e))) bs j d h.0 dj)
  ordered_at (b ∷ bs) h (suc i) (suc j) c d lt ci dj =
      ordered_at bs h.1 i j c d (omega arith) ci dj

  ordered_within : (xs : List X) → InOrder xs → (i j : ℕ) (d : X) → i < j → j < length xs
      → below (key (get_or xs i d)) (key (get_or xs j d)) ≡ true
  ordered_within xs h i j d lt in_it =
      ordered_at xs h i j _ _ lt (slice_get-get_or xs i d (omega arith))
      (slice_get-get_or xs j d in_it)

  pub parted_below : (k : K) (xs : List X) → InOrder xs
      → IsPartitionedBy (λ c. below (key c) k) xs
  parted_below k xs h i j d le in_it t =
      elim (cases_lt i j) [
        | inl lt ↦ o.behind _ _ k (ordered_within xs h i j d lt in_it) t
        | inr ge ↦
            let same_place : j ≡ i = omega arith in
            subst (λ n. below (key (get_or xs n d)) k ≡ true) same_place t
      ]

  pub parted_above : (k : K) (xs : List X) → InOrder xs
      → IsPartitionedBy (λ c. not (below k (key c))) xs
  parted_above k xs h i j d le in_it t =
      elim (cases_lt i j) [
        | inl lt ↦ ap not (false_from_ne_true _ (λ b. true≢false
            (sym (o.behind k _ _ b (ordered_within xs h i j d lt in_it))
            ∙ not-true (below k (key (get_or xs j d))) t)))
        | inr ge ↦
            let same_place : j ≡ i = omega arith in
            subst (λ n. not (below k (key (get_or xs n d))) ≡ true) same_place t
      ]

  pub place_at : (k : K) (xs : List X) (n : ℕ) → n ≤ length xs
      → IsPartitionPoint (λ (c : X). below (key c) k ≡ true) (λ (c : X). below (key c) k ≡ false)
      xs n → IsAt k xs n
  place_at k xs n within point = record {
    before = taken_of _ xs n within point.0;
    behind = dropped_of _ xs n within point.1;
  }

  pub ordered_dropped : (n : ℕ) (xs : List X) → InOrder xs → InOrder (drop n xs)
  ordered_dropped zero xs h = h
  ordered_dropped (suc n) [] h = tt
  ordered_dropped (suc n) (c ∷ cs) h = ordered_dropped n cs h.1

  -- ---- what is found

  found_first : (k : K) (xs : List X) → InOrder xs
      → AllByRecursion (λ (c : X). below (key c) k ≡ false) xs
      → find (has k) xs ≡ if_has k (slice_get xs 0)
  found_first k [] h behind = refl
  found_first k (c ∷ cs) h behind =
      elim (cases_Bool (has k c)) [
        | inl t ↦ cond-true _ (Some c) (find (has k) cs) t ∙ sym (cond-true _ (Some c) None t)
        | inr f ↦
            let above : below k (key c) ≡ true = above_from o k (key c) behind.0 f in
            cond-false _ (Some c) (find (has k) cs) f
            ∙ none_found (has k) cs (all_weaker _ (λ (d : X). has k d ≡ false)
            (λ d b. above_other o (key d) k (o.behind k (key c) (key d) above b)) cs h.0)
            ∙ sym (cond-false _ (Some c) None f)
      ]

  none_before : (k : K) (xs : List X) (n : ℕ)
      → AllByRecursion (λ (c : X). IsTrue (below (key c) k)) (take n xs)
      → find (has k) (take n xs) ≡ None
  none_before k xs n before =
      none_found (has k) (take n xs) (all_weaker _ (λ (c : X). has k c ≡ false)
      (λ c b. below_other o (key c) k b) (take n xs) before)

  find_parts : (k : K) (xs : List X) (n : ℕ)
      → find (has k) xs ≡ option_or (find (has k) (take n xs)) (find (has k) (drop n xs))
  find_parts k xs n =
      ap (find (has k)) (sym (take-append-drop n xs))
      ∙ find-append (has k) (take n xs) (drop n xs)

  -- what is found of a key is at its place
  pub found_at : (k : K) (xs : List X) (n : ℕ) → InOrder xs → IsAt k xs n
      → find (has k) xs ≡ if_has k (slice_get xs n)
  found_at k xs n h at =
      find_parts k xs n
      ∙ ap (λ q. option_or q (find (has k) (drop n xs))) (none_before k xs n at.before)
      ∙ found_first k (drop n xs) (ordered_dropped n xs h) at.behind
      ∙ ap (if_has k) (sym (get_dropped n xs))

  -- .. as a look-up of the place in the list tells
  module _ (k : K) (xs ys : List X) (n : ℕ) (list_is : ys ≡ xs) (h : InOrder xs)
      (at : IsAt k xs n) where
    there : (c : X) → n < length ys → c ≡ get_or ys n c → slice_get xs n ≡ Some c
    there c within is =
        ap (λ zs. slice_get zs n) (sym list_is) ∙ slice_get-get_or ys n c within
        ∙ ap Some (sym is)

    pub found_here : (c : X) → n < length ys → c ≡ get_or ys n c → has k c ≡ true
        → slice_get xs n ≡ find (has k) xs
    found_here c within is t =
        let e : slice_get xs n ≡ Some c = there c within is in
        e ∙ sym (found_at k xs n h at ∙ ap (if_has k) e ∙ cond-true _ (Some c) None t)

    pub found_other : (c : X) → n < length ys → c ≡ get_or ys n c → has k c ≡ false
        → None ≡ find (has k) xs
    found_other c within is f =
        sym (found_at k xs n h at ∙ ap (if_has k) (there c within is)
        ∙ cond-false _ (Some c) None f)

    pub found_past : length ys ≤ n → None ≡ find (has k) xs
    found_past past =
        sym (found_at k xs n h at ∙ ap (λ zs. if_has k (slice_get zs n)) (sym list_is)
        ∙ ap (if_has k) (slice_get_past ys n past))

  -- ---- an element more

  module _ (c : X) where
    pub ordered_more : (n : ℕ) (xs : List X) → InOrder xs → IsAt (key c) xs n
        → find (has (key c)) xs ≡ None → InOrder (insert xs n c)
    ordered_more zero xs h at none = (
      all_both (λ (d : X). below (key d) (key c) ≡ false) (λ (d : X). has (key c) d ≡ false) _
          (λ d b s. above_from o (key c) (key d) b s) xs at.behind (all_fail (has (key c)) xs none),
      h,
    )
    ordered_more (suc n) [] h at none = (tt, tt)
    ordered_more (suc n) (d ∷ ds) h at none = (
      all_append _ (take n ds) (c ∷ drop n ds) (all_taken _ n ds h.0)
          (at.before.0, all_drop _ n ds h.0),
      ordered_more n ds h.1 (record { before = at.before.1; behind = at.behind })
          (none_found (has (key c)) ds (all_fail (has (key c)) (d ∷ ds) none).1),
    )

    pub found_more : (k : K) (n : ℕ) (xs : List X) → IsAt (key c) xs n
        → find (has k) (insert xs n c) ≡ (if same (key c) k then Some c else find (has k) xs)
    found_more k n xs at =
        find-append (has k) (take n xs) (c ∷ drop n xs) ∙ elim (cases_Bool (same (key c) k)) [
          | inl t ↦
              let e : key c ≡ k = o.exact (key c) k t in
              ap (λ q. option_or (find (has k) (take n xs)) q) (cond-true _ _ _ t)
              ∙ ap (λ q. option_or q (Some c)) (none_before k xs n
              (subst (λ j. AllByRecursion (λ (d : X). IsTrue (below (key d) j)) (take n xs)) e
              at.before)) ∙ sym (cond-true _ _ _ t)
          | inr f ↦
              ap (λ q. option_or (find (has k) (take n xs)) q) (cond-false _ _ _ f)
              ∙ sym (find_parts k xs n) ∙ sym (cond-false _ _ _ f)
        ]

  pub any_more : (c : X) (k : K) (n : ℕ) (xs : List X) → IsAt (key c) xs n
      → list_any (has k) (insert xs n c) ≡ (if same (key c) k then true else list_any (has k) xs)
  any_more c k n xs at =
      any_found (has k) (insert xs n c) ∙ ap is_some (found_more c k n xs at)
      ∙ by (same (key c) k)
    where
      by : (t : Bool) → is_some (if t then Some c else find (has k) xs)
          ≡ (if t then true else list_any (has k) xs)
      by true = refl
      by false = sym (any_found (has k) xs)

  -- whether a look-up found it tells whether the key is there
  pub told_by : (k : K) (xs : List X) (o : Option ℕ) (count : ℕ) → count ≡ length xs
      → option_and_then (λ (n : ℕ). slice_get xs n) o ≡ find (has k) xs
      → IfSome o (λ n. n < count) → list_any (has k) xs ≡ is_some o
  told_by k xs None count all e within = any_found (has k) xs ∙ sym (ap is_some e)
  told_by k xs (Some n) count all e within =
      let (c, at) = element_within xs n (subst (λ m. n < m) all within) in
      any_found (has k) xs ∙ sym (ap is_some e) ∙ ap is_some at

  -- ---- another element of the same key

  pub keys_set : (xs : List X) (n : ℕ) (b c : X) → slice_get xs n ≡ Some b → key c ≡ key b
      → map key (set xs n c) ≡ map key xs
  keys_set [] n b c at e = refl
  keys_set (x ∷ xs) zero b c at e =
      ap (λ j. j ∷ map key xs) (e ∙ ap key (sym (same_Some x b at)))
  keys_set (x ∷ xs) (suc n) b c at e = ap (λ js. key x ∷ js) (keys_set xs n b c at e)

  -- the order of a list is one of its keys
  pub all_by_keys : (P : K → Type 0) (xs ys : List X) → map key ys ≡ map key xs
      → AllByRecursion (λ (d : X). P (key d)) xs → AllByRecursion (λ (d : X). P (key d)) ys
  all_by_keys P [] [] e each = tt
  all_by_keys P [] (y ∷ ys) e each = absurd (cc)
  all_by_keys P (x ∷ xs) [] e each = absurd (cc)
  all_by_keys P (x ∷ xs) (y ∷ ys) e each =
      let head : key y ≡ key x = cc in
      let rest : map key ys ≡ map key xs = cc in
      (subst P (sym head) each.0, all_by_keys P xs ys rest each.1)

  pub ordered_by_keys : (xs ys : List X) → map key ys ≡ map key xs → InOrder xs → InOrder ys
  ordered_by_keys xs [] e h = tt
  ordered_by_keys [] (y ∷ ys) e h = absurd (cc)
  ordered_by_keys (x ∷ xs) (y ∷ ys) e h =
      let head : key y ≡ key x = cc in
      let rest : map key ys ≡ map key xs = cc in (
        all_by_keys (λ j. IsTrue (below (key y) j)) xs ys rest
            (subst (λ i. AllByRecursion (λ (d : X). IsTrue (below i (key d))) xs) (sym head) h.0),
        ordered_by_keys xs ys rest h.1,
      )

  pub any_by_keys : (k : K) (xs ys : List X) → map key ys ≡ map key xs
      → list_any (has k) ys ≡ list_any (has k) xs
  any_by_keys k [] [] e = refl
  any_by_keys k [] (y ∷ ys) e = absurd (cc)
  any_by_keys k (x ∷ xs) [] e = absurd (cc)
  any_by_keys k (x ∷ xs) (y ∷ ys) e =
      let head : key y ≡ key x = cc in
      let rest : map key ys ≡ map key xs = cc in
      ap (λ j. same j k || list_any (has k) ys) head
      ∙ ap (λ b. same (key x) k || b) (any_by_keys k xs ys rest)

  -- what is found after a write at a place
  pub found_set : (k : K) (xs : List X) (n : ℕ) (b c : X) → InOrder xs
      → slice_get xs n ≡ Some b → key c ≡ key b
      → find (has k) (set xs n c) ≡ (if same (key c) k then Some c else find (has k) xs)
  found_set k [] n b c h at e = absurd (cc)
  found_set k (x ∷ xs) zero b c h at e =
      let head : key x ≡ key c = ap key (same_Some x b at) ∙ sym e in
      by (same (key c) k) (ap (λ j. same j k) head)
    where
      by : (t : Bool) → same (key x) k ≡ t → cond t (Some c) (find (has k) xs)
          ≡ (if t then Some c else cond (same (key x) k) (Some x) (find (has k) xs))
      by true is = refl
      by false is = sym (cond-false _ _ _ is)
  found_set k (x ∷ xs) (suc n) b c h at e =
      by (same (key x) k) (same (key c) k) refl refl (found_set k xs n b c h.1 at e)
    where
      apart : same (key x) k ≡ true → same (key c) k ≡ true → ⊥
      apart s t =
          let less : below (key x) (key b) ≡ true =
          all_at (λ (d : X). IsTrue (below (key x) (key d))) xs n b h.0 at in
          let one : key x ≡ key b = o.exact (key x) k s ∙ sym (o.exact (key c) k t) ∙ e in
          true≢false (sym less ∙ ap (λ j. below j (key b)) one ∙ o.apart (key b))

      by : (s t : Bool) → same (key x) k ≡ s → same (key c) k ≡ t
          → find (has k) (set xs n c) ≡ (if t then Some c else find (has k) xs)
          → cond s (Some x) (find (has k) (set xs n c))
          ≡ (if t then Some c else cond s (Some x) (find (has k) xs))
      by true true s_is t_is rest = absurd (apart s_is t_is)
      by true false s_is t_is rest = refl
      by false t s_is t_is rest = rest
