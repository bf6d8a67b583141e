-- A key put into a filtered list of ascending keys: the list filtered by one key more.
use Rattle.std.specs.Prelude.{◌≡◌, ◌<◌, ◌≤◌, ◌+◌, ℕ, Bool, true, false, cond, ◌||◌, length, List, [], ◌∷◌, ◌++◌, filter, get_or, take, drop}
use Rattle.std.specs.List.{AllByRecursion, insert}
use Rattle.std.proofs.Common.{refl, sym, subst, ap, ◌∙◌, arith, ◌⊎◌, inl, inr, append_assoc}
use Rattle.std.proofs.lemmas.Bool.{le-ltb, ltb-true, ne_eqb, eqb-false, or_right, cond-true, cond-false, cond_both}
use Rattle.std.proofs.lemmas.List.{take_more, take_all, drop_more, drop_all, take-append-drop}
use Rattle.ja_abstract.specs.declared.abstraction.Slot.TheVariants as slot
use Rattle.ja_abstract.specs.declared.abstraction.Key.{Key}
use Rattle.ja_abstract.specs.declared.abstraction.Key.TheVariants as key
use Rattle.ja_abstract.specs.AbstractState.{key_number, same_key}
use Rattle.ja_abstract.proofs.Keys.{same_key-self}
use Rattle.ja_base.proofs.Lists.{all_weaker}
use Rattle.ja_astate.specs.code.Insertion.{is_before, insert_key}

or_false : (a : Bool) → (a || false) ≡ a
or_false true = refl
or_false false = refl

-- ---- the order of keys

before_apart : (j k : Key) → is_before j k ≡ true → same_key j k ≡ false
before_apart (key.Name m) (key.Name n) h =
    let below = ltb-true m.0 n.0 h in
    ne_eqb (6 + m.0) (6 + n.0) (λ e. omega (arith, below, e))
before_apart (key.Name m) key.OtherIndex h = ne_eqb (6 + m.0) 4 (λ e. omega (arith, e))
before_apart (key.Name m) key.OtherName h = ne_eqb (6 + m.0) 5 (λ e. omega (arith, e))
before_apart (key.Name m) (key.Slot slot.Prototype) h = ne_eqb (6 + m.0) 0 (λ e. omega (arith, e))
before_apart (key.Name m) (key.Slot slot.Outer) h = ne_eqb (6 + m.0) 1 (λ e. omega (arith, e))
before_apart (key.Name m) (key.Slot slot.Scope) h = ne_eqb (6 + m.0) 2 (λ e. omega (arith, e))
before_apart (key.Name m) (key.Slot slot.Value) h = ne_eqb (6 + m.0) 3 (λ e. omega (arith, e))
before_apart key.OtherIndex key.OtherName h = refl
before_apart key.OtherIndex (key.Name n) h = cc
before_apart key.OtherIndex key.OtherIndex h = cc
before_apart key.OtherIndex (key.Slot s) h = cc
before_apart key.OtherName k h = cc
before_apart (key.Slot s) k h = cc

before_back : (j k : Key) → is_before j k ≡ true → is_before k j ≡ false
before_back (key.Name m) (key.Name n) h =
    let below = ltb-true m.0 n.0 h in
    le-ltb n.0 m.0 (omega (arith, below))
before_back (key.Name m) key.OtherIndex h = refl
before_back (key.Name m) key.OtherName h = refl
before_back (key.Name m) (key.Slot s) h = refl
before_back key.OtherIndex key.OtherName h = refl
before_back key.OtherIndex (key.Name n) h = cc
before_back key.OtherIndex key.OtherIndex h = cc
before_back key.OtherIndex (key.Slot s) h = cc
before_back key.OtherName k h = cc
before_back (key.Slot s) k h = cc

not_before_self : (k : Key) → is_before k k ≡ false
not_before_self (key.Name n) = le-ltb n.0 n.0 (omega arith)
not_before_self key.OtherIndex = refl
not_before_self key.OtherName = refl
not_before_self (key.Slot s) = refl

-- a key is apart from another one either way round
apart_back : (j k : Key) → same_key j k ≡ false → same_key k j ≡ false
apart_back j k h =
    ne_eqb (key_number k) (key_number j)
    (λ e. eqb-false (key_number j) (key_number k) h (sym e))

-- each key is before those behind it
abbrev pub AreAscending : List Key → Type 0
AreAscending [] = Unit {0}
AreAscending (x ∷ xs) = AllByRecursion (λ k. is_before x k ≡ true) xs × AreAscending xs

-- ---- one key more

-- the test of a filter, and one key more
abbrev more : (Key → Bool) → Key → Key → Bool
more f k j = f j || same_key k j

pub filter_alike : (f g : Key → Bool) (xs : List Key) → AllByRecursion (λ j. f j ≡ g j) xs
    → filter f xs ≡ filter g xs
filter_alike f g [] each = refl
filter_alike f g (x ∷ xs) each =
    ap (λ b. cond b (x ∷ filter f xs) (filter f xs)) each.0
    ∙ ap (λ ys. cond (g x) (x ∷ ys) ys) (filter_alike f g xs each.1)

all_filtered : (P : Key → Type 0) (f : Key → Bool) (xs : List Key) → AllByRecursion P xs
    → AllByRecursion P (filter f xs)
all_filtered P f [] each = tt
all_filtered P f (x ∷ xs) each =
    cond_both (f x) (x ∷ filter f xs) (filter f xs) (AllByRecursion P)
    (λ _. (each.0, all_filtered P f xs each.1)) (λ _. all_filtered P f xs each.1)

-- a key before all of them comes first
put_first : (k : Key) (xs : List Key) → AllByRecursion (λ j. is_before k j ≡ true) xs
    → insert_key k xs ≡ k ∷ xs
put_first k [] each = refl
put_first k (x ∷ xs) each =
    cond-false (is_before x k) _ _ (before_back k x each.0)
    ∙ cond-false (same_key x k) (x ∷ xs) (k ∷ x ∷ xs)
    (apart_back k x (before_apart k x each.0))

-- behind a key nothing is the same
unchanged_behind : (f : Key → Bool) (k : Key) (xs : List Key)
    → AllByRecursion (λ j. is_before k j ≡ true) xs → filter (more f k) xs ≡ filter f xs
unchanged_behind f k xs each =
    filter_alike (more f k) f xs
    (all_weaker (λ j. is_before k j ≡ true) (λ j. more f k j ≡ f j)
    (λ j h. ap (λ b. f j || b) (before_apart k j h) ∙ or_false (f j)) xs each)

-- a key that comes first
insert_here : (f : Key → Bool) (k : Key) (xs : List Key)
    → AllByRecursion (λ j. is_before k j ≡ true) xs
    → insert_key k (filter f (k ∷ xs)) ≡ k ∷ filter f xs
insert_here f k xs each =
    cond_both (f k) (k ∷ filter f xs) (filter f xs) (λ ys. insert_key k ys ≡ k ∷ filter f xs)
    (λ _. cond-false (is_before k k) _ _ (not_before_self k)
    ∙ cond-true (same_key k k) (k ∷ filter f xs) (k ∷ k ∷ filter f xs) (same_key-self k))
    (λ _. put_first k (filter f xs) (all_filtered _ f xs each))

first_kept : (f : Key → Bool) (k : Key) (xs : List Key)
    → filter (more f k) (k ∷ xs) ≡ k ∷ filter (more f k) xs
first_kept f k xs =
    cond-true (more f k k) (k ∷ filter (more f k) xs) (filter (more f k) xs)
    (or_right (f k) (same_key k k) (same_key-self k))

abbrev pub IsAmong : Key → List Key → Type 0
IsAmong k [] = ⊥
IsAmong k (x ∷ xs) = (x ≡ k) ⊎ IsAmong k xs

before_among : (x k : Key) (xs : List Key) → AllByRecursion (λ j. is_before x j ≡ true) xs
    → IsAmong k xs → is_before x k ≡ true
before_among x k [] each among = absurd among
before_among x k (y ∷ ys) each (inl same) = subst (λ j. is_before x j ≡ true) same each.0
before_among x k (y ∷ ys) each (inr among) = before_among x k ys each.1 among

insert_later : (f : Key → Bool) (k x : Key) (xs : List Key) → is_before x k ≡ true
    → insert_key k (filter f xs) ≡ filter (more f k) xs
    → insert_key k (filter f (x ∷ xs)) ≡ filter (more f k) (x ∷ xs)
insert_later f k x xs before rest =
    let other : more f k x
    ≡ f x = ap (λ b. f x || b) (apart_back x k (before_apart x k before)) ∙ or_false (f x) in
    cond_both (f x) (x ∷ filter f xs) (filter f xs)
    (λ ys. insert_key k ys ≡ cond (f x) (x ∷ filter (more f k) xs) (filter (more f k) xs))
    (λ is. cond-true (is_before x k) _ _ before ∙ ap (λ ys. x ∷ ys) rest
    ∙ sym (cond-true (f x) (x ∷ filter (more f k) xs) (filter (more f k) xs) is))
    (λ is_not. rest
    ∙ sym (cond-false (f x) (x ∷ filter (more f k) xs) (filter (more f k) xs) is_not))
    ∙ ap (λ b. cond b (x ∷ filter (more f k) xs) (filter (more f k) xs)) (sym other)

pub insert_filtered : (f : Key → Bool) (k : Key) (xs : List Key) → AreAscending xs → IsAmong k xs
    → insert_key k (filter f xs) ≡ filter (λ j. f j || same_key k j) xs
insert_filtered f k [] ascending among = absurd among
insert_filtered f k (x ∷ xs) ascending (inl same) =
    subst (λ y. insert_key k (filter f (y ∷ xs)) ≡ filter (more f k) (y ∷ xs)) (sym same)
    (let each : AllByRecursion (λ j. is_before k j ≡ true) xs = subst (λ y.
    AllByRecursion (λ j. is_before y j ≡ true) xs) same ascending.0 in
    insert_here f k xs each ∙ ap (λ ys. k ∷ ys) (sym (unchanged_behind f k xs each))
    ∙ sym (first_kept f k xs))
insert_filtered f k (x ∷ xs) ascending (inr among) =
    insert_later f k x xs (before_among x k xs ascending.0 among)
    (insert_filtered f k xs ascending.1 among)

-- ---- the place that is looked for

module _ (k : Key) (xs : List Key) (i : ℕ) (x : Key) (h : i < length xs) (is : x ≡ get_or xs i x)
    (keys : List Key) (so_far : keys ≡ take i xs ++ insert_key k (drop i xs)) where
  from_here : keys ≡ take i xs ++ insert_key k (x ∷ drop (i + 1) xs)
  from_here =
      so_far
      ∙ ap (λ ys. take i xs ++ insert_key k ys)
      (drop_more xs i x h ∙ ap (λ y. y ∷ drop (i + 1) xs) (sym is))

  pub place_passed : is_before x k ≡ true
      → keys ≡ take (i + 1) xs ++ insert_key k (drop (i + 1) xs)
  place_passed before =
      from_here ∙ ap (λ ys. take i xs ++ ys) (cond-true (is_before x k) _ _ before)
      ∙ sym (append_assoc (take i xs) (x ∷ []) (insert_key k (drop (i + 1) xs)))
      ∙ ap (λ y. (take i xs ++ y ∷ []) ++ insert_key k (drop (i + 1) xs)) is
      ∙ ap (λ ys. ys ++ insert_key k (drop (i + 1) xs)) (sym (take_more xs i x h))

  whole : take i xs ++ x ∷ drop (i + 1) xs ≡ xs
  whole =
      ap (λ y. take i xs ++ y ∷ drop (i + 1) xs) is
      ∙ ap (λ ys. take i xs ++ ys) (sym (drop_more xs i x h)) ∙ take-append-drop i xs

  pub place_taken : is_before x k ≡ false → same_key x k ≡ true → xs ≡ keys
  place_taken not_before same =
      sym (from_here ∙ ap (λ ys. take i xs ++ ys) (cond-false (is_before x k) _ _ not_before
      ∙ cond-true (same_key x k) (x ∷ drop (i + 1) xs) (k ∷ x ∷ drop (i + 1) xs) same) ∙ whole)

  pub place_free : is_before x k ≡ false → same_key x k ≡ false → insert xs i k ≡ keys
  place_free not_before other =
      sym (from_here ∙ ap (λ ys. take i xs ++ ys) (cond-false (is_before x k) _ _ not_before
      ∙ cond-false (same_key x k) (x ∷ drop (i + 1) xs) (k ∷ x ∷ drop (i + 1) xs) other)
      ∙ ap (λ y. take i xs ++ k ∷ y ∷ drop (i + 1) xs) is
      ∙ ap (λ ys. take i xs ++ k ∷ ys) (sym (drop_more xs i x h)))

-- behind all of them
pub place_last : (k : Key) (xs : List Key) (i : ℕ) → length xs ≤ i → (keys : List Key)
    → keys ≡ take i xs ++ insert_key k (drop i xs) → xs ++ k ∷ [] ≡ keys
place_last k xs i h keys so_far =
    sym (so_far ∙ ap (λ ys. take i xs ++ insert_key k ys) (drop_all i xs h)
    ∙ ap (λ ys. ys ++ k ∷ []) (take_all i xs h))
