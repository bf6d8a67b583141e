-- Labels and their numbers, and sets of labels by sets of numbers.
use Rattle.std.proofs.Common.{◌≡◌, ℕ, ◌+◌, ◌*◌, ◌<◌, ◌≤◌, ◌/◌, ◌%◌, Bool, true, false, ◌||◌, ◌&&◌, cond, nat_lt, List, [], ◌∷◌, ◌++◌, map, filter, refl, ap, sym, ◌∙◌, subst, arith, length, get_or, drop, drop_of_length-le, ⊎_elim, append-nil, ◌↔◌, suc, zero}
use Rattle.std.specs.Prelude.{IsTrue, ◌==◌, Some, None, slice_get}
use Rattle.std.specs.List.{list_any, range_with_len, flat_map, AllByRecursion}
use Rattle.std.specs.List.Sorted.{IsStrictlySortedBy}
use Rattle.std.specs.Ordering.{nat_cmp}
use Rattle.std.specs.declared.cmp.Ordering.TheVariants.{Less}
use Rattle.std.proofs.lemmas.Bool.{le-ltb, lt-ltb, cases_order, cases_lt, true≢false, and_from}
use Rattle.std.proofs.Math.Bool.{or-false}
use Rattle.std.proofs.lemmas.Bool.Decides.{nat_tests}
use Rattle.std.proofs.lemmas.Cmp.{ranked}
use Rattle.std.proofs.lemmas.List.{map-append, length-map}
use Rattle.std.proofs.lemmas.List.Folds.{list_any_at}
use Rattle.std.proofs.lemmas.List.FromFn.{filter_of_map_range_with_len_more, length-map-range_with_len}
use Rattle.std.proofs.lemmas.List.Sums.{count_by-le-length, length-filter}
use Rattle.std.proofs.lemmas.Map.Keys.{sorted_head, sorted_tail}
use Rattle.ja_base.specs.declared.ids.Label.{Label}
use Rattle.ja_abstract.specs.AbstractValue.{Labels, no_labels}
use Rattle.ja_abstract.specs.AbstractState.{label_number, labels_below, site_of, new, old}
use Rattle.ja_value.specs.Labels.{label_at, has}
use Rattle.ja_value.proofs.AscendingLemmas.{equal, apart}

abbrev pub below : ℕ → ℕ → Bool
below n k = nat_lt k n

abbrev pub is_there : {X : Type 0} → List X → Bool
is_there [] = false
is_there (x ∷ xs) = true

pub number_label : (n : ℕ) → label_number (label_at n) ≡ n
number_label n = grind (arith, nat_tests)

less : (x y : ℕ) → nat_cmp x y ≡ Less → x < y
less x y h = ranked x y Less (sym h)

-- none of the numbers above x is below m
below_none : (m x : ℕ) (ks : List ℕ) → AllByRecursion (λ y. nat_cmp x y ≡ Less) ks → m ≤ x + 1
    → filter (below m) ks ≡ []
below_none m x [] h le = refl
below_none m x (k ∷ ks) h le =
    let more : x < k = less x k h.0 in rw (le-ltb k m (omega arith)) (below_none m x ks h.1 le)

has_not : (n x : ℕ) (ks : List ℕ) → AllByRecursion (λ y. nat_cmp x y ≡ Less) ks → n ≤ x
    → has ks n ≡ false
has_not n x [] h le = refl
has_not n x (k ∷ ks) h le =
    let more : x < k = less x k h.0 in rw (apart n k (omega arith)) (has_not n x ks h.1 le)

-- one number more, at the end of those below it: where it is the first of the list, where it comes
-- later, where it isn't there
below_more_at : (n x : ℕ) (xs : List ℕ) → AllByRecursion (λ y. nat_cmp x y ≡ Less) xs → x ≡ n
    → filter (below (n + 1)) (x ∷ xs) ≡ filter (below n) (x ∷ xs)
    ++ cond (has (x ∷ xs) n) (n ∷ []) []
below_more_at n x xs h e =
    rw (
      lt-ltb x (n + 1) (omega arith),
      le-ltb x n (omega arith),
      below_none (n + 1) x xs h (omega arith),
      below_none n x xs h (omega arith),
      equal n x e,
    )
    (ap (λ (k : ℕ). k ∷ []) e)

below_more_later : (n x : ℕ) (xs : List ℕ) → x < n
    → filter (below (n + 1)) xs ≡ filter (below n) xs ++ cond (has xs n) (n ∷ []) []
    → filter (below (n + 1)) (x ∷ xs) ≡ filter (below n) (x ∷ xs)
    ++ cond (has (x ∷ xs) n) (n ∷ []) []
below_more_later n x xs lower rest =
    rw (lt-ltb x (n + 1) (omega arith), lt-ltb x n lower, apart n x (omega arith))
    (ap (λ (ks : List ℕ). x ∷ ks) rest)

below_more_never : (n x : ℕ) (xs : List ℕ) → AllByRecursion (λ y. nat_cmp x y ≡ Less) xs → n < x
    → filter (below (n + 1)) (x ∷ xs) ≡ filter (below n) (x ∷ xs)
    ++ cond (has (x ∷ xs) n) (n ∷ []) []
below_more_never n x xs h lower =
    rw (
      le-ltb x (n + 1) (omega arith),
      le-ltb x n (omega arith),
      below_none (n + 1) x xs h (omega arith),
      below_none n x xs h (omega arith),
      apart n x (omega arith),
      has_not n x xs h (omega arith),
    ) refl

below_more : (n : ℕ) (ks : List ℕ) → IsStrictlySortedBy nat_cmp ks
    → filter (below (n + 1)) ks ≡ filter (below n) ks ++ cond (has ks n) (n ∷ []) []
below_more n [] s = refl
below_more n (x ∷ xs) s =
    let h = sorted_head nat_cmp x xs s in
    ⊎_elim (λ e. below_more_at n x xs h e) (λ o.
    ⊎_elim (λ lower. below_more_later n x xs lower
    (below_more n xs (sorted_tail nat_cmp x xs s))) (λ lower. below_more_never n x xs h lower)
    o) (cases_order x n)

below_zero : (ks : List ℕ) → filter (below 0) ks ≡ []
below_zero [] = refl
below_zero (k ∷ ks) = rw (le-ltb k 0 (omega arith)) (below_zero ks)

-- the labels of a list of numbers as a test
abbrev pub in_numbers : List ℕ → Labels
in_numbers ks l = has ks (label_number l)

one_label : (b : Bool) (n : ℕ) → map label_at (cond b (n ∷ []) []) ≡ cond b (label_at n ∷ []) []
one_label b n =
    elim b as (λ v. map label_at (cond v (n ∷ []) []) ≡ cond v (label_at n ∷ []) [])
    [ true ↦ refl | false ↦ refl ]

numbers_list_more : (ks : List ℕ) → IsStrictlySortedBy nat_cmp ks → (n : ℕ)
    → map label_at (filter (below n) ks) ≡ filter (in_numbers ks)
    (map label_at (range_with_len 0 n)) → map label_at (filter (below (n + 1)) ks)
    ≡ filter (in_numbers ks) (map label_at (range_with_len 0 (n + 1)))
numbers_list_more ks s n rest =
    ap (map label_at) (below_more n ks s)
    ∙ map-append label_at (filter (below n) ks) (cond (has ks n) (n ∷ []) [])
    ∙ ap (λ (ls : List Label). ls ++ map label_at (cond (has ks n) (n ∷ []) [])) rest
    ∙ ap (λ (ls : List Label). filter (in_numbers ks) (map label_at (range_with_len 0 n)) ++ ls)
    (one_label (has ks n) n ∙ ap (λ (b : Bool). cond b (label_at n ∷ []) [])
    (ap (has ks) (sym (number_label n))))
    ∙ sym (filter_of_map_range_with_len_more (in_numbers ks) label_at 0 n n (omega arith))

-- the numbers of a sorted list that are below n, as labels
pub numbers_list : (ks : List ℕ) → IsStrictlySortedBy nat_cmp ks → (n : ℕ)
    → map label_at (filter (below n) ks) ≡ filter (in_numbers ks)
    (map label_at (range_with_len 0 n))
numbers_list ks s zero = ap (map label_at) (below_zero ks)
numbers_list ks s (suc n) =
    let P : ℕ → Type 0 = λ k. map label_at (filter (below k) ks)
    ≡ filter (in_numbers ks) (map label_at (range_with_len 0 k)) in
    subst P (omega arith) (numbers_list_more ks s n (numbers_list ks s n))

label_new : (a : ℕ) → label_at (2 * a) ≡ new (site_of a)
label_new a =
    let half : (2 * a) / 2 ≡ a = omega arith in
    let rest : (2 * a) % 2 ≡ 0 = omega arith in
    rw (half, rest) refl

label_old : (a : ℕ) → label_at (2 * a + 1) ≡ old (site_of a)
label_old a =
    let half : (2 * a + 1) / 2 ≡ a = omega arith in
    let rest : (2 * a + 1) % 2 ≡ 1 = omega arith in
    rw (half, rest) refl

labels_from : (a n : ℕ) → flat_map (λ s. new (site_of s) ∷ old (site_of s) ∷ [])
    (range_with_len a n) ≡ map label_at (range_with_len (2 * a) (2 * n))
labels_from a zero = refl
labels_from a (suc n) =
    let twice : 2 * suc n ≡ suc (suc (2 * n)) = omega arith in
    let next : 2 * (a + 1) ≡ 2 * a + 1 + 1 = omega arith in
    rw (twice, label_new a, label_old a) (ap
    (λ (ls : List Label). new (site_of a) ∷ old (site_of a) ∷ ls)
    (labels_from (a + 1) n ∙ ap (λ (k : ℕ). map label_at (range_with_len k (2 * n))) next))

pub labels_range : (n : ℕ) → labels_below n ≡ map label_at (range_with_len 0 (2 * n))
labels_range = labels_from 0

-- the labels of the first sites that are in a set
pub labels_list : (ks : List ℕ) → IsStrictlySortedBy nat_cmp ks → (sites end : ℕ) → end ≡ 2 * sites
    → map label_at (filter (below end) ks) ≡ filter (in_numbers ks) (labels_below sites)
labels_list ks s sites end e =
    ap (λ (n : ℕ). map label_at (filter (below n) ks)) e ∙ numbers_list ks s (2 * sites)
    ∙ ap (filter (in_numbers ks)) (sym (labels_range sites))

-- nothing is to come behind the last
pub none_left : (xs seen : List ℕ) (i : ℕ) → seen ≡ xs → length seen ≤ i → drop i xs ≡ []
none_left xs seen i same past = drop_of_length-le xs (omega (arith, ap length same))

-- all is listed once nothing is to come
pub listed : (items : List Label) (ks rest : List ℕ) (sites end : ℕ) → end ≡ 2 * sites → rest ≡ []
    → IsStrictlySortedBy nat_cmp ks → items ++ map label_at (filter (below end) rest)
    ≡ map label_at (filter (below end) ks) → items ≡ filter (in_numbers ks) (labels_below sites)
listed items ks rest sites end e none s all =
    sym (append-nil items) ∙ ap (λ (ns : List ℕ). items ++ map label_at (filter (below end) ns))
    (sym none) ∙ all ∙ labels_list ks s sites end e

-- ---- whether there is one

any_there : {X : Type 0} (p : X → Bool) (xs : List X) → list_any p xs ≡ is_there (filter p xs)
any_there p [] = refl
any_there p (x ∷ xs) =
    elim (p x) as (λ v. (v || list_any p xs) ≡ is_there (cond v (x ∷ filter p xs) (filter p xs)))
    [ true ↦ refl | false ↦ any_there p xs ]

map_there : {X Y : Type 0} (f : X → Y) (xs : List X) → is_there (map f xs) ≡ is_there xs
map_there f [] = refl
map_there f (x ∷ xs) = refl

first_there : (end k : ℕ) (ks : List ℕ) → IsStrictlySortedBy nat_cmp (k ∷ ks)
    → nat_lt k end ≡ is_there (filter (below end) (k ∷ ks))
first_there end k ks s =
    ⊎_elim (λ lower. rw (lt-ltb k end lower) refl)
    (λ upper. rw (
      le-ltb k end upper,
      below_none end k ks (sorted_head nat_cmp k ks s)
          (omega arith),
    ) refl) (cases_lt k end)

any_is : (ks : List ℕ) → IsStrictlySortedBy nat_cmp ks → (sites : ℕ)
    → is_there (filter (below (2 * sites)) ks) ≡ list_any (in_numbers ks) (labels_below sites)
any_is ks s sites =
    sym (map_there label_at (filter (below (2 * sites)) ks))
    ∙ ap is_there (labels_list ks s sites (2 * sites) refl)
    ∙ sym (any_there (in_numbers ks) (labels_below sites))

-- the first number of the list tells whether one is below
pub any_by_first : (all seen : List ℕ) (k sites : ℕ) → IsStrictlySortedBy nat_cmp all
    → seen ≡ all → Some k ≡ slice_get seen 0
    → nat_lt k (2 * sites) ≡ list_any (in_numbers all) (labels_below sites)
any_by_first [] seen k sites s same e =
    let none : Some k ≡ None = e ∙ ap (λ (xs : List ℕ). slice_get xs 0) same in absurd (cc)
any_by_first (x ∷ xs) seen k sites s same e =
    let some : Some k ≡ Some x = e ∙ ap (λ (ns : List ℕ). slice_get ns 0) same in
    let first : k ≡ x = cc in
    ap (λ (n : ℕ). nat_lt n (2 * sites)) first ∙ first_there (2 * sites) x xs s
    ∙ any_is (x ∷ xs) s sites

pub any_of_none : (all seen : List ℕ) (sites : ℕ) → IsStrictlySortedBy nat_cmp all → seen ≡ all
    → None ≡ slice_get seen 0 → false ≡ list_any (in_numbers all) (labels_below sites)
any_of_none [] seen sites s same e = any_is [] s sites
any_of_none (x ∷ xs) seen sites s same e =
    let some : None ≡ Some x = e ∙ ap (λ (ns : List ℕ). slice_get ns 0) same in absurd (cc)

-- ---- those that are in another set too, and how many there are

any_both : {X : Type 0} (p q : X → Bool) (xs : List X)
    → list_any (λ x. p x && q x) xs ≡ list_any q (filter p xs)
any_both p q [] = refl
any_both p q (x ∷ xs) =
    elim (p x) as (λ v. ((v && q x) || list_any (λ y. p y && q y) xs)
    ≡ list_any q (cond v (x ∷ filter p xs) (filter p xs)))
    [ true ↦ ap (λ (b : Bool). q x || b) (any_both p q xs) | false ↦ any_both p q xs ]

any_numbers : (ms ks : List ℕ)
    → list_any (in_numbers ms) (map label_at ks) ≡ list_any (has ms) ks
any_numbers ms [] = refl
any_numbers ms (k ∷ ks) =
    ap (λ (n : ℕ). has ms n || list_any (in_numbers ms) (map label_at ks)) (number_label k)
    ∙ ap (λ (b : Bool). has ms k || b) (any_numbers ms ks)

pub any_shared : (ks ms : List ℕ) → IsStrictlySortedBy nat_cmp ks → (sites end : ℕ)
    → end ≡ 2 * sites → list_any (λ n. nat_lt n end && has ms n) ks
    ≡ list_any (λ l. in_numbers ks l && in_numbers ms l) (labels_below sites)
any_shared ks ms s sites end e =
    any_both (below end) (has ms) ks ∙ sym (any_numbers ms (filter (below end) ks))
    ∙ ap (list_any (in_numbers ms)) (labels_list ks s sites end e)
    ∙ sym (any_both (in_numbers ks) (in_numbers ms) (labels_below sites))

pub count_is : (ks : List ℕ) → IsStrictlySortedBy nat_cmp ks → (sites end : ℕ) → end ≡ 2 * sites
    → length (filter (below end) ks) ≡ length (filter (in_numbers ks) (labels_below sites))
count_is ks s sites end e =
    sym (length-map (filter (below end) ks) label_at)
    ∙ ap length (labels_list ks s sites end e)

pub few_labels : (p : Labels) (sites : ℕ) → length (filter p (labels_below sites)) ≤ 2 * sites
few_labels p sites =
    omega (
      arith,
      length-filter p (labels_below sites),
      count_by-le-length p (labels_below sites),
      ap length (labels_range sites),
      length-map-range_with_len label_at 0 (2 * sites),
    )

-- a number of both that is below the end
pub shared_at : (ks ms seen : List ℕ) (i end : ℕ) → seen ≡ ks → i < length seen
    → get_or seen i 0 < end → has ms (get_or seen i 0) ≡ true
    → list_any (λ n. nat_lt n end && has ms n) ks ≡ true
shared_at ks ms seen i end same lower less there =
    ap (list_any (λ n. nat_lt n end && has ms n)) (sym same)
    ∙ list_any_at (λ n. nat_lt n end && has ms n) seen i 0 lower
    (and_from (nat_lt (get_or seen i 0) end) (has ms (get_or seen i 0))
    (lt-ltb (get_or seen i 0) end less) there)

-- none, where no number is left
pub none_shared : (ks ms rest : List ℕ) (sites end : ℕ) → rest ≡ [] → IsStrictlySortedBy nat_cmp ks
    → end ≡ 2 * sites → list_any (λ n. nat_lt n end && has ms n) rest
    ≡ list_any (λ n. nat_lt n end && has ms n) ks
    → false ≡ list_any (λ l. in_numbers ks l && in_numbers ms l) (labels_below sites)
none_shared ks ms rest sites end none s e all =
    sym (ap (list_any (λ n. nat_lt n end && has ms n)) none) ∙ all ∙ any_shared ks ms s sites end e

-- all are counted, where no number is left
pub counted_all : (ks rest : List ℕ) (count sites end : ℕ) → rest ≡ []
    → IsStrictlySortedBy nat_cmp ks → end ≡ 2 * sites
    → count + length (filter (below end) rest) ≡ length (filter (below end) ks)
    → count ≡ length (filter (in_numbers ks) (labels_below sites))
counted_all ks rest count sites end none s e all =
    omega (
      arith,
      all,
      ap (λ (ns : List ℕ). length (filter (below end) ns)) none,
      count_is ks s sites end e,
    )

-- ---- sets that differ

-- a number tells two sets apart
pub labels_apart : (first now : List ℕ) (q : ℕ) → has first q ≡ false → has now q ≡ true
    → in_numbers now ≡ in_numbers first → ⊥
labels_apart first now q out inside e =
    let there : has now q ≡ has first q = ap (has now) (sym (number_label q))
    ∙ ap (λ (f : Labels). f (label_at q)) e ∙ ap (has first) (number_label q) in
    true≢false (sym inside ∙ there ∙ out)

pub no_labels_is : (ks seen : List ℕ) (r : Bool) → seen ≡ ks → r ≡ (length seen == 0)
    → IsTrue r ↔ (in_numbers ks ≡ no_labels)
no_labels_is [] seen r same e =
    ((λ _. refl), (λ _. e ∙ ap (λ (xs : List ℕ). length xs == 0) same))
no_labels_is (k ∷ ks) seen r same e = (
  (λ t. absurd
      (true≢false (sym t ∙ e ∙ ap (λ (xs : List ℕ). length xs == 0) same
      ∙ apart (length (k ∷ ks)) 0 (omega arith)))),
  (λ f. absurd
      (labels_apart [] (k ∷ ks) k refl (rw (equal k k refl) refl) f)),
)

-- ---- sets within others

-- a set is within another as numbers, and as labels
pub within_labels : (mine other : List ℕ) (r : Bool)
    → (IsTrue r ↔ ((q : ℕ) → IsTrue (has mine q) → IsTrue (has other q)))
    → IsTrue r ↔ ((l : Label) → IsTrue (in_numbers mine l) → IsTrue (in_numbers other l))
within_labels mine other r h =
    let P : ℕ → Type 0 = λ n. IsTrue (has mine n) → IsTrue (has other n) in
    ((λ t l. h.0 t (label_number l)), (λ f. h.1 (λ q. subst P (number_label q) (f (label_at q)))))

-- numbers `more` are still to be added to `now`, which began as `first`
pub record Joining (first other now more : List ℕ) (changed : Bool) : Type 0 where
  pub joined : (q : ℕ) → (has now q || has more q) ≡ (has first q || has other q)
  pub one_more : changed ≡ true → (q : ℕ) × ((has first q ≡ false) × (has now q ≡ true))
  pub no_more : changed ≡ false → (q : ℕ) → has now q ≡ has first q

-- all are added once nothing is to come
pub joined_all : (first other now rest : List ℕ) (changed : Bool)
    → Joining first other now rest changed → rest ≡ []
    → in_numbers now ≡ (λ l. in_numbers first l || in_numbers other l)
joined_all first other now rest changed h none =
    λ i l. (sym (or-false (has now (label_number l)))
    ∙ ap (λ (ns : List ℕ). has now (label_number l) || has ns (label_number l)) (sym none)
    ∙ h.joined (label_number l)) i
