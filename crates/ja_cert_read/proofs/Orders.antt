-- Lists of which no member is wrong: what holds of each member, of pairs, and that they ascend.
use Rattle.std.specs.Prelude.{◌≡◌, ◌⊎◌, ◌<◌, ◌-◌, ℕ, zero, suc, true, List, [], ◌∷◌, ◌++◌, length, map, slice_get, Some, None}
use Rattle.std.specs.List.{AllByRecursion}
use Rattle.std.specs.Option.{option_map}
use Rattle.std.specs.Ordering.{nat_cmp, ordering_then}
use Rattle.std.specs.Cmp.Lexicographic.{slice_cmp}
use Rattle.std.specs.declared.cmp.Ordering.{Ordering}
use Rattle.std.specs.declared.cmp.Ordering.TheVariants.{Less, Equal, Greater}
use Rattle.std.proofs.Common.{refl, sym, ap, ◌∙◌, inl, inr, arith}
use Rattle.std.proofs.lemmas.Bool.{false≢true}
use Rattle.std.proofs.lemmas.Cmp.{nat_list_cmp_total, ranked}
use Rattle.std.proofs.lemmas.List.{length-map, length_push, map-append}
use Rattle.serde_json.specs.Data.{Data}
use Rattle.ja_base.proofs.Lists.{all_left, all_right, all_weaker}
use Rattle.ja_table.proofs.Ascending.{Ascends}
use Rattle.ja_cert.specs.Wrong.{MemberWrong, at, is_above, is_behind, is_less, members_wrong}
use Rattle.ja_cert_read.specs.code.Orders.{comes_behind}
use Rattle.ja_cert_read.proofs.Told.{or_else_none, under_none}

-- ---- the last element

at_end : {X : Type 0} (xs : List X) (b : X) → slice_get (xs ++ b ∷ []) (length xs) ≡ Some b
at_end [] b = refl
at_end (x ∷ xs) b = at_end xs b

last_is : {X : Type 0} (xs : List X) (b : X)
    → slice_get (xs ++ b ∷ []) (length (xs ++ b ∷ []) - 1) ≡ Some b
last_is xs b =
    let count : length (xs ++ b ∷ []) - 1 ≡ length xs = omega (arith, length_push xs b) in
    ap (slice_get (xs ++ b ∷ [])) count ∙ at_end xs b

-- the order of data is that of what is written so
pub above_behind : {X : Type 0} (shown : X → Data) (rank : Data → List ℕ) (number : X → List ℕ)
    → ((x : X) → rank (shown x) ≡ number x) → (before : List X) (d : Data) (numbers : List ℕ)
    → rank d ≡ numbers → is_above rank (map shown before) d ≡ comes_behind number before numbers
above_behind {X = X} shown rank number same before d numbers here =
    let last : ℕ = length before - 1 in
    ap (λ n. is_behind (option_map rank (slice_get (map shown before) (n - 1))) (rank d))
    (length-map before shown) ∙ ap (λ o. is_behind o (rank d)) (ranks before last)
    ∙ ap (is_behind (option_map number (slice_get before last))) here
  where
    ranks : (xs : List X) (i : ℕ)
        → option_map rank (slice_get (map shown xs) i) ≡ option_map number (slice_get xs i)
    ranks [] i = refl
    ranks (x ∷ xs) zero = ap Some (same x)
    ranks (x ∷ xs) (suc i) = ranks xs i

-- ---- numbers, compared one after another

less_is : (a b : List ℕ) (o : Ordering) → slice_cmp nat_cmp a b ≡ o → is_less a b ≡ true
    → slice_cmp nat_cmp a b ≡ Less
less_is a b Less e h = e
less_is a b Equal e h = absurd (false≢true (rw e at h))
less_is a b Greater e h = absurd (false≢true (rw e at h))

is_less_from : (a b : List ℕ) → slice_cmp nat_cmp a b ≡ Less → is_less a b ≡ true
is_less_from a b e = rw e refl

less_trans : (a b c : List ℕ) → is_less a b ≡ true → is_less b c ≡ true → is_less a c ≡ true
less_trans a b c h k =
    is_less_from a c (nat_list_cmp_total.trans a b c (less_is a b _ refl h) (less_is b c _ refl k))

less_then : (x y : ℕ) (o r : Ordering) → nat_cmp x y ≡ o → ordering_then o r ≡ Less
    → (x < y) ⊎ ((x ≡ y) × (r ≡ Less))
less_then x y Less r e h = inl (ranked x y Less (sym e))
less_then x y Equal r e h = inr (ranked x y Equal (sym e), h)
less_then x y Greater r e h = absurd (cc)

pub less_first : (x y : ℕ) (xs ys : List ℕ) → is_less (x ∷ xs) (y ∷ ys) ≡ true
    → (x < y) ⊎ ((x ≡ y) × (is_less xs ys ≡ true))
less_first x y xs ys h =
    elim (less_then x y _ (slice_cmp nat_cmp xs ys) refl (less_is (x ∷ xs) (y ∷ ys) _ refl h)) [
      | inl below ↦ inl below
      | inr r ↦ inr (r.0, is_less_from xs ys r.1)
    ]

less_none : is_less [] [] ≡ true → ⊥
less_none h = false≢true h

pub less_one : (x y : ℕ) → is_less (x ∷ []) (y ∷ []) ≡ true → x < y
less_one x y h = elim (less_first x y [] [] h) [
  | inl below ↦ below
  | inr r ↦ absurd (less_none r.1)
]

-- ---- each member

pub members_parts : (f : MemberWrong) (before : List Data) (d : Data) (ds : List Data)
    → members_wrong f before (d ∷ ds) ≡ None
    → (f before d ≡ None) × (members_wrong f (before ++ d ∷ []) ds ≡ None)
unfolding members_wrong
members_parts f before d ds h =
    let parts = or_else_none (at (length before) (f before d)) _ h in
    (under_none _ (f before d) parts.0, parts.1)

pub each_right : {X : Type 0} (f : MemberWrong) (shown : X → Data) (P : X → Type 0)
    → ((before : List Data) (x : X) → f before (shown x) ≡ None → P x)
    → (before : List Data) (xs : List X) → members_wrong f before (map shown xs) ≡ None
    → AllByRecursion P xs
each_right f shown P into before [] h = tt
each_right f shown P into before (x ∷ xs) h =
    let parts = members_parts f before (shown x) (map shown xs) h in (
      into before x parts.0,
      each_right f shown P into (before ++ shown x ∷ []) xs parts.1,
    )

-- ---- each member and all before it

all_pushed : {X : Type 0} (P : X → Type 0) (xs : List X) (x : X)
    → AllByRecursion P (xs ++ x ∷ []) → AllByRecursion P xs × P x
all_pushed P xs x all = (all_left P xs (x ∷ []) all, (all_right P xs (x ∷ []) all).0)

both : {X : Type 0} (R : X → X → Type 0) (x : X) (xs before : List X)
    → AllByRecursion (λ b. R b x) before → AllByRecursion (λ b. AllByRecursion (R b) xs) before
    → AllByRecursion (λ b. AllByRecursion (R b) (x ∷ xs)) before
both R x xs [] all more = tt
both R x xs (b ∷ before) all more =
    ((all.0, more.0), both R x xs before all.1 more.1)

no_pairs : {X : Type 0} (R : X → X → Type 0) (bs : List X)
    → AllByRecursion (λ b. AllByRecursion (R b) []) bs
no_pairs R [] = tt
no_pairs R (b ∷ bs) = (tt, no_pairs R bs)

pub pairs_right : {X : Type 0} (f : MemberWrong) (shown : X → Data) (R : X → X → Type 0)
    → ((before : List X) (x : X) → f (map shown before) (shown x) ≡ None
    → AllByRecursion (λ b. R b x) before)
    → (before xs : List X) → members_wrong f (map shown before) (map shown xs) ≡ None
    → Ascends R xs × AllByRecursion (λ b. AllByRecursion (R b) xs) before
pairs_right f shown R into before [] h = (tt, no_pairs R before)
pairs_right f shown R into before (x ∷ xs) h =
    let parts = members_parts f (map shown before) (shown x) (map shown xs) h in
    let moved : members_wrong f (map shown (before ++ x ∷ [])) (map shown xs) ≡ None =
    ap (λ bs. members_wrong f bs (map shown xs)) (map-append shown before (x ∷ [])) ∙ parts.1 in
    let more = pairs_right f shown R into (before ++ x ∷ []) xs moved in
    let split = all_pushed (λ b. AllByRecursion (R b) xs) before x more.1 in
    ((split.1, more.0), both R x xs before (into before x parts.0) split.0)

-- ---- ascending lists

module _ (f : MemberWrong) (rank : Data → List ℕ)
    (into : (before : List Data) (d : Data) → f before d ≡ None → is_above rank before d ≡ true)
  where
    abbrev Rises : Data → Data → Type 0
    Rises a b = is_less (rank a) (rank b) ≡ true

    rises_behind : (before : List Data) (b : Data) (ds : List Data)
        → members_wrong f (before ++ b ∷ []) ds ≡ None
        → AllByRecursion (Rises b) ds × Ascends Rises ds
    rises_behind before b [] h = (tt, tt)
    rises_behind before b (d ∷ ds) h =
        let parts = members_parts f (before ++ b ∷ []) d ds h in
        let here : Rises b d = sym (ap (λ o. is_behind (option_map rank o) (rank d))
        (last_is before b)) ∙ into (before ++ b ∷ []) d parts.0 in
        let more = rises_behind (before ++ b ∷ []) d ds parts.1 in (
          (
            here,
            all_weaker (Rises d) (Rises b) (λ e k. less_trans (rank b) (rank d) (rank e) here k)
                ds more.0,
          ),
          (more.0, more.1),
        )

    pub rises : (ds : List Data) → members_wrong f [] ds ≡ None → Ascends Rises ds
    rises [] h = tt
    rises (d ∷ ds) h = let parts = members_parts f [] d ds h in
        let more = rises_behind [] d ds parts.1 in (more.0, more.1)

all_mapped : {X Y : Type 0} (g : X → Y) (P : Y → Type 0) (Q : X → Type 0)
    → ((x : X) → P (g x) → Q x) → (xs : List X) → AllByRecursion P (map g xs)
    → AllByRecursion Q xs
all_mapped g P Q h [] all = tt
all_mapped g P Q h (x ∷ xs) all = (h x all.0, all_mapped g P Q h xs all.1)

pub ascends_mapped : {X Y : Type 0} (g : X → Y) (Below : Y → Y → Type 0) (Before : X → X → Type 0)
    → ((x y : X) → Below (g x) (g y) → Before x y) → (xs : List X) → Ascends Below (map g xs)
    → Ascends Before xs
ascends_mapped g Below Before h [] a = tt
ascends_mapped g Below Before h (x ∷ xs) a =
    (all_mapped g (Below (g x)) (Before x) (h x) xs a.0, ascends_mapped g Below Before h xs a.1)
