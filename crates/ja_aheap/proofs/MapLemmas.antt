-- Maps from numbers, as what a look-up finds in the entries that a loop has still to pass.
use Rattle.std.proofs.Common.{Less, ◌≡◌, ◌≢◌, ◌==◌, ℕ, ◌<◌, List, [], ◌∷◌, length, Bool, true, false, Option, Some, None, if◌then◌else◌, is_some, refl, ap, sym, ◌∙◌, arith, ⊎_elim, subst, Ok, Err}
use Rattle.std.specs.Prelude.{◌↔◌, IsTrue, IsSome, Result, IfOk, OnErr}
use Rattle.std.proofs.lemmas.Grind.{common_steps}
use Rattle.std.proofs.lemmas.Bool.{cases_eq, false≢true}
use Rattle.std.proofs.lemmas.Bool.Decides.{nat_tests}
use Rattle.std.proofs.lemmas.Cmp.{nat_cmp_total}
use Rattle.std.proofs.lemmas.Map.{lookup-none}
use Rattle.std.proofs.lemmas.Map.Keys.{sorted_tail, IsDistinct-from_sorted}
use Rattle.std.proofs.lemmas.Map.Entries.{none_past_head, lookup_head, lookup_tail, lookup_clone}
use Rattle.std.proofs.lemmas.Map.Iter.{rest_more}
use Rattle.std.specs.Map.Iter.{deref_pair, TakesFirst}
use denote.Ref.{Bor}
use Rattle.std.specs.List.{AllByRecursion, AllZip}
use Rattle.std.specs.Cmp.{eq_by_cmp_equiv}
use Rattle.std.specs.Option.{option_map_or}
use Rattle.std.specs.Ordering.{nat_cmp}
use Rattle.std.specs.Map.{lookup, keys_of}
use Rattle.std.specs.List.Sorted.{IsStrictlySortedBy}
use Rattle.std.specs.BTreeMap.{BTreeMap, get, is_at, Updates}
use Rattle.ja_base.proofs.Lists.{empty_by_length}
use Rattle.ja_aheap.specs.code.Maps.{SaysOfAll, AreBeside, IsFilled}

-- what entries have at a number
abbrev pub found : {X : Type 0} → List (ℕ × X) → ℕ → Option X
found es q = lookup (is_at (nat_cmp q)) es

pub equal_from_test : (a b : ℕ) → (a == b) ≡ true → a ≡ b
equal_from_test a b same = grind (arith, common_steps, nat_tests)

pub less_than : (a b : ℕ) → nat_cmp a b ≡ Less → a < b
less_than a b less = grind (arith, common_steps, nat_tests)

pub same_number : (a : ℕ) → (a == a) ≡ true
same_number a = grind (arith, common_steps, nat_tests)

pub is_at_eq : (a b : ℕ) → is_at (nat_cmp a) b ≡ (b == a)
is_at_eq a b = grind (arith, common_steps)

pub found_step : {X : Type 0} (e : ℕ × X) (rest : List (ℕ × X)) (q : ℕ)
    → found (e ∷ rest) q ≡ (if e.0 == q then Some e.1 else found rest q)
found_step e rest q = rw is_at_eq refl

pub updated : {X : Type 0} (m n : BTreeMap ℕ X) (k : ℕ) (w : Option X) → Updates nat_cmp m n k w
    → (q : ℕ) → get nat_cmp n q ≡ (if k == q then w else get nat_cmp m q)
updated m n k w u q = grind (arith, common_steps, u.0 q)

-- a number comes once
pub gone : {X : Type 0} (e : ℕ × X) (rest : List (ℕ × X))
    → IsStrictlySortedBy nat_cmp (keys_of (e ∷ rest)) → found rest e.0 ≡ None
gone e rest s =
    lookup-none _ rest (none_past_head (eq_by_cmp_equiv nat_cmp_total) e.0 e rest
    (IsDistinct-from_sorted nat_cmp _ s) (grind (arith, common_steps)))

pub later : {X : Type 0} (e : ℕ × X) (rest : List (ℕ × X)) (q : ℕ) → e.0 ≢ q
    → found (e ∷ rest) q ≡ found rest q
later e rest q apart = lookup_tail (is_at (nat_cmp q)) e rest (grind (arith, common_steps))

pub still_ahead : {X : Type 0} (e : ℕ × X) (rest : List (ℕ × X)) (q : ℕ) (x : X)
    → found rest e.0 ≡ None → found rest q ≡ Some x → found (e ∷ rest) q ≡ Some x
still_ahead e rest q x none at =
    let apart : e.0 ≢ q = λ same. let clash : None ≡ Some x = sym none ∙ ap (found rest) same
    ∙ at in absurd (cc) in
    lookup_tail (is_at (nat_cmp q)) e rest (grind (arith, common_steps)) ∙ at

-- The entries that a loop has still to pass.
pub record Passing {X : Type 0} (all rest : List (ℕ × X)) : Type 0 where
  pub ahead : (q : ℕ) (x : X) → found rest q ≡ Some x → found all q ≡ Some x
  pub sorted : IsStrictlySortedBy nat_cmp (keys_of rest)

pub passing_more : {X : Type 0} (all rest : List (ℕ × X)) (e : ℕ × X) → Passing all (e ∷ rest)
    → Passing all rest
passing_more all rest e h = record {
  ahead = λ q x at. h.ahead q x (still_ahead e rest q x (gone e rest h.sorted) at);
  sorted = sorted_tail nat_cmp _ _ h.sorted;
}

-- the first entry that is left is one of all
pub first_of_all : {X : Type 0} (all rest : List (ℕ × X)) (e : ℕ × X) → Passing all (e ∷ rest)
    → found all e.0 ≡ Some e.1
first_of_all all rest e h =
    h.ahead e.0 e.1 (lookup_head (is_at (nat_cmp e.0)) e rest (grind (arith, common_steps)))

pub some_is : {X : Type 0} (a b : X) → Some a ≡ Some b → a ≡ b
some_is a b e = cc

-- one turn of a loop that passes a reference to each entry
pub passing_turn : {X : Type 0} (all s t : List (ℕ × X)) (r : Option (Bor ℕ × Bor X))
    (x : Bor ℕ × Bor X) → r ≡ Some x → TakesFirst (deref_pair {K = ℕ} {X = X}) s r t
    → Passing all s → (found all x.0.now ≡ Some x.1.now) × Passing all t
passing_turn all s t r x is step h =
    let now : Passing all (deref_pair x ∷ t) = subst (Passing all)
    (rest_more deref_pair s t r x is step) h in
    (first_of_all all t (deref_pair x) now, passing_more all t (deref_pair x) now)

-- ---- a test at each value

pub value_of_some : {V : Type 0} (o : Option V) → IsSome o → (v : V) × (o ≡ Some v)
value_of_some (Some v) there = (v, refl)
value_of_some None there = absurd (false≢true there)

pub listed_decides : {V : Type 0} (Says : ℕ → V → Bool → Type 0) (at : ℕ → Option V)
    (P : ℕ → Type 0) (r : Bool) → SaysOfAll Says at r
    → ((q : ℕ) (v : V) → at q ≡ Some v → Says q v true → P q)
    → ((q : ℕ) (v : V) → at q ≡ Some v → Says q v false → P q → ⊥)
    → IsTrue r ↔ ((q : ℕ) → IsSome (at q) → P q)
listed_decides Says at P true said holds fails = (
  (λ _. λ q there. let v = value_of_some (at q) there in
      holds q v.0 v.1 (said.held refl q v.0 v.1)),
  (λ _. refl),
)
listed_decides Says at P false said holds fails = (
  (λ wrong. absurd (false≢true wrong)),
  (λ all. let one = said.failed refl in
      absurd (fails one.0 one.1 one.2 one.3 (all one.0 (ap is_some one.2)))),
)

-- ---- a map that is filled from another

-- what was passed is filled, and what is ahead is as it was
pub record Filling {V W : Type 0} (Makes : ℕ → V → W → Type 0) (old now : BTreeMap ℕ W)
    (all rest : List (ℕ × V)) : Type 0 where
  pub passing : Passing all rest
  pub filled : (q : ℕ) → found rest q ≡ None
      → IsFilled (Makes q) (get nat_cmp old q) (found all q) (get nat_cmp now q)
  pub waits : (q : ℕ) (x : V) → found rest q ≡ Some x → get nat_cmp now q ≡ get nat_cmp old q

pub nothing_to_fill : {V W : Type 0} (Makes : V → W → Type 0) (old : Option W) (other : Option V)
    → other ≡ None → IsFilled Makes old other old
nothing_to_fill Makes old other none = record {
  kept = λ w is. is;
  nothing = λ is none'. is;
  made = λ v is some. absurd (cc);
}

-- at a number that has a value already, and at one that has none
pub there_already : {V W : Type 0} (Makes : V → W → Type 0) (now : Option W) (v : V)
    → is_some now ≡ true → IsFilled Makes now (Some v) now
there_already {V} {W} Makes now v there = record {
  kept = λ w is. is;
  nothing = λ is none. is;
  made = λ x none is. let clash : is_some {T = W} None ≡ true = sym (ap is_some none) ∙ there in
      absurd (cc);
}

pub made_there : {V W : Type 0} (Makes : V → W → Type 0) (now next : Option W) (v : V) (w : W)
    → is_some now ≡ false → Makes v w → next ≡ Some w → IsFilled Makes now (Some v) next
made_there Makes now next v w missing makes is = record {
  kept = λ x there. let clash : is_some (Some x) ≡ false = sym (ap is_some there) ∙ missing in
      absurd (cc);
  nothing = λ none never. absurd (cc);
  made = λ x none same. (w, subst (λ y. Makes y w) (some_is v x same) makes, is);
}

pub filling_more : {V W : Type 0} (Makes : ℕ → V → W → Type 0) (old now next : BTreeMap ℕ W)
    (all rest : List (ℕ × V)) (e : ℕ × V) → Filling Makes old now all (e ∷ rest)
    → IsFilled (Makes e.0) (get nat_cmp now e.0) (Some e.1) (get nat_cmp next e.0)
    → ((q : ℕ) → e.0 ≢ q → get nat_cmp next q ≡ get nat_cmp now q)
    → Filling Makes old next all rest
filling_more {V} {W} Makes old now next all rest e h here others =
    let none = gone e rest h.passing.sorted in
    let first = lookup_head (is_at (nat_cmp e.0)) e rest (is_at_eq e.0 e.0 ∙ same_number e.0) in
    record {
      passing = passing_more all rest e h.passing;
      filled =
          λ q over. ⊎_elim
          (λ (same : e.0 ≡ q). subst (λ n. IsFilled (Makes n) (get nat_cmp old n) (found all n)
          (get nat_cmp next n)) same
          (subst (λ o. IsFilled (Makes e.0) (get nat_cmp old e.0) o (get nat_cmp next e.0))
          (sym (first_of_all all rest e h.passing))
          (subst (λ o. IsFilled (Makes e.0) o (Some e.1) (get nat_cmp next e.0))
          (h.waits e.0 e.1 first) here)))
          (λ (apart : e.0 ≢ q).
          subst (λ o. IsFilled (Makes q) (get nat_cmp old q) (found all q) o)
          (sym (others q apart))
          (h.filled q (later e rest q apart ∙ over)))
          (cases_eq e.0 q);
      waits =
          λ q x at. ⊎_elim
          (λ (same : e.0 ≡ q). let clash : None ≡ Some x = sym none ∙ ap (found rest) same ∙ at in
          absurd (cc))
          (λ (apart : e.0 ≢ q). others q apart ∙ h.waits q x (later e rest q apart ∙ at))
          (cases_eq e.0 q);
    }

-- what stands at a number once an empty map was filled from two
pub filled_twice : {X Z : Type 0} (Makes Makes' : X → X → Type 0) (f : X → Z) (j : Z → Z → Z)
    (a b start first second : Option X) (c d e : Z)
    → start ≡ None → IsFilled Makes start a first → IsFilled Makes' first b second
    → ((v w : X) → a ≡ Some v → Makes v w → f w ≡ j (f v) (option_map_or f b d))
    → ((v w : X) → b ≡ Some v → Makes' v w → f w ≡ j (option_map_or f a c) (f v))
    → e ≡ j c d → option_map_or f second e ≡ j (option_map_or f a c) (option_map_or f b d)
filled_twice Makes Makes' f j (Some v) b start first second c d e is_none h k here there rest =
    let w = h.made v is_none refl in
    ap (λ o. option_map_or f o e) (k.kept w.0 w.2) ∙ here v w.0 refl w.1
filled_twice Makes Makes' f j None (Some v) start first second c d e is_none h k here there rest =
    let w = k.made v (h.nothing is_none refl) refl in
    ap (λ o. option_map_or f o e) w.2 ∙ there v w.0 refl w.1
filled_twice Makes Makes' f j None None start first second c d e is_none h k here there rest =
    ap (λ o. option_map_or f o e) (k.nothing (h.nothing is_none refl) refl) ∙ rest

-- .. from one, each value mapped
pub filled_once : {X Z : Type 0} (Makes : X → X → Type 0) (f : X → Z) (h : Z → Z)
    (a start new : Option X) (c d : Z) → start ≡ None → IsFilled Makes start a new
    → ((v w : X) → a ≡ Some v → Makes v w → f w ≡ h (f v)) → d ≡ h c
    → option_map_or f new d ≡ h (option_map_or f a c)
filled_once Makes f h (Some v) start new c d is_none fill here rest =
    let w = fill.made v is_none refl in
    ap (λ o. option_map_or f o d) w.2 ∙ here v w.0 refl w.1
filled_once Makes f h None start new c d is_none fill here rest =
    ap (λ o. option_map_or f o d) (fill.nothing is_none refl) ∙ rest

-- one turn of a loop that passes a reference to each entry
pub filling_turn : {V W : Type 0} (Makes : ℕ → V → W → Type 0) (old now next : BTreeMap ℕ W)
    (all s t : List (ℕ × V)) (r : Option (Bor ℕ × Bor V)) (x : Bor ℕ × Bor V)
    → r ≡ Some x → TakesFirst (deref_pair {K = ℕ} {X = V}) s r t → Filling Makes old now all s
    → IsFilled (Makes x.0.now) (get nat_cmp now x.0.now) (Some x.1.now) (get nat_cmp next x.0.now)
    → ((q : ℕ) → x.0.now ≢ q → get nat_cmp next q ≡ get nat_cmp now q)
    → Filling Makes old next all t
filling_turn Makes old now next all s t r x is step h =
    filling_more Makes old now next all t (deref_pair x)
    (subst (λ (es : List (ℕ × _)). Filling Makes old now all es)
    (rest_more deref_pair s t r x is step) h)

-- what follows from an answer
pub ok_from : {A E : Type 0} {P Q : A → Type 0} (r : Result A E) → ((a : A) → P a → Q a) → IfOk r P
    → IfOk r Q
ok_from (Ok a) from h = from a h
ok_from (Err e) from h = tt

pub err_from : {A E P Q : Type 0} (r : Result A E) → (P → Q) → OnErr r P → OnErr r Q
err_from (Ok a) from h = tt
err_from (Err e) from h = from h

-- ---- what holds of each entry

abbrev pub AtEach : {X : Type 0} → (ℕ → X → Type 0) → List (ℕ × X) → Type 0
AtEach P es = AllByRecursion (λ e. P e.0 e.1) es

-- one turn of a loop that has seen that it holds of the entry that it passes
pub each_turn : {X : Type 0} (P : ℕ → X → Type 0) (all s t : List (ℕ × X))
    (r : Option (Bor ℕ × Bor X)) (x : Bor ℕ × Bor X)
    → r ≡ Some x → TakesFirst (deref_pair {K = ℕ} {X = X}) s r t → (AtEach P s → AtEach P all)
    → P x.0.now x.1.now → AtEach P t → AtEach P all
each_turn P all s t r x is step h here later =
    h (subst (AtEach P) (sym (rest_more deref_pair s t r x is step)) (here, later))

-- it holds of what a look-up finds
pub each_found : {X : Type 0} (P : ℕ → X → Type 0) (es : List (ℕ × X)) → AtEach P es
    → (q : ℕ) (x : X) → found es q ≡ Some x → P q x
each_found P [] each q x is = absurd (cc)
each_found P (e ∷ es) each q x is =
    pick (each_found P es each.1 q x) (e.0 == q) refl (sym (found_step e es q) ∙ is)
  where
    pick : (found es q ≡ Some x → P q x) → (b : Bool) → (e.0 == q) ≡ b
        → (if b then Some e.1 else found es q) ≡ Some x → P q x
    pick later true same at =
        subst (λ (n : ℕ). P n x) (equal_from_test e.0 q same)
        (subst (P e.0) (some_is e.1 x at) each.0)
    pick later false same at = later at

-- when nothing is left
pub each_end : {X : Type 0} (P : ℕ → X → Type 0) (all rest : List (ℕ × X)) → rest ≡ []
    → (AtEach P rest → AtEach P all) → (q : ℕ) (x : X) → found all q ≡ Some x → P q x
each_end P all rest none h = each_found P all (h (subst (AtEach P) (sym none) tt))

-- ---- two maps side by side

-- each two entries have the same number, and this holds of their values
abbrev pub EntriesBeside : {X : Type 0} → (X → X → Type 0) → List (ℕ × X) → List (ℕ × X) → Type 0
EntriesBeside Of es fs = AllZip (λ p q. (p.0 ≡ q.0) × Of p.1 q.1) es fs

-- The entries that a loop over both has still to pass: there are as many of one as of the other,
-- and all are beside each other if these are.
pub record PassingBoth {X : Type 0} (Of : X → X → Type 0)
    (all others rest other_rest : List (ℕ × X)) : Type 0 where
  pub as_long : length rest ≡ length other_rest
  pub each : EntriesBeside Of rest other_rest → EntriesBeside Of all others

-- one turn of a loop that passes a reference to each entry of both
pub both_turn : {X : Type 0} (Of : X → X → Type 0) (all others s t s' t' : List (ℕ × X))
    (r r' : Option (Bor ℕ × Bor X)) (x y : Bor ℕ × Bor X)
    → r ≡ Some x → TakesFirst (deref_pair {K = ℕ} {X = X}) s r t
    → r' ≡ Some y → TakesFirst (deref_pair {K = ℕ} {X = X}) s' r' t'
    → x.0.now ≡ y.0.now → Of x.1.now y.1.now → PassingBoth Of all others s s'
    → PassingBoth Of all others t t'
both_turn Of all others s t s' t' r r' x y is step is' step' same here h =
    let first = rest_more deref_pair s t r x is step in
    let other = rest_more deref_pair s' t' r' y is' step' in
    record {
      as_long = omega (arith, h.as_long, ap length first, ap length other);
      each =
          λ later. h.each (subst (λ es. EntriesBeside Of es s') (sym first)
          (subst (EntriesBeside Of (deref_pair x ∷ t)) (sym other) ((same, here), later)));
    }

-- when nothing is left
pub both_end : {X : Type 0} (Of : X → X → Type 0) (all others rest other_rest : List (ℕ × X))
    → rest ≡ [] → PassingBoth Of all others rest other_rest → (q : ℕ)
    → AreBeside Of (found all q) (found others q)
both_end Of all others rest other_rest none h q =
    let other_none = empty_by_length other_rest (sym h.as_long ∙ ap length none) in
    let test = is_at (nat_cmp q) in
    lookup_clone (λ m n. m ≡ n) Of test (λ m n same. ap test (sym same)) all others
    (h.each (subst (λ es. EntriesBeside Of es other_rest) (sym none)
    (subst (EntriesBeside Of []) (sym other_none) tt)))

-- what holds of two values beside each other, and of none and none, holds of what two maps have
pub beside_holds : {V : Type 0} (Of : V → V → Type 0) (P : Option V → Option V → Type 0)
    → ((v w : V) → Of v w → P (Some v) (Some w)) → P None None
    → (a b : Option V) → AreBeside Of a b → P a b
beside_holds Of P here rest (Some v) (Some w) of = here v w of
beside_holds Of P here rest (Some v) None of = absurd (of)
beside_holds Of P here rest None (Some w) none = absurd (cc)
beside_holds Of P here rest None None none = rest

-- ---- a map once more

-- what is read of a clone
pub cloned : {X Z : Type 0} (C : X → X → Type 0) (f : X → Z) (d e : Z) (es fs : List (ℕ × X))
    → ((x y : X) → C x y → f y ≡ f x) → d ≡ e
    → AllZip (λ (p q : ℕ × X). (q.0 ≡ p.0) × C p.1 q.1) es fs → (q : ℕ)
    → option_map_or f (found fs q) d ≡ option_map_or f (found es q) e
cloned C f d e [] [] same rest each q = rest
cloned C f d e [] (y ∷ ys) same rest each q = absurd (each)
cloned C f d e (x ∷ xs) [] same rest each q = absurd (each)
cloned C f d e (x ∷ xs) (y ∷ ys) same rest each q =
    ap (λ o. option_map_or f o d) (found_step y ys q)
    ∙ ap (λ (n : ℕ). option_map_or f (if n == q then Some y.1 else found ys q) d) each.0.0
    ∙ pick (cloned C f d e xs ys same rest each.1 q) (x.0 == q)
    ∙ ap (λ o. option_map_or f o e) (sym (found_step x xs q))
  where
    pick : option_map_or f (found ys q) d ≡ option_map_or f (found xs q) e → (b : Bool)
        → option_map_or f (if b then Some y.1 else found ys q) d
        ≡ option_map_or f (if b then Some x.1 else found xs q) e
    pick later true = same x.1 y.1 each.0.1
    pick later false = later
