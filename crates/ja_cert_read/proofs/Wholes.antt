-- An object of which each key is written is built of what isn't absent.
use Rattle.std.proofs.Common.{◌≡◌, ◌≢◌, ◌==◌, ◌+◌, ◌-◌, ◌<◌, ◌≤◌, ◌⊎◌, nat_lt, ℕ, suc, zero, Bool, true, false, if◌then◌else◌, List, [], ◌∷◌, ◌++◌, map, length, get_or, Option, Some, refl, ap, sym, subst, ◌∙◌, inl, inr, arith, append_assoc, append-nil, lt-ltb}
use Rattle.std.specs.Prelude.{IsSome}
use Rattle.std.specs.List.{slice_get}
use Rattle.std.proofs.lemmas.List.{map-append}
use Rattle.std.proofs.lemmas.Option.{same_Some}
use Rattle.ja_base.proofs.Lists.{within_from_some}
use Rattle.std.proofs.lemmas.Bool.{eq-eqb, eqb-true, eqb-false, ltb-true, ltb-false, false≢true, cases_Bool}
use Rattle.ja_base.specs.declared.ids.Label.{Label}
use Rattle.ja_abstract.specs.declared.abstraction.Key.{Key}
use Rattle.ja_abstract.specs.declared.abstraction.Key.TheVariants as key
use Rattle.ja_abstract.specs.declared.abstraction.Slot.TheVariants as slot
use Rattle.ja_abstract.specs.AbstractValue.{AbstractProperty, absent_property, entry_property, join_properties, same_label}
use Rattle.ja_abstract.specs.AbstractState.{key_number, same_key}
use Rattle.ja_abstract.specs.Made.{own_of}
use Rattle.ja_abstract.specs.Writes as abstract
use Rattle.ja_abstract.specs.Writes.{replaced_at, strong_update}
use Rattle.ja_value.specs.declared.property.AProp.{AProp}
use Rattle.ja_value.specs.declared.value.AValue.{AValue}
use Rattle.ja_value.specs.Value.{property_of}
use Rattle.ja_aheap.specs.declared.heap.AHeap.{AHeap}
use Rattle.ja_aheap.specs.declared.made.Made.{Made}
use Rattle.ja_aheap.specs.declared.writes.Write.{Write}
use Rattle.ja_aheap.specs.KeysBelow.{at_keys_below, is_key_below}
use Rattle.ja_aheap.specs.Heap.{heap_of, strongly_in, with_own_in, HeapMap}
use Rattle.ja_aheap.specs.Objects.{listed_of, own_in, write_of}
use Rattle.ja_aheap.proofs.HeapLaws.{other_key_entry}
use Rattle.ja_aheap.proofs.UpdateLemmas.{first_below, other_key, rest_below, AreBelow}
use Rattle.ja_astate.proofs.StateLemmas.{state_with}
use Rattle.ja_cert_read.specs.code.Building.{number_at, IsWhole, LeavesOut}

-- ---- places of keys

abbrev IsName : ℕ → ℕ → Type 0
IsName names n = (n < names) × (number_at names n ≡ 6 + n)

abbrev IsRest : ℕ → ℕ → Type 0
IsRest names n = (names ≤ n) × (n < names + 2) × (number_at names n ≡ 4 + (n - names))

abbrev IsSlot : ℕ → ℕ → Type 0
IsSlot names n = (names + 2 ≤ n) × (number_at names n ≡ n - names - 2)

name_at : (names n : ℕ) → n < names → IsName names n
name_at names n h = (h, rw (lt-ltb n names h) refl)

not_below : (n m : ℕ) → m ≤ n → nat_lt n m ≡ false
not_below n m h = by_test (nat_lt n m) refl
  where
    by_test : (b : Bool) → nat_lt n m ≡ b → b ≡ false
    by_test true is = absurd (let below : n < m = ltb-true n m is in omega (arith, h, below))
    by_test false is = refl

rest_at : (names n : ℕ) → names ≤ n → n < names + 2 → IsRest names n
rest_at names n h k = (h, k, rw (not_below n names h, lt-ltb n (names + 2) k) refl)

slot_at : (names n : ℕ) → names + 2 ≤ n → IsSlot names n
slot_at names n h =
    let above : names ≤ n = omega (arith, h) in
    (h, rw (not_below n names above, not_below n (names + 2) h) refl)

spot : (names n : ℕ) → IsName names n ⊎ (IsRest names n ⊎ IsSlot names n)
spot names n = by_name (nat_lt n names) refl
  where
    by_rest : names ≤ n → (b : Bool) → nat_lt n (names + 2) ≡ b
        → IsName names n ⊎ (IsRest names n ⊎ IsSlot names n)
    by_rest h true is = inr (inl (rest_at names n h (ltb-true n (names + 2) is)))
    by_rest h false is = inr (inr (slot_at names n (ltb-false n (names + 2) is)))

    by_name : (b : Bool) → nat_lt n names ≡ b
        → IsName names n ⊎ (IsRest names n ⊎ IsSlot names n)
    by_name true is = inl (name_at names n (ltb-true n names is))
    by_name false is = by_rest (ltb-false n names is) (nat_lt n (names + 2)) refl

-- each key has one place
one_place : (names m n : ℕ) → m < names + 6 → n < names + 6
    → number_at names m ≡ number_at names n → m ≡ n
one_place names m n h k same = elim (spot names m) [
  | inl a ↦ elim (spot names n) [
    | inl b ↦ omega (arith, a.1, b.1, same)
    | inr (inl b) ↦ absurd (omega (arith, a.1, b.0, b.1, b.2, same))
    | inr (inr b) ↦ absurd (omega (arith, a.1, b.0, b.1, k, same))
  ]
  | inr (inl a) ↦ elim (spot names n) [
    | inl b ↦ absurd (omega (arith, a.0, a.1, a.2, b.1, same))
    | inr (inl b) ↦ omega (arith, a.0, a.1, a.2, b.0, b.1, b.2, same)
    | inr (inr b) ↦ absurd (omega (arith, a.0, a.1, a.2, b.0, b.1, k, same))
  ]
  | inr (inr a) ↦ elim (spot names n) [
    | inl b ↦ absurd (omega (arith, a.0, a.1, h, b.1, same))
    | inr (inl b) ↦ absurd (omega (arith, a.0, a.1, h, b.0, b.1, b.2, same))
    | inr (inr b) ↦ omega (arith, a.0, a.1, b.0, b.1, same)
  ]
]

abbrev HasPlace : ℕ → Key → Type 0
HasPlace names k = (n : ℕ) × (n < names + 6) × (key_number k ≡ number_at names n)

has_place : (names : ℕ) (k : Key) → is_key_below names k ≡ true → HasPlace names k
has_place names (key.Name m) h =
    let below : m.0 < names = ltb-true m.0 names h in
    (m.0, omega (arith, below), sym (name_at names m.0 below).1)
has_place names key.OtherIndex h =
    let r = rest_at names names (omega arith) (omega arith) in
    (names, omega arith, omega (arith, r.2))
has_place names key.OtherName h =
    let r = rest_at names (names + 1) (omega arith) (omega arith) in
    (names + 1, omega arith, omega (arith, r.2))
has_place names (key.Slot slot.Prototype) h =
    let r = slot_at names (names + 2) (omega arith) in
    (names + 2, omega arith, omega (arith, r.1))
has_place names (key.Slot slot.Outer) h =
    let r = slot_at names (names + 3) (omega arith) in
    (names + 3, omega arith, omega (arith, r.1))
has_place names (key.Slot slot.Scope) h =
    let r = slot_at names (names + 4) (omega arith) in
    (names + 4, omega arith, omega (arith, r.1))
has_place names (key.Slot slot.Value) h =
    let r = slot_at names (names + 5) (omega arith) in
    (names + 5, omega arith, omega (arith, r.1))

-- ---- writes of each key

whole_long : (names n : ℕ) (ws : List abstract.Write) → IsWhole names n ws
    → n + length ws ≡ names + 6
whole_long names n [] whole = omega (arith, whole)
whole_long names n (w ∷ ws) whole = omega (arith, whole_long names (n + 1) ws whole.2)

other_place : (names m n : ℕ) (j k : Key) → m < names + 6 → n < names + 6 → m ≢ n
    → key_number j ≡ number_at names m → key_number k ≡ number_at names n → same_key j k ≡ false
other_place names m n j k h i apart at_m at_n = by_test (same_key j k) refl
  where
    by_test : (b : Bool) → same_key j k ≡ b → b ≡ false
    by_test true is = absurd (apart (one_place names m n h i
        (sym at_m ∙ eqb-true (key_number j) (key_number k) is ∙ at_n)))
    by_test false is = refl

-- those behind a key's place don't have it
whole_missing : (names n place : ℕ) (ws : List abstract.Write)
    (ms : List (Key × AbstractProperty)) (k : Key) → IsWhole names n ws → LeavesOut ws ms
    → place < n → key_number k ≡ number_at names place → own_of ms k ≡ absent_property
whole_missing names n place [] ms k whole left behind at_place =
    ap (λ (qs : List (Key × AbstractProperty)). own_of qs k) left
whole_missing names n place (w ∷ ws) ms k whole left behind at_place =
    let long = whole_long names n (w ∷ ws) whole in
    let other : same_key w.key k ≡ false =
    other_place names n place w.key k (omega (arith, long)) (omega (arith, long, behind))
    (λ same. omega (arith, same, behind)) whole.1 at_place in
    let later : place < n + 1 = omega (arith, behind) in
    elim left [
      | inl gone ↦ whole_missing names (n + 1) place ws ms k whole.2 gone.1 later at_place
      | inr kept ↦
          ap (λ (qs : List (Key × AbstractProperty)). own_of qs k) kept.1
          ∙ ap (λ (b : Bool). if b then w.property else own_of kept.0 k) other
          ∙ whole_missing names (n + 1) place ws kept.0 k whole.2 kept.2 later at_place
    ]

whole_written : (names n place : ℕ) (ws : List abstract.Write)
    (ms : List (Key × AbstractProperty)) (k : Key) (q : AbstractProperty) → IsWhole names n ws
    → LeavesOut ws ms → n ≤ place → place < names + 6 → key_number k ≡ number_at names place
    → own_of ms k ≡ replaced_at ws q k
whole_written names n place [] ms k q whole left from below at_place =
    absurd (omega (arith, whole, from, below))
whole_written names n place (w ∷ ws) ms k q whole left from below at_place =
    by_test (same_key w.key k) refl (λ rest behind later.
    whole_written names (n + 1) place ws rest k q whole.2 behind later below at_place)
  where
    before : AbstractProperty
    before = replaced_at ws q k

    by_test : (b : Bool) → same_key w.key k ≡ b
        → ((rest : List (Key × AbstractProperty)) → LeavesOut ws rest → n + 1 ≤ place
        → own_of rest k ≡ before) → own_of ms k ≡ replaced_at (w ∷ ws) q k
    by_test true is written =
        let here : n ≡ place = one_place names n place
        (omega (arith, whole_long names n (w ∷ ws) whole)) below
        (sym whole.1 ∙ eqb-true (key_number w.key) (key_number k) is ∙ at_place) in
        let set : replaced_at (w ∷ ws) q k ≡ w.property =
        ap (λ (b : Bool). if b then (if w.joins then join_properties before w.property
        else w.property) else before) is
        ∙ ap (λ (b : Bool). if b then join_properties before w.property else w.property) whole.0 in
        elim left [
          | inl gone ↦
              whole_missing names (n + 1) place ws ms k whole.2 gone.1 (omega (arith, here)) at_place
              ∙ sym gone.0 ∙ sym set
          | inr kept ↦
              ap (λ (qs : List (Key × AbstractProperty)). own_of qs k) kept.1
              ∙ ap (λ (b : Bool). if b then w.property else own_of kept.0 k) is ∙ sym set
        ]
    by_test false is written =
        let later : n + 1 ≤ place = next_place (cases_Bool (n == place)) in
        let kept_so : before ≡ replaced_at (w ∷ ws) q k =
        sym (ap (λ (b : Bool). if b then (if w.joins then join_properties before w.property
        else w.property) else before) is) in
        elim left [
          | inl gone ↦ written ms gone.1 later ∙ kept_so
          | inr kept ↦
              ap (λ (qs : List (Key × AbstractProperty)). own_of qs k) kept.1
              ∙ ap (λ (b : Bool). if b then w.property else own_of kept.0 k) is
              ∙ written kept.0 kept.2 later ∙ kept_so
        ]
      where
        next_place : ((n == place) ≡ true) ⊎ ((n == place) ≡ false) → n + 1 ≤ place
        next_place (inl same) =
            let here : key_number w.key ≡ key_number k =
            whole.1 ∙ ap (number_at names) (eqb-true n place same) ∙ sym at_place in
            absurd (false≢true (sym is ∙ eq-eqb (key_number w.key) (key_number k) here))
        next_place (inr apart) =
            let other : n ≢ place = eqb-false n place apart in
            omega (arith, from, other)

-- ---- an object of a heap

replaced_beyond : (names : ℕ) (ws : List Write) (q : AbstractProperty) (k : Key)
    → AreBelow names ws → is_key_below names k ≡ false → replaced_at (map write_of ws) q k ≡ q
replaced_beyond names [] q k below beyond = refl
replaced_beyond names (w ∷ ws) q k below beyond =
    let before = replaced_at (map write_of ws) q k in
    let x = write_of w in
    ap (λ (b : Bool). if b then (if x.joins then join_properties before x.property else x.property)
    else before) (other_key names w.key k (first_below names w ws below) beyond)
    ∙ replaced_beyond names ws q k (rest_below names w ws below) beyond

module _ (h : AHeap) (l : Label) (ws : List Write) (made : Made)
    (whole : IsWhole (heap_of h).names 0 (map write_of ws))
    (left : LeavesOut (map write_of ws) (map listed_of made.listed.items))
    (below : AreBelow (heap_of h).names ws) where
  abbrev names : ℕ
  names = (heap_of h).names

  own_written : (m : Label) (j : Key) → at_keys_below names (own_in made) j
      ≡ replaced_at (map write_of ws) ((heap_of h).property m j) j
  own_written m j = by_test (is_key_below names j) refl
    where
      by_test : (b : Bool) → is_key_below names j ≡ b
          → (if b then own_in made j else entry_property)
          ≡ replaced_at (map write_of ws) ((heap_of h).property m j) j
      by_test true is =
          let p = has_place names j is in
          whole_written names 0 p.0 (map write_of ws) (map listed_of made.listed.items) j
          ((heap_of h).property m j) whole left (omega arith) p.1 p.2
      by_test false is =
          sym (other_key_entry h m j is)
          ∙ sym (replaced_beyond names ws ((heap_of h).property m j) j below is)

  heap_written : with_own_in (heap_of h) l (own_in made)
      ≡ strongly_in (heap_of h) l (map write_of ws)
  heap_written = λ i. record (heap_of h) {
    property = λ m j. (ap (λ (q : AbstractProperty). if same_label l m then q
        else (heap_of h).property m j) (own_written m j)) i;
  }

  pub object_written : (registers : List AValue) (next : HeapMap)
      → next ≡ with_own_in (heap_of h) l (own_in made)
      → state_with registers next
      ≡ strong_update (state_with registers (heap_of h)) l (map write_of ws)
  object_written registers next is = ap (state_with registers) (is ∙ heap_written)

-- ---- what is left out, one after another

pub left_out_none : LeavesOut [] []
left_out_none = refl

pub left_out_more : (ws : List abstract.Write) (w : abstract.Write)
    (ms : List (Key × AbstractProperty)) → LeavesOut ws ms → w.property ≡ absent_property
    → LeavesOut (ws ++ w ∷ []) ms
left_out_more [] w ms left absent = inl (absent, left)
left_out_more (v ∷ ws) w ms left absent = elim left [
  | inl gone ↦ inl (gone.0, left_out_more ws w ms gone.1 absent)
  | inr kept ↦ inr (kept.0, kept.1, left_out_more ws w kept.0 kept.2 absent)
]

pub left_in_more : (ws : List abstract.Write) (w : abstract.Write)
    (ms : List (Key × AbstractProperty)) → LeavesOut ws ms
    → LeavesOut (ws ++ w ∷ []) (ms ++ (w.key, w.property) ∷ [])
left_in_more [] w ms left =
    inr ([], ap (λ (qs : List (Key × AbstractProperty)). qs ++ (w.key, w.property) ∷ []) left, refl)
left_in_more (v ∷ ws) w ms left = elim left [
  | inl gone ↦ inl (gone.0, left_in_more ws w ms gone.1)
  | inr kept ↦ inr (
    kept.0 ++ (w.key, w.property) ∷ [],
    ap (λ (qs : List (Key × AbstractProperty)). qs ++ (w.key, w.property) ∷ []) kept.1,
    left_in_more ws w kept.0 kept.2,
  )
]

-- ---- the loops

-- the write at each place sets the key of that place
abbrev pub SetsAt : ℕ → ℕ → Write → Type 0
SetsAt count n w = (w.joins ≡ false) × (key_number w.key ≡ number_at count n)

-- .. up to a place
abbrev pub SetUpTo : ℕ → List Write → ℕ → Type 0
SetUpTo count ws n = (i : ℕ) (w : Write) → i < n → slice_get ws i ≡ Some w → SetsAt count i w

pub set_none : (count : ℕ) (ws : List Write) → SetUpTo count ws 0
set_none count ws i w below at = absurd (omega (arith, below))

pub set_more : (count : ℕ) (ws : List Write) (n : ℕ) (x : Write) → SetUpTo count ws n
    → slice_get ws n ≡ Some x → SetsAt count n x → SetUpTo count ws (n + 1)
set_more count ws n x before here sets i w below at = by_place (cases_Bool (i == n))
  where
    by_place : ((i == n) ≡ true) ⊎ ((i == n) ≡ false) → SetsAt count i w
    by_place (inl is) =
        let same : i ≡ n = eqb-true i n is in
        let found : x ≡ w = same_Some x w (sym here ∙ ap (slice_get ws) (sym same) ∙ at) in
        subst (λ m. SetsAt count m w) (sym same) (subst (SetsAt count n) found sets)
    by_place (inr apart) =
        let other : i ≢ n = eqb-false i n apart in
        before i w (omega (arith, below, other)) at

whole_from : (count n : ℕ) (ws : List Write)
    → ((i : ℕ) (w : Write) → slice_get ws i ≡ Some w → SetsAt count (n + i) w)
    → n + length ws ≡ count + 6 → IsWhole count n (map write_of ws)
whole_from count n [] sets long = omega (arith, long)
whole_from count n (w ∷ ws) sets long =
    let first : n + 0 ≡ n = omega arith in
    let here : SetsAt count n w = subst (λ m. SetsAt count m w) first (sets 0 w refl) in (
      here.0,
      here.1,
      whole_from count (n + 1) ws (λ i v at.
          let later : n + suc i ≡ n + 1 + i = omega arith in
          subst (λ m. SetsAt count m v) later (sets (suc i) v at)) (omega (arith, long)),
    )

pub set_all : (count : ℕ) (ws : List Write) → SetUpTo count ws (length ws)
    → length ws ≡ count + 6 → IsWhole count 0 (map write_of ws)
set_all count ws sets long =
    whole_from count 0 ws (λ i w at.
    let place : i ≡ 0 + i = omega arith in
    subst (λ m. SetsAt count m w) place
    (sets i w (within_from_some ws i (subst (λ (o : Option Write). IsSome o) (sym at) refl)) at))
    (omega (arith, long))

pub write_at : (ws : List Write) (i : ℕ) (w : Write) → i < length ws → w ≡ get_or ws i w
    → slice_get ws i ≡ Some w
write_at [] i w within is = absurd (omega (arith, within))
write_at (v ∷ ws) zero w within is = ap Some (sym is)
write_at (v ∷ ws) (suc i) w within is = write_at ws i w (omega (arith, within)) is

-- what is left of the writes so far, and what they leave out
pub record Leaving (all rest : List Write) (listed : List (Key × AProp)) : Type 0 where
  pub front : List Write
  pub are : all ≡ front ++ rest
  pub left : LeavesOut (map write_of front) (map listed_of listed)

pub leaving_none : (all rest : List Write) (listed : List (Key × AProp)) → rest ≡ all
    → listed ≡ [] → Leaving all rest listed
leaving_none all rest listed from none = record {
  front = [];
  are = sym from;
  left = ap (map listed_of) none;
}

leaving_next : (front rest old : List Write) (w : Write) → old ≡ w ∷ rest
    → front ++ old ≡ (front ++ w ∷ []) ++ rest
leaving_next front rest old w next =
    ap (λ (ws : List Write). front ++ ws) next ∙ sym (append_assoc front (w ∷ []) rest)

pub leaving_out : (all old rest : List Write) (w : Write) (listed : List (Key × AProp))
    → Leaving all old listed → old ≡ w ∷ rest → property_of w.property ≡ absent_property
    → Leaving all rest listed
leaving_out all old rest w listed before next absent = record {
  front = before.front ++ w ∷ [];
  are = before.are ∙ leaving_next before.front rest old w next;
  left =
      subst (λ (ws : List abstract.Write). LeavesOut ws (map listed_of listed))
      (sym (map-append write_of before.front (w ∷ [])))
      (left_out_more (map write_of before.front) (write_of w) (map listed_of listed) before.left
      absent);
}

pub leaving_in : (all old rest : List Write) (w : Write) (listed more : List (Key × AProp))
    → Leaving all old listed → old ≡ w ∷ rest → more ≡ listed ++ (w.key, w.property) ∷ []
    → Leaving all rest more
leaving_in all old rest w listed more before next push = record {
  front = before.front ++ w ∷ [];
  are = before.are ∙ leaving_next before.front rest old w next;
  left =
      subst (λ (ws : List abstract.Write). LeavesOut ws (map listed_of more))
      (sym (map-append write_of before.front (w ∷ [])))
      (subst (LeavesOut (map write_of before.front ++ write_of w ∷ []))
      (sym (ap (map listed_of) push ∙ map-append listed_of listed ((w.key, w.property) ∷ [])))
      (left_in_more (map write_of before.front) (write_of w) (map listed_of listed) before.left));
}

pub leaving_all : (all rest : List Write) (listed : List (Key × AProp))
    → Leaving all rest listed → rest ≡ [] → LeavesOut (map write_of all) (map listed_of listed)
leaving_all all rest listed before none =
    subst (λ (ws : List Write). LeavesOut (map write_of ws) (map listed_of listed))
    (sym (before.are ∙ ap (λ (ws : List Write). before.front ++ ws) none ∙ append-nil before.front))
    before.left
