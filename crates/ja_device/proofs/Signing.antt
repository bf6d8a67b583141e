-- Names and signatures of devices: which of them stands where, and what one more of them is and one
-- fewer.
use Rattle.std.proofs.Common.{◌≡◌, ℕ, zero, suc, ◌+◌, ◌<◌, ◌≤◌, ◌&&◌, true, List, [], ◌∷◌, ◌++◌, length, map, take, drop, get_or, Some, None, refl, ap, sym, ◌∙◌, subst, arith, ◌⊎◌, inl, inr}
use Rattle.std.specs.Prelude.{slice_get, slice_set, Result, Ok, Err}
use Rattle.std.specs.Option.{option_map, is_some}
use Rattle.std.proofs.lemmas.Bool.{false≢true, cases_lt}
use Rattle.std.proofs.lemmas.Bool.Decides.{nat_tests}
use Rattle.std.proofs.lemmas.Grind.{common_steps}
use Rattle.std.proofs.lemmas.List.{length-append, length-take, length-drop, length-map, map-append, map-set, take-map, drop-map, take_more}
use Rattle.std.proofs.lemmas.Option.{same_Some, slice_get-map, slice_get_read, slice_get_within, get_or_from_slice_get}
use Rattle.ja_base.proofs.Lists.{element_within}
use borrow.Author.Count.{below_more}
use Rattle.ja_prim.specs.declared.primitive.Primitive.{Primitive}
use Rattle.ja_prim.specs.declared.signature.Kinds.{Kinds}
use Rattle.ja_prim.specs.declared.signature.Signature.{Signature}
use Rattle.ja_machine.proofs.Lists.{all_from, all_at, all_append}
use Rattle.ja_device.specs.Devices.{Seen, signature_of, IsCalled, IsAsked, failed_after}
use Rattle.ja_device.specs.Signatures.{is_fit, is_identifier, has_kind, AreSignatures, IsFirstAt, IsRefused, IsPosition}
use Rattle.ja_device.specs.code.Signatures.{IsFaultBehind}
use Rattle.ja_device.specs.declared.fault.CallFault.{CallFault}
use Rattle.ja_device.specs.declared.fault.CallFault.TheVariants as call
use Rattle.ja_device.specs.declared.fault.DevicesFault.{DevicesFault}
use Rattle.ja_device.specs.declared.fault.DevicesFault.TheVariants.{TooMany, BadName, NoKinds, Twice}

-- ---- lists

-- what is seen at an index
pub seen_at : {A B : Type 0} (f : A → B) (xs : List A) (i : ℕ) (x : A) → i < length xs
    → x ≡ get_or xs i x → slice_get (map f xs) i ≡ Some (f x)
seen_at f xs i x within is =
    slice_get-map f xs i ∙ ap (option_map f) (slice_get_read xs (length xs) i x refl within is)

-- what is seen through another view
pub seen_through : {A B C : Type 0} (f : B → C) (g : A → B) (xs : List A)
    → map (λ x. f (g x)) xs ≡ map f (map g xs)
seen_through f g [] = refl
seen_through f g (x ∷ xs) = ap (λ ys. f (g x) ∷ ys) (seen_through f g xs)

-- what stands in a front stands in the list
pub front_at : {X : Type 0} (xs : List X) (n i : ℕ) (x : X) → slice_get (take n xs) i ≡ Some x
    → slice_get xs i ≡ Some x
front_at xs zero i x e = absurd (false≢true (ap is_some e))
front_at [] (suc n) i x e = absurd (false≢true (ap is_some e))
front_at (y ∷ ys) (suc n) zero x e = e
front_at (y ∷ ys) (suc n) (suc i) x e = front_at ys n i x e

-- what stands in a list with one more at its end
pub one_more_at : {X : Type 0} (xs : List X) (last : X) (i : ℕ) (x : X)
    → slice_get (xs ++ last ∷ []) i ≡ Some x
    → (slice_get xs i ≡ Some x) ⊎ ((i ≡ length xs) × (x ≡ last))
one_more_at [] last zero x e = inr (refl, sym (same_Some last x e))
one_more_at [] last (suc i) x e = absurd (false≢true (ap is_some e))
one_more_at (y ∷ ys) last zero x e = inl e
one_more_at (y ∷ ys) last (suc i) x e =
    elim (one_more_at ys last i x e) [ inl f ↦ inl f | inr f ↦ inr (ap suc f.0, f.1) ]

-- a front with the next
front_with : {X : Type 0} (xs : List X) (i : ℕ) (x : X) → slice_get xs i ≡ Some x
    → take (i + 1) xs ≡ take i xs ++ x ∷ []
front_with xs i x at =
    take_more xs i x (slice_get_within xs i x at)
    ∙ ap (λ y. take i xs ++ y ∷ []) (get_or_from_slice_get xs i x x at)

-- what is seen where one is taken out
pub one_fewer_seen : {A B : Type 0} (f : A → B) (xs ys : List A) (n : ℕ)
    → ys ≡ take n xs ++ drop (suc n) xs → map f ys ≡ take n (map f xs) ++ drop (suc n) (map f xs)
one_fewer_seen f xs ys n is = ap (λ zs. map f zs) is ∙ simp (map-append, take-map, drop-map)

-- where an entry stood before the one of an index was taken out
abbrev place_before : ℕ → ℕ → ℕ
place_before zero i = suc i
place_before (suc n) zero = zero
place_before (suc n) (suc i) = suc (place_before n i)

one_place : (n i j : ℕ) → place_before n i ≡ place_before n j → i ≡ j
one_place zero i j e = omega arith
one_place (suc n) zero zero e = refl
one_place (suc n) zero (suc j) e = absurd (omega arith)
one_place (suc n) (suc i) zero e = absurd (omega arith)
one_place (suc n) (suc i) (suc j) e = ap suc (one_place n i j (omega arith))

one_fewer_at : {X : Type 0} (xs : List X) (n i : ℕ)
    → slice_get (take n xs ++ drop (suc n) xs) i ≡ slice_get xs (place_before n i)
one_fewer_at [] zero i = refl
one_fewer_at [] (suc n) i = refl
one_fewer_at (x ∷ xs) zero i = refl
one_fewer_at (x ∷ xs) (suc n) zero = refl
one_fewer_at (x ∷ xs) (suc n) (suc i) = one_fewer_at xs n i

-- ---- names

module _ (names : List (List ℕ)) (name : List ℕ) where
  -- none of so many is the name
  abbrev pub NoneBelow : ℕ → Type 0
  NoneBelow n = (k : ℕ) → k < n → slice_get names k ≡ Some name → ⊥

  -- the first that is it
  pub first_here : (i : ℕ) (here : List ℕ) → slice_get names i ≡ Some here → here ≡ name
      → NoneBelow i → IsPosition names name (Some i)
  first_here i here at same none = (
    at ∙ ap (λ n. Some n) same,
    λ j e. elim (cases_lt j i)
        [ inl less ↦ absurd (none j less e) | inr more ↦ more ],
  )

  -- one more that isn't it
  pub none_more : (i : ℕ) (here : List ℕ) → slice_get names i ≡ Some here → (here ≡ name → ⊥)
      → NoneBelow i → NoneBelow (i + 1)
  none_more i here at other none =
      below_more (λ k. slice_get names k ≡ Some name → ⊥) i none
      (λ e. other (same_Some here name (sym at ∙ e)))

  -- none of all is it
  pub none_of_all : (n : ℕ) → length names ≤ n → NoneBelow n → IsPosition names name None
  none_of_all n all none i e = let within : i < length names = slice_get_within names i name e in
      none i (omega arith) e

abbrev names_of : List Signature → List (List ℕ)
names_of ss = map (λ s. s.name) ss

-- no name of theirs is the name of one
none_has : (ss : List Signature) (name : List ℕ) → IsPosition (names_of ss) name None
    → (i : ℕ) (t : Signature) → slice_get ss i ≡ Some t → t.name ≡ name → ⊥
none_has ss name none i t at same =
    none i (slice_get-map (λ (s : Signature). s.name) ss i
    ∙ ap (option_map (λ (s : Signature). s.name)) at ∙ ap (λ n. Some n) same)

-- the one of an index has the name
one_has : (ss : List Signature) (name : List ℕ) (i : ℕ) → IsPosition (names_of ss) name (Some i)
    → (t : Signature) × (slice_get ss i ≡ Some t) × (t.name ≡ name)
one_has ss name i first =
    let within : i < length (names_of ss) = slice_get_within (names_of ss) i name first.0 in
    let there : (t : Signature) × (slice_get ss i ≡ Some t) = element_within ss i
    (omega (arith, length-map ss (λ (s : Signature). s.name))) in (
      there.0,
      there.1,
      same_Some there.0.name name
          (sym (slice_get-map (λ (s : Signature). s.name) ss i
          ∙ ap (option_map (λ (s : Signature). s.name)) there.1) ∙ first.0),
    )

-- ---- signatures

-- a name and kinds of a device make it fit
pub fit_by : (s : Signature) → is_identifier s.name ≡ true → has_kind s.kinds ≡ true
    → is_fit s ≡ true
fit_by s named kinded = ap (λ b. b && has_kind s.kinds) named ∙ kinded

-- one that is fit and has a name of its own stands behind the others
pub one_more : (ss : List Signature) (s : Signature) → AreSignatures ss → length ss < 64
    → IsFaultBehind ss s None → AreSignatures (ss ++ s ∷ [])
one_more ss s are few behind = record {
  few = omega (arith, length-append ss (s ∷ []));
  fit = all_append (λ t. is_fit t ≡ true) ss (s ∷ []) are.fit (behind.0, tt);
  distinct =
      λ i j t u t_at u_at same. apart i j t u (one_more_at ss s i t t_at)
      (one_more_at ss s j u u_at) same;
}
  where
    apart : (i j : ℕ) (t u : Signature) → (slice_get ss i ≡ Some t) ⊎ ((i ≡ length ss) × (t ≡ s))
        → (slice_get ss j ≡ Some u) ⊎ ((j ≡ length ss) × (u ≡ s)) → t.name ≡ u.name → i ≡ j
    apart i j t u (inl a) (inl b) same = are.distinct i j t u a b same
    apart i j t u (inl a) (inr b) same =
        absurd (behind.1 i t a (same ∙ ap (λ (v : Signature). v.name) b.1))
    apart i j t u (inr a) (inl b) same =
        absurd (behind.1 j u b (sym same ∙ ap (λ (v : Signature). v.name) a.1))
    apart i j t u (inr a) (inr b) same = a.0 ∙ sym b.0

-- .. so a front with one more can be a program's too
pub front_more : (ss : List Signature) (i : ℕ) (s : Signature) → slice_get ss i ≡ Some s
    → length ss ≤ 64 → AreSignatures (take i ss) → IsFaultBehind (take i ss) s None
    → AreSignatures (take (i + 1) ss)
front_more ss i s at few are behind =
    let within : i < length ss = slice_get_within ss i s at in
    subst AreSignatures (sym (front_with ss i s at))
    (one_more (take i ss) s are (omega (arith, length-take i ss)) behind)

-- where one is taken out the others stay apart
pub one_fewer : (ss : List Signature) (n : ℕ) → AreSignatures ss
    → AreSignatures (take n ss ++ drop (suc n) ss)
one_fewer ss n are = record {
  few = let few : length ss ≤ 64 = are.few in
      omega (
        arith,
        length-append (take n ss) (drop (suc n) ss),
        length-take n ss,
        length-drop (suc n) ss,
      );
  fit =
      all_from (λ t. is_fit t ≡ true) (take n ss ++ drop (suc n) ss)
      (λ i t e. all_at (λ s. is_fit s ≡ true) ss are.fit (place_before n i) t
      (sym (one_fewer_at ss n i) ∙ e));
  distinct =
      λ i j t u t_at u_at same. one_place n i j
      (are.distinct (place_before n i) (place_before n j) t u (sym (one_fewer_at ss n i) ∙ t_at)
      (sym (one_fewer_at ss n j) ∙ u_at) same);
}

-- their names are short
short_name : (ss : List Signature) (i : ℕ) (s : Signature) → AreSignatures ss
    → slice_get ss i ≡ Some s → length s.name ≤ 64
short_name ss i s are at =
    let fit : is_fit s ≡ true = all_at (λ t. is_fit t ≡ true) ss are.fit i s at in
    grind (arith, common_steps, nat_tests)

module _ {D : Type 0} (seen : D → Seen) where
  -- the signatures of a list are those of what is seen of it
  pub signatures_seen : (xs ys : List D) → xs ≡ ys
      → map (λ d. signature_of (seen d)) xs ≡ map signature_of (map seen ys)
  signatures_seen xs ys same =
      seen_through signature_of seen xs ∙ ap (λ zs. map signature_of (map seen zs)) same

  module _ (ds : List D) (i : ℕ) (d : D) (within : i < length ds) (is : d ≡ get_or ds i d) where
    signature_at : slice_get (map signature_of (map seen ds)) i ≡ Some (signature_of (seen d))
    signature_at =
        ap (λ ss. slice_get ss i) (sym (signatures_seen ds ds refl))
        ∙ seen_at (λ e. signature_of (seen e)) ds i d within is

    -- the name of each device is short
    pub short_seen : AreSignatures (map signature_of (map seen ds)) → length (seen d).name ≤ 64
    short_seen are =
        short_name (map signature_of (map seen ds)) i (signature_of (seen d)) are signature_at

    -- behind the signatures so far stands that of the next
    pub next_signature : (so_far next : List Signature) (name : List ℕ) (kinds : Kinds)
        → so_far ≡ take i (map signature_of (map seen ds)) → name ≡ (seen d).name
        → kinds ≡ (seen d).kinds → next ≡ so_far ++ record { name = name; kinds = kinds } ∷ []
        → next ≡ take (i + 1) (map signature_of (map seen ds))
    next_signature so_far next name kinds before named kinded is_next =
        is_next ∙ (λ j. before j ++ record { name = named j; kinds = kinded j } ∷ [])
        ∙ sym (front_with (map signature_of (map seen ds)) i (signature_of (seen d))
        signature_at)

-- ---- faults

module _ (ss : List Signature) (s : Signature) (names : List (List ℕ)) (name : List ℕ)
    (names_are : names ≡ names_of ss) (name_is : name ≡ s.name) (fit : is_fit s ≡ true) where
  -- behind those before it stands a fit one whose name none of them has
  pub stands_behind : IsPosition names name None → IsFaultBehind ss s None
  stands_behind none = (
    fit,
    none_has ss s.name (subst (λ n. IsPosition (names_of ss) n None) name_is
        (subst (λ ns. IsPosition ns name None) names_are none)),
  )

  -- .. and not one whose name is that of an earlier one
  pub twice_behind : (first index : ℕ) → index ≡ length ss → IsPosition names name (Some first)
      → IsFaultBehind ss s (Some (Twice first index))
  twice_behind first index is at = (
    is,
    fit,
    one_has ss s.name first (subst (λ n. IsPosition (names_of ss) n (Some first))
        name_is (subst (λ ns. IsPosition ns name (Some first)) names_are at)),
  )

-- one that can't stand behind those before it is why all are refused
pub refused_behind : (ss : List Signature) (i : ℕ) (s : Signature) (fault : DevicesFault)
    → slice_get ss i ≡ Some s → length ss ≤ 64 → AreSignatures (take i ss)
    → IsFaultBehind (take i ss) s (Some fault) → IsRefused ss fault
refused_behind ss i s fault at few before = of fault
  where
    within : i < length ss
    within = slice_get_within ss i s at

    first_at : (index : ℕ) → index ≡ length (take i ss) → IsFirstAt ss index s
    first_at index is =
        let same : index ≡ i = omega (arith, length-take i ss, within) in
        record {
          few = few;
          at = ap (slice_get ss) same ∙ at;
          before = subst (λ k. AreSignatures (take k ss)) (sym same) before;
        }

    of : (f : DevicesFault) → IsFaultBehind (take i ss) s (Some f) → IsRefused ss f
    of TooMany behind = absurd behind
    of (BadName index) behind = (s, first_at index behind.0, behind.1)
    of (NoKinds index) behind = (s, first_at index behind.0, behind.1, behind.2)
    of (Twice first second) behind =
        let has : (t : Signature) × (slice_get (take i ss) first ≡ Some t)
        × (t.name ≡ s.name) = behind.2 in
        let less : first < length (take i ss) = slice_get_within (take i ss) first has.0 has.1 in (
          s,
          has.0,
          first_at second behind.0,
          behind.1,
          omega arith,
          front_at ss i first has.0 has.1,
          has.2,
        )

-- ---- calls

-- a call changes no name and no kinds
pub called_same : (before after : Seen) (args : List Primitive)
    (result : Result Primitive CallFault) → IsCalled before after args result
    → signature_of after ≡ signature_of before
called_same before after args (Ok answer) is = ap signature_of is.1
called_same before after args (Err call.Failed) is = ap signature_of is.0
called_same before after args (Err call.Memory) is = ap signature_of is

-- .. so all signatures stay
signatures_stay : (ds : List Seen) (i : ℕ) (before after : Seen) → slice_get ds i ≡ Some before
    → signature_of after ≡ signature_of before
    → map signature_of (slice_set ds i after) ≡ map signature_of ds
signatures_stay [] i before after at same = refl
signatures_stay (d ∷ ds) zero before after at same =
    ap (λ s. s ∷ map signature_of ds) (same ∙ ap signature_of (sym (same_Some d before at)))
signatures_stay (d ∷ ds) (suc i) before after at same =
    ap (λ ss. signature_of d ∷ ss) (signatures_stay ds i before after at same)

module _ {D : Type 0} (seen : D → Seen) (ds : List D) (i : ℕ) (before after : D)
    (args : List Primitive) (result : Result Primitive CallFault)
    (within : i < length (map seen ds)) (is : before ≡ get_or ds i before)
    (called : IsCalled (seen before) (seen after) args result) where
  stands : slice_get (map seen ds) i ≡ Some (seen before)
  stands = seen_at seen ds i before (omega (arith, within, length-map ds seen)) is

  -- where one of a program's devices was called they are a program's
  pub still_signatures : AreSignatures (map signature_of (map seen ds))
      → AreSignatures (map signature_of (map seen (slice_set ds i after)))
  still_signatures are =
      subst AreSignatures (sym (ap (λ ss. map signature_of ss) (map-set seen ds i after)
      ∙ signatures_stay (map seen ds) i (seen before) (seen after) stands
      (called_same (seen before) (seen after) args result called))) are

  -- .. and that one was asked
  pub is_asked : (failed next : ℕ) → next ≡ failed_after failed result
      → IsAsked (record { devices = map seen ds; failed = failed })
      (record { devices = map seen (slice_set ds i after); failed = next }) i args result
  is_asked failed next count = record {
    device = seen before;
    device_is = stands;
    called = seen after;
    call = called;
    after_is = λ j. record { devices = map-set seen ds i after j; failed = count j };
  }
