-- Values are refused for one reason.
use Rattle.std.proofs.Common.{◌≡◌, ◌≢◌, ℕ, zero, suc, ◌+◌, ◌<◌, ◌≤◌, ◌&&◌, Bool, true, false, List, [], ◌∷◌, length, map, take, Some, refl, ap, sym, ◌∙◌, subst, arith, ◌⊎◌, inl, inr}
use Rattle.std.specs.Prelude.{slice_get}
use Rattle.std.proofs.lemmas.Bool.{cases_lt, false≢true}
use Rattle.std.proofs.lemmas.Option.{same_Some}
use Rattle.ja_prim.specs.declared.signature.Signature.{Signature}
use Rattle.ja_machine.proofs.Lists.{all_at}
use Rattle.ja_device.specs.Signatures as device
use Rattle.ja_device.specs.Signatures.{AreSignatures, IsFirstAt, has_kind, is_fit, is_identifier}
use Rattle.ja_device.specs.declared.fault.DevicesFault.TheVariants as devices
use Rattle.ja_lint_devices.specs.Devices.{IsFirstFault, IsKindsFault, IsNamed, IsRefused, all_kinds, are_kinds, name_in, signature_in, units, word_fault, words_in}
use Rattle.ja_lint_devices.specs.declared.refused.KindsFault.{KindsFault}
use Rattle.ja_lint_devices.specs.declared.refused.Refused.{Refused}
use Rattle.ja_lint_devices.specs.declared.refused.Refused.TheVariants as refused
use Rattle.ja_lint_devices.proofs.Refusing.{all_front, kinds_front}

-- ---- fronts

take_less : {X : Type 0} (xs : List X) (n m : ℕ) → n ≤ m → take n (take m xs) ≡ take n xs
take_less xs zero m less = refl
take_less xs (suc n) zero less = absurd (omega arith)
take_less [] (suc n) (suc m) less = refl
take_less (x ∷ xs) (suc n) (suc m) less = ap (λ ys. x ∷ ys) (take_less xs n m (omega (arith, less)))

taken_at : {X : Type 0} (xs : List X) (n i : ℕ) (x : X) → i < n → slice_get xs i ≡ Some x
    → slice_get (take n xs) i ≡ Some x
taken_at xs zero i x less at = absurd (omega arith)
taken_at [] (suc n) i x less at = at
taken_at (y ∷ ys) (suc n) zero x less at = at
taken_at (y ∷ ys) (suc n) (suc i) x less at = taken_at ys n i x (omega (arith, less)) at

-- one of two numbers is less, or they are the same
same_by : (i j : ℕ) → (i < j → ⊥) → (j < i → ⊥) → i ≡ j
same_by i j least most =
    elim (cases_lt i j) [
      | inl less ↦ absurd (least less)
      | inr over ↦ elim (cases_lt j i) [
        | inl less ↦ absurd (most less)
        | inr under ↦ omega (arith, over, under)
      ]
    ]

module _ {X : Type 0} (holds : List X → Bool)
    (front : (xs : List X) (n : ℕ) → holds xs ≡ true → holds (take n xs) ≡ true) (xs : List X) where
  not_before : (i j : ℕ) → holds (take (i + 1) xs) ≡ false → holds (take j xs) ≡ true → i < j → ⊥
  not_before i j here before less =
      false≢true (sym here ∙ sym (ap holds (take_less xs (i + 1) j (omega (arith, less))))
      ∙ front (take j xs) (i + 1) before)

  -- there is one first fault
  first_once : (i j : ℕ) (x y : X) → IsFirstFault holds xs i x → IsFirstFault holds xs j y → i ≡ j
  first_once i j x y a b =
      same_by i j (not_before i j a.here b.before) (not_before j i b.here a.before)

-- what stands at a place stands there alone
one_there : {X : Type 0} (xs : List X) (i j : ℕ) (x y : X) → i ≡ j → slice_get xs i ≡ Some x
    → slice_get xs j ≡ Some y → x ≡ y
one_there xs i j x y same at_x at_y =
    same_Some x y (sym at_x ∙ ap (slice_get xs) same ∙ at_y)

named_once : (values : List (List ℕ)) (i j : ℕ) (a b : List ℕ) → i ≡ j → IsNamed values i a
    → IsNamed values j b → a ≡ b
named_once values i j a b same (v, at_v, is_a) (w, at_w, is_b) =
    is_a ∙ ap (λ value. units (name_in value)) (one_there values i j v w same at_v at_w) ∙ sym is_b

-- ---- words

caused_once : (words others : List (List ℕ)) (f g : KindsFault) → words ≡ others
    → IsKindsFault words f → IsKindsFault others g → f ≡ g
caused_once words others f g same a (j, other, second, is_g) =
    of (subst (λ ws. IsKindsFault ws f) same a)
  where
    of : IsKindsFault others f → f ≡ g
    of (i, word, first, is_f) =
        is_f ∙ ap word_fault (one_there others i j word other
        (first_once are_kinds kinds_front others i j word other first second) first.at second.at)
        ∙ sym is_g

all_kinds_front : (values : List (List ℕ)) (n : ℕ) → all_kinds values ≡ true
    → all_kinds (take n values) ≡ true
all_kinds_front values n all = all_front (λ value. are_kinds (words_in value)) values n all

module _ (values : List (List ℕ)) where
  kinds_once : (i j : ℕ) (m n : List ℕ) (f g : KindsFault) → IsRefused values (refused.Kinds i m f)
      → IsRefused values (refused.Kinds j n g) → refused.Kinds i m f ≡ refused.Kinds j n g
  kinds_once i j m n f g (v, a, is_m, caused_f) (w, b, is_n, caused_g) =
      let place : i ≡ j = first_once all_kinds all_kinds_front values i j v w a b in
      let value : v ≡ w = one_there values i j v w place a.at b.at in
      let name : m ≡ n = is_m ∙ ap (λ u. units (name_in u)) value ∙ sym is_n in
      let cause : f ≡ g = caused_once (words_in v) (words_in w) f g (ap words_in value) caused_f
      caused_g in
      (λ k. refused.Kinds (place k) (name k) (cause k))

  kinds_or_none : (i : ℕ) (m : List ℕ) (f : KindsFault) → IsRefused values (refused.Kinds i m f)
      → all_kinds values ≡ true → ⊥
  kinds_or_none i m f (v, a, is_m, caused_f) all =
      false≢true (sym a.here ∙ all_kinds_front values (i + 1) all)

-- ---- signatures

-- one has no name for a device, or that of an earlier one
IsWrong : List Signature → ℕ → Signature → Type 0
IsWrong ss i s =
    (is_identifier s.name ≡ false)
    ⊎ ((first : ℕ) × (t : Signature) × (first < i) × (slice_get ss first ≡ Some t)
    × (t.name ≡ s.name))

module _ (ss : List Signature) where
  wrong_not_before : (i j : ℕ) (s : Signature) → slice_get ss i ≡ Some s → IsWrong ss i s
      → AreSignatures (take j ss) → i < j → ⊥
  unfolding IsWrong
  wrong_not_before i j s at (inl unnamed) are less =
      false≢true (sym (ap (λ b. b && has_kind s.kinds) unnamed)
      ∙ all_at (λ t. is_fit t ≡ true) (take j ss) are.fit i s (taken_at ss j i s less at))
  wrong_not_before i j s at (inr (first, t, earlier, at_t, same)) are less =
      let one : first ≡ i = are.distinct first i t s
      (taken_at ss j first t (omega (arith, earlier, less)) at_t) (taken_at ss j i s less at) same
      in
      absurd (omega (arith, one, earlier))

  wrong_once : (i j : ℕ) (s t : Signature) → IsFirstAt ss i s → IsFirstAt ss j t → IsWrong ss i s
      → IsWrong ss j t → i ≡ j
  wrong_once i j s t a b wrong_s wrong_t =
      same_by i j (wrong_not_before i j s a.at wrong_s b.before)
      (wrong_not_before j i t b.at wrong_t a.before)

  many_or_few : device.IsRefused ss devices.TooMany → length ss ≤ 64 → ⊥
  many_or_few many few = omega (arith, many, few)

  bad_names : (i j : ℕ) → device.IsRefused ss (devices.BadName i)
      → device.IsRefused ss (devices.BadName j) → i ≡ j
  unfolding IsWrong
  bad_names i j (s, a, unnamed_s) (t, b, unnamed_t) =
      wrong_once i j s t a b (inl unnamed_s) (inl unnamed_t)

  bad_or_twice : (i first j : ℕ) → device.IsRefused ss (devices.BadName i)
      → device.IsRefused ss (devices.Twice first j) → ⊥
  unfolding IsWrong
  bad_or_twice i first j (s, a, unnamed) (t, u, b, fit, earlier, at_u, same) =
      let place : i ≡ j = wrong_once i j s t a b (inl unnamed)
      (inr (first, u, earlier, at_u, same)) in
      let one : s ≡ t = one_there ss i j s t place a.at b.at in
      false≢true (sym (ap (λ b. b && has_kind t.kinds)
      (ap (λ (x : Signature). is_identifier x.name) (sym one) ∙ unnamed)) ∙ fit)

  twice_at : (first i other j : ℕ) → device.IsRefused ss (devices.Twice first i)
      → device.IsRefused ss (devices.Twice other j) → i ≡ j
  unfolding IsWrong
  twice_at first i other j (s, t, a, fit, earlier, at_t, same)
      (u, v, b, fits, before, at_v, alike) =
      wrong_once i j s u a b (inr (first, t, earlier, at_t, same))
      (inr (other, v, before, at_v, alike))

  twice_of : (first i other j : ℕ) → device.IsRefused ss (devices.Twice first i)
      → device.IsRefused ss (devices.Twice other j) → i ≡ j → first ≡ other
  twice_of first i other j (s, t, a, fit, earlier, at_t, same) (u, v, b, fits, before, at_v, alike)
      place =
      let one : s ≡ u = one_there ss i j s u place a.at b.at in
      a.before.distinct first other t v (taken_at ss i first t earlier at_t)
      (taken_at ss i other v (omega (arith, before, place)) at_v)
      (same ∙ ap (λ (x : Signature). x.name) one ∙ sym alike)

-- ---- all of it

pub refused_once : (values : List (List ℕ)) (a b : Refused) → IsRefused values a
    → IsRefused values b → a ≢ refused.Memory → b ≢ refused.Memory → a ≡ b
refused_once values (refused.Kinds i m f) (refused.Kinds j n g) p q x y =
    kinds_once values i j m n f g p q
refused_once values (refused.Kinds i m f) refused.TooMany p q x y =
    absurd (kinds_or_none values i m f p q.0)
refused_once values (refused.Kinds i m f) (refused.BadName j n) p q x y =
    absurd (kinds_or_none values i m f p q.0.0)
refused_once values (refused.Kinds i m f) (refused.Twice k j n) p q x y =
    absurd (kinds_or_none values i m f p q.0.0)
refused_once values refused.TooMany (refused.Kinds j n g) p q x y =
    absurd (kinds_or_none values j n g q p.0)
refused_once values refused.TooMany refused.TooMany p q x y = refl
refused_once values refused.TooMany (refused.BadName j n) p q x y =
    absurd (many_or_few (map signature_in values) p.1 q.0.1.1.few)
refused_once values refused.TooMany (refused.Twice k j n) p q x y =
    absurd (many_or_few (map signature_in values) p.1 q.0.1.2.few)
refused_once values (refused.BadName i m) (refused.Kinds j n g) p q x y =
    absurd (kinds_or_none values j n g q p.0.0)
refused_once values (refused.BadName i m) refused.TooMany p q x y =
    absurd (many_or_few (map signature_in values) q.1 p.0.1.1.few)
refused_once values (refused.BadName i m) (refused.BadName j n) p q x y =
    let place : i ≡ j = bad_names (map signature_in values) i j p.0.1 q.0.1 in
    (λ k. refused.BadName (place k) (named_once values i j m n place p.1 q.1 k))
refused_once values (refused.BadName i m) (refused.Twice k j n) p q x y =
    absurd (bad_or_twice (map signature_in values) i k j p.0.1 q.0.1)
refused_once values (refused.Twice l i m) (refused.Kinds j n g) p q x y =
    absurd (kinds_or_none values j n g q p.0.0)
refused_once values (refused.Twice l i m) refused.TooMany p q x y =
    absurd (many_or_few (map signature_in values) q.1 p.0.1.2.few)
refused_once values (refused.Twice l i m) (refused.BadName j n) p q x y =
    absurd (bad_or_twice (map signature_in values) j l i q.0.1 p.0.1)
refused_once values (refused.Twice l i m) (refused.Twice k j n) p q x y =
    let place : i ≡ j = twice_at (map signature_in values) l i k j p.0.1 q.0.1 in
    let first : l ≡ k = twice_of (map signature_in values) l i k j p.0.1 q.0.1 place in
    (λ h. refused.Twice (first h) (place h) (named_once values i j m n place p.1 q.1 h))
refused_once values refused.Memory b p q x y = absurd (x refl)
refused_once values a refused.Memory p q x y = absurd (y refl)
