-- What a heap has after an object more, and after an object is changed.
use Rattle.std.proofs.Common.{◌≡◌, ◌≢◌, ◌⊎◌, ℕ, zero, suc, ◌+◌, ◌<◌, ◌≤◌, List, [], ◌∷◌, ◌++◌, length, Some, None, Option, inl, inr, refl, sym, ap, ◌∙◌, subst, arith, length-append, length-set}
use Rattle.std.specs.Prelude.{IsSome, slice_get, slice_set, unwrap_or}
use Rattle.std.specs.List.{sum_by}
use Rattle.std.specs.Option.{option_map_or}
use Rattle.std.proofs.lemmas.Bool.{cases_eq}
use Rattle.std.proofs.lemmas.List.{set_past}
use Rattle.std.proofs.lemmas.List.Sums.{sum_by-cons}
use Rattle.ja_base.specs.declared.ids.Site.{Site}
use Rattle.ja_base.proofs.Lists.{element_within, within_from_some}
use Rattle.ja_machine.specs.declared.machine.Addr.{Addr}
use Rattle.ja_machine.specs.declared.machine.Value.{Value}
use Rattle.ja_machine.specs.declared.machine.Value.TheVariants as value
use Rattle.ja_machine.specs.declared.machine.Content.{Content}
use Rattle.ja_machine.specs.declared.machine.Content.TheVariants as contents
use Rattle.ja_machine.specs.declared.machine.Object.{Object}
use Rattle.ja_machine.specs.declared.machine.Heap.{Heap}
use Rattle.ja_machine.specs.Heap.{objects_of, count, size, object_at, with_new, new_address, with_object}
use Rattle.ja_machine.specs.State.{IsObjectOf, IsValueOf, IsContentOf}
use Rattle.ja_machine.proofs.Lists.{slice_get-set_same, slice_get-set_other, slice_get-append_left, slice_get-append_end, is_some_from}

-- ---- addresses, and the objects of a site

-- addresses are equal whose parts are
pub same_address : (a b : Addr) → a.site.0 ≡ b.site.0 → a.ordinal ≡ b.ordinal → a ≡ b
same_address a b s o = λ i. record { site = record { 0 = s i }; ordinal = o i }

-- two addresses are equal or not
pub address_cases : (a b : Addr) → (a ≡ b) ⊎ (a ≡ b → ⊥)
address_cases a b =
    elim (cases_eq a.site.0 b.site.0) [
      | inl e ↦ elim (cases_eq a.ordinal b.ordinal) [
        | inl f ↦ inl (same_address a b e f)
        | inr f ↦ inr (λ g. f (ap (λ (c : Addr). c.ordinal) g))
      ]
      | inr e ↦ inr (λ g. e (ap (λ (c : Addr). c.site.0) g))
    ]

-- the ordinal of an object is below the count of its site
pub ordinal-below : (h : Heap) (a : Addr) → IsObjectOf h a → a.ordinal < count h a.site
ordinal-below h a there = within_from_some (objects_of h a.site) a.ordinal there

-- .. and each ordinal below it is an object's
pub object_from_ordinal : (h : Heap) (a : Addr) → a.ordinal < count h a.site → IsObjectOf h a
object_from_ordinal h a l = let (o, e) = element_within (objects_of h a.site) a.ordinal l in
    is_some_from (object_at h a) o e

-- equal sites have the same objects
pub objects-same_site : (h : Heap) (s t : Site) → s.0 ≡ t.0 → objects_of h s ≡ objects_of h t
objects-same_site h s t e = ap (λ n. unwrap_or (slice_get h.objects n) []) e

-- .. and as many
pub count-same_site : (h : Heap) (s t : Site) → s.0 ≡ t.0 → count h s ≡ count h t
count-same_site h s t e = ap length (objects-same_site h s t e)

-- a row of the heap is a site with objects
pub row_within : (xs : List (List Object)) (s : ℕ) → 0 < length (unwrap_or (slice_get xs s) [])
    → s < length xs
row_within [] s h = absurd (omega arith)
row_within (x ∷ xs) zero h = omega arith
row_within (x ∷ xs) (suc s) h = let r : s < length xs = row_within xs s h in omega arith

-- a row replaced
pub sum-set : (xs : List (List Object)) (i : ℕ) (row : List Object) → i < length xs
    → sum_by length (slice_set xs i row) + length (unwrap_or (slice_get xs i) []) ≡ sum_by length xs
    + length row
sum-set [] i row h = absurd (omega arith)
sum-set (x ∷ xs) zero row h = omega (arith, sum_by-cons length x xs, sum_by-cons length row xs)
sum-set (x ∷ xs) (suc i) row h =
    omega (
      arith,
      sum-set xs i row (omega arith),
      sum_by-cons length x xs,
      sum_by-cons length x (slice_set xs i row),
    )

-- what comes of the object at an address, if there is one
pub of_object : {X : Type 0} (h : Heap) (a : Addr) (P : X → Type 0) (f : Object → X) (x : X) → P x
    → ((o : Object) → object_at h a ≡ Some o → P (f o)) → P (option_map_or f (object_at h a) x)
of_object h a P f x none some = at (object_at h a) refl
  where
    at : (r : Option Object) → object_at h a ≡ r → P (option_map_or f r x)
    at None e = none
    at (Some o) e = some o e

-- ---- no object goes

-- each object of the first heap is one of the second
abbrev pub Grows : Heap → Heap → Type 0
Grows before now = (a : Addr) → IsObjectOf before a → IsObjectOf now a

module _ (h now : Heap) (grows : Grows h now) where
  -- a value of the heap stays one
  pub value_grows : (v : Value) → IsValueOf h v → IsValueOf now v
  value_grows (value.Primitive q) there = tt
  value_grows (value.Object a) there = grows a there

  -- .. and so does a content
  pub content_grows : (c : Content) → IsContentOf h c → IsContentOf now c
  content_grows (contents.Value v) there = value_grows v there
  content_grows contents.Row there = tt

-- ---- an object more

-- at a site that the heap doesn't have nothing changes
pub with_new-past : (h : Heap) (s : Site) (o : Object) → length h.objects ≤ s.0 → with_new h s o ≡ h
with_new-past h s o past =
    ap (λ (rows : List (List Object)). let k : Heap = record { objects = rows } in k)
    (set_past h.objects s.0 (objects_of h s ++ o ∷ []) past)

module _ (h : Heap) (s : Site) (o : Object) (fits : s.0 < length h.objects) where
  -- the site has one object more
  pub objects-with_new_same : (t : Site) → t.0 ≡ s.0
      → objects_of (with_new h s o) t ≡ objects_of h s ++ o ∷ []
  objects-with_new_same t e =
      ap (λ n. unwrap_or (slice_get (slice_set h.objects s.0 (objects_of h s ++ o ∷ [])) n) []) e
      ∙ ap (λ r. unwrap_or r []) (slice_get-set_same h.objects s.0 (objects_of h s ++ o ∷ [])
      fits)

  -- each other site has its objects
  pub objects-with_new_other : (t : Site) → t.0 ≢ s.0
      → objects_of (with_new h s o) t ≡ objects_of h t
  objects-with_new_other t ne =
      ap (λ r. unwrap_or r []) (slice_get-set_other h.objects s.0 t.0 (objects_of h s ++ o ∷ []) ne)

  -- the counts: one more at the site, and the same elsewhere
  pub count-with_new_same : (t : Site) → t.0 ≡ s.0 → count (with_new h s o) t ≡ suc (count h s)
  count-with_new_same t e =
      ap length (objects-with_new_same t e) ∙ (length-append (objects_of h s) (o ∷ [])
      ∙ omega arith)

  -- .. elsewhere
  pub count-with_new_other : (t : Site) → t.0 ≢ s.0 → count (with_new h s o) t ≡ count h t
  count-with_new_other t ne = ap length (objects-with_new_other t ne)

  -- an old object stays
  pub object-with_new_old : (a : Addr) → IsObjectOf h a
      → object_at (with_new h s o) a ≡ object_at h a
  object-with_new_old a there =
      elim (cases_eq a.site.0 s.0) [
        | inl e ↦
            ap (λ r. slice_get r a.ordinal) (objects-with_new_same a.site e)
            ∙ (slice_get-append_left (objects_of h s) (o ∷ []) a.ordinal
            (subst (λ r. a.ordinal < length r) (objects-same_site h a.site s e)
            (ordinal-below h a there)) ∙ ap (λ r. slice_get r a.ordinal)
            (sym (objects-same_site h a.site s e)))
        | inr ne ↦ ap (λ r. slice_get r a.ordinal) (objects-with_new_other a.site ne)
      ]

  -- the new address has the new object
  pub object-with_new_new : object_at (with_new h s o) (new_address h s) ≡ Some o
  object-with_new_new =
      ap (λ r. slice_get r (count h s)) (objects-with_new_same s refl)
      ∙ slice_get-append_end (objects_of h s) o [] (count h s) refl

  -- each object is an old one or the new one
  pub old_or_new : (a : Addr) → IsObjectOf (with_new h s o) a
      → IsObjectOf h a ⊎ (a ≡ new_address h s)
  old_or_new a there =
      elim (cases_eq a.site.0 s.0) [
        | inl e ↦
            let b : a.ordinal < count (with_new h s o) a.site = ordinal-below (with_new h s o) a
            there in
            let u : count (with_new h s o) a.site
            ≡ suc (count h s) = count-with_new_same a.site e in
            let v : count h a.site ≡ count h s = count-same_site h a.site s e in
            elim (cases_eq a.ordinal (count h s)) [
              | inl f ↦ inr (same_address a (new_address h s) e f)
              | inr g ↦ inl (object_from_ordinal h a (omega arith))
            ]
        | inr ne ↦ inl (subst (λ r. IsSome (slice_get r a.ordinal))
            (objects-with_new_other a.site ne) there)
      ]

  -- so an object stays one
  pub grows-with_new : Grows h (with_new h s o)
  grows-with_new a there = subst (λ r. IsSome r) (sym (object-with_new_old a there)) there

  -- .. and the new one is one
  pub new_there : IsObjectOf (with_new h s o) (new_address h s)
  new_there = is_some_from (object_at (with_new h s o) (new_address h s)) o object-with_new_new

  -- there is one object more in all
  pub size-with_new : size (with_new h s o) ≡ suc (size h)
  size-with_new =
      omega (
        arith,
        sum-set h.objects s.0 (objects_of h s ++ o ∷ []) fits,
        length-append (objects_of h s) (o ∷ []),
      )

-- ---- another object at an address

module _ (h : Heap) (a : Addr) (old new : Object) (there : object_at h a ≡ Some old) where
  row_fits : a.site.0 < length h.objects
  row_fits =
      let b : a.ordinal < length (objects_of h a.site) = within_from_some (objects_of h a.site)
      a.ordinal (is_some_from (object_at h a) old there) in
      row_within h.objects a.site.0 (omega arith)

  -- the site has the object replaced
  pub objects-with_object_same : (t : Site) → t.0 ≡ a.site.0
      → objects_of (with_object h a new) t ≡ slice_set (objects_of h a.site) a.ordinal new
  objects-with_object_same t e =
      ap (λ n. unwrap_or (slice_get (slice_set h.objects a.site.0
      (slice_set (objects_of h a.site) a.ordinal new)) n) []) e
      ∙ ap (λ r. unwrap_or r []) (slice_get-set_same h.objects a.site.0
      (slice_set (objects_of h a.site) a.ordinal new) row_fits)

  -- .. and each other site its objects
  pub objects-with_object_other : (t : Site) → t.0 ≢ a.site.0
      → objects_of (with_object h a new) t ≡ objects_of h t
  objects-with_object_other t ne =
      ap (λ r. unwrap_or r []) (slice_get-set_other h.objects a.site.0 t.0
      (slice_set (objects_of h a.site) a.ordinal new) ne)

  -- no count changes
  pub count-with_object : (t : Site) → count (with_object h a new) t ≡ count h t
  count-with_object t =
      elim (cases_eq t.0 a.site.0) [
        | inl e ↦ ap length (objects-with_object_same t e)
            ∙ (length-set (objects_of h a.site) a.ordinal new ∙ count-same_site h a.site t (sym e))
        | inr ne ↦ ap length (objects-with_object_other t ne)
      ]

  -- at the address stands the new object
  pub object-with_object_same : object_at (with_object h a new) a ≡ Some new
  object-with_object_same =
      ap (λ r. slice_get r a.ordinal) (objects-with_object_same a.site refl)
      ∙ slice_get-set_same (objects_of h a.site) a.ordinal new
      (within_from_some (objects_of h a.site) a.ordinal
      (is_some_from (object_at h a) old there))

  -- .. and elsewhere what stood there
  pub object-with_object_other : (b : Addr) → (b ≡ a → ⊥)
      → object_at (with_object h a new) b ≡ object_at h b
  object-with_object_other b ne =
      elim (cases_eq b.site.0 a.site.0) [
        | inl e ↦
            ap (λ r. slice_get r b.ordinal) (objects-with_object_same b.site e)
            ∙ (slice_get-set_other (objects_of h a.site) a.ordinal b.ordinal new
            (λ f. ne (same_address b a e f)) ∙ ap (λ r. slice_get r b.ordinal)
            (sym (objects-same_site h b.site a.site e)))
        | inr other ↦ ap (λ r. slice_get r b.ordinal) (objects-with_object_other b.site other)
      ]

  -- there are as many objects in all
  pub size-with_object : size (with_object h a new) ≡ size h
  size-with_object =
      omega (
        arith,
        sum-set h.objects a.site.0 (slice_set (objects_of h a.site) a.ordinal new)
            row_fits,
        length-set (objects_of h a.site) a.ordinal new,
      )

  -- .. and as many sites
  pub rows-with_object : length (with_object h a new).objects ≡ length h.objects
  rows-with_object = length-set h.objects a.site.0 (slice_set (objects_of h a.site) a.ordinal new)

  -- an object stays one
  pub grows-with_object : Grows h (with_object h a new)
  grows-with_object b k =
      object_from_ordinal (with_object h a new) b
      (let e : count (with_object h a new) b.site ≡ count h b.site = count-with_object b.site in
      let l : b.ordinal < count h b.site = ordinal-below h b k in omega arith)

  -- .. and nothing else is one
  pub object_unwritten : (b : Addr) → IsObjectOf (with_object h a new) b → IsObjectOf h b
  object_unwritten b k =
      object_from_ordinal h b (let e : count (with_object h a new) b.site
      ≡ count h b.site = count-with_object b.site in
      let l : b.ordinal < count (with_object h a new) b.site = ordinal-below (with_object h a new) b
      k in omega arith)
