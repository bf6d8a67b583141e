-- Labels and contents after an object more, and after a write to a property.
use Rattle.std.proofs.Common.{◌≡◌, ◌≢◌, ◌⊎◌, ℕ, suc, ◌+◌, ◌<◌, true, false, not, List, [], ◌∷◌, length, Some, None, Option, inl, inr, refl, sym, ap, ◌∙◌, subst, arith}
use Rattle.std.specs.Prelude.{find, ◌==◌}
use Rattle.std.specs.Option.{option_map_or}
use Rattle.std.proofs.lemmas.Bool.{cases_Bool, false≢true, eq-eqb, ne_eqb, eqb-true, not-false}
use Rattle.ja_base.specs.declared.ids.Label.{Label}
use Rattle.ja_base.specs.declared.ids.Site.{Site}
use Rattle.ja_graph.specs.declared.attrs.TheConstants.{NO_ATTRS}
use Rattle.ja_prim.specs.Texts.{same_text}
use Rattle.ja_graph.specs.declared.attrs.Attrs.{Attrs}
use Rattle.ja_machine.specs.declared.machine.Addr.{Addr}
use Rattle.ja_machine.specs.declared.machine.Value.{Value}
use Rattle.ja_machine.specs.declared.machine.Property.{Property}
use Rattle.ja_machine.specs.declared.machine.Object.{Object}
use Rattle.ja_machine.specs.declared.machine.Heap.{Heap}
use Rattle.ja_machine.specs.Heap.{count, object_at, with_new, new_address, with_object, property_of}
use Rattle.ja_machine.specs.Writes.{with_value, object_with_value}
use Rattle.ja_machine.specs.State.{IsObjectOf}
use Rattle.ja_machine.proofs.Heaps
use Rattle.ja_abstract.specs.declared.abstraction.Slot.TheVariants.{Prototype, Outer, Scope}
use Rattle.ja_abstract.specs.declared.abstraction.Slot.TheVariants as slot
use Rattle.ja_abstract.specs.Contents.{missing, present, content, object_content, property_content, label_of}
use Rattle.ja_abstract.specs.Keys.{Spot, named, internal}
use Rattle.ja_abstract.proofs.Labels.{same_parts}
use Rattle.ja_abstract.proofs.Texts.{text_same, same_text_refl}

-- the object made last is new
pub label_is_new : (h : Heap) (a : Addr) → a.ordinal + 1 ≡ count h a.site
    → (label_of h a).old ≡ false
label_is_new h a e = ap not (eq-eqb (a.ordinal + 1) (count h a.site) e)

-- .. and each other one old
pub label_is_old : (h : Heap) (a : Addr) → (a.ordinal + 1 ≡ count h a.site → ⊥)
    → (label_of h a).old ≡ true
label_is_old h a e = ap not (ne_eqb (a.ordinal + 1) (count h a.site) e)

-- a label depends on the count of its site alone
pub label_by_count : (h k : Heap) (a : Addr) → count h a.site ≡ count k a.site
    → label_of h a ≡ label_of k a
label_by_count h k a e =
    ap (λ n. let l : Label = record { site = a.site; old = not (a.ordinal + 1 == n) } in l) e

-- ---- an object more

module _ (h : Heap) (s : Site) (o : Object) (fits : s.0 < length h.objects) where
  -- an old object has what it had
  pub content-with_new_old : (a : Addr) (x : Spot) → IsObjectOf h a
      → content (with_new h s o) a x ≡ content h a x
  content-with_new_old a x there =
      ap (λ r. option_map_or (λ (q : Object). object_content q x) r missing)
      (Heaps.object-with_new_old h s o fits a there)

  -- .. and the new one what it was made with
  pub content-with_new_new : (x : Spot) → content (with_new h s o) (new_address h s) x
      ≡ object_content o x
  content-with_new_new x =
      ap (λ r. option_map_or (λ (q : Object). object_content q x) r missing)
      (Heaps.object-with_new_new h s o fits)

  -- labels: what stood at the site is old, the new object new, and all others as they were
  pub label-with_new_new : label_of (with_new h s o) (new_address h s)
      ≡ record { site = s; old = false }
  label-with_new_new =
      same_parts _ _ refl (label_is_new (with_new h s o) (new_address h s)
      (let u : count (with_new h s o) s ≡ suc (count h s) = Heaps.count-with_new_same h s o fits
      s refl in omega arith))

  -- .. an object of the site
  pub label-with_new_aged : (a : Addr) → IsObjectOf h a → a.site.0 ≡ s.0
      → label_of (with_new h s o) a ≡ record { site = s; old = true }
  label-with_new_aged a there e =
      let b : a.ordinal < count h a.site = Heaps.ordinal-below h a there in
      let u : count (with_new h s o) a.site ≡ suc (count h s) = Heaps.count-with_new_same h s o fits
      a.site e in
      let v : count h a.site ≡ count h s = Heaps.count-same_site h a.site s e in
      same_parts _ _ e (label_is_old (with_new h s o) a (λ f. omega arith))

  -- .. an object of another site
  pub label-with_new_other : (a : Addr) → a.site.0 ≢ s.0
      → label_of (with_new h s o) a ≡ label_of h a
  label-with_new_other a ne =
      label_by_count (with_new h s o) h a (Heaps.count-with_new_other h s o fits a.site ne)

-- an object has its own contents
pub content-at : (h : Heap) (a : Addr) (o : Object) (x : Spot) → object_at h a ≡ Some o
    → content h a x ≡ object_content o x
content-at h a o x e = ap (λ r. option_map_or (λ (q : Object). object_content q x) r missing) e

-- ---- another object at an address

-- no label changes
pub label-with_object : (h : Heap) (a : Addr) (old new : Object) → object_at h a ≡ Some old
    → (b : Addr) → label_of (with_object h a new) b ≡ label_of h b
label-with_object h a old new there b =
    label_by_count (with_object h a new) h b (Heaps.count-with_object h a old new there b.site)

-- the attributes after a write
abbrev pub attrs_after : Option Property → Attrs
attrs_after None = NO_ATTRS
attrs_after (Some q) = q.attrs

abbrev text_of : Spot → List ℕ
text_of (named t) = t
text_of (internal s) = []

-- the name has the value then, with the attributes that it had
pub with_value_same : (qs : List Property) (t : List ℕ) (v : Value)
    → property_content (find (λ (q : Property). same_text q.name t) (with_value qs t v))
    ≡ present v (attrs_after (find (λ (q : Property). same_text q.name t) qs))
with_value_same [] t v = simp (same_text_refl t)
with_value_same (q ∷ qs) t v =
    elim (cases_Bool (same_text q.name t)) [
      | inl e ↦ simp e
      | inr e ↦ simp (e, with_value_same qs t v)
    ]

-- .. and each other name what it had
pub with_value_other : (qs : List Property) (t u : List ℕ) (v : Value) → same_text t u ≡ false
    → property_content (find (λ (q : Property). same_text q.name u) (with_value qs t v))
    ≡ property_content (find (λ (q : Property). same_text q.name u) qs)
with_value_other [] t u v ne = simp ne
with_value_other (q ∷ qs) t u v ne =
    elim (cases_Bool (same_text q.name t)) [
      | inl e ↦ let f : same_text q.name u ≡ false =
          subst (λ n. same_text n u ≡ false) (sym (text_same q.name t e)) ne in simp (e, f)
      | inr e ↦ elim (cases_Bool (same_text q.name u))
          [ inl f ↦ simp (e, f) | inr f ↦ simp (e, f, with_value_other qs t u v ne) ]
    ]

-- a spot is the one that is written, or another
pub named_cases : (x : Spot) (t : List ℕ) → (x ≡ named t) ⊎ (x ≡ named t → ⊥)
named_cases (named u) t =
    elim (cases_Bool (same_text u t)) [
      | inl e ↦ inl (ap named (text_same u t e))
      | inr e ↦ inr (λ f. false≢true (sym e
          ∙ (ap (λ w. same_text w t) (ap text_of f) ∙ same_text_refl t)))
    ]
named_cases (internal s) t = inr (λ f. cc)

-- .. at an object
pub spot_cases : (a b : Addr) (t : List ℕ) (x : Spot)
    → ((b ≡ a) × (x ≡ named t)) ⊎ ((b ≡ a) × (x ≡ named t) → ⊥)
spot_cases a b t x =
    elim (Heaps.address_cases b a) [
      | inl e ↦ elim (named_cases x t) [ inl f ↦ inl (e, f) | inr f ↦ inr (λ k. f k.1) ]
      | inr e ↦ inr (λ k. e k.0)
    ]

-- ---- the heap after the value of a name is set

module _ (h : Heap) (a : Addr) (o : Object) (there : object_at h a ≡ Some o) (t : List ℕ)
    (v : Value) where
  -- the name has the value, and the attributes that it had
  pub content-with_object_written : content (with_object h a (object_with_value o t v)) a (named t)
      ≡ present v (attrs_after (property_of o t))
  content-with_object_written =
      ap (λ r. option_map_or (λ (q : Object). object_content q (named t)) r missing)
      (Heaps.object-with_object_same h a o (object_with_value o t v) there)
      ∙ with_value_same o.properties t v

  -- all else is as it was
  object_content_other : (x : Spot) → (x ≡ named t → ⊥)
      → object_content (object_with_value o t v) x ≡ object_content o x
  object_content_other (named u) ne =
      elim (cases_Bool (same_text t u)) [
        | inl e ↦ absurd (ne (ap named (sym (text_same t u e))))
        | inr e ↦ with_value_other o.properties t u v e
      ]
  object_content_other (internal Prototype) ne = refl
  object_content_other (internal Outer) ne = refl
  object_content_other (internal Scope) ne = refl
  object_content_other (internal slot.Value) ne = refl

  -- .. in the heap
  pub content-with_object_other : (b : Addr) (x : Spot) → ((b ≡ a) × (x ≡ named t) → ⊥)
      → content (with_object h a (object_with_value o t v)) b x ≡ content h b x
  content-with_object_other b x ne =
      elim (Heaps.address_cases b a) [
        | inl e ↦
            subst (λ c. content (with_object h a (object_with_value o t v)) c x ≡ content h c x)
            (sym e) (ap (λ r. option_map_or (λ (q : Object). object_content q x) r missing)
            (Heaps.object-with_object_same h a o (object_with_value o t v) there)
            ∙ (object_content_other x (λ f. ne (e, f))
            ∙ sym (ap (λ r. option_map_or (λ (q : Object). object_content q x) r missing)
            there)))
        | inr f ↦ ap (λ r. option_map_or (λ (q : Object). object_content q x) r missing)
            (Heaps.object-with_object_other h a o (object_with_value o t v) there b f)
      ]

-- the last ordinal by the test
last_ordinal : (i n : ℕ) → not (i + 1 == n) ≡ false → i + 1 ≡ n
last_ordinal i n e = eqb-true (i + 1) n (not-false (i + 1 == n) e)

-- objects of one label that is new are one object
pub label_of-new : (h : Heap) (a b : Addr) → (label_of h a).old ≡ false
    → label_of h b ≡ label_of h a → b ≡ a
label_of-new h a b new same =
    let site_is : b.site ≡ a.site = ap (λ (l : Label). l.site) same in
    let new_b : (label_of h b).old ≡ false = ap (λ (l : Label). l.old) same ∙ new in
    let at_a : a.ordinal + 1 ≡ count h a.site = last_ordinal a.ordinal (count h a.site) new in
    let at_b : b.ordinal + 1 ≡ count h b.site = last_ordinal b.ordinal (count h b.site) new_b in
    let counts : count h b.site ≡ count h a.site = ap (count h) site_is in
    let ordinal_is : b.ordinal ≡ a.ordinal = omega arith in
    λ i. record { site = site_is i; ordinal = ordinal_is i }
