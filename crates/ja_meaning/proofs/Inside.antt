-- What an object has is of the heap, and its site is one of the program.
use Rattle.std.proofs.Common.{◌≡◌, ℕ, zero, suc, ◌<◌, Bool, true, List, [], ◌∷◌, length, Some, None, Option, inl, inr, refl, sym, ap, ◌∙◌, arith}
use Rattle.std.specs.Prelude.{IsSome, slice_get, unwrap_or, find}
use Rattle.std.specs.Option.{is_some, option_map_or}
use Rattle.std.proofs.lemmas.Bool.{cases_Bool, false≢true, cond-true, cond-false}
use Rattle.std.proofs.lemmas.Option.{same_Some}
use Rattle.ja_prim.specs.declared.primitive.Primitive.{Primitive}
use Rattle.ja_prim.specs.Texts.{same_text}
use Rattle.ja_graph.specs.declared.attrs.Attrs.{Attrs}
use Rattle.ja_graph.specs.declared.program.Program.{Program}
use Rattle.ja_machine.specs.declared.machine.Addr.{Addr}
use Rattle.ja_machine.specs.declared.machine.Content.{Content}
use Rattle.ja_machine.specs.declared.machine.Content.TheVariants as contents
use Rattle.ja_machine.specs.declared.machine.Property.{Property}
use Rattle.ja_machine.specs.declared.machine.Object.{Object}
use Rattle.ja_machine.specs.declared.machine.Heap.{Heap}
use Rattle.ja_machine.specs.Heap.{object_at, property_of}
use Rattle.ja_machine.specs.State.{IsHeap, IsObjectOf, IsContentOf}
use Rattle.ja_abstract.specs.declared.abstraction.Slot.TheVariants as slot
use Rattle.ja_abstract.specs.Contents.{missing, content, object_content, content_of, property_content, held_address, held_primitive}
use Rattle.ja_abstract.specs.Keys.{Spot, named, internal}
use Rattle.ja_meaning.specs.Meaning.{IsOfHeap}

-- ---- sites

-- the row of an object is one of the heap
pub row_of_object : (rows : List (List Object)) (s i : ℕ)
    → IsSome (slice_get (unwrap_or (slice_get rows s) []) i) → s < length rows
row_of_object [] s i h = absurd (false≢true h)
row_of_object (row ∷ rows) zero i h = omega arith
row_of_object (row ∷ rows) (suc s) i h = let r : s < length rows = row_of_object rows s i h in
    omega arith

-- the site of an object is one of the program
pub site_in_range : (p : Program) (h : Heap) → IsHeap p h → (a : Addr) → IsObjectOf h a
    → a.site.0 < length p.sites
site_in_range p h known a there =
    let l : a.site.0 < length h.objects = row_of_object h.objects a.site.0 a.ordinal there in
    let e : length h.objects ≡ length p.sites = known.rows in
    omega arith

-- ---- contents

-- the first that passes a test is one of the list, and passes it
pub found_at : {X : Type 0} (test : X → Bool) (xs : List X) (x : X) → find test xs ≡ Some x
    → (i : ℕ) × (slice_get xs i ≡ Some x) × (test x ≡ true)
found_at test [] x e = absurd (false≢true (ap is_some e))
found_at test (y ∷ ys) x e =
    elim (cases_Bool (test y)) [
      | inl t ↦ let at : Some y ≡ Some x = sym (cond-true (test y) (Some y) (find test ys) t) ∙ e in
          (0, at, ap test (sym (same_Some y x at)) ∙ t)
      | inr f ↦ let (i, at, t) =
          found_at test ys x (sym (cond-false (test y) (Some y) (find test ys) f) ∙ e) in
          (suc i, at, t)
    ]

of_content : (h : Heap) (x : Content) (attrs : Attrs) → IsContentOf h x
    → IsOfHeap h (content_of x attrs)
of_content h (contents.Value v) attrs there = there
of_content h contents.Row attrs there = tt

of_property : (h : Heap) (o : Object) (t : List ℕ)
    → ((i : ℕ) (q : Property) → slice_get o.properties i ≡ Some q → IsContentOf h q.content)
    → (r : Option Property) → property_of o t ≡ r → IsOfHeap h (property_content r)
of_property h o t each None is = tt
of_property h o t each (Some q) is =
    let (i, at, same) = found_at (λ (r : Property). same_text r.name t) o.properties q is in
    of_content h q.content q.attrs (each i q at)

of_link : (h : Heap) (o : Option Addr) → ((b : Addr) → o ≡ Some b → IsObjectOf h b)
    → IsOfHeap h (held_address o)
of_link h None there = tt
of_link h (Some b) there = there b refl

of_value : (h : Heap) (o : Option Primitive) → IsOfHeap h (held_primitive o)
of_value h None = tt
of_value h (Some q) = tt

module _ (p : Program) (h : Heap) (known : IsHeap p h) (a : Addr) where
  of_object : (o : Object) (x : Spot) → object_at h a ≡ Some o → IsOfHeap h (object_content o x)
  of_object o (named t) at =
      of_property h o t (λ i q is. known.properties a o i q at is) (property_of o t) refl
  of_object o (internal slot.Prototype) at =
      of_link h o.slots.prototype (λ b is. (known.prototype_before a b o at is).0)
  of_object o (internal slot.Outer) at =
      of_link h o.slots.outer (λ b is. (known.outer_before a b o at is).0)
  of_object o (internal slot.Scope) at = of_link h o.slots.scope (λ b is. known.scope a b o at is)
  of_object o (internal slot.Value) at = of_value h o.slots.value

  of_address : (o : Option Object) (x : Spot) → object_at h a ≡ o
      → IsOfHeap h (option_map_or (λ (q : Object). object_content q x) o missing)
  of_address None x at = tt
  of_address (Some o) x at = of_object o x at

  -- what an address has is of the heap
  pub inside : (x : Spot) → IsOfHeap h (content h a x)
  inside x = of_address (object_at h a) x refl
