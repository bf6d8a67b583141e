-- A heap that is as it should be stays so: with objects more, and with an object changed.
use Rattle.std.proofs.Common.{◌≡◌, ◌+◌, ◌<◌, ◌≤◌, ℕ, suc, cond, List, [], ◌∷◌, ◌++◌, length, Some, Option, inl, inr, refl, sym, ap, ◌∙◌, subst, arith, length-set}
use Rattle.std.specs.Prelude.{◌&&◌, ◌==◌, IsSome}
use Rattle.std.proofs.lemmas.Option.{same_Some}
use Rattle.std.proofs.lemmas.Bool.{and_from, and_left, and_right, cases_eq, eq-eqb, ne_eqb, cond-true, cond-false}
use Rattle.ja_base.specs.declared.ids.Site.{Site}
use Rattle.ja_base.proofs.Lists.{all_weaker}
use Rattle.ja_graph.specs.declared.attrs.Attrs.{Attrs}
use Rattle.ja_graph.specs.declared.program.Program.{Program}
use Rattle.ja_graph.specs.Program.{is_arguments_site}
use Rattle.ja_machine.specs.declared.machine.Addr.{Addr}
use Rattle.ja_machine.specs.declared.machine.Value.{Value}
use Rattle.ja_machine.specs.declared.machine.Content.{Content}
use Rattle.ja_machine.specs.declared.machine.Property.{Property}
use Rattle.ja_machine.specs.declared.machine.Object.{Object}
use Rattle.ja_machine.specs.declared.machine.Slots.{Slots}
use Rattle.ja_machine.specs.declared.machine.Heap.{Heap}
use Rattle.ja_machine.specs.Heap.{objects_of, count, size, object_at, with_new, new_address, with_object, prototype_of, outer_of}
use Rattle.ja_machine.specs.Writes.{put, define, delete}
use Rattle.ja_machine.specs.Machine.{class_of_site}
use Rattle.ja_machine.specs.State.{IsObjectOf, IsValueOf, IsContentOf, IsHeap, HaveDistinctNames, IsScoped}
use Rattle.ja_machine.proofs.Lists.{all_from, all_at, is_some_from}
use Rattle.ja_machine.proofs.Heaps
use Rattle.ja_machine.proofs.Heaps.{Grows, content_grows}
use Rattle.ja_machine.proofs.Writing.{Hold, IsRewritten, by_define, by_delete, by_put}

-- ---- the links of objects, and what their properties hold

-- a link leads to objects that were made before
abbrev Before : Heap → (Addr → ℕ) → (Object → Option Addr) → Type 0
Before h rank link =
    (a b : Addr) (o : Object) → object_at h a ≡ Some o → link o ≡ Some b
    → IsObjectOf h b × (rank b < rank a)

-- an object at an address has one property of a name at most
abbrev IsNamed : Addr → Object → Type 0
IsNamed a o = HaveDistinctNames o.properties

-- all of a heap but what the properties of its objects hold
pub record IsLinked (p : Program) (h : Heap) : Type 0 where
  pub rows : length h.objects ≡ length p.sites
  pub class : (a : Addr) (o : Object) → object_at h a ≡ Some o → o.class ≡ class_of_site p a.site.0
  pub arguments : (a : Addr) (o : Object) → object_at h a ≡ Some o
      → o.slots.arguments ≡ is_arguments_site p a.site
  pub names : (a : Addr) (o : Object) → object_at h a ≡ Some o → HaveDistinctNames o.properties
  pub scope : (a b : Addr) (o : Object) → object_at h a ≡ Some o → o.slots.scope ≡ Some b
      → IsObjectOf h b
  pub scoped : (a : Addr) (o : Object) → object_at h a ≡ Some o → IsScoped p a.site o
  pub rank : Addr → ℕ
  pub ranked : (a : Addr) → IsObjectOf h a → rank a < size h
  pub prototype_before : (a b : Addr) (o : Object) → object_at h a ≡ Some o
      → prototype_of o ≡ Some b → IsObjectOf h b × (rank b < rank a)
  pub outer_before : (a b : Addr) (o : Object) → object_at h a ≡ Some o → outer_of o ≡ Some b
      → IsObjectOf h b × (rank b < rank a)
  pub opening : (s : Site) → s.0 < length p.opening → count h s ≡ 1

-- the properties of the first heap's objects hold values of the second
abbrev pub AreHeld : Heap → Heap → Type 0
AreHeld h now =
    (a : Addr) (o : Object) → object_at h a ≡ Some o → Hold (IsContentOf now) o.properties

-- a heap has its links ..
pub linked_of : (p : Program) (h : Heap) → IsHeap p h → IsLinked p h
linked_of p h known = record {
  rows = known.rows;
  class = known.class;
  arguments = known.arguments;
  names = known.names;
  scope = known.scope;
  scoped = known.scoped;
  rank = known.rank;
  ranked = known.ranked;
  prototype_before = known.prototype_before;
  outer_before = known.outer_before;
  opening = known.opening;
}

-- .. and holds what its properties hold
pub held_of : (p : Program) (h : Heap) → IsHeap p h → AreHeld h h
held_of p h known a o is =
    all_from (λ (q : Property). IsContentOf h q.content) o.properties
    (λ i q e. known.properties a o i q is e)

pub heap_of : (p : Program) (h : Heap) → IsLinked p h → AreHeld h h → IsHeap p h
heap_of p h known held = record {
  rows = known.rows;
  class = known.class;
  arguments = known.arguments;
  names = known.names;
  properties =
      λ a o i q is e. all_at (λ (r : Property). IsContentOf h r.content) o.properties (held a o is)
      i q e;
  scope = known.scope;
  scoped = known.scoped;
  rank = known.rank;
  ranked = known.ranked;
  prototype_before = known.prototype_before;
  outer_before = known.outer_before;
  opening = known.opening;
}

-- what is held stays held in a heap that grows
pub hold_grows : (h now : Heap) → Grows h now → (qs : List Property) → Hold (IsContentOf h) qs
    → Hold (IsContentOf now) qs
hold_grows h now grows qs all =
    all_weaker (λ (q : Property). IsContentOf h q.content)
    (λ (q : Property). IsContentOf now q.content) (λ q k. content_grows h now grows q.content k) qs
    all

-- ---- what a step leaves of a heap

-- a heap that is as it should be, with no object less and at each site one more at most
pub record IsKept (p : Program) (h now : Heap) : Type 0 where
  pub heap : IsHeap p now
  pub grows : Grows h now
  pub counts : (t : Site) → count now t ≤ count h t + 1

-- the heap itself
pub kept_same : (p : Program) (h : Heap) → IsHeap p h → IsKept p h h
kept_same p h known = record { heap = known; grows = λ a there. there; counts = λ t. omega arith }

-- ---- an object more

-- a site of a node
abbrev pub IsNodeSite : Program → Site → Type 0
IsNodeSite p s = (length p.opening ≤ s.0) × (s.0 < length p.sites)

-- an object of its site's class, an arguments object where its site is one of them, whose links
-- lead to objects of the heap, and which has a scope chain if it runs a function; it has one
-- property of a name at most
pub record IsFitting (p : Program) (h : Heap) (s : Site) (o : Object) : Type 0 where
  pub site : IsNodeSite p s
  pub class : o.class ≡ class_of_site p s.0
  pub arguments : o.slots.arguments ≡ is_arguments_site p s
  pub names : HaveDistinctNames o.properties
  pub scope : (b : Addr) → o.slots.scope ≡ Some b → IsObjectOf h b
  pub scoped : IsScoped p s o
  pub prototype : (b : Addr) → prototype_of o ≡ Some b → IsObjectOf h b
  pub outer : (b : Addr) → outer_of o ≡ Some b → IsObjectOf h b

module _ (p : Program) (h : Heap) (s : Site) (o : Object) (known : IsLinked p h)
    (fits : IsFitting p h s o) where
  -- the site is one of the heap
  pub row : s.0 < length h.objects
  row = let e : length h.objects ≡ length p.sites = known.rows in
      let l : s.0 < length p.sites = fits.site.1 in omega arith

  grown : Grows h (with_new h s o)
  grown = Heaps.grows-with_new h s o row

  new_rank : Addr → ℕ
  new_rank a = cond ((a.site.0 == s.0) && (a.ordinal == count h s)) (size h) (known.rank a)

  rank_new : new_rank (new_address h s) ≡ size h
  unfolding new_rank
  rank_new =
      cond-true _ _ _ (and_from _ _ (eq-eqb s.0 s.0 refl) (eq-eqb (count h s) (count h s) refl))

  rank_old : (a : Addr) → IsObjectOf h a → new_rank a ≡ known.rank a
  unfolding new_rank
  rank_old a there =
      elim (cases_eq a.site.0 s.0) [
        | inl e ↦
            let b : a.ordinal < count h a.site = Heaps.ordinal-below h a there in
            let c : count h a.site ≡ count h s = Heaps.count-same_site h a.site s e in
            cond-false _ _ _ (and_right _ _ (ne_eqb a.ordinal (count h s) (λ f. omega arith)))
        | inr ne ↦ cond-false _ _ _ (and_left _ _ (ne_eqb a.site.0 s.0 ne))
      ]

  -- what holds of each object of the new heap
  by_object : (P : Addr → Object → Type 0)
      → ((a : Addr) (q : Object) → object_at h a ≡ Some q → P a q) → P (new_address h s) o
      → (a : Addr) (q : Object) → object_at (with_new h s o) a ≡ Some q → P a q
  by_object P old new a q is =
      elim (Heaps.old_or_new h s o row a (is_some_from _ q is)) [
        | inl k ↦ old a q (sym (Heaps.object-with_new_old h s o row a k) ∙ is)
        | inr f ↦
            let same : o ≡ q = same_Some o q (sym (Heaps.object-with_new_new h s o row)
            ∙ (ap (object_at (with_new h s o)) (sym f) ∙ is)) in
            subst (λ b. P b q) (sym f) (subst (P (new_address h s)) same new)
      ]

  ranked_now : (a : Addr) → IsObjectOf (with_new h s o) a → new_rank a < size (with_new h s o)
  ranked_now a there =
      let e : size (with_new h s o) ≡ suc (size h) = Heaps.size-with_new h s o row in
      elim (Heaps.old_or_new h s o row a there) [
        | inl k ↦ let r : known.rank a < size h = known.ranked a k in
            let f : new_rank a ≡ known.rank a = rank_old a k in omega arith
        | inr f ↦ let g : new_rank a ≡ size h = ap new_rank f ∙ rank_new in omega arith
      ]

  -- a link leads to an object that was made before
  linked_now : (link : Object → Option Addr) → Before h known.rank link
      → ((b : Addr) → link o ≡ Some b → IsObjectOf h b) → Before (with_new h s o) new_rank link
  linked_now link before fit a b q is e =
      by_object (λ (c : Addr) (r : Object). link r ≡ Some b
      → IsObjectOf (with_new h s o) b × (new_rank b < new_rank c)) (λ c r at f.
      let k : IsObjectOf h b × (known.rank b < known.rank c) = before c b r at f in
      let there : IsObjectOf h c = is_some_from _ r at in
      let u : new_rank c ≡ known.rank c = rank_old c there in
      let v : new_rank b ≡ known.rank b = rank_old b k.0 in
      let l : known.rank b < known.rank c = k.1 in
      (grown b k.0, omega arith)) (λ f.
      let k : IsObjectOf h b = fit b f in
      let u : new_rank (new_address h s) ≡ size h = rank_new in
      let v : new_rank b ≡ known.rank b = rank_old b k in
      let l : known.rank b < size h = known.ranked b k in
      (grown b k, omega arith)) a q is e

  -- the links of the new heap
  pub linked-with_new : IsLinked p (with_new h s o)
  linked-with_new = record {
    rows = length-set h.objects s.0 (objects_of h s ++ o ∷ []) ∙ known.rows;
    class =
        by_object (λ (a : Addr) (q : Object). q.class ≡ class_of_site p a.site.0) known.class
        fits.class;
    arguments =
        by_object (λ (a : Addr) (q : Object). q.slots.arguments ≡ is_arguments_site p a.site)
        known.arguments fits.arguments;
    names = by_object IsNamed known.names fits.names;
    scope =
        λ a b q is e. by_object (λ (c : Addr) (r : Object). r.slots.scope ≡ Some b
        → IsObjectOf (with_new h s o) b) (λ c r at f. grown b (known.scope c b r at f))
        (λ f. grown b (fits.scope b f)) a q is e;
    scoped = by_object (λ (a : Addr). IsScoped p a.site) known.scoped fits.scoped;
    rank = new_rank;
    ranked = ranked_now;
    prototype_before = linked_now prototype_of known.prototype_before fits.prototype;
    outer_before = linked_now outer_of known.outer_before fits.outer;
    opening = λ t first. let low : length p.opening ≤ s.0 = fits.site.0 in
        Heaps.count-with_new_other h s o row t (λ e. omega arith) ∙ known.opening t first;
  }

  -- .. and what its properties hold
  pub held-with_new : (now : Heap) → AreHeld h now → Hold (IsContentOf now) o.properties
      → AreHeld (with_new h s o) now
  held-with_new now held new =
      by_object (λ (a : Addr) (q : Object). Hold (IsContentOf now) q.properties) held new

  -- the counts: one more at the site, and the same elsewhere
  pub counts-with_new : (t : Site) → (t.0 ≡ s.0 → count (with_new h s o) t ≡ count h t + 1)
      × ((t.0 ≡ s.0 → ⊥) → count (with_new h s o) t ≡ count h t)
  counts-with_new t = (
    λ e. let u : count (with_new h s o) t
        ≡ suc (count h s) = Heaps.count-with_new_same h s o row t e in
        let v : count h t ≡ count h s = Heaps.count-same_site h t s e in
        omega arith,
    λ ne. Heaps.count-with_new_other h s o row t ne,
  )

-- a heap with an object more, which may hold itself
pub kept-with_new : (p : Program) (h : Heap) (s : Site) (o : Object) → IsHeap p h
    → IsFitting p h s o → Hold (IsContentOf (with_new h s o)) o.properties
    → IsKept p h (with_new h s o)
kept-with_new p h s o known fits new =
    let linked : IsLinked p h = linked_of p h known in
    let now : Heap = with_new h s o in
    let grows : Grows h now = Heaps.grows-with_new h s o (row p h s o linked fits) in
    record {
      heap =
          heap_of p now (linked-with_new p h s o linked fits)
          (held-with_new p h s o linked fits now
          (λ a q is. hold_grows h now grows q.properties (held_of p h known a q is)) new);
      grows = grows;
      counts = λ t.
          let cases = counts-with_new p h s o linked fits t in
          elim (cases_eq t.0 s.0) [
            | inl e ↦ let u : count now t ≡ count h t + 1 = cases.0 e in
                omega arith
            | inr ne ↦ let u : count now t ≡ count h t = cases.1 ne in omega arith
          ];
    }

-- .. with two of different sites, each of which may hold the other
pub kept-with_two : (p : Program) (h : Heap) (s t : Site) (o q : Object) → (s.0 ≡ t.0 → ⊥)
    → IsHeap p h → IsFitting p h s o → IsFitting p (with_new h s o) t q
    → Hold (IsContentOf (with_new (with_new h s o) t q)) o.properties
    → Hold (IsContentOf (with_new (with_new h s o) t q)) q.properties
    → IsKept p h (with_new (with_new h s o) t q)
kept-with_two p h s t o q distinct known fits_o fits_q new_o new_q =
    let linked : IsLinked p h = linked_of p h known in
    let mid : Heap = with_new h s o in
    let now : Heap = with_new mid t q in
    let linked_mid : IsLinked p mid = linked-with_new p h s o linked fits_o in
    let first : Grows h mid = Heaps.grows-with_new h s o (row p h s o linked fits_o) in
    let second : Grows mid now = Heaps.grows-with_new mid t q (row p mid t q linked_mid fits_q) in
    let grows : Grows h now = λ a there. second a (first a there) in
    let held_mid : AreHeld mid now = held-with_new p h s o linked fits_o now
    (λ a r is. hold_grows h now grows r.properties (held_of p h known a r is)) new_o in
    record {
      heap =
          heap_of p now (linked-with_new p mid t q linked_mid fits_q)
          (held-with_new p mid t q linked_mid fits_q now held_mid new_q);
      grows = grows;
      counts = λ u.
          let cases_s = counts-with_new p h s o linked fits_o u in
          let cases_t = counts-with_new p mid t q linked_mid fits_q u in
          elim (cases_eq u.0 s.0) [
            | inl e ↦ let k : count mid u ≡ count h u + 1 = cases_s.0 e in
                let l : count now u ≡ count mid u = cases_t.1 (λ f. distinct (sym e ∙ f)) in
                omega arith
            | inr ne ↦
                let k : count mid u ≡ count h u = cases_s.1 ne in
                elim (cases_eq u.0 t.0) [
                  | inl e ↦ let l : count now u ≡ count mid u
                      + 1 = cases_t.0 e in omega arith
                  | inr other ↦ let l : count now u
                      ≡ count mid u = cases_t.1 other in omega arith
                ]
          ];
    }

-- ---- an object changed

module _ (p : Program) (h : Heap) (a : Addr) (known : IsHeap p h) where
  kept-rewritten : (o new : Object) → object_at h a ≡ Some o → IsRewritten (IsContentOf h) o new
      → IsKept p h (with_object h a new)
  kept-rewritten o new is k = record {
    heap =
        heap_of p now linked (λ b q at. by_object
        (λ (c : Addr) (r : Object). Hold (IsContentOf now) r.properties)
        (λ c r e. hold_grows h now grows r.properties (held_of p h known c r e))
        (hold_grows h now grows new.properties (k.holds (held_of p h known a o is))) b q at);
    grows = grows;
    counts = λ t. let e : count now t ≡ count h t = Heaps.count-with_object h a o new is t in
        omega arith;
  }
    where
      now : Heap
      now = with_object h a new

      grows : Grows h (with_object h a new)
      grows = Heaps.grows-with_object h a o new is

      by_object : (P : Addr → Object → Type 0)
          → ((c : Addr) (q : Object) → object_at h c ≡ Some q → P c q) → P a new
          → (b : Addr) (q : Object) → object_at (with_object h a new) b ≡ Some q → P b q
      by_object P old here b q at =
          elim (Heaps.address_cases b a) [
            | inl f ↦
                let same : new ≡ q = same_Some new q
                (sym (Heaps.object-with_object_same h a o new is)
                ∙ (ap (object_at (with_object h a new)) (sym f) ∙ at)) in
                subst (λ c. P c q) (sym f) (subst (P a) same here)
            | inr ne ↦ old b q (sym (Heaps.object-with_object_other h a o new is b ne) ∙ at)
          ]

      linked_now : (link : Object → Option Addr) → link new ≡ link o → Before h known.rank link
          → Before (with_object h a new) known.rank link
      linked_now link same before b c q at e =
          by_object (λ (d : Addr) (r : Object). link r ≡ Some c
          → IsObjectOf (with_object h a new) c × (known.rank c < known.rank d))
          (λ d r f g. let m : IsObjectOf h c × (known.rank c < known.rank d) = before d c r f
          g in (grows c m.0, m.1)) (λ g. let m : IsObjectOf h c
          × (known.rank c < known.rank a) = before a c o is (sym same ∙ g) in
          (grows c m.0, m.1)) b q at e

      linked : IsLinked p (with_object h a new)
      linked = record {
        rows = Heaps.rows-with_object h a o new is ∙ known.rows;
        class =
            by_object (λ (b : Addr) (q : Object). q.class ≡ class_of_site p b.site.0) known.class
            (k.class ∙ known.class a o is);
        arguments =
            by_object (λ (b : Addr) (q : Object). q.slots.arguments ≡ is_arguments_site p b.site)
            known.arguments
            (ap (λ (x : Slots). x.arguments) k.slots ∙ known.arguments a o is);
        names = by_object IsNamed known.names (k.names (known.names a o is));
        scope =
            λ b c q at e. by_object (λ (d : Addr) (r : Object). r.slots.scope ≡ Some c
            → IsObjectOf (with_object h a new) c) (λ d r f g. grows c (known.scope d c r f g))
            (λ g. grows c (known.scope a c o is (sym (ap (λ (x : Slots). x.scope) k.slots) ∙ g))) b
            q at e;
        scoped =
            by_object (λ (b : Addr). IsScoped p b.site) known.scoped
            (λ info told runs. subst (λ (x : Slots). IsSome x.scope) (sym k.slots)
            (known.scoped a o is info told runs));
        rank = known.rank;
        ranked =
            λ b there. let l : known.rank b < size h = known.ranked b
            (Heaps.object_unwritten h a o new is b there) in
            let e : size (with_object h a new) ≡ size h = Heaps.size-with_object h a o new is in
            omega arith;
        prototype_before =
            linked_now prototype_of (ap (λ (x : Slots). x.prototype) k.slots)
            known.prototype_before;
        outer_before = linked_now outer_of (ap (λ (x : Slots). x.outer) k.slots) known.outer_before;
        opening = λ t first. Heaps.count-with_object h a o new is t ∙ known.opening t first;
      }

  -- what a definition leaves
  pub kept-define : (name : List ℕ) (content : Content) (attrs : Attrs) → IsContentOf h content
      → IsKept p h (define h a name content attrs)
  kept-define name content attrs new =
      by_define (IsContentOf h) h a (IsKept p h) (kept_same p h known) kept-rewritten name content
      attrs new

  -- .. a deletion
  pub kept-delete : (name : List ℕ) → IsKept p h (delete h a name)
  kept-delete name =
      by_delete (IsContentOf h) h a (IsKept p h) (kept_same p h known) kept-rewritten name

  -- .. and a put
  pub kept-put : (name : List ℕ) (v : Value) → IsValueOf h v → IsKept p h (put h a name v).heap
  kept-put name v new =
      by_put (IsContentOf h) h a (IsKept p h) (kept_same p h known) kept-rewritten (λ n. tt) name v
      new
