-- The heap in which a run begins is as it should be.
use Rattle.std.proofs.Common.{◌≡◌, ℕ, zero, suc, ◌+◌, ◌<◌, ◌≤◌, Bool, true, cond, List, [], ◌∷◌, length, map, Some, None, Option, inl, inr, refl, sym, ap, ◌∙◌, subst, arith}
use Rattle.std.specs.Prelude.{IsSome, slice_get, unwrap_or, find, ◌==◌}
use Rattle.std.specs.List.{sum_by, range_with_len}
use Rattle.std.specs.Option.{is_some, option_map, option_to_list}
use Rattle.std.proofs.lemmas.Option.{same_Some}
use Rattle.std.proofs.lemmas.Bool.{cases_Bool, false≢true, eq-eqb, eqb-true, cond-true, cond-false}
use Rattle.std.proofs.lemmas.List.Sums.{sum_by-cons}
use Rattle.std.proofs.lemmas.List.FromFn.{length-map-range_with_len}
use Rattle.ja_base.specs.declared.ids.NameId.{NameId}
use Rattle.ja_base.specs.declared.ids.Site.{Site}
use Rattle.ja_base.proofs.Lists.{within_from_some, element_within}
use Rattle.ja_graph.specs.declared.program.ObjectSpec.{ObjectSpec}
use Rattle.ja_graph.specs.declared.program.PropertySpec.{PropertySpec}
use Rattle.ja_graph.specs.declared.program.SpecContent.{SpecContent}
use Rattle.ja_graph.specs.declared.program.SpecContent.TheVariants as spec_content
use Rattle.ja_graph.specs.declared.program.Program.{Program}
use Rattle.ja_graph.specs.Program.{object_spec, is_arguments_site}
use Rattle.ja_graph.specs.WellFormed.{IsWellFormed, IsContent, IsName, StandsBefore}
use Rattle.ja_machine.specs.declared.machine.Addr.{Addr}
use Rattle.ja_machine.specs.declared.machine.Property.{Property}
use Rattle.ja_machine.specs.declared.machine.Object.{Object}
use Rattle.ja_machine.specs.Heap.{objects_of, count, size, object_at, prototype_of, outer_of}
use Rattle.ja_machine.specs.Nodes.{name_text}
use Rattle.ja_machine.specs.Objects.{first_of}
use Rattle.ja_machine.specs.Machine.{class_of_site, opening_content, opening_property, opening_object, opening_objects_at, opening_heap}
use Rattle.ja_machine.specs.State.{IsObjectOf, IsContentOf, IsHeap, HaveDistinctNames, IsScoped}
use Rattle.ja_machine.proofs.Lists.{is_some_from, slice_get-map_range, all_from, all_map}
use Rattle.ja_machine.proofs.Distinct.{distinct_from}
use Rattle.ja_machine.proofs.Heaps
use Rattle.ja_machine.proofs.Heaps.{ordinal-below, object_from_ordinal}
use Rattle.ja_machine.proofs.Writing.{Hold}
use Rattle.ja_machine.proofs.Growing.{heap_of}
use Rattle.ja_machine.proofs.ArgumentSites.{no_arguments}

-- ---- the first place of a list at which a test passes

-- how many stand before it
abbrev pub place : {X : Type 0} → (X → Bool) → List X → ℕ
place test [] = 0
place test (x ∷ xs) = cond (test x) 0 (suc (place test xs))

found_at : {X : Type 0} (test : X → Bool) (xs : List X) (x : X) → find test xs ≡ Some x
    → (slice_get xs (place test xs) ≡ Some x) × (test x ≡ true)
found_at test [] x e = absurd (false≢true (ap is_some e))
found_at test (y ∷ ys) x e =
    elim (cases_Bool (test y)) [
      | inl t ↦
          let s : y ≡ x = same_Some y x (sym (cond-true _ _ _ t) ∙ e) in (
            subst (λ n. slice_get (y ∷ ys) n ≡ Some x)
                (sym (cond-true (test y) 0 (suc (place test ys)) t)) (ap Some s),
            ap test (sym s) ∙ t,
          )
      | inr f ↦
          let r : (slice_get ys (place test ys) ≡ Some x)
          × (test x ≡ true) = found_at test ys x (sym (cond-false _ _ _ f) ∙ e) in (
            subst (λ n. slice_get (y ∷ ys) n ≡ Some x)
                (sym (cond-false (test y) 0 (suc (place test ys)) f)) r.0,
            r.1,
          )
    ]

place_first : {X : Type 0} (test : X → Bool) (xs : List X) (j : ℕ) (x : X) → slice_get xs j ≡ Some x
    → test x ≡ true → place test xs ≤ j
place_first test [] j x e t = omega arith
place_first test (y ∷ ys) zero x e t =
    let c : place test (y ∷ ys) ≡ 0 = cond-true (test y) 0 (suc (place test ys))
    (ap test (same_Some y x e) ∙ t) in omega arith
place_first test (y ∷ ys) (suc j) x e t =
    let r : place test ys ≤ j = place_first test ys j x e t in
    elim (cases_Bool (test y)) [
      | inl k ↦ let c : place test (y ∷ ys) ≡ 0 = cond-true (test y) 0 (suc (place test ys)) k in
          omega arith
      | inr k ↦ let c : place test (y ∷ ys) ≡ suc (place test ys) =
          cond-false (test y) 0 (suc (place test ys)) k in omega arith
    ]

-- ---- rows made from the numbers of sites

sum_of_range : (f : ℕ → List Object) (a n m : ℕ) → m ≤ n
    → ((s : ℕ) → a ≤ s → s < a + m → length (f s) ≡ 1)
    → m ≤ sum_by length (map f (range_with_len a n))
sum_of_range f a n zero h one = omega arith
sum_of_range f a zero (suc m) h one = absurd (omega arith)
sum_of_range f a (suc n) (suc m) h one =
    let r : m ≤ sum_by length (map f (range_with_len (a + 1) n)) = sum_of_range f (a + 1) n m
    (omega arith) (λ s low high. one s (omega arith) (omega arith)) in
    let e : length (f a) ≡ 1 = one a (omega arith) (omega arith) in
    omega (arith, sum_by-cons length (f a) (map f (range_with_len (a + 1) n)))

-- ---- the objects of the opening heap

-- where an address's object stands in the list of those that are there when a run begins
abbrev pub place_of : Program → Addr → ℕ
place_of p a = place (λ (o : ObjectSpec). o.site.0 == a.site.0) p.opening

-- what an object of the opening heap is
pub record IsOpened (p : Program) (a : Addr) : Type 0 where
  pub spec : ObjectSpec
  pub ordinal : a.ordinal ≡ 0
  pub object_is : object_at (opening_heap p) a ≡ Some (opening_object p spec)
  pub spec_is : slice_get p.opening (place_of p a) ≡ Some spec
  pub site_is : spec.site.0 ≡ a.site.0
  pub site_fits : a.site.0 < length p.opening

module _ (p : Program) (good : IsWellFormed p) where
  -- the objects of a site, from the list of those that are there when a run begins
  pub objects-opening : (s : Site) → s.0 < length p.sites
      → objects_of (opening_heap p) s ≡ opening_objects_at p s.0
  objects-opening s h =
      ap (λ r. unwrap_or r []) (slice_get-map_range (opening_objects_at p) 0 (length p.sites) s.0 h
      ∙ ap (λ m. Some (opening_objects_at p m)) (omega arith))

  one_object : (o : Option ObjectSpec) → IsSome o
      → length (option_to_list (option_map (opening_object p) o)) ≡ 1
  one_object None h = absurd (false≢true h)
  one_object (Some o) h = refl

  -- each site without a node has one object
  pub count-opening : (s : Site) → s.0 < length p.opening → count (opening_heap p) s ≡ 1
  count-opening s h =
      let w : length p.opening ≤ length p.sites = good.sites in
      ap length (objects-opening s (omega arith))
      ∙ one_object (object_spec p s.0) (good.all_objects s.0 h)

  -- .. which is its first
  pub first-opening : (s : Site) → s.0 < length p.opening → IsObjectOf (opening_heap p) (first_of s)
  first-opening s h =
      object_from_ordinal (opening_heap p) (first_of s)
      (let e : count (opening_heap p) s ≡ 1 = count-opening s h in omega arith)

  opened_list : (o : Option ObjectSpec) (i : ℕ)
      → IsSome (slice_get (option_to_list (option_map (opening_object p) o)) i)
      → (spec : ObjectSpec) × (o ≡ Some spec) × (i ≡ 0)
  opened_list None i h = absurd (false≢true h)
  opened_list (Some o) zero h = (o, refl, refl)
  opened_list (Some o) (suc i) h = absurd (false≢true h)

  site_in_range : (a : Addr) → IsObjectOf (opening_heap p) a → a.site.0 < length p.sites
  site_in_range a there =
      let b : a.ordinal < count (opening_heap p) a.site = ordinal-below (opening_heap p) a there in
      let r : a.site.0 < length (opening_heap p).objects = Heaps.row_within (opening_heap p).objects
      a.site.0 (omega arith) in
      let e : length (opening_heap p).objects
      ≡ length p.sites = length-map-range_with_len (opening_objects_at p) 0 (length p.sites) in
      omega arith

  -- each object of the opening heap is one of that list
  pub opened_at_address : (a : Addr) → IsObjectOf (opening_heap p) a → IsOpened p a
  opened_at_address a there =
      let row : objects_of (opening_heap p) a.site
      ≡ opening_objects_at p a.site.0 = objects-opening a.site (site_in_range a there) in
      let (spec, spec_is, zero_is) = opened_list (object_spec p a.site.0) a.ordinal
      (subst (λ (r : List Object). IsSome (slice_get r a.ordinal)) row there) in
      let found : (slice_get p.opening (place (λ (o : ObjectSpec). o.site.0 == a.site.0) p.opening)
      ≡ Some spec) × ((spec.site.0 == a.site.0) ≡ true) = found_at
      (λ (o : ObjectSpec). o.site.0 == a.site.0) p.opening spec spec_is in
      let same : spec.site.0 ≡ a.site.0 = eqb-true spec.site.0 a.site.0 found.1 in
      let fits : spec.site.0 < length p.opening = (good.objects _ spec found.0).site in
      record {
        spec = spec;
        ordinal = zero_is;
        object_is =
            ap (λ (r : List Object). slice_get r a.ordinal) row
            ∙ (ap (λ o. slice_get (option_to_list (option_map (opening_object p) o)) a.ordinal)
            spec_is ∙ ap (slice_get (opening_object p spec ∷ [])) zero_is);
        spec_is = found.0;
        site_is = same;
        site_fits = omega arith;
      }

  -- a site of a node has no object yet
  pub none-opening : (s : Site) → length p.opening ≤ s.0 → count (opening_heap p) s ≡ 0
  none-opening s late = at (count (opening_heap p) s) refl
    where
      at : (n : ℕ) → count (opening_heap p) s ≡ n → n ≡ 0
      at zero e = refl
      at (suc n) e =
          let a : Addr = record { site = s; ordinal = 0 } in
          let k : IsOpened p a = opened_at_address a
          (object_from_ordinal (opening_heap p) a (omega arith)) in
          let l : s.0 < length p.opening = k.site_fits in
          absurd (omega arith)

  -- what the object at an address is made from
  spec_of : (a : Addr) (o : Object) → object_at (opening_heap p) a ≡ Some o
      → (k : IsOpened p a) × (opening_object p k.spec ≡ o)
  spec_of a o is =
      let k : IsOpened p a = opened_at_address a (is_some_from _ o is) in
      (k, same_Some _ _ (sym k.object_is ∙ is))

  -- ---- links

  size-opening : length p.opening ≤ size (opening_heap p)
  size-opening =
      sum_of_range (opening_objects_at p) 0 (length p.sites) (length p.opening) good.sites
      (λ s low high. one_object (object_spec p s) (good.all_objects s (omega arith)))

  ranked-opening : (a : Addr) → IsObjectOf (opening_heap p) a → place_of p a < size (opening_heap p)
  ranked-opening a there =
      let k : IsOpened p a = opened_at_address a there in
      let l : place_of p a < length p.opening = within_from_some p.opening (place_of p a)
      (is_some_from _ k.spec k.spec_is) in
      omega (arith, size-opening)

  linked : (o : Option Site) (b : Addr) → option_map first_of o ≡ Some b
      → (s : Site) × (o ≡ Some s) × (b ≡ first_of s)
  linked None b e = absurd (false≢true (ap is_some e))
  linked (Some s) b e = (s, refl, sym (same_Some _ _ e))

  -- a link of an object leads to one that stands before it
  leads_before : (a b : Addr) (k : IsOpened p a) (o : Option Site)
      → ((s : Site) → o ≡ Some s → StandsBefore p (place_of p a) s) → option_map first_of o ≡ Some b
      → IsObjectOf (opening_heap p) b × (place_of p b < place_of p a)
  leads_before a b k o stands link =
      let (s, site_is, b_is) = linked o b link in
      let (j, q, before, at, same_is) = stands s site_is in
      let fits : q.site.0 < length p.opening = (good.objects j q at).site in
      let same_site : b.site.0 ≡ s.0 = ap (λ (c : Addr). c.site.0) b_is in
      let first : place_of p b ≤ j = place_first (λ (r : ObjectSpec). r.site.0 == b.site.0)
      p.opening j q at (eq-eqb q.site.0 b.site.0 (omega arith)) in (
        subst (λ c. IsObjectOf (opening_heap p) c) (sym b_is) (first-opening s (omega arith)),
        omega arith,
      )

  prototype-opening : (a b : Addr) (o : Object) → object_at (opening_heap p) a ≡ Some o
      → prototype_of o ≡ Some b → IsObjectOf (opening_heap p) b × (place_of p b < place_of p a)
  prototype-opening a b o is link =
      let (k, same) = spec_of a o is in
      leads_before a b k k.spec.prototype (good.objects _ k.spec k.spec_is).prototype
      (ap prototype_of same ∙ link)

  scope-opening : (a b : Addr) (o : Object) → object_at (opening_heap p) a ≡ Some o
      → o.slots.scope ≡ Some b → IsObjectOf (opening_heap p) b
  scope-opening a b o is link =
      let (k, same) = spec_of a o is in
      (leads_before a b k k.spec.scope (good.objects _ k.spec k.spec_is).scope
      (ap (λ (q : Object). q.slots.scope) same ∙ link)).0

  outer-opening : (a b : Addr) (o : Object) → object_at (opening_heap p) a ≡ Some o
      → outer_of o ≡ Some b → IsObjectOf (opening_heap p) b × (place_of p b < place_of p a)
  outer-opening a b o is link = let (k, same) = spec_of a o is in
      absurd (false≢true (ap is_some (ap outer_of same ∙ link)))

  class-opening : (a : Addr) (o : Object) → object_at (opening_heap p) a ≡ Some o
      → o.class ≡ class_of_site p a.site.0
  class-opening a o is =
      let (k, same) = spec_of a o is in
      sym (ap (λ (q : Object). q.class) same) ∙ ap (class_of_site p) k.site_is

  arguments-opening : (a : Addr) (o : Object) → object_at (opening_heap p) a ≡ Some o
      → o.slots.arguments ≡ is_arguments_site p a.site
  arguments-opening a o is =
      let (k, same) = spec_of a o is in
      sym (ap (λ (q : Object). q.slots.arguments) same)
      ∙ sym (no_arguments p good a.site k.site_fits)

  scoped-opening : (a : Addr) (o : Object) → object_at (opening_heap p) a ≡ Some o
      → IsScoped p a.site o
  scoped-opening a o is info told runs =
      let (k, same) = spec_of a o is in
      let there : slice_get p.sites k.spec.site.0 ≡ Some info = ap (slice_get p.sites) k.site_is
      ∙ told in
      subst (λ (q : Object). IsSome q.slots.scope) same
      (first_some k.spec.scope ((good.objects _ k.spec k.spec_is).scoped info there runs))
    where
      first_some : (scope : Option Site) → IsSome scope → IsSome (option_map first_of scope)
      first_some None some = some
      first_some (Some s) some = refl

  -- ---- properties

  -- the text of a name is that of no other one
  name_is : (n : NameId) → IsName p n → slice_get p.names n.0 ≡ Some (name_text p n)
  name_is n fits =
      let (t, is) = element_within p.names n.0 fits in
      is ∙ ap Some (sym (ap (λ r. unwrap_or r []) is))

  same_name : (m n : NameId) → IsName p m → IsName p n → name_text p m ≡ name_text p n → m.0 ≡ n.0
  same_name m n first second same =
      good.distinct m.0 n.0 (name_text p n) (name_is m first ∙ ap Some same) (name_is n second)

  names-opening : (a : Addr) (o : Object) →
      object_at (opening_heap p) a ≡ Some o → HaveDistinctNames o.properties
  names-opening a o is =
      let (k, same) = spec_of a o is in
      let fits = good.objects _ k.spec k.spec_is in
      subst
      (λ (q : Object). HaveDistinctNames q.properties)
      same
      (distinct_from (opening_property p) k.spec.properties (λ i j x y at_i at_j e.
      let first = fits.names i x at_i in
      let second = fits.names j y at_j in
      fits.once i j x y at_i at_j (same_name x.name y.name first second e)))

  content-opening : (x : SpecContent) → IsContent p x
      → IsContentOf (opening_heap p) (opening_content x)
  content-opening (spec_content.Prim q) fits = tt
  content-opening (spec_content.Object s) fits = first-opening s fits
  content-opening spec_content.Row fits = tt

  held-opening : (a : Addr) (o : Object) → object_at (opening_heap p) a ≡ Some o
      → Hold (IsContentOf (opening_heap p)) o.properties
  held-opening a o is =
      let (k, same) = spec_of a o is in
      subst (λ (q : Object). Hold (IsContentOf (opening_heap p)) q.properties) same
      (all_map (λ (q : PropertySpec). IsContent p q.content)
      (λ (q : Property). IsContentOf (opening_heap p) q.content) (opening_property p)
      (λ q fits. content-opening q.content fits) k.spec.properties
      (all_from (λ (q : PropertySpec). IsContent p q.content) k.spec.properties
      (good.objects _ k.spec k.spec_is).contents))

  -- the heap in which a run begins
  pub heap-opening : IsHeap p (opening_heap p)
  heap-opening = heap_of p (opening_heap p) (record {
    rows = length-map-range_with_len (opening_objects_at p) 0 (length p.sites);
    class = class-opening;
    arguments = arguments-opening;
    names = names-opening;
    scope = scope-opening;
    scoped = scoped-opening;
    rank = place_of p;
    ranked = ranked-opening;
    prototype_before = prototype-opening;
    outer_before = outer-opening;
    opening = count-opening;
  }) held-opening
