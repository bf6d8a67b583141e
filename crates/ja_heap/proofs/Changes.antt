-- Objects replaced in a heap, row by row.
use Rattle.std.proofs.Common.{◌≡◌, ℕ, zero, suc, ◌<◌, ◌≤◌, List, [], ◌∷◌, ◌++◌, length, map, Some, None, Option, refl, sym, ap, ◌∙◌, arith, Vec, Global}
use Rattle.std.specs.Prelude.{slice_get, slice_set, slice_index_or, unwrap_or, Result, Ok, Err, OnErr}
use Rattle.std.specs.Option.{option_map, option_map_or}
use Rattle.std.specs.Vec.{with_item}
use Rattle.std.proofs.lemmas.List.{length-map, map-set}
use Rattle.std.proofs.lemmas.Option.{slice_get-map}
use Rattle.ja_base.specs.declared.ids.Site.{Site}
use Rattle.ja_base.proofs.Lists.{set_same}
use Rattle.ja_machine.specs.declared.machine.Addr.{Addr}
use Rattle.ja_machine.specs.declared.machine.Object.{Object}
use Rattle.ja_machine.specs.declared.machine.Heap.{Heap}
use Rattle.ja_machine.specs.Heap.{objects_of, object_at, size, with_new, with_object}
use Rattle.ja_machine.specs.Writes.{changed}
use Rattle.ja_machine.proofs.Heaps.{size-with_object}

row_same : {X : Type 0} (rows : List (List X)) (i : ℕ)
    → slice_set rows i (unwrap_or (slice_get rows i) []) ≡ rows
row_same [] i = refl
row_same (row ∷ rows) zero = refl
row_same (row ∷ rows) (suc i) = ap (λ rs. row ∷ rs) (row_same rows i)

-- an object replaced by itself
pub with_object_same : (h : Heap) (a : Addr) (o : Object) → object_at h a ≡ Some o
    → with_object h a o ≡ h
with_object_same h a o there =
    ap (λ (row : List Object). let k : Heap = record {
      objects = slice_set h.objects a.site.0 row;
    } in k) (set_same (objects_of h a.site) a.ordinal o there)
    ∙ ap (λ (rows : List (List Object)). let k : Heap = record { objects = rows } in k)
    (row_same h.objects a.site.0)

-- what holds holds after any error
pub on_err : {A E P : Type 0} (r : Result A E) → P → OnErr r P
on_err (Ok x) p = tt
on_err (Err e) p = p

-- ---- what is lent of a list

-- the element that is lent stands at its place
pub lent : {X : Type 0} (xs : List X) (i : ℕ) (x : X) → i < length xs → x ≡ slice_index_or xs i x
    → slice_get xs i ≡ Some x
lent [] i x l e = absurd (omega arith)
lent (y ∷ ys) zero x l e = ap Some (sym e)
lent (y ∷ ys) (suc i) x l e = lent ys i x (omega arith) e

pub past : {X : Type 0} (xs : List X) (i : ℕ) → length xs ≤ i → slice_get xs i ≡ None
past [] i l = refl
past (y ∷ ys) zero l = absurd (omega arith)
past (y ∷ ys) (suc i) l = past ys i (omega arith)

-- ---- rows as vectors

abbrev pub rows_of : List (Vec Object Global) → List (List Object)
rows_of rows = map (λ (row : Vec Object Global). row.items) rows

abbrev pub heap_of : List (Vec Object Global) → Heap
heap_of rows = record { objects = rows_of rows }

module _ (rows : List (Vec Object Global)) where
  -- the heap has as many sites
  pub row_fits : (s : Site) → s.0 < length rows → s.0 < length (rows_of rows)
  row_fits s l =
      let e : length (rows_of rows) ≡ length rows = length-map rows
      (λ (row : Vec Object Global). row.items) in omega arith

  -- a site without objects has none
  pub no_row : (a : Addr) → slice_get rows a.site.0 ≡ None → object_at (heap_of rows) a ≡ None
  no_row a e =
      ap (λ (r : Option (List Object)). slice_get (unwrap_or r []) a.ordinal)
      (slice_get-map (λ (v : Vec Object Global). v.items) rows a.site.0
      ∙ ap (option_map (λ (v : Vec Object Global). v.items)) e)

  module _ (s : Site) (row : Vec Object Global) (there : slice_get rows s.0 ≡ Some row) where
    pub row_objects : objects_of (heap_of rows) s ≡ row.items
    row_objects =
        ap (λ (r : Option (List Object)). unwrap_or r [])
        (slice_get-map (λ (v : Vec Object Global). v.items) rows s.0
        ∙ ap (option_map (λ (v : Vec Object Global). v.items)) there)

    -- what is read of a row is an object
    pub row_object : (n : ℕ) (r : Option Object) → slice_get row.items n ≡ r
        → object_at (heap_of rows) (record { site = s; ordinal = n }) ≡ r
    row_object n r e = ap (λ (os : List Object). slice_get os n) row_objects ∙ e

    -- the row replaced
    row_set : (v : Vec Object Global) → rows_of (slice_set rows s.0 v)
        ≡ slice_set (rows_of rows) s.0 v.items
    row_set v = map-set (λ (w : Vec Object Global). w.items) rows s.0 v

    -- .. by one with the same objects
    pub row_kept : (v : Vec Object Global) → v.items ≡ row.items
        → heap_of (slice_set rows s.0 v) ≡ heap_of rows
    row_kept v e =
        ap (λ (rs : List (List Object)). let k : Heap = record { objects = rs } in k)
        (row_set v ∙ (ap (slice_set (rows_of rows) s.0) (e ∙ sym row_objects)
        ∙ row_same (rows_of rows) s.0))

    -- .. by one with an object more
    pub row_longer : (v : Vec Object Global) (o : Object) → v.items ≡ row.items ++ o ∷ []
        → heap_of (slice_set rows s.0 v) ≡ with_new (heap_of rows) s o
    row_longer v o e =
        ap (λ (rs : List (List Object)). let k : Heap = record { objects = rs } in k)
        (row_set v ∙ ap (slice_set (rows_of rows) s.0)
        (e ∙ ap (λ (os : List Object). os ++ o ∷ []) (sym row_objects)))

    -- .. by one with another object
    pub row_changed : (n : ℕ) (o : Object) → heap_of (slice_set rows s.0 (with_item row n o))
        ≡ with_object (heap_of rows) (record { site = s; ordinal = n }) o
    row_changed n o =
        ap (λ (rs : List (List Object)). let k : Heap = record { objects = rs } in k)
        (row_set (with_item row n o) ∙ ap (λ (os : List Object).
        slice_set (rows_of rows) s.0 (slice_set os n o)) (sym row_objects))

-- an object that was lent is replaced
module _ (rows : List (Vec Object Global)) (a : Addr) (row : Vec Object Global)
    (there : slice_get rows a.site.0 ≡ Some row) (old : Object)
    (stands : slice_get row.items a.ordinal ≡ Some old) where
  pub found : object_at (heap_of rows) a ≡ Some old
  found = row_object rows a.site row there a.ordinal (Some old) stands

  pub size_kept : (new : Object) → size (heap_of rows)
      ≡ size (heap_of (slice_set rows a.site.0 (with_item row a.ordinal new)))
  size_kept new =
      sym (size-with_object (heap_of rows) a old new found)
      ∙ ap size (sym (row_changed rows a.site row there a.ordinal new))

-- what is changed is the object that is found
pub changed_found : (h : Heap) (a : Addr) (o : Object) (change : Object → Object)
    → object_at h a ≡ Some o → changed h a change ≡ with_object h a (change o)
changed_found h a o change there =
    ap (λ (r : Option Object). option_map_or (λ (q : Object). with_object h a (change q)) r h) there

-- .. and nothing changes where none is
pub changed_none : (h : Heap) (a : Addr) (change : Object → Object) → object_at h a ≡ None
    → changed h a change ≡ h
changed_none h a change none =
    ap (λ (r : Option Object). option_map_or (λ (q : Object). with_object h a (change q)) r h) none
