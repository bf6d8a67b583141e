-- Objects, heaps and frames as a run begins with them.
use Rattle.std.proofs.Common.{◌≡◌, ℕ, zero, suc, ◌+◌, ◌<◌, List, [], ◌∷◌, ◌++◌, map, take, Bool, true, false, Some, Option, refl, ap, sym, ◌∙◌, add-one, arith}
use Rattle.std.specs.Prelude.{slice_get, unwrap_or}
use Rattle.std.specs.List.{AllByRecursion}
use lib.Pointwise.{bytes_decides}
use Rattle.ja_base.specs.declared.ids.NameId.{NameId}
use Rattle.ja_base.proofs.Lists.{element_within}
use Rattle.ja_prim.specs.Texts.{same_text}
use Rattle.ja_graph.specs.declared.attrs.Attrs.{Attrs}
use Rattle.ja_graph.specs.declared.program.ObjectSpec.{ObjectSpec}
use Rattle.ja_graph.specs.declared.program.PropertySpec.{PropertySpec}
use Rattle.ja_graph.specs.declared.program.Program.{Program}
use Rattle.ja_graph.specs.WellFormed.{IsWellFormed, IsObjectWellFormed, IsName}
use Rattle.ja_machine.specs.declared.machine.Content.{Content}
use Rattle.ja_machine.specs.declared.machine.Property.{Property}
use Rattle.ja_machine.specs.Machine.{opening_content, opening_property}
use Rattle.ja_machine.specs.Nodes.{name_text}
use Rattle.ja_machine.specs.Writes.{new_property, with_definition}
use Rattle.ja_machine.proofs.Lists.{all_from, all_map}

-- ---- properties

-- a name that isn't there is defined behind the others
with_fresh : (qs : List Property) (name : List ℕ) (content : Content) (attrs : Attrs)
    → AllByRecursion (λ (q : Property). same_text q.name name ≡ false) qs
    → with_definition qs name content attrs ≡ qs ++ new_property name content attrs ∷ []
with_fresh [] name content attrs all = refl
with_fresh (q ∷ qs) name content attrs all =
    rw (all.0) (ap (λ (rest : List Property). q ∷ rest) (with_fresh qs name content attrs all.1))

-- what is read of the first entries stands among all, at a place before
before : {X : Type 0} (n : ℕ) (xs : List X) (i : ℕ) (x : X) → slice_get (take n xs) i ≡ Some x
    → (i < n) × (slice_get xs i ≡ Some x)
before zero xs i x e = absurd (cc)
before (suc n) [] i x e = absurd (cc)
before (suc n) (y ∷ xs) zero x e = (omega arith, e)
before (suc n) (y ∷ xs) (suc i) x e =
    let r : (i < n) × (slice_get xs i ≡ Some x) = before n xs i x e in (omega (arith, r.0), r.1)

-- one entry more
take_one_more : {X : Type 0} (n : ℕ) (xs : List X) (x : X) → slice_get xs n ≡ Some x
    → take (suc n) xs ≡ take n xs ++ x ∷ []
take_one_more zero [] x e = absurd (cc)
take_one_more zero (y ∷ xs) x e = let same : y ≡ x = cc in ap (λ (z : _). z ∷ []) same
take_one_more (suc n) [] x e = absurd (cc)
take_one_more (suc n) (y ∷ xs) x e = ap (λ (rest : List _). y ∷ rest) (take_one_more n xs x e)

map_one_more : {X Y : Type 0} (f : X → Y) (xs : List X) (x : X)
    → map f (xs ++ x ∷ []) ≡ map f xs ++ f x ∷ []
map_one_more f [] x = refl
map_one_more f (y ∷ xs) x = ap (λ (rest : List _). f y ∷ rest) (map_one_more f xs x)

module _ (p : Program) (good : IsWellFormed p) where
  -- two names have other texts
  same_name : (m n : NameId) → IsName p m → IsName p n
      → same_text (name_text p m) (name_text p n) ≡ true → m.0 ≡ n.0
  same_name m n mine other same =
      let t : (x : List ℕ) × (slice_get p.names m.0 ≡ Some x) = element_within p.names m.0 mine in
      let u : (x : List ℕ) × (slice_get p.names n.0 ≡ Some x) = element_within p.names n.0 other in
      let texts : name_text p m ≡ name_text p n = (bytes_decides (name_text p m) (name_text p n)).0
      same in
      let left : name_text p m ≡ t.0 = ap (λ (o : Option (List ℕ)). unwrap_or o []) t.1 in
      let right : name_text p n ≡ u.0 = ap (λ (o : Option (List ℕ)). unwrap_or o []) u.1 in
      let equal : t.0 ≡ u.0 = sym left ∙ texts ∙ right in
      good.distinct m.0 n.0 u.0 (t.1 ∙ ap (λ x. Some x) equal) u.1

  other_text : (m n : NameId) → IsName p m → IsName p n → (m.0 ≡ n.0 → ⊥)
      → same_text (name_text p m) (name_text p n) ≡ false
  other_text m n mine other apart = at (same_text (name_text p m) (name_text p n)) refl
    where
      at : (b : Bool) → same_text (name_text p m) (name_text p n) ≡ b → b ≡ false
      at false e = refl
      at true e = absurd (apart (same_name m n mine other e))

  module _ (i : ℕ) (o : ObjectSpec) (well : IsObjectWellFormed p i o) (n : ℕ) (q : PropertySpec)
      (at : slice_get o.properties n ≡ Some q) where
    -- the properties before one have other names
    none_before : AllByRecursion (λ (r : Property). same_text r.name (name_text p q.name) ≡ false)
        (map (opening_property p) (take n o.properties))
    none_before =
        all_map (λ (r : PropertySpec). same_text (name_text p r.name) (name_text p q.name) ≡ false)
        (λ (r : Property). same_text r.name (name_text p q.name) ≡ false) (opening_property p)
        (λ r e. e) (take n o.properties) (all_from
        (λ (r : PropertySpec). same_text (name_text p r.name) (name_text p q.name) ≡ false)
        (take n o.properties) each)
      where
        each : (j : ℕ) (r : PropertySpec) → slice_get (take n o.properties) j ≡ Some r
            → same_text (name_text p r.name) (name_text p q.name) ≡ false
        each j r e =
            let there : (j < n) × (slice_get o.properties j ≡ Some r) = before n o.properties j r
            e in
            other_text r.name q.name (well.names j r there.1) (well.names n q at)
            (λ same. let equal : j ≡ n = well.once j n r q there.1 at same in
            absurd (omega (arith, there.0, equal)))

    -- so it is defined behind them
    pub defined_next : with_definition (map (opening_property p) (take n o.properties))
        (name_text p q.name) (opening_content q.content) q.attrs
        ≡ map (opening_property p) (take (n + 1) o.properties)
    defined_next =
        with_fresh (map (opening_property p) (take n o.properties)) (name_text p q.name)
        (opening_content q.content) q.attrs none_before
        ∙ sym (map_one_more (opening_property p) (take n o.properties) q)
        ∙ ap (map (opening_property p)) (sym (take_one_more n o.properties q at)
        ∙ ap (λ (m : ℕ). take m o.properties) (sym (add-one n)))
