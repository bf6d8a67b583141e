-- A value that is set: what is there stays there, and what is deleted behind it or before it.
use Rattle.std.proofs.Common.{◌≡◌, ℕ, ◌+◌, ℤ, pos, cond, not, Bool, true, false, List, [], ◌∷◌, Some, None, Option, inl, inr, refl, ap, ◌∙◌}
use Rattle.std.specs.Prelude.{find, filter, is_some, nat_le, int_lt, ◌&&◌}
use Rattle.std.specs.Cmp.Lexicographic.{bytes_decides}
use Rattle.std.specs.Option.{option_map_or}
use Rattle.std.proofs.lemmas.Bool.{cases_Bool}
use Rattle.std.proofs.lemmas.Cmp.{nat_list_eq_equiv}
use Rattle.ja_graph.specs.declared.attrs.TheConstants.{NO_ATTRS}
use Rattle.ja_machine.specs.declared.machine.Content.TheVariants as contents
use Rattle.ja_machine.specs.declared.machine.Object.{Object}
use Rattle.ja_machine.specs.declared.machine.Property.{Property}
use Rattle.ja_machine.specs.declared.machine.Value.{Value}
use Rattle.ja_prim.specs.Texts.{same_text}
use Rattle.ja_machine.specs.Heap.{property_of}
use Rattle.ja_machine.specs.Writes.{with_value, new_property, property_number, object_with_value, length_name, length_of, whole_number, with_length, with_element, is_cut}
use Rattle.ja_prim.specs.Conversions.{index_of}

-- a property that is there stays there when a value is set
pub stays_there : (key name : List ℕ) (v : Value) (qs : List Property)
    → is_some (find (λ (q : Property). same_text q.name key) qs) ≡ true
    → is_some (find (λ (q : Property). same_text q.name key) (with_value qs name v)) ≡ true
stays_there key name v [] h = cc
stays_there key name v (q ∷ qs) h =
    elim (cases_Bool (same_text q.name key)) [
      | inl t ↦ elim (cases_Bool (same_text q.name name))
          [ inl u ↦ simp (t, u) | inr u ↦ simp (t, u) ]
      | inr f ↦
          let k = simp f at h in
          elim (cases_Bool (same_text q.name name))
          [ inl u ↦ simp (f, u) k | inr u ↦ simp (f, u) (stays_there key name v qs k) ]
    ]

-- what a number is read of is there
pub number_there : (r : Option Property) (n : ℤ) → property_number r ≡ Some n → is_some r ≡ true
number_there None n h = cc
number_there (Some q) n h = refl

-- what keeps each property of a name keeps it before the value is set and behind
pub set_behind : (keep : Property → Bool) (name : List ℕ) (v : Value)
    → ((q : Property) → same_text q.name name ≡ true → keep q ≡ true) → (qs : List Property)
    → filter keep (with_value qs name v) ≡ with_value (filter keep qs) name v
set_behind keep name v h [] =
    let k : keep (new_property name (contents.Value v) NO_ATTRS)
    ≡ true = h (new_property name (contents.Value v) NO_ATTRS) (nat_list_eq_equiv.refl name) in
    simp k
set_behind keep name v h (q ∷ qs) =
    elim (cases_Bool (same_text q.name name)) [
      | inl t ↦
          let now : Property = record q { content = contents.Value v } in
          let a : keep q ≡ true = h q t in
          let b : keep now ≡ true = h now t in
          simp (t, a, b)
      | inr f ↦ elim (cases_Bool (keep q)) [
        | inl k ↦ simp (f, k, set_behind keep name v h qs)
        | inr k ↦ simp (f, k, set_behind keep name v h qs)
      ]
    ]

-- what is set where it is there
module _ (o : Object) (name : List ℕ) (v : Value) (new : Object) where
  pub set_there : is_some (property_of o name) ≡ true → new ≡ object_with_value o name v
      → new ≡ cond (is_some (property_of o name)) (object_with_value o name v) o
  set_there t e = simp t e

  pub not_there : is_some (property_of o name) ≡ false → new ≡ o
      → new ≡ cond (is_some (property_of o name)) (object_with_value o name v) o
  not_there f e = simp f e

-- a length is set behind a put: it was there
pub length_set : (o : Object) (name : List ℕ) (v w : Value) (n : ℤ) (new : Object)
    → property_number (property_of o length_name) ≡ Some n
    → new ≡ cond (is_some (property_of (object_with_value o name v) length_name))
    (object_with_value (object_with_value o name v) length_name w) (object_with_value o name v)
    → new ≡ object_with_value (object_with_value o name v) length_name w
length_set o name v w n new h e =
    simp (stays_there length_name name v o.properties
    (number_there (property_of o length_name) n h)) at e

-- a length isn't an element that is cut
pub length_stays : (n : ℕ) (old : Option ℤ) (q : Property) → same_text q.name length_name ≡ true
    → not (is_cut n old q) ≡ true
length_stays n None q h = refl
length_stays n (Some old) q h =
    let e : q.name ≡ length_name = (bytes_decides q.name length_name).0 h in
    ap (λ (r : Option ℕ). not (option_map_or (λ index. nat_le n index && int_lt (pos index) old) r
    false)) (ap index_of e)

-- a length is set, and then what isn't below it is deleted
pub length_put : (o mid new : Object) (n : ℕ) (old : Option ℤ) → old ≡ length_of o
    → mid ≡ object_with_value o length_name (whole_number n)
    → new ≡ record mid {
      properties = filter (λ (q : Property). not (is_cut n old q)) mid.properties;
    } → new ≡ with_length o n
length_put o mid new n old a b e =
    e ∙ ((λ i. record (b i) {
      properties = filter (λ (q : Property). not (is_cut n (a i) q))
          (b i).properties;
    }) ∙ ap (λ (qs : List Property). record o { properties = qs })
    (set_behind (λ (q : Property). not (is_cut n (length_of o) q)) length_name (whole_number n)
    (length_stays n (length_of o)) o.properties))

-- an element is set that isn't below the length, and then the length
pub element_put : (o new : Object) (name : List ℕ) (v w : Value) (index : ℕ) (old : ℤ)
    → index_of name ≡ Some index → length_of o ≡ Some old → int_lt (pos index) old ≡ false
    → w ≡ whole_number (index + 1)
    → new ≡ object_with_value (object_with_value o name v) length_name w
    → new ≡ with_element o name v (index_of name)
element_put o new name v w index old i l f k e =
    simp (i, l, f) (e ∙ ap (object_with_value (object_with_value o name v) length_name) k)
