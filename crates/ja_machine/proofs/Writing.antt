-- A definition, a deletion and a put change one object at most, which keeps its class and its
-- internal properties.
use Rattle.std.proofs.Common.{◌≡◌, ℕ, ℤ, pos, ◌+◌, List, [], ◌∷◌, Some, None, Option, refl, ◌∙◌}
use Rattle.std.specs.Prelude.{Bool, not, filter, int_lt, if◌then◌else◌}
use Rattle.std.specs.List.{AllByRecursion}
use Rattle.std.specs.Option.{option_map_or}
use Rattle.ja_graph.specs.declared.attrs.Attrs.{Attrs}
use Rattle.ja_prim.specs.Conversions.{to_number, index_of}
use Rattle.ja_prim.specs.Texts.{same_text}
use Rattle.ja_machine.specs.declared.machine.Addr.{Addr}
use Rattle.ja_machine.specs.declared.machine.Value.{Value}
use Rattle.ja_machine.specs.declared.machine.Value.TheVariants as value
use Rattle.ja_machine.specs.declared.machine.Content.{Content}
use Rattle.ja_machine.specs.declared.machine.Content.TheVariants as contents
use Rattle.ja_machine.specs.declared.machine.Property.{Property}
use Rattle.ja_machine.specs.declared.machine.Object.{Object}
use Rattle.ja_machine.specs.declared.machine.Heap.{Heap}
use Rattle.ja_machine.specs.declared.machine.Put.TheVariants as put_ends
use Rattle.ja_machine.specs.Heap.{object_at, with_object, can_put, is_shared}
use Rattle.ja_machine.specs.Writes.{with_value, with_definition, without, object_with_value, changed, define, can_delete, delete, length_name, whole_number, length_of, grown, with_element, unsigned_number, is_cut, with_length, PutOutcome, written, put_length, put_length_value, put_array, is_array, put_own, put}
use Rattle.ja_machine.specs.State.{HaveDistinctNames}
use Rattle.ja_machine.proofs.Lists.{either_way, all_filter}
use Rattle.ja_machine.proofs.Distinct.{distinct-with_value, distinct-with_definition}
use Rattle.ja_machine.proofs.Distinct.{distinct-filter}
use Rattle.ja_machine.proofs.Heaps.{of_object}

-- what holds of the content of each property
abbrev pub Hold : (Content → Type 0) → List Property → Type 0
Hold C qs = AllByRecursion (λ (q : Property). C q.content) qs

-- an object that is changed: what its properties hold is as before, or new, and their names stay
-- distinct
pub record IsRewritten (C : Content → Type 0) (old new : Object) : Type 0 where
  pub class : new.class ≡ old.class
  pub slots : new.slots ≡ old.slots
  pub holds : Hold C old.properties → Hold C new.properties
  pub names : HaveDistinctNames old.properties → HaveDistinctNames new.properties

module _ (C : Content → Type 0) where
  hold-with_value : (qs : List Property) (name : List ℕ) (v : Value) → C (contents.Value v)
      → Hold C qs → Hold C (with_value qs name v)
  hold-with_value [] name v new all = (new, tt)
  hold-with_value (q ∷ qs) name v new all =
      either_way (Hold C) (same_text q.name name) (record q { content = contents.Value v } ∷ qs)
      (q ∷ with_value qs name v) (λ e. (new, all.1))
      (λ e. (all.0, hold-with_value qs name v new all.1))

  hold-with_definition : (qs : List Property) (name : List ℕ) (content : Content) (attrs : Attrs)
      → C content → Hold C qs → Hold C (with_definition qs name content attrs)
  hold-with_definition [] name content attrs new all = (new, tt)
  hold-with_definition (q ∷ qs) name content attrs new all =
      either_way (Hold C) (same_text q.name name)
      (record q { content = content; attrs = attrs } ∷ qs)
      (q ∷ with_definition qs name content attrs) (λ e. (new, all.1))
      (λ e. (all.0, hold-with_definition qs name content attrs new all.1))

  rewritten_then : (o q r : Object) → IsRewritten C o q → IsRewritten C q r → IsRewritten C o r
  rewritten_then o q r first second = record {
    class = second.class ∙ first.class;
    slots = second.slots ∙ first.slots;
    holds = λ all. second.holds (first.holds all);
    names = λ all. second.names (first.names all);
  }

  rewritten-value : (o : Object) (name : List ℕ) (v : Value) → C (contents.Value v)
      → IsRewritten C o (object_with_value o name v)
  rewritten-value o name v new = record {
    class = refl;
    slots = refl;
    holds = hold-with_value o.properties name v new;
    names = distinct-with_value o.properties name v;
  }

  rewritten-filter : (o : Object) (test : Property → Bool)
      → IsRewritten C o (record o { properties = filter test o.properties })
  rewritten-filter o test = record {
    class = refl;
    slots = refl;
    holds = all_filter (λ (q : Property). C q.content) test o.properties;
    names = distinct-filter test o.properties;
  }

  module _ (numbers : (n : ℕ) → C (contents.Value (whole_number n))) where
    rewritten-grown : (o q : Object) (index : ℕ) (r : Option ℤ) → IsRewritten C o q
        → IsRewritten C o (grown index r q)
    rewritten-grown o q index None k = k
    rewritten-grown o q index (Some n) k =
        either_way (IsRewritten C o) (int_lt (pos index) n) q
        (object_with_value q length_name (whole_number (index + 1))) (λ e. k)
        (λ e. rewritten_then o q _ k (rewritten-value q length_name (whole_number (index + 1))
        (numbers (index + 1))))

    rewritten-element : (o : Object) (name : List ℕ) (v : Value) (index : Option ℕ)
        → C (contents.Value v) → IsRewritten C o (with_element o name v index)
    rewritten-element o name v None new = rewritten-value o name v new
    rewritten-element o name v (Some index) new =
        rewritten-grown o (object_with_value o name v) index (length_of o)
        (rewritten-value o name v new)

    rewritten-length : (o : Object) (n : ℕ) → IsRewritten C o (with_length o n)
    rewritten-length o n =
        let test : Property → Bool = λ (q : Property). not (is_cut n (length_of o) q) in
        let cut : Object = record o { properties = filter test o.properties } in
        rewritten_then o cut (object_with_value cut length_name (whole_number n))
        (rewritten-filter o test) (rewritten-value cut length_name (whole_number n) (numbers n))

  -- what holds of the heap, and of each heap with the object changed, holds after a write
  module _ (h : Heap) (a : Addr) (P : Heap → Type 0) (kept : P h)
      (further : (o new : Object) → object_at h a ≡ Some o → IsRewritten C o new
      → P (with_object h a new)) where
    -- after a change of the object at the address
    pub by_change : (f : Object → Object) → ((o : Object) → IsRewritten C o (f o))
        → P (changed h a f)
    by_change f each =
        of_object h a P (λ (o : Object). with_object h a (f o)) h kept
        (λ o e. further o (f o) e (each o))

    -- .. a definition
    pub by_define : (name : List ℕ) (content : Content) (attrs : Attrs) → C content
        → P (define h a name content attrs)
    by_define name content attrs new =
        by_change
        (λ o. record o { properties = with_definition o.properties name content attrs })
        (λ o. record {
          class = refl;
          slots = refl;
          holds = hold-with_definition o.properties name content attrs new;
          names = distinct-with_definition o.properties name content attrs;
        })

    -- .. a deletion
    pub by_delete : (name : List ℕ) → P (delete h a name)
    by_delete name =
        either_way P (can_delete h a name) (changed h a
        (λ o. record o { properties = without o.properties name })) h
        (λ e. by_change (λ o. record o { properties = without o.properties name })
        (λ o. rewritten-filter o (λ (q : Property). not (same_text q.name name)))) (λ e. kept)

    module _ (numbers : (n : ℕ) → C (contents.Value (whole_number n))) where
      by_length : (o : Object) → object_at h a ≡ Some o → (n : Option ℕ)
          → P (put_length h a o n).heap
      by_length o is None = kept
      by_length o is (Some n) = further o (with_length o n) is (rewritten-length numbers o n)

      by_length_value : (o : Object) → object_at h a ≡ Some o → (v : Value)
          → P (put_length_value h a o v).heap
      by_length_value o is (value.Object b) = kept
      by_length_value o is (value.Primitive q) = by_length o is (unsigned_number (to_number q))

      by_own : (o : Object) → object_at h a ≡ Some o → (name : List ℕ) (v : Value)
          → C (contents.Value v) → P (put_own h a o name v).heap
      by_own o is name v new =
          let array : P (put_array h a o name v).heap = either_way (λ (w : PutOutcome). P w.heap)
          (same_text name length_name) (put_length_value h a o v)
          (written (with_object h a (with_element o name v (index_of name))) put_ends.Done)
          (λ e. by_length_value o is v) (λ e.
          further o (with_element o name v (index_of name)) is
          (rewritten-element numbers o name v (index_of name) new)) in
          either_way (λ (w : PutOutcome). P w.heap) (is_array o.class) (put_array h a o name v)
          (written (with_object h a (object_with_value o name v)) put_ends.Done) (λ e. array)
          (λ e. further o (object_with_value o name v) is (rewritten-value o name v new))

      -- .. and a put
      pub by_put : (name : List ℕ) (v : Value) → C (contents.Value v) → P (put h a name v).heap
      by_put name v new =
          let Q : PutOutcome → Type 0 = λ (w : PutOutcome). P w.heap in
          let own : PutOutcome = option_map_or (λ (o : Object). put_own h a o name v)
          (object_at h a) (written h put_ends.Done) in
          let put_it : Q own = of_object h a Q (λ (o : Object). put_own h a o name v)
          (written h put_ends.Done) kept (λ o is. by_own o is name v new) in
          either_way Q (not (can_put h a name)) (written h put_ends.Ignored)
          (if is_shared h a name then written h put_ends.SharedArgument else own) (λ e. kept)
          (λ e. either_way Q (is_shared h a name) (written h put_ends.SharedArgument) own
          (λ f. kept) (λ f. put_it))
