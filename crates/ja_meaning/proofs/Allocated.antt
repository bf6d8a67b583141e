-- A state with an object more, or two, holds of the heap with these objects: generic over what they
-- are made of.
use Rattle.std.specs.Prelude.{◌≡◌, ◌≢◌, ◌⊎◌, ◌<◌, ◌≤◌, ◌==◌, ℕ, suc, false, IsTrue, length, slice_get, Some}
use Rattle.std.proofs.Common.{sym, ap, subst, arith, inl, inr, ◌∙◌}
use Rattle.std.proofs.lemmas.Bool.{cases_eq, eq-eqb, ne_eqb, cond-true, cond-false}
use Rattle.ja_base.specs.declared.ids.Label.{Label}
use Rattle.ja_base.specs.declared.ids.Site.{Site}
use Rattle.ja_graph.specs.declared.program.Program.{Program}
use Rattle.ja_machine.specs.declared.machine.Addr.{Addr}
use Rattle.ja_machine.specs.declared.machine.Value.{Value}
use Rattle.ja_machine.specs.declared.machine.Object.{Object}
use Rattle.ja_machine.specs.declared.machine.Heap.{Heap}
use Rattle.ja_machine.specs.declared.machine.Frame.{Frame}
use Rattle.ja_machine.specs.Heap.{count, with_new, new_address}
use Rattle.ja_machine.specs.Frames.{parameters_of}
use Rattle.ja_machine.specs.State.{IsObjectOf, IsValueOf}
use Rattle.ja_machine.proofs.Heaps
use Rattle.ja_abstract.specs.declared.abstraction.Mask.{Mask}
use Rattle.ja_abstract.specs.declared.abstraction.Key.{Key}
use Rattle.ja_abstract.specs.AbstractValue.{AbstractProperty, same_label, join_properties}
use Rattle.ja_abstract.specs.AbstractState.{AbstractState, new, old, aged_property, made_property, with_made, exactly_some}
use Rattle.ja_abstract.specs.Contents.{SpotContent, missing, held, present, present_row, content, object_content, label_of}
use Rattle.ja_abstract.specs.Keys.{Spot, key_of}
use Rattle.ja_abstract.specs.Made.{Own, rest_register, at_keys_of, with_own, with_object, with_objects}
use Rattle.ja_abstract.proofs.Labels.{same_label-self, label_parts, other_site, new_not_old}
use Rattle.ja_abstract.proofs.AtKeys.{at_key}
use Rattle.ja_meaning.specs.Meaning.{knows, IsOfHeap, Grows, Tells}
use Rattle.ja_meaning.proofs.Held.{HoldsOf, HoldsOfAll, HoldsOfFrame}
use Rattle.ja_meaning.proofs.Contents
use Rattle.ja_meaning.proofs.Aged.{aged_has, aged_knows}
use Rattle.ja_meaning.proofs.Tells.{tells-join_left, tells-join_right}

-- ---- the other objects after one more was made

module _ (p : Program) (e h : Heap) (s : Site) (o : Object) (row : s.0 < length h.objects)
    (a : AbstractState) (grown : Grows e h) (There : Addr → Type 0)
    (is_there : (b : Addr) → There b → IsObjectOf h b)
    (of_heap : (b : Addr) (x : Spot) → There b → IsOfHeap h (content h b x))
    (holds : HoldsOf p There e h a) where
  aged_tells : (b : Addr) (x : Spot) (q : AbstractProperty) → There b → Tells e h b x q
      → Tells e (with_new h s o) b x (aged_property s q)
  aged_tells b x q there (inl k) =
      inl (subst (λ c. IsTrue (knows (with_new h s o) (aged_property s q) c))
      (sym (Contents.content-with_new_old h s o row b x (is_there b there)))
      (aged_knows h s o row q (content h b x) (of_heap b x there) k))
  aged_tells b x q there (inr k) =
      inr (
        k.0,
        record {
          there = k.1.there;
          same = Contents.content-with_new_old h s o row b x
              (is_there b there) ∙ k.1.same;
        },
      )

  at_old : (k : Key) → made_property a s (old s) k
      ≡ join_properties (aged_property s (a.property (old s) k))
      (aged_property s (a.property (new s) k))
  at_old k = cond-false _ _ _ (new_not_old s s) ∙ cond-true _ _ _ (same_label-self (old s))

  at_other : (l : Label) (k : Key) → l.site.0 ≢ s.0
      → made_property a s l k ≡ aged_property s (a.property l k)
  at_other l k ne =
      cond-false _ _ _ (other_site (new s) l (λ g. ne (sym g)))
      ∙ cond-false _ _ _ (other_site (old s) l (λ g. ne (sym g)))

  made_tells : (b : Addr) (x : Spot) → There b
      → Tells e (with_new h s o) b x (made_property a s (label_of (with_new h s o) b) (key_of p x))
  made_tells b x there =
      let now = with_new h s o in
      let k = key_of p x in
      let o_side = aged_property s (a.property (old s) k) in
      let n_side = aged_property s (a.property (new s) k) in
      let before : Tells e h b x (a.property (label_of h b) k) = holds.objects b x there in
      elim (cases_eq b.site.0 s.0) [
        | inl g ↦
            subst (λ l. Tells e now b x (made_property a s l k))
            (sym (Contents.label-with_new_aged h s o row b (is_there b there) g))
            (subst (Tells e now b x) (sym (at_old k)) (elim (label_parts (label_of h b) s g) [
              | inl i ↦
                  tells-join_left e now b x o_side n_side
                  (aged_tells b x (a.property (old s) k) there
                  (subst (λ l. Tells e h b x (a.property l k)) i before))
              | inr i ↦
                  tells-join_right e now b x o_side n_side
                  (aged_tells b x (a.property (new s) k) there
                  (subst (λ l. Tells e h b x (a.property l k)) i before))
            ]))
        | inr ne ↦
            subst (λ l. Tells e now b x (made_property a s l k))
            (sym (Contents.label-with_new_other h s o row b ne))
            (subst (Tells e now b x) (sym (at_other (label_of h b) k ne))
            (aged_tells b x (a.property (label_of h b) k) there before))
      ]

  made_some : (t : Site) → count e t < count (with_new h s o) t
      → IsTrue ((with_made a s).mask t.0).some
  made_some t l =
      elim (cases_eq t.0 s.0) [
        | inl g ↦
            ap (λ (m : Mask). m.some) (cond-true (s.0 == t.0) exactly_some (a.mask t.0)
            (eq-eqb s.0 t.0 (sym g)))
        | inr ne ↦
            let u : count (with_new h s o) t ≡ count h t =
            Heaps.count-with_new_other h s o row t ne in
            ap (λ (m : Mask). m.some) (cond-false (s.0 == t.0) exactly_some (a.mask t.0)
            (ne_eqb s.0 t.0 (λ g. ne (sym g)))) ∙ holds.some t (omega arith)
      ]

  made_none : (t : Site) → count e t ≡ count (with_new h s o) t
      → IsTrue ((with_made a s).mask t.0).none
  made_none t l =
      elim (cases_eq t.0 s.0) [
        | inl g ↦
            let u : count (with_new h s o) t ≡ suc (count h s) =
            Heaps.count-with_new_same h s o row t g in
            let v : count h t ≡ count h s = Heaps.count-same_site h t s g in
            let w : count e t ≤ count h t = grown t in
            absurd (omega arith)
        | inr ne ↦
            let u : count (with_new h s o) t ≡ count h t =
            Heaps.count-with_new_other h s o row t ne in
            ap (λ (m : Mask). m.none) (cond-false (s.0 == t.0) exactly_some (a.mask t.0)
            (ne_eqb s.0 t.0 (λ g. ne (sym g)))) ∙ holds.none t (l ∙ u)
      ]

  -- whatever the new object is
  pub aged_holds : HoldsOf p There e (with_new h s o) (with_made a s)
  aged_holds = record { objects = made_tells; some = made_some; none = made_none }

  -- an object that was there isn't the new one
  pub not_new : (b : Addr) → There b → same_label (new s) (label_of (with_new h s o) b) ≡ false
  not_new b there =
      elim (cases_eq b.site.0 s.0) [
        | inl g ↦
            ap (same_label (new s)) (Contents.label-with_new_aged h s o row b (is_there b there) g)
            ∙ new_not_old s s
        | inr ne ↦ other_site (new s) (label_of (with_new h s o) b) (λ g. ne (sym g))
      ]

-- ---- the properties of the new object

module _ (p : Program) (e c : Heap) (a : AbstractState) (l : Label) (own : Own) where
  -- what is told of objects with other labels stays
  pub own_elsewhere : (There : Addr → Type 0) → ((b : Addr) → There b
      → same_label l (label_of c b) ≡ false) → HoldsOf p There e c a
      → HoldsOf p There e c (with_own p a l own)
  own_elsewhere There other holds = record {
    objects =
        λ b x there. subst (Tells e c b x) (sym (cond-false (same_label l (label_of c b))
        (at_keys_of p own (key_of p x)) (a.property (label_of c b) (key_of p x)) (other b there)))
        (holds.objects b x there);
    some = holds.some;
    none = holds.none;
  }

  -- .. and of the object that has the label it says what it was made with
  pub own_here : (b : Addr) (x : Spot) → label_of c b ≡ l
      → IsTrue (knows c (own (key_of p x)) (content c b x))
      → Tells e c b x ((with_own p a l own).property (label_of c b) (key_of p x))
  own_here b x is known =
      subst (λ m. Tells e c b x ((with_own p a l own).property m (key_of p x))) (sym is)
      (subst (Tells e c b x) (sym (cond-true (same_label l l) (at_keys_of p own (key_of p x))
      (a.property l (key_of p x)) (same_label-self l) ∙ at_key p own x)) (inl known))

-- the object that is made is told of by its properties
abbrev pub IsMade : Program → Heap → Object → Own → Type 0
IsMade p now o own = (x : Spot) → IsTrue (knows now (own (key_of p x)) (object_content o x))

-- ---- one object more

module _ (p : Program) (e h : Heap) (s : Site) (o : Object) (row : s.0 < length h.objects)
    (a : AbstractState) (grown : Grows e h) (of_heap : (b : Addr) (x : Spot) → IsObjectOf h b
    → IsOfHeap h (content h b x)) (holds : HoldsOfAll p e h a) (own : AbstractState → Own)
    (made : IsMade p (with_new h s o) o (own (with_made a s))) where
  abbrev now : Heap
  now = with_new h s o

  abbrev b_state : AbstractState
  b_state = with_made a s

  others : HoldsOf p (IsObjectOf h) e now (with_object p a s own)
  others =
      own_elsewhere p e now b_state (new s) (own b_state) (IsObjectOf h)
      (not_new p e h s o row a grown (IsObjectOf h) (λ b there. there) of_heap holds)
      (aged_holds p e h s o row a grown (IsObjectOf h) (λ b there. there) of_heap holds)

  new_told : (x : Spot) → Tells e now (new_address h s) x
      ((with_object p a s own).property (label_of now (new_address h s)) (key_of p x))
  new_told x =
      own_here p e now b_state (new s) (own b_state) (new_address h s) x
      (Contents.label-with_new_new h s o row) (subst
      (λ u. IsTrue (knows now (own b_state (key_of p x)) u))
      (sym (Contents.content-with_new_new h s o row x)) (made x))

  told_by : (b : Addr) (x : Spot) → IsObjectOf h b ⊎ (b ≡ new_address h s)
      → Tells e now b x ((with_object p a s own).property (label_of now b) (key_of p x))
  told_by b x (inl there) = others.objects b x there
  told_by b x (inr is) =
      subst (λ d. Tells e now d x ((with_object p a s own).property (label_of now d) (key_of p x)))
      (sym is) (new_told x)

  pub with_object_holds : HoldsOfAll p e now (with_object p a s own)
  with_object_holds = record {
    objects = λ b x there. told_by b x (Heaps.old_or_new h s o row b there);
    some = others.some;
    none = others.none;
  }

-- ---- a frame

module _ (p : Program) (h : Heap) (s : Site) (o : Object) (row : s.0 < length h.objects) (f : Frame)
    (a : AbstractState) (values : (r : ℕ) (v : Value) → slice_get f.registers r ≡ Some v
    → IsValueOf h v) (arguments : (i : ℕ) (v : Value) → slice_get f.arguments i ≡ Some v
    → IsValueOf h v) where
  pub frame_aged : HoldsOfFrame p h f a → HoldsOfFrame p (with_new h s o) f (with_made a s)
  frame_aged holds = record {
    registers =
        λ r v is. aged_has h s o row (a.register r) v (values r v is) (holds.registers r v is);
    rest =
        λ i v more is. aged_has h s o row (a.register (rest_register (parameters_of p f.function)))
        v (arguments i v is) (holds.rest i v more is);
  }

-- ---- two objects more, which may name each other

-- what is of a heap is of one with more objects
of_grown : (h now : Heap) → Heaps.Grows h now → (c : SpotContent) → IsOfHeap h c → IsOfHeap now c
of_grown h now grows missing there = tt
of_grown h now grows (held v) there = Heaps.value_grows h now grows v there
of_grown h now grows (present v attrs) there = Heaps.value_grows h now grows v there
of_grown h now grows (present_row attrs) there = tt

module _ (p : Program) (e h : Heap) (s t : Site) (o q : Object) (row : s.0 < length h.objects)
    (row_too : t.0 < length (with_new h s o).objects) (apart : s.0 ≢ t.0) (a : AbstractState)
    (grown : Grows e h) (of_heap : (b : Addr) (x : Spot) → IsObjectOf h b
    → IsOfHeap h (content h b x)) (holds : HoldsOfAll p e h a) where
  abbrev middle : Heap
  middle = with_new h s o

  abbrev two : Heap
  two = with_new middle t q

  abbrev both_made : AbstractState
  both_made = with_made (with_made a s) t

  still_there : (b : Addr) → IsObjectOf h b → IsObjectOf middle b
  still_there b there = Heaps.grows-with_new h s o row b there

  of_middle : (b : Addr) (x : Spot) → IsObjectOf h b → IsOfHeap middle (content middle b x)
  of_middle b x there =
      subst (IsOfHeap middle) (sym (Contents.content-with_new_old h s o row b x there))
      (of_grown h middle (Heaps.grows-with_new h s o row) (content h b x) (of_heap b x there))

  grown_middle : Grows e middle
  grown_middle r =
      let u : count e r ≤ count h r = grown r in
      elim (cases_eq r.0 s.0) [
        | inl g ↦
            let v : count middle r ≡ suc (count h s) = Heaps.count-with_new_same h s o row r g in
            let w : count h r ≡ count h s = Heaps.count-same_site h r s g in
            omega arith
        | inr ne ↦
            let v : count middle r ≡ count h r = Heaps.count-with_new_other h s o row r ne in
            omega arith
      ]

  once : HoldsOf p (IsObjectOf h) e middle (with_made a s)
  once = aged_holds p e h s o row a grown (IsObjectOf h) (λ b there. there) of_heap holds

  twice : HoldsOf p (IsObjectOf h) e two both_made
  twice =
      aged_holds p e middle t q row_too (with_made a s) grown_middle
      (IsObjectOf h) still_there of_middle once

  not_second : (b : Addr) → IsObjectOf h b → same_label (new t) (label_of two b) ≡ false
  not_second b there =
      not_new p e middle t q row_too (with_made a s) grown_middle
      (IsObjectOf h) still_there of_middle once b there

  not_first : (b : Addr) → IsObjectOf h b → same_label (new s) (label_of two b) ≡ false
  not_first b there =
      elim (cases_eq b.site.0 t.0) [
        | inl g ↦ other_site (new s) (label_of two b) (λ f. apart (f ∙ g))
        | inr ne ↦
            ap (same_label (new s)) (Contents.label-with_new_other middle t q row_too b ne)
            ∙ not_new p e h s o row a grown (IsObjectOf h) (λ d there. there) of_heap holds b there
      ]

  first_there : IsObjectOf middle (new_address h s)
  first_there = Heaps.new_there h s o row

  first_label : label_of two (new_address h s) ≡ new s
  first_label =
      Contents.label-with_new_other middle t q row_too (new_address h s) apart
      ∙ Contents.label-with_new_new h s o row

  first_content : (x : Spot) → content two (new_address h s) x ≡ object_content o x
  first_content x =
      Contents.content-with_new_old middle t q row_too (new_address h s) x first_there
      ∙ Contents.content-with_new_new h s o row x

  module _ (own other : AbstractState → Own) (made : IsMade p two o (own both_made))
      (made_too : IsMade p two q (other both_made)) where
    abbrev both_state : AbstractState
    both_state = with_objects p a s own t other

    abbrev inner : AbstractState
    inner = with_own p both_made (new s) (own both_made)

    rest_told : HoldsOf p (IsObjectOf h) e two both_state
    rest_told =
        own_elsewhere p e two inner (new t) (other both_made) (IsObjectOf h) not_second
        (own_elsewhere p e two both_made (new s) (own both_made) (IsObjectOf h) not_first twice)

    -- the first object is told of by its own properties, which the second one's leave
    first_alone : HoldsOf p (λ b. b ≡ new_address h s) e two both_state
    first_alone = own_elsewhere p e two inner (new t) (other both_made) (λ b. b ≡ new_address h s)
        (λ b is. ap (same_label (new t)) (ap (label_of two) is ∙ first_label)
        ∙ other_site (new t) (new s) (λ g. apart (sym g)))
        (record {
          objects =
              λ b x is. subst (λ d. Tells e two d x (inner.property (label_of two d) (key_of p x)))
              (sym is) (own_here p e two both_made (new s) (own both_made)
              (new_address h s) x first_label (subst
              (λ u. IsTrue (knows two (own both_made (key_of p x)) u)) (sym (first_content x))
              (made x)));
          some = twice.some;
          none = twice.none;
        })

    second_told : (x : Spot) → Tells e two (new_address middle t) x
        (both_state.property (label_of two (new_address middle t)) (key_of p x))
    second_told x =
        own_here p e two inner (new t) (other both_made) (new_address middle t) x
        (Contents.label-with_new_new middle t q row_too)
        (subst (λ u. IsTrue (knows two (other both_made (key_of p x)) u))
        (sym (Contents.content-with_new_new middle t q row_too x)) (made_too x))

    told_middle : (b : Addr) (x : Spot) → IsObjectOf h b ⊎ (b ≡ new_address h s)
        → Tells e two b x (both_state.property (label_of two b) (key_of p x))
    told_middle b x (inl there) = rest_told.objects b x there
    told_middle b x (inr is) = first_alone.objects b x is

    told_two : (b : Addr) (x : Spot) → IsObjectOf middle b ⊎ (b ≡ new_address middle t)
        → Tells e two b x (both_state.property (label_of two b) (key_of p x))
    told_two b x (inl there) = told_middle b x (Heaps.old_or_new h s o row b there)
    told_two b x (inr is) =
        subst (λ d. Tells e two d x (both_state.property (label_of two d) (key_of p x))) (sym is)
        (second_told x)

    pub with_objects_holds : HoldsOfAll p e two both_state
    with_objects_holds = record {
      objects = λ b x there. told_two b x (Heaps.old_or_new middle t q row_too b there);
      some = twice.some;
      none = twice.none;
    }
