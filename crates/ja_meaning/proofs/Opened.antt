-- The contents of the opening heap are known to what Open gives, so values at entry that it leaves
-- as they are hold of that heap.
use Rattle.std.proofs.Common.{◌≡◌, ℕ, suc, false, List, [], ◌∷◌, map, Some, inl, inr, refl, sym, ap, ◌∙◌, subst, arith}
use Rattle.std.specs.Prelude.{IsTrue, slice_get, find}
use Rattle.std.specs.Option.{option_map_or}
use Rattle.std.proofs.lemmas.Bool.{and_from, cases_Bool, cond-false}
use Rattle.ja_base.specs.declared.ids.Label.{Label}
use Rattle.ja_base.specs.declared.ids.NameId.{NameId}
use Rattle.ja_prim.specs.Texts.{same_text}
use Rattle.ja_graph.specs.declared.program.PropertySpec.{PropertySpec}
use Rattle.ja_graph.specs.declared.program.Program.{Program}
use Rattle.ja_graph.specs.WellFormed.{IsWellFormed, IsName}
use Rattle.ja_machine.specs.declared.machine.Addr.{Addr}
use Rattle.ja_machine.specs.declared.machine.Value.{Value}
use Rattle.ja_machine.specs.declared.machine.Value.TheVariants as value
use Rattle.ja_machine.specs.declared.machine.Property.{Property}
use Rattle.ja_machine.specs.declared.machine.Object.{Object}
use Rattle.ja_machine.specs.declared.machine.Heap.{Heap}
use Rattle.ja_machine.specs.Heap.{count}
use Rattle.ja_machine.specs.Objects.{first_of}
use Rattle.ja_machine.specs.Nodes.{name_text}
use Rattle.ja_machine.specs.Machine.{opening_property, opening_object, opening_heap}
use Rattle.ja_machine.specs.State.{IsObjectOf}
use Rattle.ja_machine.proofs.Heaps
use Rattle.ja_machine.proofs.Opening.{IsOpened, opened_at_address, count-opening}
use Rattle.ja_abstract.specs.declared.abstraction.Key.{Key}
use Rattle.ja_abstract.specs.declared.abstraction.Key.TheVariants as key
use Rattle.ja_abstract.specs.AbstractValue.{AbstractProperty, join_properties, no_property}
use Rattle.ja_abstract.specs.Resolved.{Entries}
use Rattle.ja_abstract.specs.Contents.{SpotContent, missing, held, present, present_row, content, property_content, label_of, of_value, of_content, key_content, opened_at, opened}
use Rattle.ja_abstract.specs.Keys.{Spot, named, internal, name_of, key_of}
use Rattle.ja_abstract.proofs.Texts
use Rattle.ja_abstract.proofs.Keys.{same_key-true, key_of-name, no_slot_key, text_of_key}
use Rattle.ja_abstract.proofs.Labels.{same_label-true, same_label-self}
use Rattle.ja_abstract.proofs.Parts.{of_primitive_has, of_attrs_allows}
use Rattle.ja_meaning.specs.Meaning.{has_value, knows, EntriesHold}
use Rattle.ja_meaning.proofs.Contents
use Rattle.ja_meaning.proofs.Values.{knows-join_right}

of_value_has : (h : Heap) (v : Value) → IsTrue (has_value h (of_value h v) v)
of_value_has h (value.Primitive q) = of_primitive_has q
of_value_has h (value.Object a) = same_label-self (label_of h a)

of_content_knows : (h : Heap) (c : SpotContent) → IsTrue (knows h (of_content h c) c)
of_content_knows h missing = refl
of_content_knows h (held v) = of_value_has h v
of_content_knows h (present v attrs) = and_from _ _ (of_value_has h v) (of_attrs_allows attrs)
of_content_knows h (present_row attrs) = of_attrs_allows attrs

module _ (p : Program) (good : IsWellFormed p) where
  -- a text of no name is no property of an opening object
  none_named : (qs : List PropertySpec) (t : List ℕ)
      → ((j : ℕ) (q : PropertySpec) → slice_get qs j ≡ Some q → IsName p q.name)
      → ((n : NameId) → key_of p (named t) ≡ key.Name n → ⊥)
      → property_content (find (λ (q : Property). same_text q.name t) (map (opening_property p) qs))
      ≡ missing
  none_named [] t names other = refl
  none_named (q ∷ qs) t names other =
      elim (cases_Bool (same_text (name_text p q.name) t)) [
        | inl e ↦ absurd (other q.name (subst (λ u. key_of p (named u) ≡ key.Name q.name)
            (Texts.text_same _ t e) (key_of-name p good q.name (names 0 q refl))))
        | inr e ↦ ap property_content (cond-false _ _ _ e)
            ∙ none_named qs t (λ j r k. names (suc j) r k) other
      ]

  no_name_key : (t : List ℕ) (k : Key) → key_of p (named t) ≡ k
      → ((n : NameId) → k ≡ key.Name n → ⊥) → (n : NameId) → key_of p (named t) ≡ key.Name n → ⊥
  no_name_key t k e other n f = other n (sym e ∙ f)

  unnamed_missing : (a : Addr) (t : List ℕ) → IsObjectOf (opening_heap p) a
      → ((n : NameId) → key_of p (named t) ≡ key.Name n → ⊥)
      → content (opening_heap p) a (named t) ≡ missing
  unnamed_missing a t there other =
      let k : IsOpened p a = opened_at_address p good a there in
      Contents.content-at (opening_heap p) a (opening_object p k.spec) (named t) k.object_is
      ∙ none_named k.spec.properties t (good.objects _ k.spec k.spec_is).names other

  -- what the objects of a label have at a key is what they have at each text or slot of the key
  key_content_is : (a : Addr) (x : Spot) (k : Key) → IsObjectOf (opening_heap p) a → key_of p x ≡ k
      → key_content p a k ≡ content (opening_heap p) a x
  key_content_is a (named t) (key.Name n) there e =
      ap (λ u. content (opening_heap p) a (named u)) (text_of_key p t n e)
  key_content_is a (named t) key.OtherIndex there e =
      sym (unnamed_missing a t there (no_name_key t _ e (λ n f. cc)))
  key_content_is a (named t) key.OtherName there e =
      sym (unnamed_missing a t there (no_name_key t _ e (λ n f. cc)))
  key_content_is a (named t) (key.Slot s) there e = absurd (no_slot_key (name_of p t) _ s e)
  key_content_is a (internal s) (key.Name n) there e = cc
  key_content_is a (internal s) key.OtherIndex there e = cc
  key_content_is a (internal s) key.OtherName there e = cc
  key_content_is a (internal s) (key.Slot u) there e = let f : s ≡ u = cc in
      ap (λ r. content (opening_heap p) a (internal r)) (sym f)

  opened_knows : (a : Addr) (x : Spot) (k : Key) → IsObjectOf (opening_heap p) a → key_of p x ≡ k
      → IsTrue (knows (opening_heap p) (opened p (label_of (opening_heap p) a) k)
      (content (opening_heap p) a x))
  opened_knows a x k there e =
      let o : IsOpened p a = opened_at_address p good a there in
      let one : count (opening_heap p) a.site ≡ 1 = count-opening p good a.site o.site_fits in
      let zero_is : a.ordinal ≡ 0 = o.ordinal in
      let is_new : (label_of (opening_heap p) a).old
      ≡ false = Contents.label_is_new (opening_heap p) a (omega arith) in
      let first : first_of a.site ≡ a = Heaps.same_address (first_of a.site) a refl (sym zero_is) in
      let opened_is : opened p (label_of (opening_heap p) a) k
      ≡ of_content (opening_heap p) (content (opening_heap p) a x) =
      cond-false _ no_property (opened_at p k (first_of a.site)) is_new
      ∙ (ap (opened_at p k) first ∙ (ap (λ r.
      option_map_or (λ (q : Object). of_content (opening_heap p) (key_content p a k)) r
      no_property) o.object_is ∙ ap (of_content (opening_heap p))
      (key_content_is a x k there e))) in
      subst (λ q. IsTrue (knows (opening_heap p) q (content (opening_heap p) a x))) (sym opened_is)
      (of_content_knows (opening_heap p) (content (opening_heap p) a x))

  -- each value at entry has what the opening heap has
  pub entries_hold : (entries : Entries) → ((l : Label) (k : Key) (q : AbstractProperty)
      → entries l k ≡ Some q → q ≡ join_properties q (opened p l k))
      → EntriesHold p (opening_heap p) entries
  entries_hold entries settled l k q e a x there same_l same_k =
      let label_is : label_of (opening_heap p) a ≡ l = same_label-true _ l same_l in
      let known : IsTrue (knows (opening_heap p) (opened p l k)
      (content (opening_heap p) a x)) = subst
      (λ m. IsTrue (knows (opening_heap p) (opened p m k) (content (opening_heap p) a x)))
      label_is (opened_knows a x k there (same_key-true _ k same_k)) in
      subst (λ r. IsTrue (knows (opening_heap p) r (content (opening_heap p) a x)))
      (sym (settled l k q e)) (knows-join_right (opening_heap p) q (opened p l k)
      (content (opening_heap p) a x) known)
