-- What the opening heap has at a label and a key.
use Rattle.std.specs.Prelude.{◌≡◌, ◌<◌, ◌≤◌, ◌==◌, ℕ, suc, Bool, true, false, List, [], ◌∷◌, length, map, find, Option, Some, None, IsTrue, slice_get, unwrap_or}
use Rattle.std.specs.Option.{is_some, option_map, option_map_or, option_to_list}
use Rattle.std.proofs.Common.{inl, inr, refl, sym, ap, ◌∙◌, subst, arith}
use Rattle.std.proofs.lemmas.Option.{same_Some}
use Rattle.std.proofs.lemmas.Bool.{cases_Bool, false≢true, true≢false, eqb-true, cond-true, cond-false, false_from_ne_true, ltb-true}
use Rattle.ja_base.specs.declared.ids.Label.{Label}
use Rattle.ja_base.specs.declared.ids.NameId.{NameId}
use Rattle.ja_base.specs.declared.ids.Site.{Site}
use Rattle.ja_base.proofs.Lists.{element_within}
use Rattle.ja_prim.specs.declared.primitive.Primitive.{Primitive}
use Rattle.ja_graph.specs.declared.program.ObjectSpec.{ObjectSpec}
use Rattle.ja_graph.specs.declared.attrs.Attrs.{Attrs}
use Rattle.ja_graph.specs.declared.program.PropertySpec.{PropertySpec}
use Rattle.ja_graph.specs.declared.program.SpecContent.{SpecContent}
use Rattle.ja_graph.specs.declared.program.SpecContent.TheVariants as spec_content
use Rattle.ja_graph.specs.declared.program.Program.{Program}
use Rattle.ja_graph.specs.Program.{object_spec}
use Rattle.ja_graph.specs.WellFormed.{IsWellFormed, IsObjectWellFormed, IsName, IsContent}
use Rattle.ja_prim.specs.Texts.{same_text}
use Rattle.ja_machine.specs.declared.machine.Addr.{Addr}
use Rattle.ja_machine.specs.declared.machine.Property.{Property}
use Rattle.ja_machine.specs.declared.machine.Object.{Object}
use Rattle.ja_machine.specs.Heap.{object_at, count}
use Rattle.ja_machine.specs.Objects.{first_of}
use Rattle.ja_machine.specs.Nodes.{name_text}
use Rattle.ja_machine.specs.Machine.{opening_content, opening_property, opening_object, opening_heap}
use Rattle.ja_machine.proofs.Opening.{IsOpened, objects-opening, opened_at_address, count-opening}
use Rattle.ja_abstract.specs.declared.abstraction.Slot.{Slot}
use Rattle.ja_abstract.specs.declared.abstraction.Slot.TheVariants as slot
use Rattle.ja_abstract.specs.declared.abstraction.Key.{Key}
use Rattle.ja_abstract.specs.declared.abstraction.Key.TheVariants as key
use Rattle.ja_abstract.specs.AbstractValue.{AbstractProperty, no_value, unknown_attrs, no_property, bare, of_label, of_attrs}
use Rattle.ja_abstract.specs.AbstractState.{new, is_key}
use Rattle.ja_abstract.specs.Contents.{missing, object_content, content_of, property_content, held_address, held_primitive, label_of, of_content, key_content, opened_at, opened}
use Rattle.ja_abstract.specs.Keys.{named, internal}
use Rattle.ja_abstract.proofs.Texts
use Rattle.ja_meaning.proofs.Contents
use Rattle.ja_meaning.proofs.Builtins.{site_before}
use Rattle.ja_value.specs.declared.property.AProp.{AProp}
use Rattle.ja_value.specs.Value.{value_of, property_of}
use Rattle.ja_table.specs.code.Opened.{value_given, property_given, object_given, primitive_given, slot_property, opened_property}
use Rattle.ja_meaning.proofs.Inside.{found_at}

-- a property without parts
pub nothing_is : (q : AProp) → value_of q.value ≡ no_value → q.attrs ≡ unknown_attrs
    → property_of q ≡ no_property
nothing_is q v a = λ i. record { value = v i; attrs = a i }

-- what isn't some is none
pub none_is : {X : Type 0} (o : Option X) → is_some o ≡ false → o ≡ None
none_is None h = refl
none_is (Some x) h = absurd (true≢false h)

-- the object of a site without a node
pub spec_fits : (p : Program) (good : IsWellFormed p) (s : ℕ) (o : ObjectSpec)
    → object_spec p s ≡ Some o → (i : ℕ) × IsObjectWellFormed p i o × (s < length p.opening)
spec_fits p good s o e =
    let (i, at, test) = found_at (λ (q : ObjectSpec). q.site.0 == s) p.opening o e in
    let fits : o.site.0 < length p.opening = (good.objects i o at).site in
    let same : o.site.0 ≡ s = eqb-true o.site.0 s test in
    (i, good.objects i o at, subst (λ n. n < length p.opening) same fits)

module _ (p : Program) (good : IsWellFormed p) where
  -- ---- values

  -- the object of a site without a node is there alone, so its label is new
  label_of-first : (s : Site) → s.0 < length p.opening
      → label_of (opening_heap p) (first_of s) ≡ new s
  label_of-first s h =
      let one : count (opening_heap p) s ≡ 1 = count-opening p good s h in
      let is_new : (label_of (opening_heap p) (first_of s)).old
      ≡ false = Contents.label_is_new (opening_heap p) (first_of s) (omega arith) in
      λ i. record { site = s; old = is_new i }

  -- what a property has when a run begins
  spec_content_is : (x : SpecContent) (attrs : Attrs) → IsContent p x
      → of_content (opening_heap p) (content_of (opening_content x) attrs)
      ≡ record { value = value_given x; attrs = of_attrs attrs }
  spec_content_is (spec_content.Prim q) attrs fits = refl
  spec_content_is (spec_content.Object s) attrs fits =
      ap (λ l. let r : AbstractProperty = record { value = of_label l; attrs = of_attrs attrs } in
      r) (label_of-first s fits)
  spec_content_is spec_content.Row attrs fits = refl

  -- ---- names

  named_at : (n : NameId) → IsName p n → slice_get p.names n.0 ≡ Some (name_text p n)
  named_at n h = let (t, at) = element_within p.names n.0 h in
      at ∙ ap Some (sym (ap (λ o. unwrap_or o []) at))

  -- texts of names are the same exactly if the names are
  same_name : (m n : NameId) → IsName p m → IsName p n
      → same_text (name_text p m) (name_text p n) ≡ (m.0 == n.0)
  same_name m n g h =
      elim (cases_Bool (m.0 == n.0)) [
        | inl t ↦ subst (λ u. same_text (name_text p m) u ≡ true)
            (ap (λ i. unwrap_or (slice_get p.names i) []) (eqb-true m.0 n.0 t))
            (Texts.same_text_refl (name_text p m)) ∙ sym t
        | inr f ↦ false_from_ne_true _ (λ e. let same : m.0
            ≡ n.0 = good.distinct m.0 n.0 (name_text p n)
            (named_at m g ∙ ap Some (Texts.text_same _ _ e)) (named_at n h) in
            true≢false (sym (grind (arith, same)) ∙ f)) ∙ sym f
      ]

  -- the first property of a name's text is the first one of the name
  named_content : (qs : List PropertySpec) (n : NameId)
      → ((j : ℕ) (q : PropertySpec) → slice_get qs j ≡ Some q → IsName p q.name)
      → ((j : ℕ) (q : PropertySpec) → slice_get qs j ≡ Some q → IsContent p q.content) → IsName p n
      → of_content (opening_heap p) (property_content
      (find (λ (q : Property). same_text q.name (name_text p n)) (map (opening_property p) qs)))
      ≡ property_given (find (λ (q : PropertySpec). q.name.0 == n.0) qs)
  named_content [] n names contents h = refl
  named_content (q ∷ qs) n names contents h =
      let same : same_text (name_text p q.name) (name_text p n)
      ≡ (q.name.0 == n.0) = same_name q.name n (names 0 q refl) h in
      elim (cases_Bool (q.name.0 == n.0)) [
        | inl t ↦ ap (λ o. of_content (opening_heap p) (property_content o))
            (cond-true _ _ _ (same ∙ t)) ∙ (spec_content_is q.content q.attrs (contents 0 q refl)
            ∙ sym (ap property_given (cond-true _ _ _ t)))
        | inr f ↦ ap (λ o. of_content (opening_heap p) (property_content o))
            (cond-false _ _ _ (same ∙ f)) ∙ (named_content qs n (λ j r k. names (suc j) r k)
            (λ j r k. contents (suc j) r k) h ∙ sym (ap property_given (cond-false _ _ _ f)))
      ]

  -- ---- slots

  link_content : (o : Option Site) → ((s : Site) → o ≡ Some s → s.0 < length p.opening)
      → of_content (opening_heap p) (held_address (option_map first_of o)) ≡ object_given o
  link_content None h = refl
  link_content (Some s) h = ap (λ l. bare (of_label l)) (label_of-first s (h s refl))

  primitive_content : (o : Option Primitive)
      → of_content (opening_heap p) (held_primitive o) ≡ primitive_given o
  primitive_content None = refl
  primitive_content (Some q) = refl

  slot_content : (i : ℕ) (o : ObjectSpec) → IsObjectWellFormed p i o → (s : Slot)
      → of_content (opening_heap p) (object_content (opening_object p o) (internal s))
      ≡ slot_property o s
  slot_content i o w slot.Prototype =
      link_content o.prototype (λ s e. site_before p good i s (w.prototype s e))
  slot_content i o w slot.Outer = refl
  slot_content i o w slot.Scope = link_content o.scope (λ s e. site_before p good i s (w.scope s e))
  slot_content i o w slot.Value = primitive_content o.value

  -- ---- labels and keys

  opened_content : (a : Addr) (i : ℕ) (o : ObjectSpec) → IsObjectWellFormed p i o
      → object_at (opening_heap p) a ≡ Some (opening_object p o) → (k : Key) → IsTrue (is_key p k)
      → of_content (opening_heap p) (key_content p a k) ≡ opened_property o k
  opened_content a i o w at (key.Name n) h =
      ap (λ r. of_content (opening_heap p) (option_map_or
      (λ (q : Object). object_content q (named (name_text p n))) r missing)) at
      ∙ named_content o.properties n w.names w.contents (ltb-true n.0 (length p.names) h)
  opened_content a i o w at key.OtherIndex h = refl
  opened_content a i o w at key.OtherName h = refl
  opened_content a i o w at (key.Slot s) h =
      ap (λ r. of_content (opening_heap p) (option_map_or
      (λ (q : Object). object_content q (internal s)) r missing)) at ∙ slot_content i o w s

  -- a new one has what the object of its site has
  pub opened_some : (l : Label) (k : Key) (o : ObjectSpec) → l.old ≡ false
      → object_spec p l.site.0 ≡ Some o → IsTrue (is_key p k) → opened p l k ≡ opened_property o k
  opened_some l k o h e in_range =
      let (i, w, fits) = spec_fits p good l.site.0 o e in
      let sites : length p.opening ≤ length p.sites = good.sites in
      let at : object_at (opening_heap p) (first_of l.site)
      ≡ Some (opening_object p o) = ap (λ (r : List Object). slice_get r 0)
      (objects-opening p good l.site (omega arith)
      ∙ ap (λ q. option_to_list (option_map (opening_object p) q)) e) in
      cond-false l.old no_property (opened_at p k (first_of l.site)) h
      ∙ (ap (λ r. option_map_or (λ (q : Object).
      of_content (opening_heap p) (key_content p (first_of l.site) k)) r no_property) at
      ∙ opened_content (first_of l.site) i o w at k in_range)

  -- .. and nothing where no object is
  pub opened_none : (l : Label) (k : Key) → l.old ≡ false → object_spec p l.site.0 ≡ None
      → opened p l k ≡ no_property
  opened_none l k h e =
      cond-false l.old no_property (opened_at p k (first_of l.site)) h
      ∙ elim (cases_Bool (is_some (object_at (opening_heap p) (first_of l.site)))) [
        | inl there ↦
            let o : IsOpened p (first_of l.site) = opened_at_address p good (first_of l.site)
            there in
            absurd (false≢true (sym (ap is_some e) ∙ good.all_objects l.site.0 o.site_fits))
        | inr none ↦ ap (λ r. option_map_or (λ (q : Object).
            of_content (opening_heap p) (key_content p (first_of l.site) k)) r no_property)
            (none_is _ none)
      ]
