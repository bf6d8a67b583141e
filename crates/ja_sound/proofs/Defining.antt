-- An object with a property defined: at its name that property, elsewhere as it was.
use Rattle.std.specs.Prelude.{◌≡◌, ℕ, false, List, [], ◌∷◌, find}
use Rattle.std.proofs.Common.{refl, sym, subst, ap, inl, inr}
use Rattle.std.proofs.lemmas.Bool.{cases_Bool}
use Rattle.ja_prim.specs.Texts.{same_text}
use Rattle.ja_graph.specs.declared.attrs.Attrs.{Attrs}
use Rattle.ja_machine.specs.declared.machine.Content.{Content}
use Rattle.ja_machine.specs.declared.machine.Property.{Property}
use Rattle.ja_machine.specs.declared.machine.Object.{Object}
use Rattle.ja_machine.specs.Writes.{with_definition}
use Rattle.ja_abstract.specs.declared.abstraction.Slot.TheVariants as slot
use Rattle.ja_abstract.specs.Contents.{property_content, content_of, object_content}
use Rattle.ja_abstract.specs.Keys.{named, Spot, internal}
use Rattle.ja_abstract.proofs.Texts.{text_same, same_text_refl}

pub definition_same : (qs : List Property) (t : List ℕ) (x : Content) (attrs : Attrs)
    → property_content (find (λ (q : Property). same_text q.name t) (with_definition qs t x attrs))
    ≡ content_of x attrs
definition_same [] t x attrs = simp (same_text_refl t)
definition_same (q ∷ qs) t x attrs =
    elim (cases_Bool (same_text q.name t)) [
      | inl e ↦ simp e
      | inr e ↦
          simp (e, definition_same qs t x attrs)
    ]

definition_other : (qs : List Property) (t u : List ℕ) (x : Content) (attrs : Attrs)
    → same_text t u ≡ false → property_content (find (λ (q : Property). same_text q.name u)
    (with_definition qs t x attrs)) ≡ property_content
    (find (λ (q : Property). same_text q.name u) qs)
definition_other [] t u x attrs ne = simp ne
definition_other (q ∷ qs) t u x attrs ne =
    elim (cases_Bool (same_text q.name t)) [
      | inl e ↦
          let f : same_text q.name u ≡ false = subst (λ n. same_text n u ≡ false)
          (sym (text_same q.name t e)) ne in simp (e, f)
      | inr e ↦
          elim (cases_Bool (same_text q.name u)) [
            | inl f ↦ simp (e, f)
            | inr f ↦
                simp (e, f, definition_other qs t u x attrs ne)
          ]
    ]

abbrev pub defining : Object → List ℕ → Content → Attrs → Object
defining o t x attrs = record o { properties = with_definition o.properties t x attrs }

pub defining_other : (o : Object) (t : List ℕ) (x : Content) (attrs : Attrs) (y : Spot)
    → (y ≡ named t → ⊥) → object_content (defining o t x attrs) y ≡ object_content o y
defining_other o t x attrs (named u) ne =
    elim (cases_Bool (same_text t u)) [
      | inl e ↦
          absurd (ne (ap named (sym (text_same t u e))))
      | inr e ↦
          definition_other o.properties t u x attrs e
    ]
defining_other o t x attrs (internal slot.Prototype) ne = refl
defining_other o t x attrs (internal slot.Outer) ne = refl
defining_other o t x attrs (internal slot.Scope) ne = refl
defining_other o t x attrs (internal slot.Value) ne = refl
