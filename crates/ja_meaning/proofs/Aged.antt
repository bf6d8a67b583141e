-- Labels and values after an object more.
use Rattle.std.proofs.Common.{◌≡◌, ◌≢◌, ◌<◌, true, false, length, inl, inr, refl, sym, ◌∙◌, subst}
use Rattle.std.specs.Prelude.{IsTrue, ◌||◌}
use Rattle.std.proofs.lemmas.Bool.{and_parts, and_from, or_left, or_right, cases_eq, eq-eqb, ne_eqb, cond-true, cond-false}
use Rattle.ja_base.specs.declared.ids.Label.{Label}
use Rattle.ja_base.specs.declared.ids.Site.{Site}
use Rattle.ja_prim.specs.declared.primitive.Num.TheVariants.{NaN, Whole}
use Rattle.ja_prim.specs.declared.primitive.Primitive.{Primitive}
use Rattle.ja_prim.specs.declared.primitive.Primitive.TheVariants as primitive
use Rattle.ja_machine.specs.declared.machine.Addr.{Addr}
use Rattle.ja_machine.specs.declared.machine.Value.{Value}
use Rattle.ja_machine.specs.declared.machine.Value.TheVariants as value
use Rattle.ja_machine.specs.declared.machine.Object.{Object}
use Rattle.ja_machine.specs.declared.machine.Heap.{Heap}
use Rattle.ja_machine.specs.Heap.{with_new}
use Rattle.ja_machine.specs.State.{IsObjectOf, IsValueOf}
use Rattle.ja_abstract.specs.AbstractValue.{AbstractValue, AbstractProperty}
use Rattle.ja_abstract.specs.AbstractState.{new, old, aged, aged_property}
use Rattle.ja_abstract.specs.Contents.{SpotContent, missing, held, present, present_row, label_of}
use Rattle.ja_abstract.specs.Parts.{has_primitive, allows_attrs}
use Rattle.ja_abstract.proofs.Labels.{label_parts}
use Rattle.ja_meaning.specs.Meaning.{has_value, knows, IsOfHeap}
use Rattle.ja_meaning.proofs.Contents

aged_at : (s : Site) (v : AbstractValue)
    → (aged s v).label (old s) ≡ (v.label (old s) || v.label (new s))
aged_at s v = cond-true _ _ _ (eq-eqb s.0 s.0 refl)

aged_other : (s : Site) (v : AbstractValue) (l : Label) → l.site.0 ≢ s.0
    → (aged s v).label l ≡ v.label l
aged_other s v l ne = cond-false _ _ _ (ne_eqb l.site.0 s.0 ne)

module _ (h : Heap) (s : Site) (o : Object) (row : s.0 < length h.objects) where
  aged_has_primitive : (v : AbstractValue) (q : Primitive) → IsTrue (has_primitive v q)
      → IsTrue (has_primitive (aged s v) q)
  aged_has_primitive v primitive.Undefined e = e
  aged_has_primitive v primitive.Null e = e
  aged_has_primitive v (primitive.Bool true) e = e
  aged_has_primitive v (primitive.Bool false) e = e
  aged_has_primitive v (primitive.Number NaN) e = e
  aged_has_primitive v (primitive.Number (Whole n)) e = e
  aged_has_primitive v (primitive.Text t) e = e

  aged_has_object : (v : AbstractValue) (b : Addr) → IsObjectOf h b
      → IsTrue (v.label (label_of h b)) → IsTrue ((aged s v).label (label_of (with_new h s o) b))
  aged_has_object v b there e =
      elim (cases_eq b.site.0 s.0) [
        | inl f ↦
            subst (λ l. IsTrue ((aged s v).label l))
            (sym (Contents.label-with_new_aged h s o row b there f))
            (aged_at s v ∙ elim (label_parts (label_of h b) s f) [
              | inl g ↦ or_left _ _ (subst (λ l. IsTrue (v.label l)) g e)
              | inr g ↦ or_right _ _ (subst (λ l. IsTrue (v.label l)) g e)
            ])
        | inr ne ↦
            subst (λ l. IsTrue ((aged s v).label l))
            (sym (Contents.label-with_new_other h s o row b ne))
            (aged_other s v (label_of h b) ne ∙ e)
      ]

  -- a value's parts are kept, with the labels that they have now
  pub aged_has : (v : AbstractValue) (x : Value) → IsValueOf h x → IsTrue (has_value h v x)
      → IsTrue (has_value (with_new h s o) (aged s v) x)
  aged_has v (value.Primitive q) there e = aged_has_primitive v q e
  aged_has v (value.Object b) there e = aged_has_object v b there e

  pub aged_knows : (q : AbstractProperty) (c : SpotContent) → IsOfHeap h c → IsTrue (knows h q c)
      → IsTrue (knows (with_new h s o) (aged_property s q) c)
  aged_knows q missing there e = e
  aged_knows q (held v) there e = aged_has q.value v there e
  aged_knows q (present v attrs) there e =
      let k : IsTrue (has_value h q.value v)
      × IsTrue (allows_attrs q.attrs attrs) = and_parts _ _ e in
      and_from _ _ (aged_has q.value v there k.0) k.1
  aged_knows q (present_row attrs) there e = e
