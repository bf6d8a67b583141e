-- What a closed table has: the states that its nodes give, the values at entry that they demand,
-- and the opening.
use Rattle.std.proofs.Common.{true, false, sym, ap, ◌∙◌, subst, inl, inr}
use Rattle.std.specs.Prelude.{IsTrue}
use Rattle.std.proofs.lemmas.Bool.{and_parts, and_from, or_left, or_right}
use Rattle.ja_prim.specs.declared.primitive.Num.TheVariants.{NaN, Whole}
use Rattle.ja_prim.specs.declared.primitive.Primitive.{Primitive}
use Rattle.ja_prim.specs.declared.primitive.Primitive.TheVariants as primitive
use Rattle.ja_graph.specs.declared.program.Program.{Program}
use Rattle.ja_machine.specs.declared.machine.Value.TheVariants as value
use Rattle.ja_machine.specs.declared.machine.Value.{Value}
use Rattle.ja_machine.specs.declared.machine.Heap.{Heap}
use Rattle.ja_machine.specs.declared.machine.Addr.{Addr}
use Rattle.ja_machine.specs.declared.machine.Frame.{Frame}
use Rattle.ja_machine.specs.Frames.{parameters_of}
use Rattle.ja_abstract.specs.declared.abstraction.Flags.{Flags}
use Rattle.ja_abstract.specs.AbstractValue.{AbstractValue, AbstractProperty}
use Rattle.ja_abstract.specs.Contents.{SpotContent, missing, held, present, present_row, label_of, content}
use Rattle.ja_abstract.specs.Parts.{has_primitive, allows_attrs}
use Rattle.ja_abstract.specs.Order.{LeqValue, LeqProperty, LeqState}
use Rattle.ja_abstract.specs.declared.abstraction.Mask.{Mask}
use Rattle.ja_abstract.specs.AbstractState.{AbstractState, join_states}
use Rattle.ja_abstract.specs.Keys.{Spot, key_of}
use Rattle.ja_abstract.specs.Made.{rest_register}
use Rattle.ja_abstract.proofs.Joins.{allows_attrs-join_left}
use Rattle.ja_meaning.specs.Meaning.{has_value, knows, Tells, Holds, rest_of}
use Rattle.ja_meaning.proofs.Values.{has_value-join_left, has_value-join_right}
use Rattle.ja_meaning.proofs.Tells.{tells-join_left, tells-join_right}

leq_has_primitive : (a b : AbstractValue) (q : Primitive) → LeqValue a b
    → IsTrue (has_primitive a q) → IsTrue (has_primitive b q)
leq_has_primitive a b primitive.Undefined l e =
    sym (ap (λ (g : Flags). g.undefined) l.flags) ∙ or_left _ _ e
leq_has_primitive a b primitive.Null l e = sym (ap (λ (g : Flags). g.null) l.flags) ∙ or_left _ _ e
leq_has_primitive a b (primitive.Bool true) l e =
    sym (ap (λ (g : Flags). g.is_true) l.flags) ∙ or_left _ _ e
leq_has_primitive a b (primitive.Bool false) l e =
    sym (ap (λ (g : Flags). g.is_false) l.flags) ∙ or_left _ _ e
leq_has_primitive a b (primitive.Number NaN) l e =
    sym (ap (λ (g : Flags). g.nan) l.flags) ∙ or_left _ _ e
leq_has_primitive a b (primitive.Number (Whole n)) l e = l.number n e
leq_has_primitive a b (primitive.Text t) l e = l.text t e

pub leq_has_value : (h : Heap) (a b : AbstractValue) (v : Value) → LeqValue a b
    → IsTrue (has_value h a v) → IsTrue (has_value h b v)
leq_has_value h a b (value.Primitive q) l e = leq_has_primitive a b q l e
leq_has_value h a b (value.Object o) l e = l.label (label_of h o) e

pub leq_knows : (h : Heap) (q r : AbstractProperty) (c : SpotContent) → LeqProperty q r
    → IsTrue (knows h q c) → IsTrue (knows h r c)
leq_knows h q r missing l e = sym (ap (λ (g : Flags). g.absent) l.value.flags) ∙ or_left _ _ e
leq_knows h q r (held v) l e = leq_has_value h q.value r.value v l.value e
leq_knows h q r (present v attrs) l e =
    let k : IsTrue (has_value h q.value v) × IsTrue (allows_attrs q.attrs attrs) = and_parts _ _
    e in
    and_from _ _ (leq_has_value h q.value r.value v l.value k.0)
    (subst (λ m. IsTrue (allows_attrs m attrs)) l.attrs
    (allows_attrs-join_left q.attrs r.attrs attrs k.1))
leq_knows h q r (present_row attrs) l e =
    let k : IsTrue q.value.flags.row × IsTrue (allows_attrs q.attrs attrs) = and_parts _ _ e in
    and_from _ _ (sym (ap (λ (g : Flags). g.row) l.value.flags) ∙ or_left _ _ k.0)
    (subst (λ m. IsTrue (allows_attrs m attrs)) l.attrs
    (allows_attrs-join_left q.attrs r.attrs attrs k.1))

pub tells-above : (e c : Heap) (a : Addr) (x : Spot) (q r : AbstractProperty) → LeqProperty q r
    → Tells e c a x q → Tells e c a x r
tells-above e c a x q r l (inl k) = inl (leq_knows c q r (content c a x) l k)
tells-above e c a x q r l (inr k) =
    inr (sym (ap (λ (g : Flags). g.entry) l.value.flags) ∙ or_left _ _ k.0, k.1)

pub holds-above : (p : Program) (e c : Heap) (f : Frame) (a b : AbstractState) → LeqState a b
    → Holds p e c f a → Holds p e c f b
holds-above p e c f a b l h = record {
  heap = record {
    objects =
        λ o x there. tells-above e c o x (a.property (label_of c o) (key_of p x))
        (b.property (label_of c o) (key_of p x)) (l.property (label_of c o) (key_of p x))
        (h.heap.objects o x there);
    some = λ t k. sym (ap (λ (m : Mask). m.some) (l.mask t.0)) ∙ or_left _ _ (h.heap.some t k);
    none = λ t k. sym (ap (λ (m : Mask). m.none) (l.mask t.0)) ∙ or_left _ _ (h.heap.none t k);
  };
  registers =
      λ r v k. leq_has_value c (a.register r) (b.register r) v (l.register r)
      (h.registers r v k);
  rest =
      λ i v more k. leq_has_value c (a.register (rest_of p f)) (b.register (rest_of p f)) v
      (l.register (rest_of p f)) (h.rest i v more k);
}

-- ---- what a join keeps

pub holds-join_left : (p : Program) (e c : Heap) (f : Frame) (a b : AbstractState) → Holds p e c f a
    → Holds p e c f (join_states a b)
holds-join_left p e c f a b h = record {
  heap = record {
    objects =
        λ o x there. tells-join_left e c o x (a.property (label_of c o) (key_of p x))
        (b.property (label_of c o) (key_of p x)) (h.heap.objects o x there);
    some = λ t l. or_left _ _ (h.heap.some t l);
    none = λ t l. or_left _ _ (h.heap.none t l);
  };
  registers =
      λ r v k. has_value-join_left c (a.register r) (b.register r) v (h.registers r v k);
  rest =
      λ i v more is. has_value-join_left c (a.register
      (rest_register (parameters_of p f.function)))
      (b.register (rest_register (parameters_of p f.function))) v (h.rest i v more is);
}

pub holds-join_right : (p : Program) (e c : Heap) (f : Frame) (a b : AbstractState)
    → Holds p e c f b → Holds p e c f (join_states a b)
holds-join_right p e c f a b h = record {
  heap = record {
    objects =
        λ o x there. tells-join_right e c o x (a.property (label_of c o) (key_of p x))
        (b.property (label_of c o) (key_of p x)) (h.heap.objects o x there);
    some = λ t l. or_right (a.mask t.0).some (b.mask t.0).some (h.heap.some t l);
    none = λ t l. or_right (a.mask t.0).none (b.mask t.0).none (h.heap.none t l);
  };
  registers =
      λ r v k. has_value-join_right c (a.register r) (b.register r) v (h.registers r v k);
  rest =
      λ i v more is. has_value-join_right c (a.register
      (rest_register (parameters_of p f.function)))
      (b.register (rest_register (parameters_of p f.function))) v (h.rest i v more is);
}
