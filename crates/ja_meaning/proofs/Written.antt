-- Writes to one object: strong at the one object of a label, weak at the objects of some labels.
use Rattle.std.specs.Prelude.{◌≡◌, ◌⊎◌, ◌<◌, ◌&&◌, ℕ, false, IsTrue, List, [], ◌∷◌, Some, IsSome}
use Rattle.std.proofs.Common.{refl, sym, subst, ap, ◌∙◌, inl, inr, arith}
use Rattle.std.proofs.lemmas.Bool.{and_parts, and_from, false≢true, cond_both, cond-true}
use Rattle.ja_base.specs.declared.ids.Label.{Label}
use Rattle.ja_base.specs.declared.ids.Site.{Site}
use Rattle.ja_graph.specs.declared.program.Program.{Program}
use Rattle.ja_machine.specs.declared.machine.Addr.{Addr}
use Rattle.ja_machine.specs.declared.machine.Value.{Value}
use Rattle.ja_machine.specs.declared.machine.Value.TheVariants as value
use Rattle.ja_machine.specs.declared.machine.Object.{Object}
use Rattle.ja_machine.specs.declared.machine.Heap.{Heap}
use Rattle.ja_machine.specs.Heap.{count, object_at, with_object}
use Rattle.ja_machine.specs.Writes.{object_with_value}
use Rattle.ja_machine.specs.State.{IsObjectOf}
use Rattle.ja_machine.proofs.Heaps
use Rattle.ja_abstract.specs.declared.abstraction.Key.{Key}
use Rattle.ja_abstract.specs.AbstractValue.{Labels, AbstractValue, AbstractProperty, same_label, join_properties}
use Rattle.ja_abstract.specs.AbstractState.{AbstractState, is_label, same_key}
use Rattle.ja_abstract.specs.Contents.{SpotContent, missing, held, present, present_row, content, label_of}
use Rattle.ja_abstract.specs.Keys.{Spot, named, key_of}
use Rattle.ja_abstract.specs.Writes.{Write, sets_at, joined_at, replaced_at, strong_update, weak_update}
use Rattle.ja_abstract.proofs.Labels.{same_label-self, same_label-true}
use Rattle.ja_abstract.proofs.Lists.{Member}
use Rattle.ja_meaning.specs.Meaning.{has_value, knows, Tells}
use Rattle.ja_meaning.proofs.Held.{HoldsOfAll}
use Rattle.ja_meaning.proofs.Contents
use Rattle.ja_meaning.proofs.Values.{knows-join_left, knows-join_right}
use Rattle.ja_meaning.proofs.Contents.{label_of-new}
use Rattle.ja_meaning.proofs.Tells.{tells-join_left}

-- ---- lists of writes

-- what was told is told after writes that join
pub joined-old : (e h : Heap) (b : Addr) (x : Spot) (k : Key) (writes : List Write)
    (q : AbstractProperty) → Tells e h b x q → Tells e h b x (joined_at writes q k)
joined-old e h b x k [] q t = t
joined-old e h b x k (y ∷ ys) q t =
    let more = joined-old e h b x k ys q t in
    cond_both (same_key y.key k) (join_properties (joined_at ys q k) y.property) (joined_at ys q k)
    (Tells e h b x) (λ _. tells-join_left e h b x (joined_at ys q k) y.property more) (λ _. more)

-- a content that one write at the key knows is known after them
pub written-knows : (h : Heap) (c : SpotContent) (k : Key) (q : AbstractProperty)
    (writes : List Write) (x : Write) → Member x writes → IsTrue (same_key x.key k)
    → IsTrue (knows h x.property c) → IsTrue (knows h (joined_at writes q k) c)
written-knows h c k q [] x m s e = elim m [ ]
written-knows h c k q (y ∷ ys) x (inl is) s e =
    let here : IsTrue (same_key y.key k) =
    subst (λ (z : Write). IsTrue (same_key z.key k)) (sym is) s in
    subst (λ r. IsTrue (knows h r c)) (sym (cond-true (same_key y.key k)
    (join_properties (joined_at ys q k) y.property) (joined_at ys q k) here))
    (knows-join_right h (joined_at ys q k) y.property c
    (subst (λ (z : Write). IsTrue (knows h z.property c)) (sym is) e))
written-knows h c k q (y ∷ ys) x (inr m) s e =
    let more = written-knows h c k q ys x m s e in
    cond_both (same_key y.key k) (join_properties (joined_at ys q k) y.property) (joined_at ys q k)
    (λ r. IsTrue (knows h r c)) (λ _. knows-join_left h (joined_at ys q k) y.property c more)
    (λ _. more)

-- ---- the heap before and after

-- another object stands at an address, and no label changes
pub record Wrote (c now : Heap) (a : Addr) : Type 0 where
  pub labels : (b : Addr) → label_of now b ≡ label_of c b
  pub counts : (t : Site) → count now t ≡ count c t
  pub there : (b : Addr) → IsObjectOf now b → IsObjectOf c b
  pub others : (b : Addr) (x : Spot) → (b ≡ a → ⊥) → content now b x ≡ content c b x

module _ (c now : Heap) (a : Addr) (wrote : Wrote c now a) where
  has-now : (v : AbstractValue) (u : Value) → IsTrue (has_value c v u) → IsTrue (has_value now v u)
  has-now v (value.Primitive q) e = e
  has-now v (value.Object b) e = subst (λ l. IsTrue (v.label l)) (sym (wrote.labels b)) e

  -- what is known is known after it
  pub knows-now : (q : AbstractProperty) (u : SpotContent) → IsTrue (knows c q u)
      → IsTrue (knows now q u)
  knows-now q missing e = e
  knows-now q (held v) e = has-now q.value v e
  knows-now q (present v attrs) e =
      let (x, y) = and_parts _ _ e in and_from _ _ (has-now q.value v x) y
  knows-now q (present_row attrs) e = e

  pub tells-now : (e : Heap) (b : Addr) (x : Spot) (q : AbstractProperty)
      → content now b x ≡ content c b x → Tells e c b x q → Tells e now b x q
  tells-now e b x q same (inl k) =
      inl (subst (λ u. IsTrue (knows now q u)) (sym same) (knows-now q (content c b x) k))
  tells-now e b x q same (inr k) = inr (k.0, record { there = k.1.there; same = same ∙ k.1.same })

-- ---- weak and strong

module _ (p : Program) (e c now : Heap) (a : Addr) (wrote : Wrote c now a) (s : AbstractState)
    (holds : HoldsOfAll p e c s) where
  masks_some : (t : Site) → count e t < count now t → IsTrue (s.mask t.0).some
  masks_some t l = let u : count now t ≡ count c t = wrote.counts t in holds.some t (omega arith)

  masks_none : (t : Site) → count e t ≡ count now t → IsTrue (s.mask t.0).none
  masks_none t l = holds.none t (l ∙ wrote.counts t)

  old_tells : (b : Addr) (x : Spot) → IsObjectOf now b
      → Tells e c b x (s.property (label_of now b) (key_of p x))
  old_tells b x there =
      subst (λ l. Tells e c b x (s.property l (key_of p x))) (sym (wrote.labels b))
      (holds.objects b x (wrote.there b there))

  -- a spot of the object is as it was, or one of the writes knows it
  abbrev pub Weakens : List Write → Type 0
  Weakens writes =
      (x : Spot) → (content now a x ≡ content c a x)
      ⊎ ((q : AbstractProperty) → IsTrue (knows now (joined_at writes q (key_of p x))
      (content now a x)))

  module _ (target : Labels) (writes : Label → List Write)
      (of_program : IsTrue (is_label p (label_of c a))) (among : IsTrue (target (label_of c a)))
      (written : Weakens (writes (label_of c a))) where
    weak_by : (b : Addr) (x : Spot) → IsObjectOf now b → (b ≡ a) ⊎ (b ≡ a → ⊥)
        → Tells e now b x (joined_at (writes (label_of now b))
        (s.property (label_of now b) (key_of p x)) (key_of p x))
        × ((b ≡ a → ⊥) → Tells e now b x (s.property (label_of now b) (key_of p x)))
    weak_by b x there (inl is) =
        let q = s.property (label_of now b) (key_of p x) in (
          elim (written x) [
            | inl same ↦
                joined-old e now b x (key_of p x) (writes (label_of now b)) q
                (tells-now c now a wrote e b x q (subst (λ d. content now d x ≡ content c d x)
                (sym is) same) (old_tells b x there))
            | inr known ↦
                inl (subst (λ d. IsTrue (knows now (joined_at (writes (label_of now d)) q
                (key_of p x)) (content now d x))) (sym is)
                (subst (λ l. IsTrue (knows now (joined_at (writes l) q (key_of p x))
                (content now a x))) (sym (wrote.labels a)) (known q)))
          ],
          λ other. absurd (other is),
        )
    weak_by b x there (inr other) =
        let kept =
        tells-now c now a wrote e b x (s.property (label_of now b) (key_of p x))
        (wrote.others b x other) (old_tells b x there) in (
          joined-old e now b x (key_of p x) (writes (label_of now b))
              (s.property (label_of now b) (key_of p x)) kept,
          λ _. kept,
        )

    weak_tells : (b : Addr) (x : Spot) → IsObjectOf now b
        → Tells e now b x ((weak_update p s target writes).property (label_of now b) (key_of p x))
    weak_tells b x there =
        let l = label_of now b in
        let by = weak_by b x there (Heaps.address_cases b a) in
        cond_both (is_label p l && target l)
        (joined_at (writes l) (s.property l (key_of p x)) (key_of p x))
        (s.property l (key_of p x)) (Tells e now b x) (λ _. by.0)
        (λ out. by.1 (λ is. false≢true (sym out ∙ (ap (λ m. is_label p m && target m)
        (ap (label_of now) is ∙ wrote.labels a) ∙ and_from _ _ of_program among))))

    pub weak_update_holds : HoldsOfAll p e now (weak_update p s target writes)
    weak_update_holds = record { objects = weak_tells; some = masks_some; none = masks_none }

  -- at the one object of a new label each spot is told of by what replaces the property there
  module _ (l : Label) (label_is : label_of c a ≡ l) (is_new : l.old ≡ false) (writes : List Write)
      (replaced : (x : Spot) → Tells e now a x (replaced_at writes (s.property l (key_of p x))
      (key_of p x))) where
    alone : (b : Addr) → label_of now b ≡ l → b ≡ a
    alone b is =
        label_of-new c a b (ap (λ (k : Label). k.old) label_is ∙ is_new)
        (sym (wrote.labels b) ∙ (is ∙ sym label_is))

    strong_tells : (b : Addr) (x : Spot) → IsObjectOf now b
        → Tells e now b x ((strong_update s l writes).property (label_of now b) (key_of p x))
    strong_tells b x there =
        let m = label_of now b in
        let k = key_of p x in
        cond_both (same_label l m) (replaced_at writes (s.property m k) k) (s.property m k)
        (Tells e now b x)
        (λ same. let m_is : l ≡ m = same_label-true l m same in
        subst (λ r. Tells e now b x (replaced_at writes (s.property r k) k)) m_is
        (subst (λ d. Tells e now d x (replaced_at writes (s.property l k) k))
        (sym (alone b (sym m_is))) (replaced x)))
        (λ differs. tells-now c now a wrote e b x (s.property m k)
        (wrote.others b x (λ is. false≢true (sym differs
        ∙ subst (λ r. IsTrue (same_label l r)) (sym
        (ap (label_of now) is ∙ (wrote.labels a ∙ label_is))) (same_label-self l))))
        (old_tells b x there))

    pub strong_update_holds : HoldsOfAll p e now (strong_update s l writes)
    strong_update_holds = record { objects = strong_tells; some = masks_some; none = masks_none }

-- ---- the value of a name is put on an object that is no array

module _ (p : Program) (e c : Heap) (a : Addr) (o : Object) (there : object_at c a ≡ Some o)
    (t : List ℕ) (v : Value) where
  abbrev now : Heap
  now = with_object c a (object_with_value o t v)

  wrote_value : Wrote c now a
  wrote_value = record {
    labels = Contents.label-with_object c a o (object_with_value o t v) there;
    counts = Heaps.count-with_object c a o (object_with_value o t v) there;
    there = Heaps.object_unwritten c a o (object_with_value o t v) there;
    others =
        λ b x other. Contents.content-with_object_other c a o there t v b x (λ both. other both.0);
  }

  module _ (s : AbstractState) (holds : HoldsOfAll p e c s) (k : Key) (q : AbstractProperty)
      (known : IsTrue (knows now q (content now a (named t))))
      (same : IsTrue (same_key k (key_of p (named t)))) where
    abbrev one : List Write
    one = sets_at k q ∷ []

    unwritten : (x : Spot) → (x ≡ named t → ⊥) → content now a x ≡ content c a x
    unwritten x ne = Contents.content-with_object_other c a o there t v a x (λ both. ne both.1)

    -- weak, at any key
    weak_value : Weakens p e c now a wrote_value s holds one
    weak_value x =
        elim (Contents.named_cases x t) [
          | inl is ↦
              inr (λ r. subst (λ y. IsTrue (knows now (joined_at one r (key_of p y))
              (content now a y))) (sym is) (written-knows now (content now a (named t))
              (key_of p (named t)) r one (sets_at k q) (inl refl) same known))
          | inr ne ↦ inl (unwritten x ne)
        ]

    -- strong, at a key that is that of this text alone
    module _ (only : (x : Spot) → IsTrue (same_key k (key_of p x)) → x ≡ named t) where
      strong_value : (x : Spot) → Tells e now a x
          (replaced_at one (s.property (label_of c a) (key_of p x)) (key_of p x))
      strong_value x =
          let r = s.property (label_of c a) (key_of p x) in
          cond_both (same_key k (key_of p x)) q r (Tells e now a x)
          (λ yes_. inl (subst (λ y. IsTrue (knows now q (content now a y)))
          (sym (only x yes_)) known))
          (λ no_. tells-now c now a wrote_value e a x r
          (unwritten x (λ is. false≢true (sym no_ ∙ subst (λ y. IsTrue (same_key k (key_of p y)))
          (sym is) same))) (holds.objects a x (subst (λ z. IsSome z) (sym there) refl)))

      pub strong_put_holds : (l : Label) → label_of c a ≡ l → l.old ≡ false
          → HoldsOfAll p e now (strong_update s l one)
      strong_put_holds l is new =
          strong_update_holds p e c now a wrote_value s holds l is new one
          (λ x. subst (λ m. Tells e now a x (replaced_at one (s.property m (key_of p x))
          (key_of p x))) is (strong_value x))
