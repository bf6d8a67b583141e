-- Three moments of a run: what holds of the first two, and what holds of the last two, composed
-- holds of the first and the last.
use Rattle.std.specs.Prelude.{◌≡◌, ◌<◌, ◌≤◌, IsTrue}
use Rattle.std.proofs.Common.{sym, subst, arith, inl, inr, ◌∙◌}
use Rattle.std.proofs.lemmas.Bool.{or_left, or_right, and_from, cond_both, false≢true, cases_order}
use Rattle.ja_base.specs.declared.ids.Label.{Label}
use Rattle.ja_base.specs.declared.ids.Site.{Site}
use Rattle.ja_graph.specs.declared.program.Program.{Program}
use Rattle.ja_machine.specs.declared.machine.Addr.{Addr}
use Rattle.ja_machine.specs.declared.machine.Value.{Value}
use Rattle.ja_machine.specs.declared.machine.Heap.{Heap}
use Rattle.ja_machine.specs.Heap.{count}
use Rattle.ja_machine.specs.State.{IsHeap, IsValueOf}
use Rattle.ja_abstract.specs.AbstractValue.{AbstractValue, AbstractProperty, bare, join_properties}
use Rattle.ja_abstract.specs.AbstractState.{AbstractState}
use Rattle.ja_abstract.specs.Resolved.{origins, renamed, known_part, from_entry, resolved}
use Rattle.ja_abstract.specs.Keys.{Spot, key_of}
use Rattle.ja_abstract.specs.Contents.{held, content, label_of}
use Rattle.ja_abstract.specs.Composed.{renamed_value, all_of, composed}
use Rattle.ja_abstract.proofs.Labels.{IsAmong}
use Rattle.ja_abstract.proofs.AtKeys.{at_key}
use Rattle.ja_meaning.specs.Meaning.{knows, has_value, IsAsAtEntry, Grows, Tells}
use Rattle.ja_meaning.proofs.Held.{HoldsOfAll}
use Rattle.ja_meaning.proofs.Inside.{inside}
use Rattle.ja_meaning.proofs.Parts.{knows-known_part}
use Rattle.ja_meaning.proofs.Resolved.{IsAged, knows-renamed, origins-has}
use Rattle.ja_meaning.proofs.Tells.{tells-join_left, tells-join_right, tells-join_all}

-- a value of the first heap is one of the renamed value of the second
pub has-renamed : (m c : Heap) (x : AbstractState) → IsAged m c x.mask
    → (v : AbstractValue) (u : Value) → IsValueOf m u → IsTrue (has_value m v u)
    → IsTrue (has_value c (renamed_value x.mask v) u)
has-renamed m c x aged v u there has = knows-renamed m c x.mask aged (bare v) (held u) there has

module _ (p : Program) (e m c : Heap) (known : IsHeap p m) (up : Grows e m) (on : Grows m c)
    (a x : AbstractState) (first : HoldsOfAll p e m a) (second : HoldsOfAll p m c x) where
  aged : IsAged m c x.mask
  aged = record { grows = on; some = second.some; none = second.none }

  -- ---- masks

  some_composed : (t : Site) → count e t < count c t → IsTrue ((composed p a x).mask t.0).some
  some_composed t more =
      let u : count e t ≤ count m t = up t in
      let v : count m t ≤ count c t = on t in
      elim (cases_order (count m t) (count c t)) [
        | inl same ↦
            or_right (x.mask t.0).some _ (and_from _ _ (first.some t (omega arith))
            (second.none t same))
        | inr other ↦
            elim other [
              | inl less ↦ or_left (x.mask t.0).some _ (second.some t less)
              | inr greater ↦
                  absurd (omega arith)
            ]
      ]

  none_composed : (t : Site) → count e t ≡ count c t → IsTrue ((composed p a x).mask t.0).none
  none_composed t same =
      let u : count e t ≤ count m t = up t in
      let v : count m t ≤ count c t = on t in
      and_from _ _ (second.none t (omega arith)) (first.none t (omega arith))

  -- ---- properties

  -- what was told in the middle is told now, renamed, where nothing has changed since
  tells-renamed : (b : Addr) (y : Spot) (q : AbstractProperty) → content c b y ≡ content m b y
      → Tells e m b y q → Tells e c b y (renamed x.mask q)
  tells-renamed b y q same (inl k) =
      inl (subst (λ u. IsTrue (knows c (renamed x.mask q) u)) (sym same)
      (knows-renamed m c x.mask aged q (content m b y) (inside p m known b y) k))
  tells-renamed b y q same (inr k) = inr (k.0, record { there = k.1.there; same = same ∙ k.1.same })

  -- .. by the origins of the object's label
  tells-origins : (b : Addr) (y : Spot) → IsAsAtEntry m c b y
      → Tells e c b y (from_entry x (all_of a) (label_of c b) (key_of p y))
  tells-origins b y was =
      let f : Label → AbstractProperty = λ l. renamed x.mask (a.property l (key_of p y)) in
      let among : IsAmong (label_of m b) (origins x.mask (label_of c b)) =
      origins-has m c x.mask aged b was.there in
      tells-join_all e c b y f (origins x.mask (label_of c b)) (label_of m b) among
      (tells-renamed b y (a.property (label_of m b) (key_of p y)) was.same
      (first.objects b y was.there))

  tells_by : (b : Addr) (y : Spot) → Tells m c b y (x.property (label_of c b) (key_of p y))
      → Tells e c b y (resolved x (all_of a) (label_of c b) (key_of p y))
  tells_by b y (inl known_now) =
      let q = x.property (label_of c b) (key_of p y) in
      let r = from_entry x (all_of a) (label_of c b) (key_of p y) in
      cond_both q.value.flags.entry (join_properties (known_part q) r) q (Tells e c b y)
      (λ _. tells-join_left e c b y (known_part q) r
      (inl (knows-known_part c q (content c b y) known_now)))
      (λ _. inl known_now)
  tells_by b y (inr k) =
      let q = x.property (label_of c b) (key_of p y) in
      let r = from_entry x (all_of a) (label_of c b) (key_of p y) in
      cond_both q.value.flags.entry (join_properties (known_part q) r) q (Tells e c b y)
      (λ _. tells-join_right e c b y (known_part q) r (tells-origins b y k.1))
      (λ no. absurd (false≢true (sym no ∙ k.0)))

  -- the composed state holds of the first and the last moment
  pub composed_holds : HoldsOfAll p e c (composed p a x)
  composed_holds = record {
    objects =
        λ b y there. subst (Tells e c b y) (sym (at_key p (resolved x (all_of a) (label_of c b)) y))
        (tells_by b y (second.objects b y there));
    some = some_composed;
    none = none_composed;
  }
