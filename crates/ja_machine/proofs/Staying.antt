-- No object goes, and each keeps its class and its internal properties: in a heap with an object
-- more, and in one that a write leaves.
use Rattle.std.proofs.Common.{◌≡◌, length, Some, inl, inr, refl, sym, ap, ◌∙◌, subst}
use Rattle.std.proofs.lemmas.Bool.{cases_lt}
use Rattle.std.proofs.lemmas.Option.{same_Some}
use Rattle.ja_base.specs.declared.ids.Site.{Site}
use Rattle.ja_base.proofs.Options.{some_value}
use Rattle.ja_machine.specs.declared.machine.Addr.{Addr}
use Rattle.ja_machine.specs.declared.machine.Object.{Object}
use Rattle.ja_machine.specs.declared.machine.Heap.{Heap}
use Rattle.ja_machine.specs.Heap.{object_at, with_new, with_object}
use Rattle.ja_machine.specs.State.{IsObjectOf}
use Rattle.ja_machine.specs.Runs.{Stays}
use Rattle.ja_machine.proofs.Lists.{is_some_from}
use Rattle.ja_machine.proofs.Heaps

-- each object of the first heap stays in the second
abbrev pub AllStay : Heap → Heap → Type 0
AllStay before now = (a : Addr) → IsObjectOf before a → Stays before now a

-- in the heap itself
pub stay_same : (h : Heap) → AllStay h h
stay_same h a there = let (o, is) = some_value (object_at h a) there in
    record { old = o; was = is; new = o; is = is; class = refl; slots = refl }

-- in one heap after another
pub stay_then : (h k now : Heap) → AllStay h k → AllStay k now → AllStay h now
stay_then h k now first second a there =
    let f : Stays h k a = first a there in
    let s : Stays k now a = second a (is_some_from (object_at k a) f.new f.is) in
    let same : s.old ≡ f.new = same_Some s.old f.new (sym s.was ∙ f.is) in
    record {
      old = f.old;
      was = f.was;
      new = s.new;
      is = s.is;
      class = s.class ∙ (ap (λ (o : Object). o.class) same ∙ f.class);
      slots = s.slots ∙ (ap (λ (o : Object). o.slots) same ∙ f.slots);
    }

-- with an object more, also at a site that the heap doesn't have
pub stay-with_new : (h : Heap) (s : Site) (o : Object) → AllStay h (with_new h s o)
stay-with_new h s o a there =
    let (q, is) = some_value (object_at h a) there in
    elim (cases_lt s.0 (length h.objects)) [
      | inl fits ↦ record {
        old = q;
        was = is;
        new = q;
        is = Heaps.object-with_new_old h s o fits a there ∙ is;
        class = refl;
        slots = refl;
      }
      | inr past ↦ subst (λ k. Stays h k a) (sym (Heaps.with_new-past h s o past))
          (stay_same h a there)
    ]

-- with an object changed that keeps its class and its internal properties
pub stay-with_object : (h : Heap) (a : Addr) (old new : Object) → object_at h a ≡ Some old
    → new.class ≡ old.class → new.slots ≡ old.slots → AllStay h (with_object h a new)
stay-with_object h a old new is class slots b there =
    elim (Heaps.address_cases b a) [
      | inl e ↦ subst (λ c. Stays h (with_object h a new) c) (sym e)
          (record {
            old = old;
            was = is;
            new = new;
            is = Heaps.object-with_object_same h a old new is;
            class = class;
            slots = slots;
          })
      | inr ne ↦
          let (q, was) = some_value (object_at h b) there in
          record {
            old = q;
            was = was;
            new = q;
            is = Heaps.object-with_object_other h a old new is b ne ∙ was;
            class = refl;
            slots = refl;
          }
    ]
