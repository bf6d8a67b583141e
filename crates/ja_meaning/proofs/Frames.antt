-- What the registers of a frame hold, also after one is set.
use Rattle.std.proofs.Common.{◌≡◌, ◌≢◌, ◌⊎◌, ℕ, ◌<◌, List, length, Some, inl, inr, sym, ap, ◌∙◌, subst}
use Rattle.std.specs.Prelude.{IsTrue, slice_get, slice_set, unwrap_or, ◌==◌}
use Rattle.std.proofs.lemmas.Option.{same_Some}
use Rattle.std.proofs.lemmas.Bool.{cases_eq, eq-eqb, ne_eqb, cond-true, cond-false}
use Rattle.ja_base.specs.declared.ids.Reg.{Reg}
use Rattle.ja_base.proofs.Lists.{element_within}
use Rattle.ja_graph.specs.declared.program.Program.{Program}
use Rattle.ja_machine.specs.declared.machine.Value.{Value}
use Rattle.ja_machine.specs.declared.machine.Heap.{Heap}
use Rattle.ja_machine.specs.declared.machine.Frame.{Frame}
use Rattle.ja_machine.specs.Frames.{register_of, undefined}
use Rattle.ja_machine.specs.State.{IsValueOf, IsFrame}
use Rattle.ja_machine.proofs.Lists.{slice_get-set_same, slice_get-set_other}
use Rattle.ja_abstract.specs.AbstractValue.{AbstractValue}
use Rattle.ja_abstract.specs.AbstractState.{AbstractState, with_register}
use Rattle.ja_meaning.specs.Meaning.{has_value}

-- a register of the frame holds its value
pub register_held : (f : Frame) (r : Reg) → r.0 < length f.registers
    → slice_get f.registers r.0 ≡ Some (register_of f r)
register_held f r l = let (v, e) = element_within f.registers r.0 l in
    e ∙ ap Some (sym (ap (λ o. unwrap_or o undefined) e))

-- .. and which is one of the heap
pub register_of_heap : (p : Program) (h : Heap) (f : Frame) (r : Reg) → IsFrame p h f
    → r.0 < length f.registers → IsValueOf h (register_of f r)
register_of_heap p h f r k l = k.values r.0 (register_of f r) (register_held f r l)

-- what a register holds after a write
pub written_cases : (registers : List Value) (d r : ℕ) (v u : Value) → d < length registers
    → slice_get (slice_set registers d v) r ≡ Some u
    → ((r ≡ d) × (v ≡ u)) ⊎ ((r ≢ d) × (slice_get registers r ≡ Some u))
written_cases registers d r v u l e =
    elim (cases_eq r d) [
      | inl f ↦ inl (
        f,
        same_Some v u (sym (slice_get-set_same registers d v l)
            ∙ (ap (slice_get (slice_set registers d v)) (sym f) ∙ e)),
      )
      | inr f ↦ inr (f, sym (slice_get-set_other registers d r v f) ∙ e)
    ]

-- the register has its value in the state with that register set, and the others theirs
pub registers_with_result : (h : Heap) (f : Frame) (a : AbstractState) (dst : Reg) (v : Value)
    (u : AbstractValue) → dst.0 < length f.registers → IsTrue (has_value h u v)
    → ((r : ℕ) (w : Value) → slice_get f.registers r ≡ Some w
    → IsTrue (has_value h (a.register r) w)) → (r : ℕ) (w : Value)
    → slice_get (slice_set f.registers dst.0 v) r ≡ Some w
    → IsTrue (has_value h ((with_register a dst u).register r) w)
registers_with_result h f a dst v u l new old r w e =
    elim (written_cases f.registers dst.0 r v w l e) [
      | inl g ↦ subst (λ (s : AbstractValue). IsTrue (has_value h s w))
          (sym (cond-true (dst.0 == r) u (a.register r) (eq-eqb dst.0 r (sym g.0))))
          (subst (λ x. IsTrue (has_value h u x)) g.1 new)
      | inr g ↦ subst (λ (s : AbstractValue). IsTrue (has_value h s w))
          (sym (cond-false (dst.0 == r) u (a.register r) (ne_eqb dst.0 r (λ k. g.0 (sym k)))))
          (old r w g.1)
    ]
