-- A put that isn't done leaves the heap, so what comes of it comes of the state before it.
use Rattle.std.proofs.Common.{◌≡◌, ℕ, List, Some, None, Option, refl, ap, sym, subst, ◌∙◌}
use Rattle.std.specs.Prelude.{not, if◌then◌else◌}
use Rattle.std.specs.Option.{option_map_or}
use Rattle.ja_prim.specs.Conversions.{to_number, index_of}
use Rattle.ja_prim.specs.Texts.{same_text}
use Rattle.ja_graph.specs.declared.node.NodeInfo.{NodeInfo}
use Rattle.ja_machine.specs.declared.machine.Addr.{Addr}
use Rattle.ja_machine.specs.declared.machine.Value.{Value}
use Rattle.ja_machine.specs.declared.machine.Value.TheVariants as value
use Rattle.ja_machine.specs.declared.machine.Object.{Object}
use Rattle.ja_machine.specs.declared.machine.Heap.{Heap}
use Rattle.ja_machine.specs.declared.machine.Put.{Put}
use Rattle.ja_machine.specs.declared.machine.Put.TheVariants as put_ends
use Rattle.ja_machine.specs.declared.machine.Event.{Event}
use Rattle.ja_machine.specs.Heap.{object_at, with_object, can_put, is_shared}
use Rattle.ja_machine.specs.Writes.{object_with_value, length_name, with_element, unsigned_number, PutOutcome, written, put_length, put_length_value, put_array, is_array, put_own, put}
use Rattle.ja_machine.specs.Nodes.{puts, after_put}
use Rattle.ja_machine.proofs.Lists.{either_way}
use Rattle.ja_machine.proofs.Heaps.{of_object}
use Rattle.ja_step.specs.declared.conf.Conf.{Conf}
use Rattle.ja_step.specs.code.Steps.{standing}

-- the heap is as it was, if the value isn't set
abbrev pub IsLeft : Heap → Heap → Put → Type 0
IsLeft after before put_ends.Done = Unit {0}
IsLeft after before end = after ≡ before

module _ (h : Heap) (a : Addr) where
  Left : PutOutcome → Type 0
  Left w = IsLeft w.heap h w.put

  left-length : (o : Object) (n : Option ℕ) → Left (put_length h a o n)
  unfolding Left
  left-length o None = refl
  left-length o (Some n) = tt

  left-length_value : (o : Object) (v : Value) → Left (put_length_value h a o v)
  unfolding Left
  left-length_value o (value.Object b) = refl
  left-length_value o (value.Primitive q) = left-length o (unsigned_number (to_number q))

  left-own : (o : Object) (name : List ℕ) (v : Value) → Left (put_own h a o name v)
  unfolding Left
  left-own o name v =
      let array : Left (put_array h a o name v) = either_way Left (same_text name length_name)
      (put_length_value h a o v) (written (with_object h a
      (with_element o name v (index_of name))) put_ends.Done) (λ e. left-length_value o v)
      (λ e. tt) in
      either_way Left (is_array o.class) (put_array h a o name v)
      (written (with_object h a (object_with_value o name v)) put_ends.Done) (λ e. array)
      (λ e. tt)

  left-put : (name : List ℕ) (v : Value) → Left (put h a name v)
  unfolding Left
  left-put name v =
      let own : PutOutcome = option_map_or (λ (o : Object). put_own h a o name v) (object_at h a)
      (written h put_ends.Done) in
      let put_it : Left own = of_object h a Left (λ (o : Object). put_own h a o name v)
      (written h put_ends.Done) tt (λ o is. left-own o name v) in
      either_way Left (not (can_put h a name)) (written h put_ends.Ignored)
      (if is_shared h a name then written h put_ends.SharedArgument else own) (λ e. refl)
      (λ e. either_way Left (is_shared h a name) (written h put_ends.SharedArgument) own
      (λ f. refl) (λ f. put_it))

  -- where this is how a put ends, the heap is as it was, if the value isn't set
  pub left_by_put : (after : Heap) (end : Put) (name : List ℕ) (v : Value)
      → written after end ≡ put h a name v → IsLeft after h end
  unfolding Left
  left_by_put after end name v e = subst Left (sym e) (left-put name v)

-- what a node does after a put is what it does at the state before, if the heap is as it was
pub left_event : (c : Conf) (info : NodeInfo) (wrong_length : Event) (a : Addr) (name : List ℕ)
    (v : Value) (after : Heap) (end : Put) (f : Conf → Event)
    → written after end ≡ put c.heap a name v → after ≡ c.heap
    → after_put (standing c info) wrong_length after end ≡ f c
    → f (record c { heap = after }) ≡ puts (standing c info) wrong_length a name v
left_event c info wrong_length a name v after end f is left gives =
    ap (λ (h : Heap). f (record c { heap = h })) left ∙ sym gives
    ∙ ap (λ (w : PutOutcome). after_put (standing c info) wrong_length w.heap w.put) is
