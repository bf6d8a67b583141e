-- What a write to a name comes to: a put on an object that is no array.
use Rattle.std.proofs.Common.{◌≡◌, ℕ, true, false, not, List, Some, refl, ap, ◌∙◌, sym, subst}
use Rattle.std.specs.Prelude.{if◌then◌else◌}
use Rattle.std.specs.Option.{option_map, option_map_or}
use Rattle.std.proofs.lemmas.Bool.{not-true, not-false, cond-false}
use Rattle.ja_base.specs.declared.ids.NameId.{NameId}
use Rattle.ja_base.specs.declared.ids.ScopeKind.{ScopeKind}
use Rattle.ja_base.specs.declared.ids.ScopeKind.TheVariants as scope_kind
use Rattle.ja_base.proofs.Options.{some_value}
use Rattle.ja_prim.specs.declared.primitive.Primitive.TheVariants as primitive
use Rattle.ja_graph.specs.declared.program.Program.{Program}
use Rattle.ja_graph.specs.Program.{global}
use Rattle.ja_graph.specs.WellFormed.{IsWellFormed}
use Rattle.ja_machine.specs.declared.machine.Addr.{Addr}
use Rattle.ja_machine.specs.declared.machine.Value.{Value}
use Rattle.ja_machine.specs.declared.machine.Value.TheVariants as value
use Rattle.ja_machine.specs.declared.machine.Object.{Object}
use Rattle.ja_machine.specs.declared.machine.Heap.{Heap}
use Rattle.ja_machine.specs.declared.machine.Put.TheVariants as put_ends
use Rattle.ja_machine.specs.declared.machine.Event.{Event}
use Rattle.ja_machine.specs.Heap.{object_at, with_object, can_put, is_shared}
use Rattle.ja_machine.specs.Writes.{PutOutcome, written, object_with_value, put_own, is_array}
use Rattle.ja_machine.specs.Objects.{first_of}
use Rattle.ja_machine.specs.Events.{Standing, goes_on, left_scope}
use Rattle.ja_machine.specs.Nodes.{name_text, not_taken, after_put, puts, is_array_at, write_ref_step}
use Rattle.ja_machine.specs.State.{IsHeap, IsValueOf}
use Rattle.ja_machine.proofs.Lists.{either_way}
use Rattle.ja_machine.proofs.Nodes.{global_there}
use Rattle.ja_meaning.proofs.Builtins.{global_class}

-- the object at which a name with this base is written: that of the base, or the global object
-- where it is null
abbrev pub IsBase : Value → Addr → Type 0
IsBase (value.Object a) b = a ≡ b
IsBase (value.Primitive primitive.Null) b = first_of global ≡ b
IsBase (value.Primitive q) b = ⊥

module _ (p : Program) (good : IsWellFormed p) (s : Standing) (known : IsHeap p s.conf.heap)
    (P : Event → Type 0) (ends : (kind : ScopeKind) → P (left_scope s kind)) where
  abbrev h : Heap
  h = s.conf.heap

  -- what a put comes to
  abbrev After : PutOutcome → Type 0
  After x = P (after_put s (not_taken s) x.heap x.put)

  -- a put on an object that is no array
  pub put_at_object : (b : Addr) (o : Object) (n : List ℕ) (v : Value) → object_at h b ≡ Some o
      → is_array o.class ≡ false → (can_put h b n ≡ false → P (goes_on s h))
      → (can_put h b n ≡ true → P (goes_on s (with_object h b (object_with_value o n v))))
      → P (puts s (not_taken s) b n v)
  put_at_object b o n v object_is other refused done =
      let own : PutOutcome = option_map_or (λ (x : Object). put_own h b x n v) (object_at h b)
      (written h put_ends.Done) in
      let changed : PutOutcome = written (with_object h b (object_with_value o n v))
      put_ends.Done in
      let own_is : own ≡ changed = ap (λ r. option_map_or (λ (x : Object). put_own h b x n v) r
      (written h put_ends.Done)) object_is ∙ cond-false (is_array o.class) _ _ other in
      either_way After (not (can_put h b n)) (written h put_ends.Ignored)
      (if is_shared h b n then written h put_ends.SharedArgument else own)
      (λ e. refused (not-true (can_put h b n) e))
      (λ e. either_way After (is_shared h b n) (written h put_ends.SharedArgument) own
      (λ f. ends scope_kind.SharedArgument)
      (λ f. subst After (sym own_is) (done (not-false (can_put h b n) e))))

  -- the global object is no array
  no_array : (o : Object) → object_at h (first_of global) ≡ Some o → is_array o.class ≡ false
  no_array o object_is =
      ap is_array (known.class (first_of global) o object_is ∙ global_class p good)

  module _ (name : NameId) (v : Value) where
    -- a write, by the puts at objects that are no arrays
    pub write_by : (x : Value) → IsValueOf h x
        → ((b : Addr) (o : Object) → IsBase x b → object_at h b ≡ Some o → is_array o.class ≡ false
        → P (puts s (not_taken s) b (name_text p name) v)) → P (write_ref_step p s name v x)
    write_by (value.Object b) there at =
        let (o, object_is) = some_value (object_at h b) there in
        either_way P (is_array_at h b) (not_taken s) (puts s (not_taken s) b (name_text p name) v)
        (λ e. ends scope_kind.Register) (λ e.
        at b o refl object_is (sym (ap (λ r.
        option_map_or is_array (option_map (λ (x : Object). x.class) r) false) object_is) ∙ e))
    write_by (value.Primitive primitive.Null) there at =
        let (o, object_is) = some_value (object_at h (first_of global))
        (global_there p good h known) in
        at (first_of global) o refl object_is (no_array o object_is)
    write_by (value.Primitive primitive.Undefined) there at = ends scope_kind.Register
    write_by (value.Primitive (primitive.Bool q)) there at = ends scope_kind.Register
    write_by (value.Primitive (primitive.Number q)) there at = ends scope_kind.Register
    write_by (value.Primitive (primitive.Text q)) there at = ends scope_kind.Register
