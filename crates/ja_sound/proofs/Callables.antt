-- What is called or constructed runs a function, so it has a scope chain.
use Rattle.std.specs.Prelude.{◌≡◌, IsTrue, IsSome, slice_get, Option, Some, None, is_some}
use Rattle.std.specs.Option.{option_and_then}
use Rattle.std.proofs.Common.{refl, sym, subst}
use Rattle.std.proofs.lemmas.Bool.{or_left, or_right}
use Rattle.std.proofs.lemmas.Option.{none-some}
use Rattle.ja_base.specs.declared.ids.FnId.{FnId}
use Rattle.ja_graph.specs.declared.program.Program.{Program}
use Rattle.ja_graph.specs.declared.program.SiteInfo.{SiteInfo}
use Rattle.ja_graph.specs.Program.{runs_function}
use Rattle.ja_machine.specs.declared.machine.Addr.{Addr}
use Rattle.ja_machine.specs.declared.machine.Heap.{Heap}
use Rattle.ja_machine.specs.declared.machine.Object.{Object}
use Rattle.ja_machine.specs.declared.machine.Value.TheVariants as value
use Rattle.ja_machine.specs.Calls.{function_called, function_constructing}
use Rattle.ja_machine.specs.Heap.{object_at}
use Rattle.ja_machine.specs.State.{IsHeap}

module _ (p : Program) (h : Heap) (known : IsHeap p h) (a : Addr) (o : Object)
    (object_is : object_at h a ≡ Some o) (f : FnId) where
  scoped_by : (select : SiteInfo → Option FnId)
      → ((s : SiteInfo) → IsTrue (is_some (select s)) → IsTrue (runs_function s))
      → (r : Option SiteInfo) → slice_get p.sites a.site.0 ≡ r → option_and_then select r ≡ Some f
      → IsSome o.slots.scope
  scoped_by select runs None is e = absurd (none-some f e)
  scoped_by select runs (Some s) is e =
      known.scoped a o object_is s is (runs s (subst (λ r. IsTrue (is_some r)) (sym e) refl))

  pub called_scoped : function_called p (value.Object a) ≡ Some f → IsSome o.slots.scope
  called_scoped e =
      scoped_by (λ s. s.calls) (λ s k. or_left _ _ k) (slice_get p.sites a.site.0) refl e

  pub constructing_scoped : function_constructing p (value.Object a) ≡ Some f
      → IsSome o.slots.scope
  constructing_scoped e =
      scoped_by (λ s. s.constructs) (λ s k. or_right (is_some s.calls) _ k)
      (slice_get p.sites a.site.0) refl e
