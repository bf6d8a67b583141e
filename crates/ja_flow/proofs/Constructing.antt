-- The state of a caller at its node, by the node's kind.
use Rattle.std.proofs.Common.{◌≡◌, ℕ, List, Option, None, refl, sym, subst, ap, ◌∙◌}
use Rattle.std.specs.Prelude.{unwrap_or}
use Rattle.ja_base.specs.declared.ids.Reg.{Reg}
use Rattle.ja_base.specs.declared.ids.Site.{Site}
use Rattle.ja_graph.specs.declared.node.Node.{Node}
use Rattle.ja_graph.specs.declared.node.Node.TheVariants as node
use Rattle.ja_abstract.specs.AbstractState.{AbstractState, aged}
use Rattle.ja_abstract.specs.Made.{constructed_own, with_object}
use Rattle.ja_abstract.specs.Reading.{View, no_demands, demands_of_get}
use Rattle.ja_rows.specs.Calls as calls
use Rattle.ja_rows.specs.Properties.{prototype_keys}
use Rattle.ja_aheap.specs.Objects.{demands_in}
use Rattle.ja_astate.specs.declared.state.AState.{AState}
use Rattle.ja_astate.specs.State.{state_of, HaveOneShape}
use Rattle.ja_flow.specs.declared.caller.Caller.{Caller}
use Rattle.ja_flow.specs.declared.calling.Calling.{Calling}
use Rattle.ja_flow.specs.Flow.{caller_node, caller_view}
use Rattle.ja_flow.specs.code.Calling.{IsCalling, IsConstructing}
use Rattle.ja_flow.proofs.Giving.{same_shape}

module _ (dst callee : Reg) (list : List Reg) (site error : Site) where
  abbrev new : Node
  new = node.New dst callee list site error

  state_new : (w : View) (n : Node) (f : ℕ) → n ≡ new
      → with_object w.program w.state site
      (λ (a : AbstractState). constructed_own (aged site (calls.prototype_value w n f)))
      ≡ calls.calling_state w n f
  state_new w n f is =
      subst (λ (m : Node). with_object w.program w.state site
      (λ (a : AbstractState). constructed_own (aged site (calls.prototype_value w m f)))
      ≡ calls.calling_state w m f) (sym is) refl

  demands_new : (w : View) (n : Node) (f : ℕ) → n ≡ new
      → demands_of_get w (calls.callees w.program w.state n f) (prototype_keys w.program)
      ≡ calls.demands_of_calling w n f
  demands_new w n f is =
      subst (λ (m : Node). demands_of_get w (calls.callees w.program w.state m f)
      (prototype_keys w.program) ≡ calls.demands_of_calling w m f) (sym is) refl

  -- a construction
  pub calling_made : (k : Caller) (c : Calling) → caller_node k ≡ new
      → IsConstructing k.reader (caller_node k) k.edge.callee.function.0 site c → IsCalling k c
  calling_made k c is made =
      let own = k.reader.state.now in
      record {
        state =
            ap (λ (o : Option AState). state_of (unwrap_or o own)) made.made ∙ made.state_is
            ∙ state_new (caller_view k) (caller_node k) k.edge.callee.function.0 is;
        demands_are =
            made.demands_are
            ∙ demands_new (caller_view k) (caller_node k) k.edge.callee.function.0 is;
        shape =
            subst (λ (o : Option AState). HaveOneShape own (unwrap_or o own)) (sym made.made)
            made.shape;
      }

-- what isn't one
abbrev IsOther : Node → Type 0
IsOther n = (dst callee : Reg) (list : List Reg) (site error : Site)
    → n ≡ node.New dst callee list site error → ⊥

state_other : (w : View) (n : Node) (f : ℕ) → IsOther n → w.state ≡ calls.calling_state w n f
state_other w (node.New dst callee list site error) f other =
    absurd (other dst callee list site error refl)
state_other w n f other = refl

demands_other : (w : View) (n : Node) (f : ℕ) → IsOther n
    → no_demands ≡ calls.demands_of_calling w n f
demands_other w (node.New dst callee list site error) f other =
    absurd (other dst callee list site error refl)
demands_other w n f other = refl

pub calling_kept : (k : Caller) (c : Calling) → IsOther (caller_node k) → c.made ≡ None
    → demands_in c.demands ≡ no_demands → IsCalling k c
calling_kept k c other none demanded =
    let own = k.reader.state.now in
    record {
      state =
          ap (λ (o : Option AState). state_of (unwrap_or o own)) none
          ∙ state_other (caller_view k) (caller_node k) k.edge.callee.function.0 other;
      demands_are =
          demanded ∙ demands_other (caller_view k) (caller_node k) k.edge.callee.function.0 other;
      shape =
          subst (λ (o : Option AState). HaveOneShape own (unwrap_or o own)) (sym none)
          (same_shape own);
    }
