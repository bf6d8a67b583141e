-- The function of a node that is there.
use Rattle.std.specs.Prelude.{◌≡◌, ℕ, [], Option, None, Some, slice_get}
use Rattle.std.specs.Option.{option_map_or}
use Rattle.std.proofs.Common.{refl}
use Rattle.ja_base.proofs.Options.{none_not_some}
use Rattle.ja_graph.specs.declared.node.NodeInfo.{NodeInfo}
use Rattle.ja_graph.specs.declared.program.Function.{Function}

pub record HasFunction (o : Option Function) (n : ℕ) (info : NodeInfo) : Type 0 where
  pub function : Function
  pub function_is : o ≡ Some function
  pub info_is : slice_get function.nodes n ≡ Some info

pub function_at : (o : Option Function) (n : ℕ) (info : NodeInfo)
    → slice_get (option_map_or (λ (fn : Function). fn.nodes) o []) n ≡ Some info
    → HasFunction o n info
function_at None n info e = absurd (none_not_some e)
function_at (Some fn) n info e = record { function = fn; function_is = refl; info_is = e }
