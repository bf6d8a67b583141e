-- The registers of a context's states.
use Rattle.std.specs.Prelude.{◌≡◌, ◌<◌, length, List, get_or, Option, Some, None, IfSome, slice_get, vec_len}
use Rattle.std.specs.List.{AllByRecursion}
use Rattle.std.proofs.Common.{sym, ap, ◌∙◌, subst, ℕ}
use Rattle.std.proofs.lemmas.Option.{slice_get-get_or}
use Rattle.ja_base.specs.declared.ids.NodeId.{NodeId}
use Rattle.ja_base.specs.declared.ids.Reg.{Reg}
use Rattle.ja_graph.specs.declared.node.NodeInfo.{NodeInfo}
use Rattle.ja_graph.specs.declared.program.Program.{Program}
use Rattle.ja_graph.specs.Node.{registers_named}
use Rattle.ja_graph.specs.Program.{node_at}
use Rattle.ja_graph.specs.WellFormed.{IsWellFormed}
use Rattle.ja_astate.specs.declared.state.AState.{AState}
use Rattle.ja_table.specs.declared.table.ContextTable.{ContextTable}
use Rattle.ja_table.specs.Tables.{kept_state, FitsContext}
use Rattle.ja_rules.proofs.NodeFacts.{named_registers}

-- a state at a node has the registers that the node names
pub has_registers : (p : Program) (good : IsWellFormed p) (c : ContextTable) → FitsContext p c
    → (n : NodeId) (info : NodeInfo) (s : Option AState)
    → node_at p c.context.function n ≡ Some info → kept_state c.nodes.items n.0 ≡ s
    → IfSome s (λ a. AllByRecursion (λ (r : Reg). r.0 < vec_len a.registers)
    (registers_named info.node))
has_registers p good c fits n info None node_is at = tt
has_registers p good c fits n info (Some a) node_is at =
    subst (λ count. AllByRecursion (λ (r : Reg). r.0 < count) (registers_named info.node))
    (sym (fits.states n.0 a at).registers)
    (named_registers p good c.context.function n info node_is)

-- what is read of a list is its element
pub element : {X : Type 0} (xs ys : List X) (n : ℕ) (x : X) → xs ≡ ys → n < length xs
    → x ≡ get_or xs n x → slice_get ys n ≡ Some x
element xs ys n x same within is =
    ap (λ zs. slice_get zs n) (sym same) ∙ slice_get-get_or xs n x within ∙ ap Some (sym is)
