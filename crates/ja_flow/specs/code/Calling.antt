-- The state of a caller at a node, as it is kept.
use Rattle.std.specs.Prelude.{◌≡◌, ◌&&◌, ℕ, List, Option, Some, None, unwrap_or}
use Rattle.std.specs.List.{list_any}
use Rattle.ja_base.specs.declared.ids.Label.{Label}
use Rattle.ja_base.specs.declared.ids.Reg.{Reg}
use Rattle.ja_base.specs.declared.ids.Site.{Site}
use Rattle.ja_graph.specs.declared.node.Node.{Node}
use Rattle.ja_graph.specs.declared.node.Node.TheVariants as node
use Rattle.ja_graph.specs.declared.program.Program.{Program}
use Rattle.ja_abstract.specs.AbstractState.{aged}
use Rattle.ja_abstract.specs.Made.{constructed_own, with_object}
use Rattle.ja_abstract.specs.Reading.{demands_of_get}
use Rattle.ja_abstract.specs.AbstractValue.{Labels, same_label}
use Rattle.ja_rows.specs.Calls as calls
use Rattle.ja_rows.specs.Edges.{runs}
use Rattle.ja_rows.specs.Properties.{prototype_keys}
use Rattle.ja_aheap.specs.Objects.{demands_in}
use Rattle.ja_astate.specs.declared.state.AState.{AState}
use Rattle.ja_astate.specs.State.{state_of, HaveOneShape}
use Rattle.ja_astate.specs.declared.reader.Reader.{Reader}
use Rattle.ja_astate.specs.Looks.{view_of}
use Rattle.ja_transfer.specs.code.Callees.{entry_by}
use Rattle.ja_transfer.specs.declared.sites.Entry.{Entry}
use Rattle.ja_transfer.specs.declared.sites.Entry.TheVariants.{Call, Construct}
use Rattle.ja_flow.specs.declared.caller.Caller.{Caller}
use Rattle.ja_flow.specs.declared.calling.Calling.{Calling}
use Rattle.ja_flow.specs.Flow.{caller_node, caller_view}

-- the register of the callee, and how it runs a function
abbrev pub callee_of : Node → Option (Entry × Reg)
callee_of (node.Call dst callee receiver list error) = Some (Call, callee)
callee_of (node.New dst callee list site error) = Some (Construct, callee)
callee_of n = None

-- the caller's own state, where none is made
abbrev pub state_in : AState → Calling → AState
state_in own c = unwrap_or c.made own

-- those of some labels whose objects run a function
abbrev pub running_among : Program → Entry → ℕ → List Label → Labels
running_among p entry f ls l =
    list_any (λ (m : Label). runs (entry_by entry p) f m && same_label m l) ls

-- a state in which the object of a construction was made
pub record IsConstructing (r : Reader) (n : Node) (f : ℕ) (site : Site) (c : Calling)
    : Type 0 where
  pub state : AState
  pub made : c.made ≡ Some state
  pub state_is : state_of state ≡ with_object r.program.now (state_of r.state.now) site
      (λ a. constructed_own (aged site (calls.prototype_value (view_of r) n f)))
  pub demands_are : demands_in c.demands ≡ demands_of_get (view_of r)
      (calls.callees r.program.now (state_of r.state.now) n f) (prototype_keys r.program.now)
  pub shape : HaveOneShape r.state.now state

-- the state at the node of an edge
pub record IsCalling (c : Caller) (kept : Calling) : Type 0 where
  pub state : state_of (state_in c.reader.state.now kept)
      ≡ calls.calling_state (caller_view c) (caller_node c) c.edge.callee.function.0
  pub demands_are : demands_in kept.demands
      ≡ calls.demands_of_calling (caller_view c) (caller_node c) c.edge.callee.function.0
  pub shape : HaveOneShape c.reader.state.now (state_in c.reader.state.now kept)
