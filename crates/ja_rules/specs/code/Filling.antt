-- What fills the entries of contexts, as it is kept.
use Rattle.std.specs.Prelude.{◌≡◌, ◌≢◌, List, [], Option, Some, None}
use Rattle.ja_graph.specs.declared.node.NodeInfo.{NodeInfo}
use Rattle.ja_graph.specs.declared.program.Program.{Program}
use Rattle.ja_abstract.specs.AbstractState.{AbstractState}
use Rattle.ja_abstract.specs.Contents.{opened}
use Rattle.ja_rows.specs.declared.table.Edge.{Edge}
use Rattle.ja_rows.specs.Calls.{demands_of_fill, filled_with}
use Rattle.ja_rows.specs.Table.{root, view_at, Table}
use Rattle.ja_aheap.specs.Objects.{demands_in}
use Rattle.ja_flow.specs.code.Pairs.{filled, with_set}
use Rattle.ja_flow.specs.declared.filling.Filled.{Filled}
use Rattle.ja_flow.specs.declared.values.EntryValue.{EntryValue}
use Rattle.ja_rules.specs.code.Ends.{IsCallingAt}

-- nothing where the caller has no state at the node, and else the values that change
abbrev pub IsFilled : Program → Table → Edge → Option Filled → Type 0
IsFilled p t e None = t.state e.caller e.node.0 ≡ None
IsFilled p t e (Some f) =
    (i : NodeInfo) × (a : AbstractState) × IsCallingAt p t e i a
    × (with_set (t.entry e.callee) f.values.items
    ≡ filled (t.entry e.callee) (filled_with (view_at p t e.caller a) e i.node))
    × (f.values.items ≢ []
    → filled (t.entry e.callee) (filled_with (view_at p t e.caller a) e i.node)
    ≢ t.entry e.callee)
    × (demands_in f.demands ≡ demands_of_fill (view_at p t e.caller a) e i.node (t.entry e.callee))

-- the values that change where the opening heap's are joined in
pub record IsOpened (p : Program) (t : Table) (values : List EntryValue) : Type 0 where
  pub set : with_set (t.entry root) values ≡ filled (t.entry root) (opened p)
  pub changed : values ≢ [] → filled (t.entry root) (opened p) ≢ t.entry root
