-- Soundness: a table covers each state of each run, and what goes wrong in one is warned of (SAS
-- 2009, SAS 2010).
use Rattle.std.specs.Prelude.{◌≡◌, ◌≤◌, Bool, true, IsTrue, List, ◌∷◌, length, Some, is_some, Any, Contains}
use Rattle.ja_base.specs.declared.ids.ScopeKind.TheVariants as scope_kind
use Rattle.ja_graph.specs.declared.node.Node.{Node}
use Rattle.ja_graph.specs.declared.node.Node.TheVariants as node
use Rattle.ja_graph.specs.declared.program.Program.{Program}
use Rattle.ja_machine.specs.declared.machine.Answer.{Answer}
use Rattle.ja_machine.specs.declared.machine.Frame.{Frame}
use Rattle.ja_machine.specs.declared.machine.Conf.{Conf}
use Rattle.ja_machine.specs.Machine.{fits, wants, state_of, earlier_state}
use Rattle.ja_abstract.specs.AbstractState.{AbstractState}
use Rattle.ja_abstract.specs.Reading.{View}
use Rattle.ja_meaning.specs.Meaning.{EntriesHold, context_of, Holds}
use Rattle.ja_rows.specs.Out.{at}
use Rattle.ja_rows.specs.Table.{Table, view_at}
use Rattle.ja_rows.specs.declared.table.Warning.{Warning}
use Rattle.ja_rows.specs.declared.table.WarningKind.TheVariants.{ScopeRow}
use Rattle.ja_rows.specs.Warning.{Operation, operation_of, one_key}
use Rattle.ja_sound.specs.Faults.{fault_of, StandsAt, Leaves, Fails}

-- The table has a state at the node and the context of the top frame. It holds of the heap at the
-- frame's entry and of the heap now, and the values at entry hold of the heap at the frame's entry.
pub record IsCovered (p : Program) (t : Table) (answers : List Answer) (c : Conf) : Type 0 where
  pub top : Frame
  pub below : List Frame
  pub frames_are : c.frames ≡ top ∷ below
  pub born : top.born ≤ length answers
  pub at_entry : Conf
  pub at_entry_is : earlier_state p answers top.born ≡ Some at_entry
  pub state : AbstractState
  pub state_is : t.state (context_of at_entry.heap top) top.node.0 ≡ Some state
  pub holds : Holds p at_entry.heap c.heap top state
  pub entries : EntriesHold p at_entry.heap (t.entry (context_of at_entry.heap top))

abbrev pub CoversRuns : Program → Table → Type 0
CoversRuns p t =
    (answers : List Answer) (c : Conf) → state_of p answers ≡ Some c → IsCovered p t answers c

-- an operation that goes wrong in some run has a warning
abbrev pub WarnsOfFaults : Program → List Warning → Type 0
WarnsOfFaults p ws =
    (answers : List Answer) (c : Conf) (o : Operation) → state_of p answers ≡ Some c
    → fault_of p c ≡ Some o
    → Any (λ (w : Warning). operation_of w ≡ o) ws

-- a run that comes to an operation whose warning is certain fails there
abbrev pub FailsWhereCertain : Program → List Warning → Type 0
FailsWhereCertain p ws =
    (answers : List Answer) (c : Conf) (answer : Answer) (w : Warning) → state_of p answers ≡ Some c
    → IsTrue (fits p (wants p c) answer) → Contains ws w → IsTrue w.certain
    → StandsAt p c (operation_of w) → Fails p c answer (operation_of w) w.kind

-- the state tells which one property a node reads: that of its name, or of a key that is one text
abbrev pub reads_one : View → Node → Bool
reads_one w (node.ReadProp dst object key) = is_some (one_key w (at w key))
reads_one w n = true

-- A run that leaves the profile where a built-in is read that isn't there has a warning of that
-- operation, if the state that covers the run tells which property it is: where a key may be
-- several, the read is no operation that is warned of.
abbrev pub WarnsOfRows : Program → Table → List Warning → Type 0
WarnsOfRows p t ws =
    (answers : List Answer) (c : Conf) (answer : Answer) (o : Operation)
    (covered : IsCovered p t answers c) (stands : StandsAt p c o) → state_of p answers ≡ Some c
    → o.kind ≡ ScopeRow → Leaves p c answer scope_kind.Row o.place → IsTrue (reads_one
    (view_at p t (context_of covered.at_entry.heap covered.top) covered.state) stands.info.node)
    → Any (λ (w : Warning). operation_of w ≡ o) ws
