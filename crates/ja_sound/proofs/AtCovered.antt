-- A state of a run that a table covers is one at a node, with the table's state and its values at
-- entry.
use Rattle.std.specs.Prelude.{◌≡◌, ◌-◌, ℕ, List, length, drop, Some}
use Rattle.std.proofs.Common.{refl}
use Rattle.ja_base.specs.declared.ids.Context.{Context}
use Rattle.ja_graph.specs.declared.node.NodeInfo.{NodeInfo}
use Rattle.ja_graph.specs.declared.program.Program.{Program}
use Rattle.ja_graph.specs.Program.{node_at}
use Rattle.ja_machine.specs.declared.machine.Answer.{Answer}
use Rattle.ja_machine.specs.declared.machine.Conf.{Conf}
use Rattle.ja_machine.specs.declared.machine.Heap.{Heap}
use Rattle.ja_machine.specs.Machine.{state_of, earlier_state}
use Rattle.ja_machine.specs.Runs.{AreStates}
use Rattle.ja_abstract.specs.Reading.{View}
use Rattle.ja_meaning.specs.Meaning.{context_of, Grows}
use Rattle.ja_rows.specs.Out.{Point}
use Rattle.ja_rows.specs.Table.{Table, view_at, point}
use Rattle.ja_sound.specs.Sound.{IsCovered}
use Rattle.ja_sound.specs.Statements.{IsAt}

-- no object goes from an earlier moment on
abbrev pub GrowsAlong : Program → Type 0
GrowsAlong p =
    (answers : List Answer) (n : ℕ) (c d : Conf) → earlier_state p answers n ≡ Some c
    → state_of p answers ≡ Some d → Grows c.heap d.heap

module _ (p : Program) (t : Table) (states : AreStates p) (grows : GrowsAlong p)
    (answers : List Answer) (c : Conf) (reached : state_of p answers ≡ Some c)
    (covered : IsCovered p t answers c) (i : NodeInfo)
    (info_is : node_at p covered.top.function covered.top.node ≡ Some i) where
  abbrev e : Heap
  e = covered.at_entry.heap

  abbrev ctx : Context
  ctx = context_of e covered.top

  abbrev x : Point
  x = point ctx covered.top.node i

  abbrev w : View
  w = view_at p t ctx covered.state

  pub at_covered : IsAt p e c covered.top covered.below x w
  at_covered = record {
    program = refl;
    entry_heap =
        (states (drop (length answers - covered.top.born) answers) covered.at_entry
        covered.at_entry_is).heap;
    known = states answers c reached;
    grows = grows answers covered.top.born covered.at_entry c covered.at_entry_is reached;
    frames_are = covered.frames_are;
    context = refl;
    number = refl;
    info = info_is;
    holds = covered.holds;
    entries = covered.entries;
  }
