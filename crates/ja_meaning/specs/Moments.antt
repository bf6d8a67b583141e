-- What is known of a view at a moment of a run.
use Rattle.ja_machine.specs.declared.machine.Heap.{Heap}
use Rattle.ja_machine.specs.State.{IsHeap}
use Rattle.ja_abstract.specs.Reading.{View}
use Rattle.ja_meaning.specs.Meaning.{EntriesHold, Grows, HoldsOfHeap}

-- a view's state and its values at entry hold of two heaps of a run, the one at a function's entry
-- and the one now
pub record Reads (at_entry now : Heap) (w : View) : Type 0 where
  pub heap_at_entry : IsHeap w.program at_entry
  pub heap_now : IsHeap w.program now
  pub grows : Grows at_entry now
  pub holds : HoldsOfHeap w.program at_entry now w.state
  pub entries : EntriesHold w.program at_entry w.entries
