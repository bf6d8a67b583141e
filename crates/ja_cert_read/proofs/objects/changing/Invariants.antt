use Rattle.std.specs.Vec.Iter.{into_iter_items}
use Rattle.ja_aheap.specs.Heap.{heap_of}
use Rattle.ja_astate.specs.State.{state_of}
use Rattle.ja_cert_read.specs.code.Building.{IsPlaced}
use Rattle.ja_cert_read.proofs.Apart.{AreLeft}
use Rattle.ja_cert_read.proofs.objects.changing.Given as goal

-- those so far that the state lacks, and those behind them
abbrev pub invariant-loop-listed : goal.invariant-loop-listed
invariant-loop-listed l =
    AreLeft (state_of l.state) (IsPlaced (heap_of l.state.heap).sites (heap_of l.state.heap).names)
    l.fn.heap.items (into_iter_items l.listed-iterator) l.left.items
