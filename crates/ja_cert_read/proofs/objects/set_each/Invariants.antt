use Rattle.std.proofs.Common.{◌≡◌, vec_len}
use Rattle.std.specs.List.{AllByRecursion}
use Rattle.ja_aheap.specs.Heap.{heap_of}
use Rattle.ja_astate.specs.State.{state_of, HaveOneShape}
use Rattle.ja_cert_read.specs.code.Building.{with_properties, IsPlaced}
use Rattle.ja_cert_read.proofs.objects.set_each.Given as goal

abbrev pub invariant-loop-last : goal.invariant-loop-last
invariant-loop-last l = record {
  state : with_properties l.heap.items (state_of l.state)
      ≡ with_properties l.initial.heap.items (state_of l.initial.state);
  shape : HaveOneShape l.initial.state l.state;
  placed : AllByRecursion (IsPlaced (heap_of l.initial.state.heap).sites
      (heap_of l.initial.state.heap).names) l.heap.items;
}

abbrev pub decreases-loop-last : goal.decreases-loop-last
decreases-loop-last l = vec_len l.heap
