use Rattle.std.proofs.Common.{◌≡◌, map, vec_len}
use Rattle.ja_aheap.specs.Objects.{object_of, write_of}
use Rattle.ja_aheap.proofs.WriteLemmas.{replaced_in}
use Rattle.ja_aheap.proofs.object.AObject.strongly.Given as goal

abbrev pub invariant-loop-write : goal.invariant-loop-write
invariant-loop-write l =
    replaced_in (map write_of l.list.items) (object_of l.self)
    ≡ replaced_in (map write_of l.initial.list.items) (object_of l.initial.self)

abbrev pub decreases-loop-write : goal.decreases-loop-write
decreases-loop-write l = vec_len l.list
