use Rattle.std.specs.Vec.Iter.{into_iter_items}
use Rattle.ja_cert_read.proofs.Wholes.{Leaving}
use Rattle.ja_cert_read.proofs.objects.present.Given as goal

abbrev pub invariant-loop-write : goal.invariant-loop-write
invariant-loop-write l =
    Leaving l.fn.writes.list.items (into_iter_items l.write-iterator) l.listed.items
