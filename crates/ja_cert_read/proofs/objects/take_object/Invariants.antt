use Rattle.std.proofs.Common.{vec_len}
use Rattle.ja_cert_read.proofs.Setting.{Taking}
use Rattle.ja_cert_read.proofs.objects.take_object.Given as goal

abbrev pub invariant-loop-listed : goal.invariant-loop-listed
invariant-loop-listed l =
    Taking l.initial.heap.items l.heap.items l.label l.initial.list.items l.list.items

abbrev pub decreases-loop-listed : goal.decreases-loop-listed
decreases-loop-listed l = vec_len l.heap
