use Rattle.std.proofs.Common.{arith}
use Rattle.ja_aheap.proofs.HeapLemmas.{moved_by_label}
use Rattle.ja_aheap.proofs.allocation.move_object.Goals as goal

pub returns-clause-moved : goal.returns-clause-moved
returns-clause-moved g c =
    moved_by_label c.args.names c.args.site c.args.objects.now c.join_place.new.objects
    c.set.new.self c.absent.result c.label_number-old.result c.label_number-new.result
    c.label_number-old.ensures c.label_number-new.ensures
    (omega (arith, c.requires.within, c.label_number-new.ensures, c.in_ok-join_place.ensures.long))
    c.in_ok-join_place.ensures.joined c.in_ok-set.ensures.ok c.absent.ensures
