use Rattle.std.proofs.Common.{◌∙◌, sym, arith}
use Rattle.ja_base.proofs.Options.{none_not_some}
use Rattle.ja_value.specs.Value.{labels_in}
use Rattle.ja_aheap.proofs.MapLemmas.{some_is}
use Rattle.ja_aheap.proofs.StayingLemmas.{stays}
use Rattle.ja_aheap.proofs.heap.AHeap.kept_to.Goals as goal

pub returns-in-Some-clause-kept : goal.returns-in-Some-clause-kept
returns-in-Some-clause-kept c =
    stays c.args.self.now c.args.later.now (labels_in c.args.moved.now) c.args.named c.args.site.0
    c.untouched_in.result c.min.result c.label_number.result c.next.result c.requires.alike
    c.requires.moved c.requires.named c.untouched_in.ensures.first c.untouched_in.ensures.later
    c.label_number.ensures c.next.ensures
    (omega (arith, c.min.ensures, c.from.ensures, c.min-end.ensures))
    (omega (arith, c.min.ensures, c.from.ensures, c.min-end.ensures))
    (λ r is. omega (arith, c.min.ensures, some_is c.in-Some.number r (sym c.in-Some.is ∙ is)))

pub returns-in-None-clause-kept : goal.returns-in-None-clause-kept
returns-in-None-clause-kept c =
    stays c.args.self.now c.args.later.now (labels_in c.args.moved.now) c.args.named c.args.site.0
    c.untouched_in.result c.min-end.result c.label_number.result c.next.result c.requires.alike
    c.requires.moved c.requires.named c.untouched_in.ensures.first c.untouched_in.ensures.later
    c.label_number.ensures c.next.ensures (omega (arith, c.min-end.ensures))
    (omega (arith, c.min-end.ensures)) (λ r is. absurd (none_not_some (sym c.in-None.is ∙ is)))
