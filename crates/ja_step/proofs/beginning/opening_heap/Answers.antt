use Rattle.std.proofs.Common.{refl, arith}
use Rattle.std.proofs.lemmas.List.FromFn.{map-range_with_len_more}
use Rattle.ja_machine.specs.Machine.{opening_objects_at}
use Rattle.ja_step.proofs.beginning.opening_heap.Goals as goal

pub loop-site-preserved : goal.loop-site-preserved
loop-site-preserved c =
    rw (
      c.in_ok-add_site.ensures.added,
      c.in_ok-object.ensures,
      c.loop-site.invariant,
      map-range_with_len_more (opening_objects_at c.args.program.now) 0 c.loop-site.site
          c.loop-site.site (omega arith),
    ) refl
