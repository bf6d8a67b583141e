use Rattle.std.proofs.Common.{[], ◌∷◌, map, append_assoc, arith}
use Rattle.std.proofs.lemmas.List.FromFn.{map-range_with_len_more}
use Rattle.std.specs.List.{range_with_len}
use Rattle.ja_machine.specs.Frames.{argument}
use Rattle.ja_step.proofs.entry.push_parameters.Goals as goal

pub loop-index-preserved : goal.loop-index-preserved
loop-index-preserved c =
    rw (
      c.in_ok-push.ensures.items,
      c.in_ok-value.ensures,
      c.loop-index.invariant,
      map-range_with_len_more (argument c.args.arguments.now) 0 c.loop-index.index
          c.loop-index.index (omega arith),
    ) (append_assoc c.args.registers.now.items
    (map (argument c.args.arguments.now) (range_with_len 0 c.loop-index.index))
    (argument c.args.arguments.now c.loop-index.index ∷ []))
