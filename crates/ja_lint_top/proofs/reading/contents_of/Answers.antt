use Rattle.std.proofs.Common.{◌∙◌, arith}
use Rattle.ja_lint_top.proofs.Held.{held_more, pushed}
use Rattle.ja_lint_top.proofs.reading.contents_of.Goals as goal

pub loop-name-preserved : goal.loop-name-preserved
loop-name-preserved g c =
    let held = g.F.Files.held c.args.files.now in (
      c.in-Ok.ensures.kept ∙ c.loop-name.invariant.0,
      held_more held (g.F.Files.held c.loop-name.files) c.args.names.now c.loop-name.name-index _
          c.loop-name.contents.items c.push.new.self.items c.in-Ok.bytes (omega arith)
          c.loop-name.invariant.0 c.loop-name.invariant.1 c.in-Ok.ensures.held
          (pushed _ _ _ _ _ c.is_err.ensures.negation c.if-is_err.false c.push.ensures.items),
    )
