use Rattle.std.proofs.Common.{◌∙◌}
use Rattle.ja_prim.proofs.Capping.{cap_both}
use Rattle.ja_prim.proofs.capped.capped_both.Goals as goal

pub returns : goal.returns
returns c =
    c.capped_after-2.ensures ∙ cap_both c.args.front.now c.args.back.now c.args.cap
    c.capped_after.result c.capped_after.ensures
