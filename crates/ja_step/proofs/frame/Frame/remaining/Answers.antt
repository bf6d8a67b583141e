use Rattle.std.proofs.Common.{rules}
use Rattle.ja_step.proofs.Lists.{names_at, no_names}
use Rattle.ja_step.proofs.frame.Frame.remaining.Goals as goal

pub returns-then-place-len : goal.returns-then-place-len
returns-then-place-len c =
    names_at c.args.list c.args.self.now.lists.items c.place-place.result c.place-place.ensures
    c.index.result.now (search rules) c.index.ensures

pub returns-else-place-len : goal.returns-else-place-len
returns-else-place-len c =
    no_names c.args.list c.args.self.now.lists.items c.place-place.result c.place-place.ensures
    (search rules)
