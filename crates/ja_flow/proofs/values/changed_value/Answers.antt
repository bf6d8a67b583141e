use Rattle.ja_aheap.specs.Entries.{entries_of}
use Rattle.ja_flow.proofs.Changes.{change_none}
use Rattle.ja_flow.proofs.values.changed_value.Goals as goal

pub returns-in_default : goal.returns-in_default
returns-in_default g c =
    change_none (entries_of c.args.entries.now) (g.V.Values.value_at c.args.values.now)
    c.args.label c.args.key c.in_default.ensures
