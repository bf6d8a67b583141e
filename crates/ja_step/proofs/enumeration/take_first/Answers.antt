use Rattle.std.proofs.Common.{rules}
use Rattle.ja_step.proofs.Lists.{taken}
use Rattle.ja_step.proofs.enumeration.take_first.Goals as goal

-- src/enumeration.rt:25:13
pub returns-then-eq : goal.returns-then-eq
returns-then-eq c =
    search (
      rules,
      taken c.args.name.now c.args.names.now.items c.loop-index.index
          c.index.result.now,
    )
