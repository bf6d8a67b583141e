use Rattle.ja_cert_read.proofs.Again.{entries_are}
use Rattle.ja_cert_read.proofs.states.entries_of_parts.Goals as goal

pub returns : goal.returns
returns c =
    entries_are c.args.program.now c.args.entries.items _ c.requires.right c.requires.own
    c.in_ok-demanded.ensures
