-- The four devices can be a program's, and are seen as they are told.
use Rattle.ja_host.proofs.Signatures.{all_seen, none_refused}
use Rattle.ja_host.proofs.answering.devices.Goals as goal

pub unreachable-requires : goal.unreachable-requires
unreachable-requires c =
    none_refused c.in_ok-scripts.scripts.items c.in_ok-scripts.ensures _
    c.in_default.ensures.refused

pub returns : goal.returns
returns c =
    all_seen c.in_ok-scripts.scripts.items c.in_ok-scripts.ensures _ c.in-Ok.ensures.devices
