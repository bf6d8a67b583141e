-- They are the ones that the values declare, and no fault but want of memory stands.
use Rattle.ja_lint_devices.proofs.defaults.usual.Goals as goal

pub returns-in-Ok : goal.returns-in-Ok
returns-in-Ok c = c.in-Ok.ensures.declared.devices
