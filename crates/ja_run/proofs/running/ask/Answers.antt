use Rattle.std.proofs.Common.{inl}
use Rattle.ja_run.proofs.Hearing.{not_asked}
use Rattle.ja_run.proofs.running.ask.Goals as goal

pub returns-clause-memory : goal.returns-clause-memory
returns-clause-memory g c =
    inl (not_asked c.args.devices.now c.call.new.self c.args.which c.as_slice.result.now
    (rw c.in-Err-Memory.field-0-is at c.in-Err-Memory.ensures))
