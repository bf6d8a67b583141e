use Rattle.ja_run.proofs.Steps.{not_begun, with_error}
use Rattle.ja_run.proofs.running.run.Goals as goal

pub returns-in_err-conf-clause-memory : goal.returns-in_err-conf-clause-memory
returns-in_err-conf-clause-memory g c =
    with_error c.from_residual.result (not_begun c.args.program.now c.args.devices.now c.args.limit)
