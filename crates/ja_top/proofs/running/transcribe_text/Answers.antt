use Rattle.std.proofs.Common.{◌∙◌}
use Rattle.ja_top.proofs.Transcripts.{all_left, all_refused, all_runs}
use Rattle.ja_top.proofs.running.transcribe_text.Goals as goal

pub returns-in-Ok-clause-transcript : goal.returns-in-Ok-clause-transcript
returns-in-Ok-clause-transcript g c =
    let its = c.as_slice.ensures ∙ c.in_ok-signatures.ensures.signatures in
    let p = c.in-Ok.program in
    let of = c.in-Ok.ensures.program in
    let runs = c.transcribe.ensures.transcript in
    all_runs c.args.text.now c.as_slice.result.now p c.args.steps _ _ its of _ runs

pub returns-in-Ok-clause-memory : goal.returns-in-Ok-clause-memory
returns-in-Ok-clause-memory g c =
    let its = c.as_slice.ensures ∙ c.in_ok-signatures.ensures.signatures in
    let p = c.in-Ok.program in
    let of = c.in-Ok.ensures.program in
    let left = c.transcribe.ensures.memory in
    all_left c.args.text.now c.as_slice.result.now p c.args.steps _ _ its of _ left

pub returns-clause-transcript : goal.returns-clause-transcript
returns-clause-transcript g c =
    let its = c.as_slice.ensures ∙ c.in_ok-signatures.ensures.signatures in
    all_refused c.args.text.now c.as_slice.result.now c.args.steps _ c.in-Err.fault c.explain.result
    its c.in-Err.ensures.fault c.explain.ensures
