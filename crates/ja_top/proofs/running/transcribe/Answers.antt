use Rattle.std.proofs.Common.{◌≡◌, ◌∙◌}
use Rattle.ja_top.specs.Runs.{returned}
use Rattle.ja_top.proofs.Transcripts.{all_returned, one_missing}
use Rattle.ja_top.proofs.running.transcribe.Goals.{in-Device, in_default}
use Rattle.ja_top.proofs.running.transcribe.Goals as goal

pub returns-clause-transcript : goal.returns-clause-transcript
returns-clause-transcript g c =
    let ended = c.in_ok-ended.ended in
    let left = c.run.new.devices in
    let back : c.match-ended-2.devices ≡ returned ended.end left =
    elim c.match-ended-2.branch [
      | in-Device w ↦ let back = w.devices-is ∙ w.retire.ensures in
          one_missing ended.end left _ w.in-Device.which w.in-Device.is back
      | in_default w ↦ w.devices-is ∙ all_returned ended.end left w.in_default.not-Device
    ] in
    record {
      ended = ended;
      run = c.in_ok-ended.ensures.run;
      left = left;
      left_is = c.in_ok-ended.ensures.left;
      after_is = back;
      status_is = c.status_of.ensures;
      text_is = c.in_ok-text.ensures;
    }
