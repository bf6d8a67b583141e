-- How a text is run with some devices: the cause of each status, the text that is written with it,
-- and what becomes of the devices.
use Rattle.std.specs.Prelude.{◌≡◌, ◌⊎◌, ◌+◌, ℕ, List, ◌++◌, map, take, drop}
use Rattle.ja_device.specs.Devices.{AllSeen, signature_of}
use Rattle.ja_graph.specs.declared.program.Program.{Program}
use Rattle.ja_load.specs.Loading.{IsProgramOf}
use Rattle.ja_prim.specs.declared.signature.Signature.{Signature}
use Rattle.ja_run.specs.Asked.{IsCutShort, IsLeft}
use Rattle.ja_run.specs.declared.ended.Ended.{Ended}
use Rattle.ja_run.specs.declared.ended.RunEnd.{RunEnd}
use Rattle.ja_run.specs.declared.ended.RunEnd.TheVariants as run_end
use Rattle.ja_run.specs.Run.{IsRun}
use Rattle.ja_run.specs.Transcript.{run_text}
use Rattle.ja_top.specs.Analyses.{Refuses}
use Rattle.ja_top.specs.declared.status.Status.{Status}
use Rattle.ja_top.specs.declared.status.Status.TheVariants.{Done, NotText, Syntax, Scope, Limit}
use Rattle.ja_top.specs.declared.status.Status.TheVariants.{DeviceFault, Left, Uncaught, StepsSpent}
use Rattle.ja_top.specs.Statuses.{status_of_end}

-- the names and kinds of devices
abbrev pub signatures_of : AllSeen → List Signature
signatures_of d = map signature_of d.devices

-- all devices but that of a number, in their order
abbrev pub without_device : ℕ → AllSeen → AllSeen
without_device which left =
    record left { devices = take which left.devices ++ drop (which + 1) left.devices }

-- the devices that come back of what a run leaves: all but the one that failed
abbrev pub returned : RunEnd → AllSeen → AllSeen
returned (run_end.Device which) left = without_device which left
returned end left = left

-- What is written of a program that may make so many steps with these devices: the transcript of
-- its run, under the answers that they gave. Those that come back have heard what it says.
pub record Transcribes (p : Program) (steps : ℕ) (before after : AllSeen) (status : Status)
    (text : List ℕ) : Type 0 where
  pub ended : Ended
  pub run : IsRun p steps ended
  pub left : AllSeen
  pub left_is : IsLeft before left ended.calls ended.end
  pub after_is : after ≡ returned ended.end left
  pub status_is : status ≡ status_of_end ended.end
  pub text_is : text ≡ run_text p ended

abbrev pub TranscribesText : List ℕ → ℕ → AllSeen → AllSeen → Status → List ℕ → Type 0
TranscribesText bytes steps before after status text =
    (p : Program) × IsProgramOf bytes (signatures_of before) p
    × Transcribes p steps before after status text

-- the text is refused as by the analysis, and no device is asked
abbrev pub RefusesText : List ℕ → AllSeen → AllSeen → Status → List ℕ → Type 0
RefusesText bytes before after status text =
    Refuses bytes (signatures_of before) status text × (after ≡ before)

-- The cause of each status of the run of a text, and what is written. A text that is none of the
-- language, or passes a limit, is refused as by the analysis; every form is run.
abbrev pub Runs : List ℕ → ℕ → AllSeen → AllSeen → Status → List ℕ → Type 0
Runs bytes steps before after Done text = TranscribesText bytes steps before after Done text
Runs bytes steps before after DeviceFault text =
    TranscribesText bytes steps before after DeviceFault text
Runs bytes steps before after Left text = TranscribesText bytes steps before after Left text
Runs bytes steps before after Uncaught text = TranscribesText bytes steps before after Uncaught text
Runs bytes steps before after StepsSpent text =
    TranscribesText bytes steps before after StepsSpent text
Runs bytes steps before after NotText text = RefusesText bytes before after NotText text
Runs bytes steps before after Syntax text = RefusesText bytes before after Syntax text
Runs bytes steps before after Scope text = RefusesText bytes before after Scope text
Runs bytes steps before after Limit text = RefusesText bytes before after Limit text
Runs bytes steps before after status text = ⊥

-- ---- without memory

-- The devices where memory was refused to the run of a program that may make so many steps. The run
-- was cut short, and they have answered exactly the calls of its first steps; or it was whole, and
-- its transcript was refused memory: then they are as it left them, the one that failed among them.
abbrev pub MayBeLeft : Program → ℕ → AllSeen → AllSeen → Type 0
MayBeLeft p steps before after =
    IsCutShort p steps before after
    ⊎ ((ended : Ended) × IsRun p steps ended × IsLeft before after ended.calls ended.end)

-- .. and to that of a text, which may not have begun
abbrev pub MayBeLeftByText : List ℕ → ℕ → AllSeen → AllSeen → Type 0
MayBeLeftByText bytes steps before after =
    (after ≡ before)
    ⊎ ((p : Program) × IsProgramOf bytes (signatures_of before) p
    × MayBeLeft p steps before after)
