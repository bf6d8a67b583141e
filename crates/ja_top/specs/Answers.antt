-- The answers of the program to words, a source and devices: the cause of each status, the text
-- that is written with it, and what the source, the sink and the devices are then. `Analyses`,
-- `Checks` and `Runs` say how bytes are answered.
use Rattle.std.specs.Prelude.{◌≡◌, ◌≤◌, ◌⊎◌, ◌+◌, ℕ, String, Bool, true, if◌then◌else◌, List, map, length, Option}
use Rattle.std.specs.String.{string_bytes}
use Rattle.std.specs.declared.alloc.Global.{Global}
use Rattle.ja_base.specs.Streams.{Rose, Keeps, Took, IsAtEnd, IsLonger, Takes, TakesCount, Appends}
use Rattle.ja_base.specs.Streams.{AppendsFront, TurnsTo}
use Rattle.ja_lex.specs.Spots.{max_bytes}
use Rattle.ja_device.specs.Devices.{AllSeen}
use Rattle.ja_report.specs.declared.refusals.Refusal.TheVariants as refusal
use Rattle.ja_report.specs.Refusals.{refusal_text}
use Rattle.ja_gen.specs.Generated.{generated_text}
use Rattle.ja_top.specs.Analyses.{Analyses}
use Rattle.ja_top.specs.Checks.{Checks}
use Rattle.ja_top.specs.declared.request.Form.TheVariants as form
use Rattle.ja_top.specs.declared.request.Request.{Request}
use Rattle.ja_top.specs.declared.status.Status.{Status}
use Rattle.ja_top.specs.declared.status.Status.TheVariants.{Usage, ReadFault, WriteFault, TooLong}
use Rattle.ja_top.specs.declared.status.Status.TheVariants.{Memory}
use Rattle.ja_top.specs.Runs.{MayBeLeftByText, Runs, signatures_of}
use Rattle.ja_words.specs.declared.command.Command.{Command}
use Rattle.ja_words.specs.declared.command.Command.TheVariants as command
use Rattle.ja_words.specs.declared.command.Budget.{Budget}
use Rattle.ja_words.specs.declared.command.Budget.TheVariants.{Height}
use Rattle.ja_words.specs.Words.{IsCommandLine}

-- What a call meets: its words; what is left of the source and how many faults it has counted,
-- before and after; and the devices that are handed in and that come back.
pub record Call : Type 0 where
  pub words : List (String Global)
  pub left : Option (List ℕ)
  pub left_after : Option (List ℕ)
  pub faults : ℕ
  pub faults_after : ℕ
  pub devices : AllSeen
  pub devices_after : AllSeen

-- the call with these words, of a source of which this is told, before and after, and with these
-- devices
abbrev pub call_of : {S : Type 0} → (S → Option (List ℕ)) → (S → ℕ)
    → List (String Global) → S → S → AllSeen → AllSeen → Call
call_of left faults words source source_after devices devices_after = record {
  words = words;
  left = left source;
  left_after = left source_after;
  faults = faults source;
  faults_after = faults source_after;
  devices = devices;
  devices_after = devices_after;
}

-- each device comes back as it was
abbrev pub DevicesStand : Call → Type 0
DevicesStand c = c.devices_after ≡ c.devices

-- the bytes are all that was left, and no more than a text may have
pub record IsInput (c : Call) (bytes : List ℕ) : Type 0 where
  pub took : Took c.left bytes
  pub end : IsAtEnd c.left_after
  pub within : length bytes ≤ max_bytes

-- the words ask for a command
abbrev pub Asks : List (String Global) → Command → Type 0
Asks words asked = IsCommandLine (map string_bytes words) asked

-- a command that reads: all but `generate` do
abbrev pub IsReading : Command → Type 0
IsReading (command.Generate number) = ⊥
IsReading asked = Unit {0}

-- a command whose budget is the height of the program that it analyses
abbrev pub IsByHeight : Command → Type 0
IsByHeight (command.Analyse cert budget) = budget ≡ Height
IsByHeight (command.Generate number) = Unit {0}
IsByHeight asked = ⊥

-- what bytes are analysed, checked or run: of `generate` those of its own program, and nothing is
-- read; of the others all that was left
abbrev pub IsGiven : Command → Call → List ℕ → Type 0
IsGiven (command.Generate number) c bytes =
    (bytes ≡ generated_text number) × Keeps c.left c.left_after
IsGiven asked c bytes = IsInput c bytes

-- what an analysis is asked for, and in how many visits at most
abbrev pub request_of : Bool → Budget → Request
request_of cert budget =
    record { form = if cert then form.Certificate else form.Report; budget = budget }

abbrev pub summing : ℕ → Request
summing number = record { form = form.Summary number; budget = Height }

-- the answer of a command to bytes, with the devices that are handed in and that come back
abbrev pub Follows : Command → List ℕ → AllSeen → AllSeen → Status → List ℕ → Type 0
Follows (command.Analyse cert budget) bytes before after status text =
    Analyses (request_of cert budget) bytes (signatures_of before) status text × (after ≡ before)
Follows command.Check bytes before after status text = Checks bytes status text × (after ≡ before)
Follows (command.Run steps) bytes before after status text =
    Runs bytes steps before after status text
Follows (command.Generate number) bytes before after status text =
    Analyses (summing number) bytes (signatures_of before) status text × (after ≡ before)

-- they ask for some command that is
abbrev pub IsAsked : Call → Type 0
IsAsked c = (asked : Command) × Asks c.words asked

-- .. and for one that reads
abbrev pub IsAskedToRead : Call → Type 0
IsAskedToRead c = (asked : Command) × Asks c.words asked × IsReading asked

-- of a source bytes were taken, and one more at most than a text may have
abbrev pub TakesFew : Option (List ℕ) → Option (List ℕ) → Type 0
TakesFew before after =
    (bytes : List ℕ) × (length bytes ≤ max_bytes + 1) × Takes before after bytes

-- whatever the status is: nothing is taken but by a command that reads, and no more than that
abbrev pub TakesInput : Call → Type 0
TakesInput c = Keeps c.left c.left_after ⊎ (IsAskedToRead c × TakesFew c.left c.left_after)

-- the bytes that are given are answered by the command that the words ask for
abbrev pub AnswersBytes : Call → Status → List ℕ → Type 0
AnswersBytes c status text =
    (asked : Command) × Asks c.words asked
    × ((bytes : List ℕ) × IsGiven asked c bytes
    × Follows asked bytes c.devices c.devices_after status text)

-- the cause of each status that has a text, and the text
abbrev pub HasCause : Call → Status → List ℕ → Type 0
HasCause c Usage text =
    (IsAsked c → ⊥) × Keeps c.left c.left_after × DevicesStand c
    × (text ≡ refusal_text refusal.Usage)
HasCause c ReadFault text =
    IsAskedToRead c × Rose c.faults c.faults_after × DevicesStand c
    × (text ≡ refusal_text refusal.ReadFault)
HasCause c TooLong text =
    IsAskedToRead c × IsLonger max_bytes c.left
    × TakesCount (max_bytes + 1) c.left c.left_after × DevicesStand c
    × (text ≡ refusal_text refusal.TooLong)
HasCause c WriteFault text = ⊥
HasCause c Memory text = ⊥
HasCause c status text = AnswersBytes c status text

-- What the sink holds: what was written and whether it is finished, before and after, and its
-- faults.
pub record Written : Type 0 where
  pub written : Option (List ℕ)
  pub written_after : Option (List ℕ)
  pub finished : Option Bool
  pub finished_after : Option Bool
  pub faults : ℕ
  pub faults_after : ℕ

-- .. of a sink of which this is told, before and after
abbrev pub written_of : {K : Type 0} → (K → Option (List ℕ)) → (K → Option Bool) → (K → ℕ)
    → K → K → Written
written_of written finished faults sink sink_after = record {
  written = written sink;
  written_after = written sink_after;
  finished = finished sink;
  finished_after = finished sink_after;
  faults = faults sink;
  faults_after = faults sink_after;
}

-- the text of an answer with its cause was appended, and the sink is finished
abbrev pub IsWritten : (Status → List ℕ → Type 0) → Written → Status → Type 0
IsWritten Cause w status =
    (text : List ℕ) × Cause status text × Appends w.written w.written_after text
    × TurnsTo w.finished w.finished_after true

-- a front of the text of an answer with its cause was appended
abbrev pub IsBegun : (Status → List ℕ → Type 0) → Written → Type 0
IsBegun Cause w =
    (status : Status) × (text : List ℕ) × Cause status text
    × AppendsFront w.written w.written_after text

-- a run of the text that was read was refused memory
abbrev pub StopsRun : Call → Type 0
StopsRun c =
    (steps : ℕ) × Asks c.words (command.Run steps)
    × ((bytes : List ℕ) × IsInput c bytes × MayBeLeftByText bytes steps c.devices c.devices_after)

-- without memory each device comes back, and only a run of the text that was read may have asked
-- some
abbrev pub DevicesComeBack : Call → Type 0
DevicesComeBack c = DevicesStand c ⊎ StopsRun c

-- the status, its cause, and what the sink holds: after a fault of the sink the front of another
-- answer's text, and without memory nothing
abbrev pub IsAnswered : Call → Written → Status → Type 0
IsAnswered c w WriteFault = Rose w.faults w.faults_after × IsBegun (HasCause c) w
IsAnswered c w Memory =
    Keeps w.written w.written_after × Keeps w.finished w.finished_after × DevicesComeBack c
IsAnswered c w status = IsWritten (HasCause c) w status
