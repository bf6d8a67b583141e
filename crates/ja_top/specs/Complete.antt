-- Calls whose answer is complete: the result that the words ask for, or want of memory. Those of
-- `check` are in `ja_cert_laws`.
use Rattle.std.specs.Prelude.{◌≡◌, ◌≤◌, ◌⊎◌, ℕ, List, Some, length}
use Rattle.ja_base.specs.Streams.{Rose}
use Rattle.ja_gen.specs.Generated.{generated_text}
use Rattle.ja_graph.specs.declared.program.Program.{Program}
use Rattle.ja_height.specs.Height.{height}
use Rattle.ja_lex.specs.Spots.{max_bytes}
use Rattle.ja_load.specs.Loading.{IsProgramOf}
use Rattle.ja_top.specs.Analyses.{visits_of}
use Rattle.ja_top.specs.Answers.{Asks, Call, Written}
use Rattle.ja_top.specs.Runs.{signatures_of}
use Rattle.ja_top.specs.declared.status.Status.{Status}
use Rattle.ja_top.specs.declared.status.Status.TheVariants.{Done, Warned, Left, Uncaught, StepsSpent}
use Rattle.ja_top.specs.declared.status.Status.TheVariants.{Memory}
use Rattle.ja_words.specs.declared.command.Command.{Command}
use Rattle.ja_words.specs.declared.command.Command.TheVariants as command

-- neither the source nor the sink counts a fault
pub record IsFaultless (c : Call) (w : Written) : Type 0 where
  pub reads : Rose c.faults c.faults_after → ⊥
  pub writes : Rose w.faults w.faults_after → ⊥

-- ---- analyses

-- the bytes are those of the generated program, or else all that a source has left that tells it
abbrev pub IsHeld : Command → Call → List ℕ → Type 0
IsHeld (command.Generate number) c bytes = bytes ≡ generated_text number
IsHeld asked c bytes = c.left ≡ Some bytes

-- an analysis of a program whose budget is at least its height, which is that of `generate`
abbrev pub HasEnough : Command → Program → Type 0
HasEnough (command.Analyse cert budget) p = height p ≤ visits_of p budget
HasEnough (command.Generate number) p = Unit {0}
HasEnough asked p = ⊥

-- The words ask for an analysis, with enough visits, of a text that has a program with the devices
-- that are handed in, and nothing fails.
pub record HasAll (c : Call) (w : Written) : Type 0 where
  pub asked : Command
  pub asks : Asks c.words asked
  pub bytes : List ℕ
  pub held : IsHeld asked c bytes
  pub within : length bytes ≤ max_bytes
  pub program : Program
  pub is_program : IsProgramOf bytes (signatures_of c.devices) program
  pub enough : HasEnough asked program
  pub faultless : IsFaultless c w

-- a result is written, without or with a warning of a fault, or memory was refused
abbrev pub IsComplete : Status → Type 0
IsComplete status = (status ≡ Done) ⊎ ((status ≡ Warned) ⊎ (status ≡ Memory))

-- ---- runs

-- The words ask for a run of a text that has a program with the devices that are handed in, and
-- nothing fails, no device either.
pub record HasRun (c : Call) (w : Written) : Type 0 where
  pub steps : ℕ
  pub asks : Asks c.words (command.Run steps)
  pub bytes : List ℕ
  pub held : c.left ≡ Some bytes
  pub within : length bytes ≤ max_bytes
  pub program : Program
  pub is_program : IsProgramOf bytes (signatures_of c.devices) program
  pub faultless : IsFaultless c w
  pub answers : Rose c.devices.failed c.devices_after.failed → ⊥

-- the transcript of a run is written that ended by itself or made all of its steps, or memory was
-- refused
abbrev pub IsRunOut : Status → Type 0
IsRunOut status =
    (status ≡ Done) ⊎ ((status ≡ Left)
    ⊎ ((status ≡ Uncaught) ⊎ ((status ≡ StepsSpent) ⊎ (status ≡ Memory))))
