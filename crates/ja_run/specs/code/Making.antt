-- What asking a device comes to, and the steps that were made.
use Rattle.std.specs.Prelude.{◌≡◌, ◌≤◌, ◌<◌, ◌⊎◌, ℕ, Option, Some, None, List, [], ◌∷◌, ◌++◌, Ok, Err}
use Rattle.ja_prim.specs.declared.primitive.Primitive.{Primitive}
use Rattle.ja_device.specs.Devices.{AllSeen, IsAsked}
use Rattle.ja_device.specs.declared.fault.CallFault.TheVariants as fault
use Rattle.ja_graph.specs.declared.program.Program.{Program}
use Rattle.ja_machine.specs.declared.machine.Answer.{Answer}
use Rattle.ja_machine.specs.declared.machine.Answer.TheVariants as answers
use Rattle.ja_machine.specs.declared.machine.Conf.{Conf}
use Rattle.ja_machine.specs.declared.machine.Frame.{Frame}
use Rattle.ja_machine.specs.declared.machine.Wants.TheVariants as wanted
use Rattle.ja_machine.specs.Machine.{wants}
use Rattle.ja_step.specs.Given.{answer_to, primitives}
use Rattle.ja_run.specs.Asked.{HaveHeard, IsLeft}
use Rattle.ja_run.specs.Run.{Asks, EndsIn, IsUnasked, Leads}
use Rattle.ja_run.specs.declared.ended.CallRecord.{CallRecord}
use Rattle.ja_run.specs.declared.ended.RunEnd.TheVariants as run_end
use Rattle.ja_run.specs.declared.running.Given.{Given}
use Rattle.ja_run.specs.declared.running.Given.TheVariants as given
use Rattle.ja_run.specs.declared.running.Stopped.{Stopped}
use Rattle.ja_run.specs.declared.running.Stopped.TheVariants as stopped

-- A device was asked: it answered, and the call is recorded behind the others; or it failed, and no
-- call is.
abbrev pub IsDeviceAnswered : AllSeen → AllSeen → ℕ → List Primitive → List CallRecord
    → List CallRecord → Option Answer → Type 0
IsDeviceAnswered before after which args calls recorded (Some (answers.Device q)) =
    IsAsked before after which args (Ok q) × (recorded ≡ calls
    ++ record { device = which; args = args; answer = q } ∷ [])
IsDeviceAnswered before after which args calls recorded (Some answer) = ⊥
IsDeviceAnswered before after which args calls recorded None =
    IsAsked before after which args (Err fault.Failed) × (recorded ≡ calls)

-- where memory is refused, the devices are as they were, or that one has answered
abbrev pub MayHaveAnswered : AllSeen → AllSeen → ℕ → List Primitive → Type 0
MayHaveAnswered before after which args =
    (after ≡ before) ⊎ ((q : Primitive) × IsAsked before after which args (Ok q))

-- what a device is given that is asked in a state: the arguments of the function that runs
abbrev pub arguments_in : List Frame → List Primitive
arguments_in [] = []
arguments_in (f ∷ below) = primitives f.arguments

-- What is given to a state: where it asks no device, the answer for which nobody is asked; else
-- that of the device, or nothing.
abbrev pub IsGiven : Program → Conf → AllSeen → AllSeen → List CallRecord → List CallRecord → Given
    → Type 0
IsGiven p c before after calls recorded (given.Answered answer) =
    (IsUnasked (wants p c) × (answer ≡ answer_to (wants p c)) × (after ≡ before)
    × (recorded ≡ calls))
    ⊎ ((which : ℕ) × (wants p c ≡ wanted.Device which)
    × IsDeviceAnswered before after which (arguments_in c.frames) calls recorded (Some answer))
IsGiven p c before after calls recorded (given.Nothing which) =
    (wants p c ≡ wanted.Device which) × IsDeviceAnswered before after which (arguments_in c.frames)
    calls recorded None

-- where memory is refused, the devices are as they were, or the one that the state asks may have
-- answered
abbrev pub MayBeGiven : Program → Conf → AllSeen → AllSeen → Type 0
MayBeGiven p c before after =
    (after ≡ before) ⊎ ((which : ℕ) × (wants p c ≡ wanted.Device which)
    × MayHaveAnswered before after which (arguments_in c.frames))

-- so many steps lead to this state, which counts them; devices have answered these calls
pub record HasMade (p : Program) (calls : List CallRecord) (made : ℕ) (c : Conf) : Type 0 where
  pub leads : Leads p calls made c
  pub counted : c.steps ≡ made

-- the last step ends the run in this state; a device gives no answer behind these steps; or all
-- steps lead to the state
abbrev pub IsMade : Program → ℕ → List CallRecord → Option Stopped → Conf → Type 0
IsMade p limit calls (Some (stopped.Last steps end)) c =
    (steps ≤ limit) × EndsIn p calls steps end c
IsMade p limit calls (Some (stopped.Unanswered steps which)) c =
    (steps < limit) × Asks p calls steps which
IsMade p limit calls None c = HasMade p calls limit c

-- what such a stop leaves of the devices
abbrev pub Leaves : AllSeen → AllSeen → List CallRecord → Option Stopped → Type 0
Leaves before after calls (Some (stopped.Unanswered steps which)) =
    IsLeft before after calls (run_end.Device which)
Leaves before after calls stop = HaveHeard before after calls
