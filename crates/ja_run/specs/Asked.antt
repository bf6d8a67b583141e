-- What a run leaves of the devices: each has heard what it answered, in order, and where one
-- failed, it has counted that.
use Rattle.std.specs.Prelude.{◌≡◌, ℕ, ◌==◌, List, ◌++◌, map, filter, Err}
use Rattle.std.specs.List.{enumerate_from}
use Rattle.std.specs.Option.{option_map}
use Rattle.ja_prim.specs.declared.primitive.Primitive.{Primitive}
use Rattle.ja_device.specs.Devices.{Seen, AllSeen, IsAsked}
use Rattle.ja_device.specs.declared.fault.CallFault.TheVariants as fault
use Rattle.ja_device.specs.declared.heard.Heard.{Heard}
use Rattle.ja_graph.specs.declared.program.Program.{Program}
use Rattle.ja_run.specs.Run.{AreAnswered}
use Rattle.ja_run.specs.declared.ended.CallRecord.{CallRecord}
use Rattle.ja_run.specs.declared.ended.RunEnd.{RunEnd}
use Rattle.ja_run.specs.declared.ended.RunEnd.TheVariants as run_end

-- what the device of a number heard of some calls: those that it answered, with their arguments
abbrev pub heard_by : List CallRecord → ℕ → List Heard
heard_by calls which =
    map (λ (r : CallRecord). record { args = r.args; answer = r.answer })
    (filter (λ (r : CallRecord). r.device == which) calls)

-- a device that has heard these besides; where it doesn't tell what it heard, that stays so
abbrev pub with_heard : List Heard → Seen → Seen
with_heard more d = record d { heard = option_map (λ calls. calls ++ more) d.heard }

-- devices that have answered these calls
abbrev pub with_calls : List CallRecord → List Seen → List Seen
with_calls calls devices =
    map (λ row. with_heard (heard_by calls row.0) row.1) (enumerate_from 0 devices)

abbrev pub answering : List CallRecord → AllSeen → AllSeen
answering calls before = record before { devices = with_calls calls before.devices }

-- the devices have answered these calls, and nothing else has changed
abbrev pub HaveHeard : AllSeen → AllSeen → List CallRecord → Type 0
HaveHeard before after calls = after ≡ answering calls before

-- .. and then the run has ended so: where the end is a device's, that one was asked once more, and
-- failed
abbrev pub IsLeft : AllSeen → AllSeen → List CallRecord → RunEnd → Type 0
IsLeft before after calls (run_end.Device which) =
    (args : List Primitive) × IsAsked (answering calls before) after which args (Err fault.Failed)
IsLeft before after calls end = HaveHeard before after calls

-- .. or the run was cut short, for want of memory: the devices have answered exactly the calls of
-- its first steps, and nothing else has changed
abbrev pub IsCutShort : Program → ℕ → AllSeen → AllSeen → Type 0
IsCutShort p limit before after =
    (answered : List CallRecord) × HaveHeard before after answered × AreAnswered p limit answered
