-- What is seen of host devices, and what a call of one does.
use Rattle.std.specs.Prelude.{◌≡◌, ℕ, true, List, [], ◌∷◌, ◌++◌, Option, Some, slice_get, slice_set, Result, Ok, Err}
use Rattle.std.specs.Option.{option_map}
use Rattle.ja_base.specs.Counts.{counted}
use Rattle.ja_base.specs.Streams.{Rose}
use Rattle.ja_prim.specs.declared.primitive.Primitive.{Primitive}
use Rattle.ja_prim.specs.declared.signature.Kinds.{Kinds}
use Rattle.ja_prim.specs.declared.signature.Signature.{Signature}
use Rattle.ja_machine.specs.Machine.{is_of_kinds}
use Rattle.ja_device.specs.declared.fault.CallFault.{CallFault}
use Rattle.ja_device.specs.declared.fault.CallFault.TheVariants as fault
use Rattle.ja_device.specs.declared.heard.Heard.{Heard}

-- A device: its name, the kinds of its answers, the calls that it answered, told or not told, and
-- how often it failed.
pub record Seen : Type 0 where
  pub name : List ℕ
  pub kinds : Kinds
  pub heard : Option (List Heard)
  pub faults : ℕ

-- its name and its kinds, which never change
abbrev pub signature_of : Seen → Signature
signature_of d = record { name = d.name; kinds = d.kinds }

-- the device has answered a call more
abbrev pub hearing : List Primitive → Primitive → Seen → Seen
hearing args answer d =
    record d {
      heard = option_map (λ calls. calls ++ record { args = args; answer = answer } ∷ [])
          d.heard;
    }

-- What a call does to a device, by its result: an answer lies in the kinds, and the call is heard;
-- where the device failed, its count of faults rose, and the rest stands; without memory nothing
-- changes.
abbrev pub IsCalled : Seen → Seen → List Primitive → Result Primitive CallFault → Type 0
IsCalled before after args (Ok answer) =
    (is_of_kinds before.kinds answer ≡ true) × (after ≡ hearing args answer before)
IsCalled before after args (Err fault.Failed) =
    (after ≡ record before { faults = after.faults }) × Rose before.faults after.faults
IsCalled before after args (Err fault.Memory) = after ≡ before

-- Devices, and how often one of them failed.
pub record AllSeen : Type 0 where
  pub devices : List Seen
  pub failed : ℕ

-- how often one of them failed, after a call with this result
abbrev pub failed_after : ℕ → Result Primitive CallFault → ℕ
failed_after failed (Err fault.Failed) = counted failed
failed_after failed result = failed

-- What a call of the device of an index does to all: that one is called, and the others stand.
pub record IsAsked (before after : AllSeen) (index : ℕ) (args : List Primitive)
    (result : Result Primitive CallFault) : Type 0 where
  pub device : Seen
  pub device_is : slice_get before.devices index ≡ Some device
  pub called : Seen
  pub call : IsCalled device called args result
  pub after_is : after ≡ record {
    devices = slice_set before.devices index called;
    failed = failed_after before.failed result;
  }
