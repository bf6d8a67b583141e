-- States as they are kept are of the profile.
use Rattle.std.specs.Prelude.{ℕ, List, Option, None, Some, slice_get}
use Rattle.std.specs.Option.{option_map_or}
use Rattle.ja_abstract.specs.AbstractValue.{undefined_value}
use Rattle.ja_abstract.specs.Profile.{IsStateOfProfile, IsValueOfProfile}
use Rattle.ja_value.specs.declared.value.AValue.{AValue}
use Rattle.ja_value.specs.Value.{value_of}
use Rattle.ja_value.proofs.ProfileLemmas.{flags_of_profile, value_of_profile}
use Rattle.ja_aheap.proofs.ProfileLemmas.{heap_of_profile}
use Rattle.ja_astate.specs.declared.state.AState.{AState}
use Rattle.ja_astate.specs.State.{register_in, state_of}

register_of_profile : (values : List AValue) (r : ℕ) → IsValueOfProfile (register_in values r)
register_of_profile values r = by (slice_get values r)
  where
    by : (x : Option AValue) → IsValueOfProfile (option_map_or value_of x undefined_value)
    by None = flags_of_profile undefined_value.flags
    by (Some v) = value_of_profile v

pub state_of_profile : (a : AState) → IsStateOfProfile (state_of a)
state_of_profile a =
    record {
      registers = register_of_profile a.registers.items;
      properties = heap_of_profile a.heap;
    }
