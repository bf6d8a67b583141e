-- Two moments in one: a state read through another one, which describes what came after it.
use Rattle.std.specs.Prelude.{ℕ, ◌&&◌, ◌||◌, Some}
use Rattle.ja_graph.specs.declared.program.Program.{Program}
use Rattle.ja_abstract.specs.declared.abstraction.Mask.{Mask}
use Rattle.ja_abstract.specs.AbstractValue.{AbstractValue}
use Rattle.ja_abstract.specs.AbstractState.{AbstractState}
use Rattle.ja_abstract.specs.Resolved.{Entries, renamed_labels, resolved}
use Rattle.ja_abstract.specs.Made.{at_keys_of}

-- ---- give back

-- what a state says, read at a later moment that another state describes from it on
abbrev pub composed_mask : Mask → Mask → Mask
composed_mask first second =
    record { none = second.none && first.none; some = second.some || (first.some && second.none) }

abbrev pub renamed_value : (ℕ → Mask) → AbstractValue → AbstractValue
renamed_value mask v = record v { label = renamed_labels mask v.label }

abbrev pub all_of : AbstractState → Entries
all_of a l k = Some (a.property l k)

abbrev pub composed : Program → AbstractState → AbstractState → AbstractState
composed p first second = record {
  register = λ r. renamed_value second.mask (first.register r);
  property = λ l k. at_keys_of p (resolved second (all_of first) l) k;
  mask = λ t. composed_mask (first.mask t) (second.mask t);
}
