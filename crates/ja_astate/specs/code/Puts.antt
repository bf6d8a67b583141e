-- What puts come to label by label and key by key.
use Rattle.std.specs.Prelude.{ℕ, Bool, ◌&&◌, ◌||◌, ◌+◌, List, Option}
use Rattle.std.specs.List.{list_any}
use Rattle.std.specs.Option.{option_map_or}
use Rattle.ja_base.specs.declared.ids.Label.{Label}
use Rattle.ja_abstract.specs.declared.abstraction.Key.{Key}
use Rattle.ja_abstract.specs.AbstractValue.{AbstractValue}
use Rattle.ja_abstract.specs.AbstractState.{same_key}
use Rattle.ja_abstract.specs.Made.{length_key, whole_constant}
use Rattle.ja_abstract.specs.Primitives.{to_num, whole_value}
use Rattle.ja_abstract.specs.Keys.{is_index_key}
use Rattle.ja_abstract.specs.Reading.{View, demands_if, may_accept}
use Rattle.ja_abstract.specs.Resolved.{Demands, demands_of}
use Rattle.ja_abstract.specs.Writes.{is_array_label, asked_at, may_be_no_length, may_be_wrong_length}

-- the lengths that an element's put may make of one that isn't one number
abbrev pub more_lengths : Option ℕ → AbstractValue
more_lengths index = option_map_or (λ (i : ℕ). whole_constant (i + 1)) index whole_value

-- what the put of an element demands, where it may be accepted
abbrev pub length_demands : View → Bool → Label → Key → Demands
length_demands w accepts l k =
    demands_if (is_array_label w.program l && is_index_key w.program k && accepts)
    (demands_of w.state l length_key)

-- a value may be no length
abbrev pub is_wrong : AbstractValue → Bool
is_wrong v =
    let n = to_num v in
    n.may_stop || (n.value.flags.nan || may_be_no_length n.value.number)

-- a put at an array's length may be accepted
abbrev pub accepts_length : View → Label → Key → Bool
accepts_length w l k =
    is_array_label w.program l && same_key k length_key && may_accept (asked_at w l k)

abbrev pub some_accept : View → List Label → List Key → Bool
some_accept w labels keys =
    list_any (λ (l : Label). list_any (accepts_length w l) keys) labels

-- a put at one of some labels and keys may throw
abbrev pub some_throw : View → List Label → List Key → AbstractValue → Bool
some_throw w labels keys v =
    list_any (λ (l : Label). list_any (λ (k : Key). may_be_wrong_length w l k v) keys) labels
