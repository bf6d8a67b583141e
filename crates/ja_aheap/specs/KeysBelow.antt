-- The keys of the first names of a program.
use Rattle.std.specs.Prelude.{ℕ, Bool, true, if◌then◌else◌, nat_lt}
use Rattle.ja_abstract.specs.declared.abstraction.Key.{Key}
use Rattle.ja_abstract.specs.declared.abstraction.Key.TheVariants as key
use Rattle.ja_abstract.specs.AbstractValue.{entry_property}
use Rattle.ja_abstract.specs.Made.{Own}

-- a key is one of the first names', or none of a name
abbrev pub is_key_below : ℕ → Key → Bool
is_key_below names (key.Name n) = nat_lt n.0 names
is_key_below names k = true

-- what is no label or no key of the program is as at entry
abbrev pub at_keys_below : ℕ → Own → Own
at_keys_below names own k = if is_key_below names k then own k else entry_property
