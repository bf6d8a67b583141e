-- The places of keys, and of labels with keys, in their orders.
use Rattle.std.specs.Prelude.{ℕ, Bool, ◌+◌, nat_lt, if◌then◌else◌, List, [], ◌∷◌, length, Option, Some, None}
use Rattle.std.specs.Option.{option_map_or}
use Rattle.ja_graph.specs.declared.program.Program.{Program}
use Rattle.ja_abstract.specs.declared.abstraction.Key.{Key}
use Rattle.ja_abstract.specs.declared.abstraction.Key.TheVariants as key
use Rattle.ja_abstract.specs.declared.abstraction.Slot.TheVariants as slot
use Rattle.ja_prim.specs.Texts.{same_text}
use Rattle.ja_abstract.specs.AbstractState.{label_number}
use Rattle.ja_cert.specs.Wrong.{are_attrs, unknown_attrs}
use Rattle.ja_cert_parts.specs.declared.listed.EntryAt.{EntryAt}
use Rattle.ja_cert_parts.specs.declared.listed.Pair.{Pair}
use Rattle.ja_cert_parts.specs.declared.listed.PropertyAt.{PropertyAt}

abbrev pub key_place : Program → Key → Option ℕ
key_place p (key.Name n) = if nat_lt n.0 (length p.names) then Some n.0 else None
key_place p key.OtherIndex = Some (length p.names)
key_place p key.OtherName = Some (length p.names + 1)
key_place p (key.Slot slot.Prototype) = Some (length p.names + 2)
key_place p (key.Slot slot.Outer) = Some (length p.names + 3)
key_place p (key.Slot slot.Scope) = Some (length p.names + 4)
key_place p (key.Slot slot.Value) = Some (length p.names + 5)

abbrev pub pair_of : Program → Pair → List ℕ
pair_of p pair =
    label_number pair.label ∷ option_map_or (λ (n : ℕ). n) (key_place p pair.key) 0 ∷ []

abbrev pub entry_pair : EntryAt → Pair
entry_pair e = record { label = e.label; key = e.key }

abbrev pub property_pair : PropertyAt → Pair
property_pair q = record { label = q.label; key = q.key }

-- the attributes of a property at a key
abbrev pub are_attrs_at : Key → List ℕ → Bool
are_attrs_at (key.Slot s) text = same_text unknown_attrs text
are_attrs_at k text = are_attrs text
