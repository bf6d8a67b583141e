-- What the states of a program speak of: its labels, its keys and its sites. So a state can be kept
-- as an object for each label of the program, with a property for each key of the program.
use Rattle.std.specs.Prelude.{◌≡◌, ◌≤◌, ◌&&◌, ℕ, false, length, List, IsTrue}
use Rattle.std.specs.List.{AllByRecursion}
use Rattle.ja_base.specs.declared.ids.Label.{Label}
use Rattle.ja_graph.specs.declared.program.Program.{Program}
use Rattle.ja_abstract.specs.declared.abstraction.Key.{Key}
use Rattle.ja_abstract.specs.AbstractValue.{entry_property}
use Rattle.ja_abstract.specs.AbstractState.{AbstractState, is_label, is_key, exactly_none}
use Rattle.ja_abstract.specs.Writes.{Write}

-- at any other label and at any other key a property is as at entry, and at any other site nothing
-- was made
pub record IsInProgram (p : Program) (a : AbstractState) : Type 0 where
  pub properties : (l : Label) (k : Key) → (is_label p l && is_key p k) ≡ false
      → a.property l k ≡ entry_property
  pub masks : (s : ℕ) → length p.sites ≤ s → a.mask s ≡ exactly_none

-- keys of a program, and writes at such keys
abbrev pub AreKeys : Program → List Key → Type 0
AreKeys p keys = AllByRecursion (λ (k : Key). IsTrue (is_key p k)) keys

abbrev pub AreAtKeys : Program → List Write → Type 0
AreAtKeys p writes = AllByRecursion (λ (x : Write). IsTrue (is_key p x.key)) writes
