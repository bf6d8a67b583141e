-- What is read says nothing of what no program has.
use Rattle.std.specs.Prelude.{◌≡◌, IsTrue}
use Rattle.ja_base.specs.declared.ids.Label.{Label}
use Rattle.ja_graph.specs.declared.program.Program.{Program}
use Rattle.ja_abstract.specs.declared.abstraction.AAttrs.{AAttrs}
use Rattle.ja_abstract.specs.declared.abstraction.Key.{Key}
use Rattle.ja_abstract.specs.declared.abstraction.Key.TheVariants as key
use Rattle.ja_abstract.specs.AbstractValue.{AbstractValue, AbstractProperty, unknown_attrs}
use Rattle.ja_abstract.specs.AbstractState.{is_label}

-- the labels of a value are those of the program
abbrev pub HasOwnLabels : Program → AbstractValue → Type 0
HasOwnLabels p v = (l : Label) → IsTrue (v.label l) → IsTrue (is_label p l)

-- of an internal property no attribute is known
abbrev pub HasOwnAttrs : Key → AAttrs → Type 0
HasOwnAttrs (key.Slot s) a = a ≡ unknown_attrs
HasOwnAttrs k a = Unit {0}

pub record IsOwnProperty (p : Program) (k : Key) (q : AbstractProperty) : Type 0 where
  pub labels : HasOwnLabels p q.value
  pub attrs : HasOwnAttrs k q.attrs
