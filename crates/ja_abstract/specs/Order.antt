-- The order of abstract values, properties and states: b is above a where it has each part of a.
use Rattle.std.specs.Prelude.{◌≡◌, ℕ, ℤ, IsTrue, List}
use Rattle.ja_base.specs.declared.ids.Label.{Label}
use Rattle.ja_abstract.specs.declared.abstraction.Key.{Key}
use Rattle.ja_abstract.specs.AbstractValue.{AbstractValue, AbstractProperty, join_flags, join_attrs}
use Rattle.ja_abstract.specs.AbstractState.{AbstractState, join_masks}
use Rattle.ja_abstract.specs.Parts.{number_has, text_has}

-- ---- the order: b has each part that a has

pub record LeqValue (a b : AbstractValue) : Type 0 where
  pub flags : join_flags a.flags b.flags ≡ b.flags
  pub number : (n : ℤ) → IsTrue (number_has a.number n) → IsTrue (number_has b.number n)
  pub text : (t : List ℕ) → IsTrue (text_has a.text t) → IsTrue (text_has b.text t)
  pub label : (l : Label) → IsTrue (a.label l) → IsTrue (b.label l)

pub record LeqProperty (a b : AbstractProperty) : Type 0 where
  pub value : LeqValue a.value b.value
  pub attrs : join_attrs a.attrs b.attrs ≡ b.attrs

pub record LeqState (a b : AbstractState) : Type 0 where
  pub register : (r : ℕ) → LeqValue (a.register r) (b.register r)
  pub property : (l : Label) (k : Key) → LeqProperty (a.property l k) (b.property l k)
  pub mask : (t : ℕ) → join_masks (a.mask t) (b.mask t) ≡ b.mask t
