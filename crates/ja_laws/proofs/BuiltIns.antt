-- What the rows of the operations of the built-in functions and of devices give, computed.
use Rattle.std.specs.Prelude.{◌≡◌, ℕ, true, List, [], ◌∷◌, String}
use Rattle.std.specs.Global.{Global}
use Rattle.std.proofs.Common.{refl}
use lib.Chars.{codes}
use Rattle.ja_base.specs.declared.ids.Reg.{Reg}
use Rattle.ja_graph.specs.declared.attrs.TheConstants.{DONT_ENUM}
use Rattle.ja_graph.specs.declared.node.Node.{Node}
use Rattle.ja_graph.specs.declared.node.Node.TheVariants as node
use Rattle.ja_abstract.specs.declared.abstraction.TextPart.TheVariants as text_part
use Rattle.ja_abstract.specs.AbstractValue.{AbstractValue, join, no_value, null_value, absent_value, bare, entry_property, of_label}
use Rattle.ja_abstract.specs.AbstractState.{AbstractState, with_property}
use Rattle.ja_abstract.specs.Resolved.{prototype}
use Rattle.ja_abstract.specs.Made.{value_key}
use Rattle.ja_abstract.specs.Primitives.{of_bools, of_text_part, whole_value, nan_value}
use Rattle.ja_laws.proofs.SmallProgram.{reg, blank, holding, number, one_text, true_value, false_value, with_attrs, plain, object, array, proto, arguments_object, SeenValue, p_name, seen}
use Rattle.ja_laws.proofs.SmallSteps.{sets, goes_to, demands}

module _ (text : String Global) where
  -- ---- Device

  abbrev device : Node
  device = node.Device (reg 6) 0

  -- any truth value, any number
  answers : sets text device blank 6
      ≡ (1, seen (join (of_bools true true) (join nan_value whole_value))) ∷ []
  answers = refl

  no_device : goes_to text (node.Device (reg 6) 1) blank ≡ []
  no_device = refl

  -- ---- Intrinsic

  abbrev intrinsic : ℕ → List Reg → AbstractValue → AbstractValue → AbstractState
      → List (ℕ × SeenValue)
  intrinsic which list v u a = sets text (node.Intrinsic (reg 6) which list)
      (holding 7 v (holding 8 u a)) 6

  abbrev one : List Reg
  one = reg 7 ∷ []

  abbrev two : List Reg
  two = reg 7 ∷ reg 8 ∷ []

  is_object : intrinsic 0 one (of_label object) no_value blank ≡ (1, seen true_value) ∷ []
  is_object = refl

  is_object_or_not : intrinsic 0 one (join null_value (of_label object)) no_value blank
      ≡ (1, seen (of_bools true true)) ∷ []
  is_object_or_not = refl

  class_of : intrinsic 1 one (join null_value (of_label array)) no_value blank
      ≡ (1, seen (one_text (codes "Array"))) ∷ []
  class_of = refl

  class_of_primitive : intrinsic 1 one null_value no_value blank ≡ []
  class_of_primitive = refl

  value_of : intrinsic 2 one (of_label object) no_value
      (with_property blank object value_key (bare (join absent_value (number 1))))
      ≡ (1, seen (number 1)) ∷ []
  value_of = refl

  value_of_nothing : intrinsic 2 one (of_label object) no_value blank ≡ []
  value_of_nothing = refl

  has_own : intrinsic 3 two (of_label object) (one_text (codes "p"))
      (with_property blank object p_name (plain null_value)) ≡ (1, seen true_value) ∷ []
  has_own = refl

  -- prototypes are not asked
  has_not_own : intrinsic 3 two (of_label object) (one_text (codes "p"))
      (with_property (with_property blank object prototype (bare (of_label proto))) proto p_name
      (plain null_value)) ≡ (1, seen false_value) ∷ []
  has_not_own = refl

  is_enumerable : intrinsic 4 two (of_label object) (one_text (codes "p"))
      (with_property blank object p_name (plain null_value)) ≡ (1, seen true_value) ∷ []
  is_enumerable = refl

  is_hidden : intrinsic 4 two (of_label object) (one_text (codes "p"))
      (with_property blank object p_name (with_attrs null_value DONT_ENUM)) ≡ (1, seen false_value)
      ∷ []
  is_hidden = refl

  inherits : intrinsic 5 two (of_label object) (of_label proto)
      (with_property blank object prototype (bare (of_label proto)))
      ≡ (1, seen (of_bools true true)) ∷ []
  inherits = refl

  inherits_not_itself : intrinsic 5 two (of_label object) (of_label object) blank
      ≡ (1, seen false_value) ∷ []
  inherits_not_itself = refl

  primitive_inherits_not : intrinsic 5 two (number 1) (of_label proto) blank ≡ (1, seen false_value)
      ∷ []
  primitive_inherits_not = refl

  has_elements : intrinsic 6 one (join (of_label array) (of_label arguments_object)) no_value blank
      ≡ (1, seen true_value) ∷ []
  has_elements = refl

  has_no_elements : intrinsic 6 one (join null_value (of_label object)) no_value blank
      ≡ (1, seen false_value) ∷ []
  has_no_elements = refl

  digits_of_class : intrinsic 7 two whole_value (number 2) blank
      ≡ (1, seen (of_text_part text_part.Text)) ∷ []
  digits_of_class = refl

  own_demands : demands text (node.Intrinsic (reg 6) 3 two)
      (holding 7 (of_label object) (holding 8 (one_text (codes "p"))
      (with_property blank object p_name entry_property))) (p_name ∷ prototype ∷ [])
      ≡ (p_name, object ∷ []) ∷ (prototype, []) ∷ []
  own_demands = refl
