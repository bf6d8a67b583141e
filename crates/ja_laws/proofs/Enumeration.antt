-- What the rows of the nodes of `for`-`in` give, computed.
use Rattle.std.specs.Prelude.{◌≡◌, [], ◌∷◌, String}
use Rattle.std.specs.Global.{Global}
use Rattle.std.proofs.Common.{refl}
use lib.Chars.{codes}
use Rattle.ja_base.specs.declared.ids.Label.{Label}
use Rattle.ja_abstract.specs.declared.abstraction.Key.{Key}
use Rattle.ja_graph.specs.declared.attrs.TheConstants.{DONT_ENUM}
use Rattle.ja_graph.specs.declared.node.Node.{Node}
use Rattle.ja_graph.specs.declared.node.Node.TheVariants as node
use Rattle.ja_abstract.specs.declared.abstraction.Key.TheVariants as key
use Rattle.ja_abstract.specs.declared.abstraction.TextPart.TheVariants as text_part
use Rattle.ja_abstract.specs.AbstractValue.{AbstractValue, AbstractProperty, null_value, undefined_value, bare, entry_property, of_label}
use Rattle.ja_abstract.specs.AbstractState.{AbstractState, with_property}
use Rattle.ja_abstract.specs.Resolved.{prototype}
use Rattle.ja_abstract.specs.Primitives.{of_text_part}
use Rattle.ja_laws.proofs.SmallProgram.{reg, blank, holding, number, one_text, with_attrs, plain, object, proto, p_name, seen}
use Rattle.ja_laws.proofs.SmallSteps.{sets, goes_to, demands}

module _ (text : String Global) where
  abbrev of : AbstractValue → AbstractState → AbstractState
  of v a = holding 7 v a

  -- ---- Names

  abbrev names : Node
  names = node.Names (reg 8) (reg 7)

  names_of_object : sets text names (of (of_label object) blank) 7 ≡ (1, seen (of_label object))
      ∷ []
  names_of_object = refl

  names_of_primitive : goes_to text names (of null_value blank) ≡ []
  names_of_primitive = refl

  -- ---- Pick

  abbrev pick : Node
  pick = node.Pick (reg 8) (reg 6) (reg 7)

  abbrev having : Label → Key → AbstractProperty → AbstractState
  having l k q = of (of_label object) (with_property
      (with_property blank object prototype (bare (of_label proto))) l k q)

  picks_of_prototype : sets text pick (having proto p_name (plain null_value)) 6
      ≡ (1, seen (one_text (codes "p"))) ∷ (2, seen undefined_value) ∷ []
  picks_of_prototype = refl

  picks_none : goes_to text pick (of (of_label object) blank) ≡ 2 ∷ []
  picks_none = refl

  hidden_is_not_picked : goes_to text pick (having object p_name (with_attrs null_value DONT_ENUM))
      ≡ 2 ∷ []
  hidden_is_not_picked = refl

  picks_indices : sets text pick (having object key.OtherIndex (plain null_value)) 6
      ≡ (1, seen (of_text_part text_part.IndexText)) ∷ (2, seen undefined_value) ∷ []
  picks_indices = refl

  picks_other_names : sets text pick (having object key.OtherName (plain null_value)) 6
      ≡ (1, seen (of_text_part text_part.OtherText)) ∷ (2, seen undefined_value) ∷ []
  picks_other_names = refl

  picks_of_no_object : goes_to text pick (of (number 1) blank) ≡ []
  picks_of_no_object = refl

  pick_demands : demands text pick (having proto p_name entry_property) (p_name ∷ prototype ∷ [])
      ≡ (p_name, proto ∷ []) ∷ (prototype, []) ∷ []
  pick_demands = refl

  pick_demands_chain : demands text pick (of (of_label object)
      (with_property blank object prototype entry_property)) (p_name ∷ prototype ∷ [])
      ≡ (p_name, []) ∷ (prototype, object ∷ []) ∷ []
  pick_demands_chain = refl
