-- What the rows of the nodes of activations and scopes give, computed.
use Rattle.std.specs.Prelude.{◌≡◌, Bool, true, false, [], ◌∷◌, Some, None, String}
use Rattle.std.specs.Global.{Global}
use Rattle.std.proofs.Common.{refl}
use Rattle.ja_graph.specs.declared.attrs.TheConstants.{DONT_DELETE, DONT_ENUM}
use Rattle.ja_graph.specs.declared.builtins.TheConstants as builtins
use Rattle.ja_graph.specs.declared.node.Node.{Node}
use Rattle.ja_graph.specs.declared.node.Node.TheVariants as node
use Rattle.ja_abstract.specs.declared.abstraction.Key.TheVariants as key
use Rattle.ja_abstract.specs.AbstractValue.{AbstractValue, AbstractProperty, join, join_properties, no_value, null_value, undefined_value, bare, no_property, absent_property, entry_property, of_label}
use Rattle.ja_abstract.specs.AbstractState.{AbstractState, new, old, name_key, exactly_some, with_property}
use Rattle.ja_abstract.specs.Resolved.{prototype, outer}
use Rattle.ja_abstract.specs.Primitives.{whole_value}
use Rattle.ja_laws.proofs.SmallProgram.{activation_site, arguments_site, reg, name, blank, holding, number, true_value, with_attrs, plain, global_object, object, function_object, activation, arguments_object, length_name, p_name, q_name, zero_name, five_name, seen, seen_property}
use Rattle.ja_laws.proofs.SmallSteps.{seen_in, gives, sets, leaves, goes_to, demands}

module _ (text : String Global) where
  -- ---- Enter

  abbrev enter : Node
  enter = node.Enter activation_site (Some arguments_site)

  -- the parameters p and q are 5 and null, the rest of the arguments is true

  abbrev entered : AbstractValue → AbstractState
  entered count = holding 4 count (holding 2 (of_label global_object)
      (holding 3 (of_label function_object) (holding 5 (number 5)
      (holding 6 null_value (holding 7 true_value blank)))))

  enter_scope : sets text enter (entered (number 1)) 2 ≡ (1, seen (of_label activation)) ∷ []
  enter_scope = refl

  enter_outer : leaves text enter (entered (number 1)) activation outer
      ≡ (1, seen_property (bare (of_label global_object))) ∷ []
  enter_outer = refl

  no_prototype : leaves text enter (entered (number 1)) activation prototype
      ≡ (1, seen_property absent_property) ∷ []
  no_prototype = refl

  first_parameter : leaves text enter (entered (number 1)) activation p_name
      ≡ (1, seen_property (with_attrs (number 5) DONT_DELETE)) ∷ []
  first_parameter = refl

  second_parameter : leaves text enter (entered (number 1)) activation q_name
      ≡ (1, seen_property (with_attrs null_value DONT_DELETE)) ∷ []
  second_parameter = refl

  arguments_bound : leaves text enter (entered (number 1)) activation (name_key 103)
      ≡ (1, seen_property (with_attrs (of_label arguments_object) DONT_DELETE)) ∷ []
  arguments_bound = refl

  arguments_callee : leaves text enter (entered (number 1)) arguments_object (name_key 102)
      ≡ (1, seen_property (with_attrs (of_label function_object) DONT_ENUM)) ∷ []
  arguments_callee = refl

  arguments_length : leaves text enter (entered (number 1)) arguments_object length_name
      ≡ (1, seen_property (with_attrs (number 1) DONT_ENUM)) ∷ []
  arguments_length = refl

  argument_there : leaves text enter (entered (number 1)) arguments_object zero_name
      ≡ (1, seen_property (with_attrs (number 5) DONT_ENUM)) ∷ []
  argument_there = refl

  argument_not_there : leaves text enter (entered (number 0)) arguments_object zero_name
      ≡ (1, seen_property absent_property) ∷ []
  argument_not_there = refl

  -- index 5 is not among 5 arguments
  argument_past_count : leaves text enter (entered (number 5)) arguments_object five_name
      ≡ (1, seen_property absent_property) ∷ []
  argument_past_count = refl

  argument_of_rest : leaves text enter (entered (number 6)) arguments_object five_name
      ≡ (1, seen_property (with_attrs true_value DONT_ENUM)) ∷ []
  argument_of_rest = refl

  argument_of_class : leaves text enter (entered whole_value) arguments_object five_name
      ≡ (1, seen_property (join_properties (with_attrs true_value DONT_ENUM) absent_property)) ∷ []
  argument_of_class = refl

  other_arguments : leaves text enter (entered (number 6)) arguments_object key.OtherIndex
      ≡ (
        1,
        seen_property (join_properties (with_attrs
            (join (number 5) (join null_value true_value)) DONT_ENUM) absent_property),
      ) ∷ []
  other_arguments = refl

  no_count : goes_to text enter (entered no_value) ≡ []
  no_count = refl

  without_arguments : leaves text (node.Enter activation_site None) (entered (number 1)) activation
      (name_key 103) ≡ (1, seen_property absent_property) ∷ []
  without_arguments = refl

  enter_is_counted : seen_in (λ a. a.mask activation_site.0 ∷ a.mask arguments_site.0 ∷ [])
      (gives text enter (entered (number 1))) ≡ (1, exactly_some ∷ exactly_some ∷ []) ∷ []
  enter_is_counted = refl

  -- ---- Declare

  abbrev declare : Node
  declare = node.Declare (name 106)

  abbrev scoped : AbstractValue → AbstractProperty → AbstractState
  scoped v q = with_property (holding 2 v blank) activation p_name q

  declares : leaves text declare (scoped (of_label activation) absent_property) activation p_name
      ≡ (1, seen_property (with_attrs undefined_value DONT_DELETE)) ∷ []
  declares = refl

  declared_before : leaves text declare (scoped (of_label activation) (plain (number 1))) activation
      p_name ≡ (1, seen_property (plain (number 1))) ∷ []
  declared_before = refl

  declared_maybe : leaves text declare (scoped (of_label activation)
      (join_properties (plain (number 1)) absent_property)) activation p_name
      ≡ (1, seen_property (join_properties (plain (number 1)) absent_property))
      ∷ (1, seen_property (with_attrs undefined_value DONT_DELETE)) ∷ []
  declared_maybe = refl

  declared_nowhere : goes_to text declare (scoped (of_label activation) no_property) ≡ []
  declared_nowhere = refl

  declare_demands : demands text declare (scoped (of_label activation) entry_property)
      (p_name ∷ prototype ∷ []) ≡ (p_name, activation ∷ []) ∷ (prototype, []) ∷ []
  declare_demands = refl

  -- ---- Bind

  abbrev bind : Bool → Node
  bind read_only = node.Bind (name 106) (reg 7) read_only

  abbrev bound : AbstractValue → AbstractState
  bound v = holding 7 (number 2) (scoped v (plain (number 1)))

  binds : leaves text (bind false) (bound (of_label activation)) activation p_name
      ≡ (1, seen_property (with_attrs (number 2) DONT_DELETE)) ∷ []
  binds = refl

  binds_read_only : leaves text (bind true) (bound (of_label activation)) activation p_name
      ≡ (1, seen_property (with_attrs (number 2) (record DONT_DELETE { read_only = true }))) ∷ []
  binds_read_only = refl

  binds_weakly : leaves text (bind false) (bound (join (of_label activation) (of_label object)))
      activation p_name ≡ (
        1,
        seen_property (join_properties (plain (number 1))
            (with_attrs (number 2) DONT_DELETE)),
      ) ∷ []
  binds_weakly = refl

  binds_nowhere : goes_to text (bind false) (bound undefined_value) ≡ []
  binds_nowhere = refl

  -- ---- PushScope

  abbrev push : Node
  push = node.PushScope activation_site

  push_scope : sets text push (scoped (of_label global_object) absent_property) 2
      ≡ (1, seen (of_label activation)) ∷ []
  push_scope = refl

  -- the scope before is renamed
  push_outer : leaves text push (scoped (of_label activation) absent_property) activation outer
      ≡ (1, seen_property (bare (of_label (old activation_site)))) ∷ []
  push_outer = refl

  push_inherits : leaves text push (scoped (of_label activation) absent_property) activation
      prototype ≡ (1, seen_property (bare (of_label (new builtins.OBJECT_PROTOTYPE)))) ∷ []
  push_inherits = refl

  push_without_scope : leaves text push (scoped no_value absent_property) activation outer
      ≡ (1, seen_property (bare no_value)) ∷ []
  push_without_scope = refl
