-- What a node gives of a state of a program keeps its shape, with labels of the program alone: what
-- registers are set to, objects, and calls.
use Rattle.std.specs.Prelude.{zero, suc, ◌&&◌, ◌-◌, ◌++◌, ℕ, ℤ, pos, negsuc, Bool, true, false, List, [], ◌∷◌, map, length, drop, slice_get, Option, Some, None, IfSome, Ok, Err, unwrap_or, ◌≡◌, IsTrue, ◌||◌, not}
use Rattle.std.specs.List.{AllByRecursion, range_with_len}
use Rattle.std.specs.Option.{option_map_or}
use Rattle.std.proofs.Common.{refl, subst}
use Rattle.std.proofs.lemmas.Bool.{cond_both}
use Rattle.std.proofs.lemmas.Option.{none-some, same_Some}
use Rattle.ja_base.specs.declared.ids.FnId.{FnId}
use Rattle.ja_base.specs.declared.ids.Label.{Label}
use Rattle.ja_base.specs.declared.ids.NameId.{NameId}
use Rattle.ja_base.specs.declared.ids.NodeId.{NodeId}
use Rattle.ja_base.specs.declared.ids.Reg.{Reg}
use Rattle.ja_base.specs.declared.ids.Site.{Site}
use Rattle.ja_base.proofs.Lists.{all_append}
use Rattle.ja_prim.specs.declared.primitive.Num.TheVariants.{NaN}
use Rattle.ja_prim.specs.declared.primitive.Primitive.{Primitive}
use Rattle.ja_prim.specs.declared.primitive.Primitive.TheVariants as primitive
use Rattle.ja_machine.specs.Events.{array_length_message, no_function_message, no_prototype_message, not_a_constructor_message, not_a_function_message, not_an_object_message, nothing_message}
use Rattle.ja_machine.specs.Intrinsics.{class_name}
use Rattle.ja_machine.specs.Machine.{class_of_site}
use Rattle.ja_prim.specs.declared.signature.Signature.{Signature}
use Rattle.ja_prim.specs.Texts.{is_short}
use Rattle.ja_graph.specs.declared.attrs.TheConstants.{DONT_DELETE}
use Rattle.ja_graph.specs.declared.builtins.TheConstants as builtins
use Rattle.ja_graph.specs.declared.node.Args.TheVariants as args
use Rattle.ja_graph.specs.declared.node.ErrorKind.TheVariants as error_kind
use Rattle.ja_graph.specs.declared.node.Node.{Node}
use Rattle.ja_graph.specs.declared.node.Node.TheVariants as node
use Rattle.ja_graph.specs.declared.node.NodeInfo.{NodeInfo}
use Rattle.ja_graph.specs.declared.program.Class.{Class}
use Rattle.ja_graph.specs.declared.program.Class.TheVariants as class
use Rattle.ja_graph.specs.declared.program.Program.{Program}
use Rattle.ja_graph.specs.Node.{makings}
use Rattle.ja_graph.specs.Program.{global}
use Rattle.ja_graph.specs.WellFormed.{IsWellFormed}
use Rattle.ja_machine.specs.Frames.{thrown, scope, parameters_of}
use Rattle.ja_machine.specs.Nodes.{bound_attrs}
use Rattle.ja_machine.proofs.Lists.{all_drop, all_map, all_of}
use Rattle.ja_machine.proofs.Nodes.{AreMade}
use Rattle.ja_abstract.specs.declared.abstraction.Key.{Key}
use Rattle.ja_abstract.specs.declared.abstraction.Key.TheVariants as key
use Rattle.ja_abstract.specs.declared.abstraction.NumberPart.TheVariants as number_part
use Rattle.ja_abstract.specs.declared.abstraction.TextPart.TheVariants as text_part
use Rattle.ja_abstract.specs.AbstractValue.{Labels, AbstractValue, AbstractProperty, has_text, no_value, of_attrs, of_label, of_labels, of_primitive, undefined_value}
use Rattle.ja_abstract.specs.AbstractState.{AbstractState, aged, is_label, labels_of, new, with_register}
use Rattle.ja_abstract.specs.Composed.{composed, renamed_value}
use Rattle.ja_abstract.specs.Keys.{index_keys}
use Rattle.ja_abstract.specs.Made.{Own, activation_own, arguments_own, constructed_own, count_register, empty_own, error_own, function_own, length_key, one_number, prototype_own, rest_register, scope_key, scope_own, text_own, value_key, wrapper_own, whole_constant, with_object, with_objects}
use Rattle.ja_abstract.specs.Operations.{AbstractOperation, Looked, class_of, has_elements, has_own, inherits, is_enumerable, is_object, looked, of_one, of_two, of_values as on_values, operation, operations, value_of}
use Rattle.ja_abstract.specs.PrimitiveOperations.{Taken, class, each_told, given_of, index_value, of_taken, operands, over_operands, sorts, text_operation}
use Rattle.ja_abstract.specs.Primitives.{Abstracted, gives, nan_value, of_bools, to_num, whole_value}
use Rattle.ja_abstract.proofs.TextOperations.{all_text_operations}
use Rattle.ja_machine.specs.declared.machine.TextOperation.{TextOperation}
use Rattle.ja_machine.specs.declared.machine.TextOperation.TheVariants as text
use Rattle.ja_machine.specs.TextOperations.{row}
use Rattle.ja_machine.specs.TextOperations.{Given as Outcome}
use Rattle.ja_abstract.specs.Reading.{View, get, has_present, names_shown, slot, some_label, may_have, may_lack}
use Rattle.ja_abstract.specs.Resolved.{join_values}
use Rattle.ja_abstract.specs.Values.{has_atoms, has_labels, has_non_object, has_nullish, primitives_of, value_if, is_function_label}
use Rattle.ja_abstract.specs.Writes.{Deletion, declared, defined, delete_states, has_some_part, is_missing, put_states, put_may_throw}
use Rattle.ja_rows.specs.declared.table.Edge.{Edge}
use Rattle.ja_rows.specs.BuiltIns.{device_value}
use Rattle.ja_rows.specs.Calls.{Arguments, callee_value, callees, calling, calling_state, chain_value, constructed, count_below, element_count, elements, entered_by, entry_of, entry_values, given, given_back, is_conversion, listed, prototype_value, returned, tail, values_of}
use Rattle.ja_rows.specs.Edges.{calls_at, constructs_at, is_kept, runs, has_other}
use Rattle.ja_rows.specs.Objects.{bools_of, numbers_of, wraps}
use Rattle.ja_rows.specs.Out.{Given, Point, all_go, at, goes, keys_in, makes, name_keys, read_value, sets, sets_in, sets_results, throws, type_error, with_error}
use Rattle.ja_rows.specs.Properties.{instance_value, prototype_keys, instance_prototype}
use Rattle.ja_rows.specs.Scopes.{enters_scope}
use Rattle.ja_rows.specs.Transfer.{transfer_node}
use Rattle.ja_cert_laws.proofs.ShapedReadings.{IsViewIn, get_labels, led_to, of_found, slot_labels}
use Rattle.ja_cert_laws.proofs.ShapedStates.{AreTextKeys, IsOwn, IsShapedIn, IsSite, at_site, builtin_there, composed_shaped, entered_shaped, error_there, object_shaped, object_there, objects_shaped, own_activation, own_arguments, own_constructed, own_empty, own_error, own_function, own_prototype, own_scope, own_text, own_wrapper, register_shaped, text_in, value_keys_are}
use Rattle.ja_cert_laws.proofs.ShapedValues.{AreLabels, Gives, IsRegisterIn, aged_objects, joined_objects, left_objects, no_objects, of_binary, of_constant, of_device, of_each, of_join, of_nothing, of_number, of_one_if, of_one_label, of_one_primitive, of_primitives, of_read, of_renamed, of_shown, of_some_labels, of_text, of_truths, of_uint32, of_unary, of_undefined, of_values, over_gives}
use Rattle.ja_cert_laws.proofs.ShapedWrites.{by_option, declared_shaped, defined_shaped, delete_shaped, put_shaped}
use Rattle.ja_height.proofs.OfSteps.{at_place}

or_undefined : (p : Program) (o : Option AbstractValue) → IfSome o (IsRegisterIn p)
    → IsRegisterIn p (unwrap_or o undefined_value)
or_undefined p None f = of_undefined p
or_undefined p (Some v) f = f

-- ---- the operations of the built-in functions

module _ (p : Program) where
  abbrev IsOperation : AbstractOperation → Type 0
  IsOperation r = (w : View) (vs : List AbstractValue) → IsRegisterIn p (r w vs).value

  one_gives : (f : View → AbstractValue → Looked)
      → ((w : View) (v : AbstractValue) → IsRegisterIn p (f w v).value) → IsOperation (of_one f)
  one_gives f each w [] = of_nothing p
  one_gives f each w (v ∷ []) = each w v
  one_gives f each w (u ∷ v ∷ vs) = of_nothing p

  two_give : (f : View → AbstractValue → AbstractValue → Looked)
      → ((w : View) (u v : AbstractValue) → IsRegisterIn p (f w u v).value) → IsOperation (of_two f)
  two_give f each w [] = of_nothing p
  two_give f each w (v ∷ []) = of_nothing p
  two_give f each w (u ∷ v ∷ []) = each w u v
  two_give f each w (u ∷ v ∷ x ∷ vs) = of_nothing p

  -- those on texts and numbers
  class_gives : (op : TextOperation) → IsRegisterIn p (class op)
  class_gives text.Digits = of_text p text_part.Text
  class_gives text.Size = of_number p number_part.Index
  class_gives text.Unit =
      of_join p nan_value index_value (of_one_primitive p (primitive.Number NaN))
      (of_number p number_part.Index)
  class_gives text.Part = of_text p text_part.Text
  class_gives text.Character = of_text p text_part.Text
  class_gives text.IndexOf = of_number p number_part.Whole
  class_gives text.LastIndexOf = of_number p number_part.Whole
  class_gives text.Lower = of_text p text_part.Text
  class_gives text.Upper = of_text p text_part.Text
  class_gives text.ParseInt =
      of_join p nan_value whole_value (of_one_primitive p (primitive.Number NaN))
      (of_number p number_part.Whole)
  class_gives text.ParseFloat =
      of_join p nan_value whole_value (of_one_primitive p (primitive.Number NaN))
      (of_number p number_part.Whole)

  given_gives : (g : Outcome) → Gives p (given_of g)
  given_gives (Ok q) = of_one_primitive p q
  given_gives (Err why) = of_nothing p

  taken_gives : (op : TextOperation) (xs : List Taken)
      → Gives p (of_taken (row op) (class op) xs)
  taken_gives op xs = by (each_told xs)
    where
      by : (o : Option (List Primitive))
          → Gives p (option_map_or (λ qs. given_of (row op qs)) o (gives (class op)))
      by None = class_gives op
      by (Some qs) = given_gives (row op qs)

  choices_give : (f : List Taken → Abstracted) → ((xs : List Taken) → Gives p (f xs))
      → (xss : List (List Taken)) → Gives p (over_operands f xss)
  choices_give f each [] = each []
  choices_give f each (xs ∷ xss) =
      over_gives p (λ x. over_operands (λ rest. f (x ∷ rest)) xss)
      (λ x. choices_give (λ rest. f (x ∷ rest)) (λ rest. each (x ∷ rest)) xss) xs

  text_gives : (op : TextOperation) → IsOperation (on_values (text_operation op))
  text_gives op w vs = by (operands (sorts op) vs)
    where
      by : (o : Option (List (List Taken))) → IsRegisterIn p (option_map_or
          (λ xss. (over_operands (of_taken (row op) (class op)) xss).value) o no_value)
      by None = of_nothing p
      by (Some xss) = choices_give (of_taken (row op) (class op)) (taken_gives op) xss

  operations_give : AllByRecursion IsOperation operations
  operations_give = (
    one_gives is_object (λ w v. of_truths p _ _),
    (
      one_gives class_of (λ w v. let text = λ (l : Label). of_primitive
          (primitive.Text (class_name (class_of_site w.program l.site.0))) in
          of_each p (λ (l : Label). value_if (v.label l) (text l))
          (λ l. of_one_if p (v.label l) (text l)
          (of_one_primitive p (primitive.Text (class_name (class_of_site w.program l.site.0)))))
          (labels_of w.program)),
      (
        one_gives value_of (λ w v. let held = λ (l : Label). primitives_of (slot w l value_key) in
            of_each p (λ (l : Label). value_if (v.label l) (held l))
            (λ l. of_one_if p (v.label l) (held l) (of_primitives p (slot w l value_key)))
            (labels_of w.program)),
        (
          two_give has_own (λ w u v. of_truths p _ _),
          (
            two_give is_enumerable (λ w u v. of_truths p _ _),
            (
              two_give inherits (λ w u v. of_one_if p (has_labels w v) _ (of_truths p _ _)),
              (
                one_gives has_elements (λ w v. of_truths p _ _),
                all_text_operations IsOperation text_gives,
              ),
            ),
          ),
        ),
      ),
    ),
  )

  pub of_operation : (which : ℕ) (w : View) (vs : List AbstractValue)
      → IsRegisterIn p (operation which w vs).value
  of_operation which w vs =
      by_option IsOperation IsOperation (λ (r : AbstractOperation). r) (λ w vs. looked no_value)
      (slice_get operations which) (at_place IsOperation operations which operations_give)
      (λ r is. is) (λ w vs. of_nothing p) w vs

-- ---- what a node gives

module _ (w : View) (good : IsWellFormed w.program) (f : IsViewIn w) where
  abbrev p : Program
  p = w.program

  abbrev IsGiven : ℕ × AbstractState → Type 0
  IsGiven g = IsShapedIn p g.1

  abbrev pub AreGiven : Given → Type 0
  AreGiven given = AllByRecursion IsGiven given

  of_at : (r : Reg) → IsRegisterIn p (at w r)
  of_at r = f.state.registers r.0

  objects_at : (r : Reg) → AreLabels p (at w r).label
  objects_at r = (of_at r).labels

  of_get : (start : Labels) (keys : List Key) → IsRegisterIn p (read_value w start keys)
  of_get start keys = of_read p (get w start keys).value (get_labels w f start keys)

  goes_shaped : (b : Bool) (n : NodeId) (a : AbstractState) → IsShapedIn p a
      → AreGiven (goes b n a)
  goes_shaped b n a g = cond_both b ((n.0, a) ∷ []) [] AreGiven (λ _. (g, tt)) (λ _. tt)

  two_given : (xs ys : Given) → AreGiven xs → AreGiven ys → AreGiven (xs ++ ys)
  two_given xs ys left right = all_append IsGiven xs ys left right

  set_in_shaped : (a : AbstractState) (dst : Reg) (v : AbstractValue) (n : NodeId)
      → IsShapedIn p a → IsRegisterIn p v → AreGiven (sets_in w a dst v n)
  set_in_shaped a dst v n g h =
      goes_shaped (has_present w v) n (with_register a dst v) (register_shaped p a dst v g h)

  set_here : (dst : Reg) (v : AbstractValue) (n : NodeId) → IsRegisterIn p v
      → AreGiven (sets w dst v n)
  set_here dst v n h = set_in_shaped w.state dst v n f.state h

  all_given : (n : NodeId) (states : List AbstractState) → AllByRecursion (IsShapedIn p) states
      → AreGiven (all_go n states)
  all_given n states all =
      all_map (IsShapedIn p) IsGiven (λ (a : AbstractState). (n.0, a)) (λ a g. g) states all

  results_given : (dst : Reg) (n : NodeId) (rs : List Deletion)
      → AllByRecursion (λ (d : Deletion). IsRegisterIn p d.0 × IsShapedIn p d.1) rs
      → AreGiven (sets_results w dst n rs)
  results_given dst n [] all = tt
  results_given dst n (r ∷ rs) all =
      two_given (sets_in w r.1 dst r.0 n) (sets_results w dst n rs)
      (set_in_shaped r.1 dst r.0 n all.0.1 all.0.0) (results_given dst n rs all.1)

  of_new : (s : Site) → IsSite p s → IsRegisterIn p (of_label (new s))
  of_new s there = of_one_label p (new s) (at_site p s there)

  throws_given : (b : Bool) (i : NodeInfo) (error proto : Site) (text : List ℕ) → IsSite p error
      → IsSite p proto → AreGiven (throws w b i error proto text)
  throws_given b i error proto text there known =
      goes_shaped (b && is_short text) i.handler (with_error w error proto text)
      (register_shaped p _ thrown _ (object_shaped p p w.state error
      (λ b. error_own proto text) (λ b g. own_error p proto text known) f.state)
      (of_new error there))

  type_error_given : (b : Bool) (i : NodeInfo) (error : Site) (text : List ℕ) → IsSite p error
      → AreGiven (type_error w b i error text)
  type_error_given b i error text there =
      throws_given b i error _ text there (error_there p good error_kind.TypeError)

  makes_given : (b : Bool) (dst : Reg) (s : Site) (own : AbstractState → Own) (n : NodeId)
      → IsSite p s → ((a : AbstractState) → IsShapedIn p a → IsOwn p (own a))
      → AreGiven (goes b n (makes w dst s own))
  makes_given b dst s own n there each =
      goes_shaped b n (makes w dst s own) (register_shaped p _ dst _
      (object_shaped p p w.state s own each f.state) (of_new s there))

  scope_entered : (site : Site) (a : AbstractState) → IsSite p site → IsShapedIn p a
      → IsShapedIn p (enters_scope a site)
  scope_entered site a there g = register_shaped p a scope _ g (of_new site there)

  device_given : (dst : Reg) (i : NodeInfo) (o : Option Signature)
      → AreGiven (option_map_or (λ (s : Signature). sets w dst (device_value s.kinds) i.next) o [])
  device_given dst i None = tt
  device_given dst i (Some s) = set_here dst (device_value s.kinds) i.next (of_device p s.kinds)

  name_is : (name : NameId) → AreTextKeys (name_keys name)
  name_is name = (refl, tt)

  -- objects of a kind of primitives
  wraps_given : (dst : Reg) (site proto : Site) (c : Class) (v : AbstractValue) (next : NodeId)
      → IsSite p site → slice_get builtins.BUILTIN_CLASSES proto.0 ≡ Some c → AreLabels p v.label
      → AreGiven (wraps w dst site proto v next)
  wraps_given dst site proto c v next there is g =
      makes_given (has_present w v) dst site (λ a. wrapper_own proto v) next there
      (λ a h. own_wrapper p proto v (builtin_there p good proto c is) g)

  pub given_shaped : (x : Point) (i : NodeInfo) (arguments : Site → Bool) (n : Node)
      → AreMade p arguments (makings n) → AreGiven (transfer_node w x i n).states
  unfolding makings
  given_shaped x i g (node.Const dst q) sites = set_here dst _ i.next (of_one_primitive p q)
  given_shaped x i g (node.Move dst src) sites = set_here dst _ i.next (of_at src)
  given_shaped x i g (node.FindName dst name) sites =
      set_here dst _ i.next (of_found w f (at w scope).label (name_keys name) (objects_at scope))
  given_shaped x i g (node.ReadRef dst base name error) sites =
      let b = at w base in
      two_given _ _ (throws_given b.flags.null i error builtins.REFERENCE_ERROR_PROTOTYPE _
      sites.each.0.told.site.1 (error_there p good error_kind.ReferenceError))
      (set_here dst _ i.next (of_get b.label (name_keys name)))
  given_shaped x i g (node.ReadSoft dst base name) sites =
      let b = at w base in
      set_here dst _ i.next (of_join p (value_if b.flags.null undefined_value)
      (read_value w b.label (name_keys name))
      (of_one_if p b.flags.null undefined_value (of_undefined p))
      (of_get b.label (name_keys name)))
  given_shaped x i g (node.WriteRef base name src) sites =
      all_given i.next _ (put_shaped w f _ (name_keys name) (name_is name) (at w src)
      (objects_at src))
  given_shaped x i g (node.DeleteRef dst base name) sites =
      let start = (at w base).label in
      let truth = of_bools true false in
      two_given (goes (at w base).flags.null i.next (with_register w.state dst truth))
      (sets_results w dst i.next (delete_states w start (name_keys name)))
      (goes_shaped (at w base).flags.null i.next (with_register w.state dst truth)
      (register_shaped p w.state dst truth f.state (of_truths p true false)))
      (results_given dst i.next (delete_states w start (name_keys name))
      (delete_shaped w f start (name_keys name)))
  given_shaped x i g (node.ToObject dst src wrappers error) sites =
      let v = at w src in
      let itself = set_here dst (of_labels v.label) i.next
      (of_some_labels p v.label (objects_at src)) in
      let booleans = wraps_given dst wrappers.boolean builtins.BOOLEAN_PROTOTYPE class.Boolean
      (bools_of v) i.next sites.each.0.told.site.1 refl (no_objects p) in
      let numbers = wraps_given dst wrappers.number builtins.NUMBER_PROTOTYPE class.Number
      (numbers_of v) i.next sites.each.1.0.told.site.1 refl (no_objects p) in
      let texts = makes_given (has_text v.text) dst wrappers.text (λ a. text_own v.text) i.next
      sites.each.1.1.0.told.site.1 (λ a h. own_text p good v.text) in
      let refused = type_error_given (has_nullish v) i error nothing_message
      sites.each.1.1.1.0.told.site.1 in
      two_given _ _ itself (two_given _ _ booleans (two_given _ _ numbers
      (two_given _ _ texts refused)))
  given_shaped x i g (node.NeedObject src error) sites =
      two_given _ _ (goes_shaped (has_labels w (at w src)) i.next w.state f.state)
      (type_error_given (has_atoms (at w src)) i error not_an_object_message
      sites.each.0.told.site.1)
  given_shaped x i g (node.ReadProp dst object k) sites =
      set_here dst _ i.next (of_get (at w object).label (keys_in w k))
  given_shaped x i g (node.WriteProp object k src error) sites =
      let target = (at w object).label in
      let keys = keys_in w k in
      two_given _ _ (all_given i.next (put_states w target keys (at w src)) (put_shaped w f target
      keys (value_keys_are p (at w k)) (at w src) (objects_at src)))
      (throws_given (put_may_throw w target keys (at w src)) i error
      builtins.RANGE_ERROR_PROTOTYPE array_length_message sites.each.0.told.site.1
      (error_there p good error_kind.RangeError))
  given_shaped x i g (node.DeleteProp dst object k) sites =
      results_given dst i.next _ (delete_shaped w f (at w object).label (keys_in w k))
  given_shaped x i g (node.HasProp dst object k) sites =
      let q = get w (at w object).label (keys_in w k) in
      set_here dst _ i.next (of_truths p (may_have w q) (may_lack q))
  given_shaped x i g (node.InstanceOf dst left right not_function not_object) sites =
      let r = at w right in
      let is_other = has_atoms r || some_label w
      (λ l. r.label l && not (is_function_label p l)) in
      let lacks = has_non_object (instance_prototype w left right) in
      let value = instance_value w left right in
      let refused = type_error w lacks i not_object no_prototype_message in
      two_given (type_error w is_other i not_function no_function_message)
      (refused ++ sets w dst value i.next)
      (type_error_given is_other i not_function no_function_message sites.each.0.told.site.1)
      (two_given refused (sets w dst value i.next)
      (type_error_given lacks i not_object no_prototype_message sites.each.1.0.told.site.1)
      (set_here dst value i.next (of_truths p value.flags.is_true value.flags.is_false)))
  given_shaped x i g (node.NewObject dst site kind) sites =
      makes_given true dst site (λ a. empty_own kind) i.next sites.each.0.told.site.1
      (λ a h. own_empty p good kind)
  given_shaped x i g (node.MakeFunction dst function site proto_site) sites =
      let own = λ (a : AbstractState). function_own p function (a.register scope.0).label
      (new proto_site) in
      let proto = λ (a : AbstractState). prototype_own p (new site) in
      let made = with_objects p w.state site own proto_site proto in
      let at_first = sites.each.0.told.site.1 in
      let at_second = sites.each.1.0.told.site.1 in (
        register_shaped p made dst (of_label (new site)) (objects_shaped p p w.state site own
            proto_site proto (λ a h. own_function p good function (a.register scope.0).label
            (new proto_site) (h.registers scope.0).labels (at_site p proto_site at_second))
            (λ a h. own_prototype p good (new site) (at_site p site at_first)) f.state)
            (of_new site at_first),
        tt,
      )
  given_shaped x i g (node.Enter site None) sites =
      let own = activation_own p x.context.function None in
      let there = sites.each.0.told.site.1 in
      goes_shaped _ i.next (enters_scope (with_object p w.state site own) site)
      (scope_entered site _ there (object_shaped p p w.state site own
      (λ a h. own_activation p good x.context.function a h.registers None
      (λ t is. absurd (none-some t is))) f.state))
  given_shaped x i g (node.Enter site (Some list)) sites =
      let own = activation_own p x.context.function (Some list) in
      let other = arguments_own p x.context.function in
      goes_shaped _ i.next
      (enters_scope (with_objects p w.state site own list other) site)
      (scope_entered site _ sites.each.0.told.site.1 (objects_shaped p p w.state site own list other
      (λ a h. own_activation p good x.context.function a h.registers (Some list)
      (λ t is. subst (IsSite p) (same_Some list t is) sites.each.1.0.told.site.1))
      (λ a h. own_arguments p good x.context.function a h.registers) f.state))
  given_shaped x i g (node.Declare name) sites =
      let target = (at w scope).label in
      let k = key.Name name in
      let q : AbstractProperty =
      record { value = undefined_value; attrs = of_attrs DONT_DELETE } in
      two_given _ (goes (some_label w (λ l. target l && is_missing w l k)) i.next
      (declared w target k q)) (goes_shaped _ i.next w.state f.state)
      (goes_shaped _ i.next (declared w target k q)
      (declared_shaped w f target k q (text_in p k q refl (no_objects p))))
  given_shaped x i g (node.Bind name src read_only) sites =
      let k = key.Name name in
      let q : AbstractProperty =
      record { value = at w src; attrs = of_attrs (bound_attrs read_only) } in
      goes_shaped _ i.next (defined w (at w scope).label k q)
      (defined_shaped w f (at w scope).label k q (text_in p k q refl (objects_at src)))
  given_shaped x i g (node.PushScope site) sites =
      let own = λ (a : AbstractState). scope_own (a.register scope.0).label in
      goes_shaped true i.next (enters_scope (with_object p w.state site own) site)
      (scope_entered site _ sites.each.0.told.site.1 (object_shaped p p w.state site own
      (λ a h. own_scope p good (a.register scope.0).label (h.registers scope.0).labels) f.state))
  given_shaped x i g (node.Convert dst src kind other) sites =
      let v = at w src in
      set_here dst _ i.next (of_join p (value_if (is_kept w other) (of_labels v.label))
      (primitives_of v)
      (of_one_if p (is_kept w other) (of_labels v.label)
      (of_some_labels p v.label (objects_at src))) (of_primitives p v))
  given_shaped x i g (node.Unary dst op src) sites =
      set_here dst _ i.next (of_unary p w op (at w src))
  given_shaped x i g (node.Binary dst op a b) sites =
      set_here dst _ i.next (of_binary p w op (at w a) (at w b))
  given_shaped x i g (node.Branch src) sites =
      two_given (goes (at w src).flags.is_true i.next w.state) _
      (goes_shaped _ i.next w.state f.state) (goes_shaped _ i.other w.state f.state)
  given_shaped x i g (node.Call dst callee receiver args error) sites =
      type_error_given (has_other w (calls_at p) (at w callee)) i error not_a_function_message
      sites.each.0.told.site.1
  given_shaped x i g (node.New dst callee args site error) sites =
      type_error_given (has_other w (constructs_at p) (at w callee)) i error
      not_a_constructor_message sites.each.1.0.told.site.1
  given_shaped x i g (node.Names list object) sites = goes_shaped _ i.next w.state f.state
  given_shaped x i g (node.Pick list dst object) sites =
      two_given (sets w dst (names_shown w (at w object).label) i.next) _
      (set_here dst (names_shown w (at w object).label) i.next
      (of_shown p w (at w object).label)) (goes_shaped _ i.other w.state f.state)
  given_shaped x i g (node.Throw src) sites = set_in_shaped _ thrown _ i.handler f.state (of_at src)
  given_shaped x i g (node.Return src) sites = tt
  given_shaped x i g node.Escape sites = tt
  given_shaped x i g (node.Intrinsic dst which args) sites =
      set_here dst _ i.next (of_operation p which w (map (at w) args))
  given_shaped x i g (node.Device dst which) sites = device_given dst i _
  given_shaped x i g (node.Stop kind) sites = tt

  -- ---- calls

  prototype_labels : (n : Node) (k : ℕ) → AreLabels p (prototype_value w n k).label
  prototype_labels n k =
      let v = (get w (callees p w.state n k) (prototype_keys p)).value in
      let other = value_if (has_non_object v) (of_label (new builtins.OBJECT_PROTOTYPE)) in
      joined_objects p other.label v.label (of_one_if p (has_non_object v)
      (of_label (new builtins.OBJECT_PROTOTYPE))
      (of_new builtins.OBJECT_PROTOTYPE (object_there p good))).labels
      (get_labels w f (callees p w.state n k) (prototype_keys p))

  pub calling_shaped : (n : Node) (k : ℕ) → IsShapedIn p (calling_state w n k)
  calling_shaped (node.New dst callee list site error) k =
      let proto = prototype_value w (node.New dst callee list site error) k in
      object_shaped p p w.state site
      (λ (a : AbstractState). constructed_own (aged site proto))
      (λ a h. own_constructed p (aged site proto) (aged_objects p site proto
      (prototype_labels (node.New dst callee list site error) k))) f.state
  calling_shaped n k = f.state

  pub calling_view : (n : Node) (k : ℕ) → IsViewIn (calling w n k)
  calling_view n k = record { state = calling_shaped n k; entries = f.entries }

  returned_shaped : (a : AbstractState) (i : NodeInfo) (n : Node) (this v : AbstractValue)
      → IsShapedIn p a → IsRegisterIn p this → IsRegisterIn p v
      → AreGiven (returned w a i n this v)
  returned_shaped a i (node.Call dst callee receiver list error) this v g h k =
      set_in_shaped a dst v i.next g k
  returned_shaped a i (node.New dst callee list site error) this v g h k =
      set_in_shaped a dst (constructed this v) i.next g
      (of_join p (value_if (has_atoms v) this) (of_labels v.label)
      (of_one_if p (has_atoms v) this h) (of_some_labels p v.label k.labels))
  returned_shaped a i (node.Convert dst src kind other) this v g h k =
      set_in_shaped a dst v i.next g k
  returned_shaped a i n this v g h k = tt

  pub back_shaped : (e : Edge) (i : NodeInfo) (exit : AbstractState) (n : Node)
      → IsTrue (is_label p e.callee.receiver) → IsShapedIn p exit
      → AreGiven (given_back w e i exit n)
  back_shaped e i exit (node.Return src) of h =
      let a = composed p (calling_state w i.node e.callee.function.0) exit in
      returned_shaped a i i.node (renamed_value exit.mask (of_label e.callee.receiver))
      (exit.register src.0) (composed_shaped p p
      (calling_state w i.node e.callee.function.0) exit
      (calling_shaped i.node e.callee.function.0) h)
      (of_renamed p exit.mask (of_label e.callee.receiver) (of_one_label p e.callee.receiver of))
      (h.registers src.0)
  back_shaped e i exit node.Escape of h =
      let a = composed p (calling_state w i.node e.callee.function.0) exit in
      set_in_shaped a thrown (exit.register thrown.0) i.handler (composed_shaped p p
      (calling_state w i.node e.callee.function.0) exit
      (calling_shaped i.node e.callee.function.0) h) (h.registers thrown.0)
  back_shaped e i exit n of h = tt

  -- ---- arguments

  pub record AreArguments (g : Arguments) : Type 0 where
    pub parameter : (j : ℕ) → IsRegisterIn p (g.parameter j)
    pub rest : IsRegisterIn p g.rest
    pub count : IsRegisterIn p g.count

  values_are : (list : List Reg) → AllByRecursion (IsRegisterIn p) (values_of w list)
  values_are list =
      all_map (λ (r : Reg). Unit {0}) (IsRegisterIn p) (at w) (λ r u. of_at r) list
      (all_of (λ (r : Reg). Unit {0}) (λ r. tt) list)

  listed_are : (parameters : ℕ) (list : List Reg) → AreArguments (listed w parameters list)
  listed_are parameters list = record {
    parameter =
        λ j. or_undefined p (slice_get (values_of w list) j)
        (at_place (IsRegisterIn p) (values_of w list) j (values_are list));
    rest = of_join p undefined_value (join_values (drop parameters (values_of w list)))
        (of_undefined p) (of_values p (drop parameters (values_of w list))
        (all_drop (IsRegisterIn p) parameters (values_of w list) (values_are list)));
    count = of_constant p (length list);
  }

  elements_are : (v : AbstractValue) → AreArguments (elements w v)
  elements_are v =
      let q = (get w v.label (length_key ∷ [])).value in
      let each = of_join p undefined_value (read_value w v.label (index_keys p))
      (of_undefined p) (of_get v.label (index_keys p)) in
      record {
        parameter = λ j. each;
        rest = each;
        count =
            of_join p (value_if (has_labels w q) (whole_constant 0)) (element_count q)
            (of_one_if p (has_labels w q) (whole_constant 0) (of_constant p 0))
            (of_join p (value_if q.flags.absent (whole_constant 0)) _
            (of_one_if p q.flags.absent (whole_constant 0) (of_constant p 0))
            (of_uint32 p (to_num (primitives_of q)).value));
      }

  tail_are : (caller : FnId) → AreArguments (tail w caller)
  tail_are caller =
      let rest = f.state.registers (rest_register (parameters_of p caller)) in
      record {
        parameter = λ j. rest;
        rest = rest;
        count = by (w.state.register count_register)
            (one_number p (w.state.register count_register));
      }
    where
      by : (v : AbstractValue) (o : Option ℤ) → IsRegisterIn p (count_below w v o)
      by v (Some (pos n)) = of_constant p (n - 1)
      by v (Some (negsuc n)) = of_constant p 0
      by v None = of_one_if p (has_some_part w v) whole_value (of_number p number_part.Whole)

  given_are : (caller : FnId) (parameters : ℕ) (n : Node)
      → AreArguments (given w caller parameters n)
  given_are caller parameters (node.Call dst callee receiver (args.Registers list) error) =
      listed_are parameters list
  given_are caller parameters (node.Call dst callee receiver (args.Elements array) error) =
      elements_are (at w array)
  given_are caller parameters (node.Call dst callee receiver args.Tail error) = tail_are caller
  given_are caller parameters (node.New dst callee list site error) = listed_are parameters list
  given_are caller parameters n = listed_are parameters []

  callees_labels : (n : Node) (k : ℕ) → AreLabels p (callees p w.state n k)
  callees_labels (node.Call dst callee receiver list error) k =
      left_objects p (at w callee).label (runs (calls_at p) k) (objects_at callee)
  callees_labels (node.New dst callee list site error) k =
      left_objects p (at w callee).label (runs (constructs_at p) k) (objects_at callee)
  callees_labels n k = no_objects p

  of_callee : (n : Node) (k : ℕ) → IsRegisterIn p (callee_value w n k)
  of_callee n k =
      cond_both (is_conversion n) undefined_value (of_labels (callees p w.state n k))
      (IsRegisterIn p) (λ _. of_undefined p)
      (λ _. of_some_labels p (callees p w.state n k) (callees_labels n k))

  of_chain : (n : Node) (k : ℕ) → IsRegisterIn p (chain_value w n k)
  of_chain n k =
      cond_both (is_conversion n) (of_label (new global)) _ (IsRegisterIn p)
      (λ _. of_new global (builtin_there p good global class.Object refl))
      (λ _. of_some_labels p _ (led_to p (callees p w.state n k)
      (λ l. (slot w l scope_key).label) (λ l. slot_labels w f l scope_key) (labels_of p)))

-- .. and the registers at entry
pub entry_shaped : (p : Program) (parameters : ℕ) (receiver chain callee : AbstractValue)
    (g : Arguments) → IsRegisterIn p receiver → IsRegisterIn p chain → IsRegisterIn p callee
    → ((j : ℕ) → IsRegisterIn p (g.parameter j)) → IsRegisterIn p g.rest → IsRegisterIn p g.count
    → IsShapedIn p (entry_of parameters receiver chain callee g)
entry_shaped p parameters receiver chain callee g r c k each rest count =
    let values = entry_values parameters receiver chain callee g in
    let parameter = all_map (λ (j : ℕ). Unit {0}) (IsRegisterIn p) g.parameter (λ j u. each j)
    (range_with_len 0 parameters) (all_of (λ (j : ℕ). Unit {0}) (λ j. tt) _) in
    let all : AllByRecursion (IsRegisterIn p) values = (
      of_undefined p,
      (
        r,
        (
          c,
          (
            k,
            (
              count,
              all_append (IsRegisterIn p) (map g.parameter (range_with_len 0 parameters))
                  (g.rest ∷ []) parameter (rest, tt),
            ),
          ),
        ),
      ),
    ) in
    entered_shaped p (entry_of parameters receiver chain callee g).register
    (λ n. or_undefined p (slice_get values n) (at_place (IsRegisterIn p) values n all))

pub callee_shaped : (w : View) → IsWellFormed w.program → IsViewIn w → (e : Edge) (n : Node)
    → IsTrue (is_label w.program e.callee.receiver) → IsShapedIn w.program (entered_by w e n).state
callee_shaped w good f e n of =
    let k = e.callee.function.0 in
    let c = calling w n k in
    let h = calling_view w good f n k in
    let parameters = parameters_of w.program e.callee.function in
    let are = given_are c good h e.caller.function parameters n in
    entry_shaped w.program parameters (of_label e.callee.receiver) (chain_value c n k)
    (callee_value c n k) (given c e.caller.function parameters n)
    (of_one_label w.program e.callee.receiver of) (of_chain c good h n k) (of_callee c good h n k)
    are.parameter are.rest are.count
