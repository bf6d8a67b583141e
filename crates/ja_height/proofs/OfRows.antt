-- What each row of nodes and of calls gives of a state of a program is within the program.
use Rattle.std.specs.Prelude.{◌<◌, ◌&&◌, ◌++◌, ℕ, Bool, true, false, not, ◌||◌, List, [], ◌∷◌, map, slice_get, Option, Some, None, Ok, Err, IfSome, unwrap_or}
use Rattle.std.specs.List.{AllByRecursion}
use Rattle.std.specs.Option.{option_map_or, option_to_list}
use Rattle.std.proofs.Common.{refl}
use Rattle.std.proofs.lemmas.Bool.{cond_both}
use Rattle.ja_base.specs.declared.ids.Label.{Label}
use Rattle.ja_base.specs.declared.ids.NodeId.{NodeId}
use Rattle.ja_base.specs.declared.ids.Reg.{Reg}
use Rattle.ja_base.specs.declared.ids.Site.{Site}
use Rattle.ja_base.proofs.Lists.{all_append}
use Rattle.ja_prim.specs.declared.signature.Signature.{Signature}
use Rattle.ja_prim.specs.declared.primitive.Num.TheVariants.{NaN}
use Rattle.ja_prim.specs.declared.primitive.Primitive.{Primitive}
use Rattle.ja_prim.specs.declared.primitive.Primitive.TheVariants as primitive
use Rattle.ja_prim.specs.Texts.{is_short}
use Rattle.ja_graph.specs.declared.attrs.TheConstants.{DONT_DELETE}
use Rattle.ja_graph.specs.declared.builtins.TheConstants as builtins
use Rattle.ja_graph.specs.declared.node.Node.{Node}
use Rattle.ja_graph.specs.declared.node.Node.TheVariants as node
use Rattle.ja_graph.specs.declared.node.NodeInfo.{NodeInfo}
use Rattle.ja_graph.specs.declared.program.Class.TheVariants as class
use Rattle.ja_graph.specs.declared.program.Program.{Program}
use Rattle.ja_graph.specs.Node.{makings, register_set}
use Rattle.ja_graph.specs.WellFormed.{IsWellFormed}
use Rattle.ja_machine.specs.Frames.{thrown, scope}
use Rattle.ja_machine.specs.Intrinsics.{class_name}
use Rattle.ja_machine.specs.Machine.{class_of_site}
use Rattle.ja_machine.specs.Nodes.{bound_attrs, name_text}
use Rattle.ja_machine.specs.declared.machine.TextOperation.{TextOperation}
use Rattle.ja_machine.specs.declared.machine.TextOperation.TheVariants as text
use Rattle.ja_machine.specs.TextOperations.{row}
use Rattle.ja_machine.specs.TextOperations.{Given as Outcome}
use Rattle.ja_machine.proofs.Lists.{all_map}
use Rattle.ja_machine.proofs.Nodes.{AreMade}
use Rattle.ja_abstract.specs.declared.abstraction.Key.TheVariants as key
use Rattle.ja_abstract.specs.declared.abstraction.NumberPart.TheVariants as number_part
use Rattle.ja_abstract.specs.declared.abstraction.TextPart.TheVariants as text_part
use Rattle.ja_abstract.specs.AbstractValue.{AbstractValue, AbstractProperty, no_value, of_attrs, of_label, of_labels, of_primitive, undefined_value, has_text}
use Rattle.ja_abstract.specs.AbstractState.{AbstractState, labels_of, new, with_register}
use Rattle.ja_abstract.specs.Made.{Own, activation_own, arguments_own, empty_own, error_own, function_own, prototype_own, scope_own, text_own, value_key, with_object, with_objects, wrapper_own}
use Rattle.ja_abstract.specs.Operations.{AbstractOperation, Looked, class_of, has_elements, has_own, inherits, is_enumerable, is_object, looked, of_one, of_two, of_values as on_values, operation, operations, value_of}
use Rattle.ja_abstract.specs.PrimitiveOperations.{Taken, class, each_told, given_of, index_value, of_taken, operands, over_operands, sorts, text_operation}
use Rattle.ja_abstract.proofs.TextOperations.{all_text_operations}
use Rattle.ja_abstract.specs.Primitives.{Abstracted, gives, nan_value, of_bools, whole_value}
use Rattle.ja_abstract.specs.Reading.{View, get, has_present, may_have, may_lack, names_shown, slot, some_label}
use Rattle.ja_abstract.specs.Values.{has_atoms, has_labels, has_non_object, is_function_label, has_nullish, primitives_of, value_if}
use Rattle.ja_abstract.specs.Writes.{Deletion, declared, defined, delete_states, is_missing, or_global, put_may_throw, put_states}
use Rattle.ja_rows.specs.BuiltIns.{device_value}
use Rattle.ja_rows.specs.Calls.{given}
use Rattle.ja_machine.specs.Events.{array_length_message, no_function_message, no_prototype_message, not_a_constructor_message, not_a_function_message, not_an_object_message, nothing_message, unbound_message}
use Rattle.ja_rows.specs.Edges.{calls_at, constructs_at, has_other}
use Rattle.ja_rows.specs.Names.{without_arrays}
use Rattle.ja_rows.specs.Objects.{bools_of, numbers_of, wraps, wraps_text}
use Rattle.ja_rows.specs.Out.{Given, Point, all_go, at, goes, keys_in, makes, name_keys, read_value, sets, sets_in, sets_results, throws, type_error, with_error}
use Rattle.ja_rows.specs.Properties.{instance_prototype, instance_value}
use Rattle.ja_rows.specs.Scopes.{enters_scope}
use Rattle.ja_rows.specs.Transfer.{transfer_node}
use Rattle.ja_height.proofs.States.{IsOf}
use Rattle.ja_height.proofs.OfValues.{of_binary, of_number, over_gives, of_device, of_each, of_join, of_nothing, of_one_if, of_one_primitive, of_primitives, of_read, of_shown, of_some_labels, of_text, of_truths, of_unary, of_undefined, Gives}
use Rattle.ja_height.proofs.OfStates.{AreEntriesOf, IsKept, IsOwnOf, object_kept, objects_kept, register_kept}
use Rattle.ja_height.proofs.OfSteps.{IsSite, at_place, builtin_there, declared_kept, defined_kept, delete_kept, of_found, of_get, of_site, own_activation, own_arguments, own_empty, own_error, own_function, own_prototype, own_scope, own_text, own_wrapper, put_kept, site_label}

-- what holds of each of them, and where there is none, holds of both ways
by_option : {A B : Type 0} (P : A → Type 0) (Q : B → Type 0) (f : A → B) (b : B) (o : Option A)
    → IfSome o P → ((a : A) → P a → Q (f a)) → Q b → Q (option_map_or f o b)
by_option P Q f b None some each none = none
by_option P Q f b (Some a) some each none = each a some

-- ---- the operations of the built-in functions give no objects

module _ (p : Program) where
  or_undefined : (o : Option AbstractValue) → IfSome o (IsOf p)
      → IsOf p (unwrap_or o undefined_value)
  or_undefined None f = of_undefined p
  or_undefined (Some v) f = f

  abbrev IsOperation : AbstractOperation → Type 0
  IsOperation r = (w : View) (vs : List AbstractValue) → IsOf p (r w vs).value

  one_gives : (f : View → AbstractValue → Looked)
      → ((w : View) (v : AbstractValue) → IsOf p (f w v).value) → IsOperation (of_one f)
  one_gives f each w [] = of_nothing p
  one_gives f each w (v ∷ []) = each w v
  one_gives f each w (u ∷ v ∷ vs) = of_nothing p

  two_give : (f : View → AbstractValue → AbstractValue → Looked)
      → ((w : View) (u v : AbstractValue) → IsOf p (f w u v).value) → IsOperation (of_two f)
  two_give f each w [] = of_nothing p
  two_give f each w (v ∷ []) = of_nothing p
  two_give f each w (u ∷ v ∷ []) = each w u v
  two_give f each w (u ∷ v ∷ x ∷ vs) = of_nothing p

  -- those on texts and numbers
  class_gives : (op : TextOperation) → IsOf p (class op)
  class_gives text.Digits = of_text p text_part.Text
  class_gives text.Size = of_number p number_part.Index
  class_gives text.Unit =
      of_join p nan_value index_value (of_one_primitive p (primitive.Number NaN))
      (of_number p number_part.Index)
  class_gives text.Part = of_text p text_part.Text
  class_gives text.Character = of_text p text_part.Text
  class_gives text.IndexOf = of_number p number_part.Whole
  class_gives text.LastIndexOf = of_number p number_part.Whole
  class_gives text.Lower = of_text p text_part.Text
  class_gives text.Upper = of_text p text_part.Text
  class_gives text.ParseInt =
      of_join p nan_value whole_value (of_one_primitive p (primitive.Number NaN))
      (of_number p number_part.Whole)
  class_gives text.ParseFloat =
      of_join p nan_value whole_value (of_one_primitive p (primitive.Number NaN))
      (of_number p number_part.Whole)

  given_gives : (g : Outcome) → Gives p (given_of g)
  given_gives (Ok q) = of_one_primitive p q
  given_gives (Err why) = of_nothing p

  taken_gives : (op : TextOperation) (xs : List Taken)
      → Gives p (of_taken (row op) (class op) xs)
  taken_gives op xs = by (each_told xs)
    where
      by : (o : Option (List Primitive))
          → Gives p (option_map_or (λ qs. given_of (row op qs)) o (gives (class op)))
      by None = class_gives op
      by (Some qs) = given_gives (row op qs)

  choices_give : (f : List Taken → Abstracted) → ((xs : List Taken) → Gives p (f xs))
      → (xss : List (List Taken)) → Gives p (over_operands f xss)
  choices_give f each [] = each []
  choices_give f each (xs ∷ xss) =
      over_gives p (λ x. over_operands (λ rest. f (x ∷ rest)) xss)
      (λ x. choices_give (λ rest. f (x ∷ rest)) (λ rest. each (x ∷ rest)) xss) xs

  text_gives : (op : TextOperation) → IsOperation (on_values (text_operation op))
  text_gives op w vs = by (operands (sorts op) vs)
    where
      by : (o : Option (List (List Taken))) → IsOf p (option_map_or
          (λ xss. (over_operands (of_taken (row op) (class op)) xss).value) o no_value)
      by None = of_nothing p
      by (Some xss) = choices_give (of_taken (row op) (class op)) (taken_gives op) xss

  operations_give : AllByRecursion IsOperation operations
  operations_give = (
    one_gives is_object (λ w v. of_truths p _ _),
    (
      one_gives class_of (λ w v. let text = λ (l : Label). of_primitive
          (primitive.Text (class_name (class_of_site w.program l.site.0))) in
          of_each p (λ (l : Label). value_if (v.label l) (text l))
          (λ l. of_one_if p (v.label l) (text l) (of_one_primitive p
          (primitive.Text (class_name (class_of_site w.program l.site.0)))))
          (labels_of w.program)),
      (
        one_gives value_of (λ w v. let held = λ (l : Label). primitives_of (slot w l value_key) in
            of_each p (λ (l : Label). value_if (v.label l) (held l))
            (λ l. of_one_if p (v.label l) (held l) (of_primitives p (slot w l value_key)))
            (labels_of w.program)),
        (
          two_give has_own (λ w u v. of_truths p _ _),
          (
            two_give is_enumerable (λ w u v. of_truths p _ _),
            (
              two_give inherits (λ w u v. of_one_if p (has_labels w v) _ (of_truths p _ _)),
              (
                one_gives has_elements (λ w v. of_truths p _ _),
                all_text_operations IsOperation text_gives,
              ),
            ),
          ),
        ),
      ),
    ),
  )

  pub of_operation : (which : ℕ) (w : View) (vs : List AbstractValue)
      → IsOf p (operation which w vs).value
  of_operation which w vs =
      by_option IsOperation IsOperation (λ (r : AbstractOperation). r) (λ w vs. looked no_value)
      (slice_get operations which) (at_place IsOperation operations which operations_give)
      (λ r is. is) (λ w vs. of_nothing p) w vs

-- ---- what a node gives

module _ (w : View) (good : IsWellFormed w.program) (count : ℕ) (f : IsKept w.program count w.state)
    (g : AreEntriesOf w.program w.entries) (thrown_there : thrown.0 < count)
    (scope_there : scope.0 < count) where
  abbrev p : Program
  p = w.program

  abbrev IsGiven : ℕ × AbstractState → Type 0
  IsGiven s = IsKept p count s.1

  abbrev pub AreGiven : Given → Type 0
  AreGiven given = AllByRecursion IsGiven given

  abbrev pub IsRegister : Reg → Type 0
  IsRegister r = r.0 < count

  of_at : (r : Reg) → IsOf p (at w r)
  of_at r = f.values r.0

  goes_kept : (b : Bool) (n : NodeId) (a : AbstractState) → IsKept p count a → AreGiven (goes b n a)
  goes_kept b n a h = cond_both b ((n.0, a) ∷ []) [] AreGiven (λ _. (h, tt)) (λ _. tt)

  two_given : (xs ys : Given) → AreGiven xs → AreGiven ys → AreGiven (xs ++ ys)
  two_given xs ys left right = all_append IsGiven xs ys left right

  pub set_in_kept : (a : AbstractState) (dst : Reg) (v : AbstractValue) (n : NodeId)
      → IsRegister dst → IsKept p count a → IsOf p v → AreGiven (sets_in w a dst v n)
  set_in_kept a dst v n there h of =
      goes_kept (has_present w v) n (with_register a dst v)
      (register_kept p count a dst v there h of)

  set_here : (dst : Reg) (v : AbstractValue) (n : NodeId) → IsRegister dst → IsOf p v
      → AreGiven (sets w dst v n)
  set_here dst v n there of = set_in_kept w.state dst v n there f of

  all_given : (n : NodeId) (states : List AbstractState)
      → AllByRecursion (IsKept p count) states → AreGiven (all_go n states)
  all_given n states all =
      all_map (IsKept p count) IsGiven (λ (a : AbstractState). (n.0, a)) (λ a h. h) states all

  results_given : (dst : Reg) (n : NodeId) (rs : List Deletion) → IsRegister dst
      → AllByRecursion (λ (d : Deletion). IsOf p d.0 × IsKept p count d.1) rs
      → AreGiven (sets_results w dst n rs)
  results_given dst n [] there all = tt
  results_given dst n (r ∷ rs) there all =
      two_given (sets_in w r.1 dst r.0 n) (sets_results w dst n rs)
      (set_in_kept r.1 dst r.0 n there all.0.1 all.0.0) (results_given dst n rs there all.1)

  throws_given : (b : Bool) (i : NodeInfo) (error proto : Site) (text : List ℕ)
      → IsSite p good error → IsSite p good proto → AreGiven (throws w b i error proto text)
  throws_given b i error proto text error_there proto_there =
      goes_kept (b && is_short text) i.handler (with_error w error proto text)
      (register_kept p count _ thrown _ thrown_there (object_kept p count w.state error
      (λ b. error_own proto text) (λ b h. own_error p good proto text proto_there) f)
      (of_site p good error error_there))

  type_error_there : IsSite p good builtins.TYPE_ERROR_PROTOTYPE
  type_error_there = builtin_there p good builtins.TYPE_ERROR_PROTOTYPE class.Error refl

  type_error_given : (b : Bool) (i : NodeInfo) (error : Site) (text : List ℕ)
      → IsSite p good error → AreGiven (throws w b i error builtins.TYPE_ERROR_PROTOTYPE text)
  type_error_given b i error text there =
      throws_given b i error builtins.TYPE_ERROR_PROTOTYPE text there type_error_there

  makes_given : (b : Bool) (dst : Reg) (s : Site) (own : AbstractState → Own) (n : NodeId)
      → IsRegister dst → IsSite p good s
      → ((a : AbstractState) → IsKept p count a → IsOwnOf p (own a))
      → AreGiven (goes b n (makes w dst s own))
  makes_given b dst s own n dst_there there each =
      goes_kept b n (makes w dst s own) (register_kept p count _ dst _ dst_there
      (object_kept p count w.state s own each f) (of_site p good s there))

  scope_entered : (site : Site) (a : AbstractState) → IsSite p good site → IsKept p count a
      → IsKept p count (enters_scope a site)
  scope_entered site a there h =
      register_kept p count a scope _ scope_there h (of_site p good site there)

  device_given : (dst : Reg) (i : NodeInfo) (o : Option Signature) → IsRegister dst
      → AreGiven (option_map_or (λ (s : Signature). sets w dst (device_value s.kinds) i.next) o [])
  device_given dst i None there = tt
  device_given dst i (Some s) there =
      set_here dst (device_value s.kinds) i.next there (of_device p s.kinds)

  of_chain : (a : AbstractState) → IsKept p count a → IsOf p (of_labels (a.register scope.0).label)
  of_chain a h = of_some_labels p (a.register scope.0).label (h.values scope.0).label

  pub given_kept : (x : Point) (i : NodeInfo) (arguments : Site → Bool) (n : Node)
      → AllByRecursion IsRegister (option_to_list (register_set n))
      → AreMade p arguments (makings n) → AreGiven (transfer_node w x i n).states
  unfolding makings register_set
  given_kept x i u (node.Const dst q) dsts sites =
      set_here dst _ i.next dsts.0 (of_one_primitive p q)
  given_kept x i u (node.Move dst src) dsts sites = set_here dst _ i.next dsts.0 (of_at src)
  given_kept x i u (node.FindName dst name) dsts sites =
      set_here dst _ i.next dsts.0 (of_found w count f g (at w scope).label (name_keys name)
      (of_at scope).label)
  given_kept x i u (node.ReadRef dst base name error) dsts sites =
      two_given (throws w (at w base).flags.null i error builtins.REFERENCE_ERROR_PROTOTYPE
      (unbound_message (name_text p name)))
      (sets w dst (read_value w (at w base).label (name_keys name)) i.next)
      (throws_given (at w base).flags.null i error builtins.REFERENCE_ERROR_PROTOTYPE
      (unbound_message (name_text p name)) sites.each.0.told.site.1
      (builtin_there p good builtins.REFERENCE_ERROR_PROTOTYPE class.Error refl))
      (set_here dst _ i.next dsts.0 (of_read p _
      (of_get w count f g (at w base).label (name_keys name))))
  given_kept x i u (node.ReadSoft dst base name) dsts sites =
      set_here dst _ i.next dsts.0 (of_join p (value_if (at w base).flags.null undefined_value)
      (read_value w (at w base).label (name_keys name))
      (of_one_if p (at w base).flags.null undefined_value (of_undefined p))
      (of_read p _ (of_get w count f g (at w base).label (name_keys name))))
  given_kept x i u (node.WriteRef base name src) dsts sites =
      all_given i.next _ (put_kept w count f g (without_arrays p (or_global (at w base)))
      (name_keys name) (at w src) (of_at src))
  given_kept x i u (node.DeleteRef dst base name) dsts sites =
      let start = (at w base).label in
      let truth = of_bools true false in
      two_given (goes (at w base).flags.null i.next (with_register w.state dst truth))
      (sets_results w dst i.next (delete_states w start (name_keys name)))
      (goes_kept (at w base).flags.null i.next (with_register w.state dst truth)
      (register_kept p count w.state dst truth dsts.0 f (of_truths p true false)))
      (results_given dst i.next (delete_states w start (name_keys name)) dsts.0
      (delete_kept w count f g start (name_keys name)))
  given_kept x i u (node.ToObject dst src wrappers error) dsts sites =
      let v = at w src in
      let boolean = sites.each.0.told.site.1 in
      let number = sites.each.1.0.told.site.1 in
      let text = sites.each.1.1.0.told.site.1 in
      let wrong = sites.each.1.1.1.0.told.site.1 in
      let bools = wraps w dst wrappers.boolean builtins.BOOLEAN_PROTOTYPE (bools_of v) i.next in
      let numbers = wraps w dst wrappers.number builtins.NUMBER_PROTOTYPE (numbers_of v) i.next in
      let texts = wraps_text w dst wrappers.text v i.next in
      let refused = type_error w (has_nullish v) i error nothing_message in
      two_given (sets w dst (of_labels v.label) i.next) (bools ++ (numbers ++ (texts ++ refused)))
      (set_here dst (of_labels v.label) i.next dsts.0 (of_some_labels p v.label (of_at src).label))
      (two_given bools (numbers ++ (texts ++ refused)) (makes_given (has_present w (bools_of v)) dst
      wrappers.boolean (λ a. wrapper_own builtins.BOOLEAN_PROTOTYPE (bools_of v)) i.next dsts.0
      boolean (λ a h. own_wrapper p good builtins.BOOLEAN_PROTOTYPE (bools_of v)
      (builtin_there p good builtins.BOOLEAN_PROTOTYPE class.Boolean refl)
      (of_truths p v.flags.is_true v.flags.is_false)))
      (two_given numbers (texts ++ refused) (makes_given (has_present w (numbers_of v)) dst
      wrappers.number (λ a. wrapper_own builtins.NUMBER_PROTOTYPE (numbers_of v)) i.next dsts.0
      number (λ a h. own_wrapper p good builtins.NUMBER_PROTOTYPE (numbers_of v)
      (builtin_there p good builtins.NUMBER_PROTOTYPE class.Number refl)
      (record { label = (of_nothing p).label })))
      (two_given texts refused (makes_given (has_text v.text) dst wrappers.text
      (λ a. text_own v.text) i.next dsts.0 text (λ a h. own_text p good v.text))
      (type_error_given (has_nullish v) i error nothing_message wrong))))
  given_kept x i u (node.NeedObject src error) dsts sites =
      let refused = type_error w (has_atoms (at w src)) i error not_an_object_message in
      two_given (goes (has_labels w (at w src)) i.next w.state) refused
      (goes_kept (has_labels w (at w src)) i.next w.state f)
      (type_error_given (has_atoms (at w src)) i error not_an_object_message
      sites.each.0.told.site.1)
  given_kept x i u (node.ReadProp dst object k) dsts sites =
      set_here dst _ i.next dsts.0 (of_read p _
      (of_get w count f g (at w object).label (keys_in w k)))
  given_kept x i u (node.WriteProp object k src error) dsts sites =
      let wrong = put_may_throw w (at w object).label (keys_in w k) (at w src) in
      two_given (all_go i.next (put_states w (at w object).label (keys_in w k) (at w src)))
      (throws w wrong i error builtins.RANGE_ERROR_PROTOTYPE array_length_message)
      (all_given i.next _ (put_kept w count f g (at w object).label (keys_in w k) (at w src)
      (of_at src))) (throws_given wrong i error builtins.RANGE_ERROR_PROTOTYPE array_length_message
      sites.each.0.told.site.1
      (builtin_there p good builtins.RANGE_ERROR_PROTOTYPE class.Error refl))
  given_kept x i u (node.DeleteProp dst object k) dsts sites =
      results_given dst i.next (delete_states w (at w object).label (keys_in w k)) dsts.0
      (delete_kept w count f g (at w object).label (keys_in w k))
  given_kept x i u (node.HasProp dst object k) dsts sites =
      let q = get w (at w object).label (keys_in w k) in
      set_here dst (of_bools (may_have w q) (may_lack q)) i.next dsts.0
      (of_truths p (may_have w q) (may_lack q))
  given_kept x i u (node.InstanceOf dst left right not_function not_object) dsts sites =
      let r = at w right in
      let q = instance_prototype w left right in
      let is_other =
      has_atoms r || some_label w (λ l. r.label l && not (is_function_label p l)) in
      let no_function = type_error w is_other i not_function no_function_message in
      let no_prototype = type_error w (has_non_object q) i not_object no_prototype_message in
      let value = sets w dst (instance_value w left right) i.next in
      two_given no_function (no_prototype ++ value)
      (type_error_given is_other i not_function no_function_message sites.each.0.told.site.1)
      (two_given no_prototype value
      (type_error_given (has_non_object q) i not_object no_prototype_message
      sites.each.1.0.told.site.1)
      (set_here dst (instance_value w left right) i.next dsts.0 (of_truths p _ _)))
  given_kept x i u (node.NewObject dst site kind) dsts sites =
      makes_given true dst site (λ a. empty_own kind) i.next dsts.0 sites.each.0.told.site.1
      (λ a h. own_empty p good kind)
  given_kept x i u (node.MakeFunction dst function site proto_site) dsts sites =
      let own = λ (a : AbstractState). function_own p function (a.register scope.0).label
      (new proto_site) in
      let proto = λ (a : AbstractState). prototype_own p (new site) in
      let made = with_objects p w.state site own proto_site proto in
      let first = sites.each.0.told.site.1 in
      let second = sites.each.1.0.told.site.1 in (
        register_kept p count made dst (of_label (new site)) dsts.0 (objects_kept p count w.state
            site own proto_site proto (λ a h. own_function p good function
            (a.register scope.0).label (new proto_site) (of_chain a h)
            (site_label p good proto_site second))
            (λ a h. own_prototype p good (new site) (site_label p good site first)) f)
            (of_site p good site first),
        tt,
      )
  given_kept x i u (node.Enter site None) dsts sites =
      let own = activation_own p x.context.function None in
      goes_kept _ i.next (enters_scope (with_object p w.state site own) site)
      (scope_entered site _ sites.each.0.told.site.1 (object_kept p count w.state site own
      (λ a h. own_activation p good count x.context.function None a tt h) f))
  given_kept x i u (node.Enter site (Some list)) dsts sites =
      let own = activation_own p x.context.function (Some list) in
      let other = arguments_own p x.context.function in
      goes_kept _ i.next (enters_scope (with_objects p w.state site own list other) site)
      (scope_entered site _ sites.each.0.told.site.1 (objects_kept p count w.state site own list
      other (λ a h. own_activation p good count x.context.function (Some list) a
      sites.each.1.0.told.site.1 h) (λ a h. own_arguments p good count x.context.function a h) f))
  given_kept x i u (node.Declare name) dsts sites =
      let target = (at w scope).label in
      let q : AbstractProperty =
      record { value = undefined_value; attrs = of_attrs DONT_DELETE } in
      two_given _ (goes (some_label w (λ l. target l && is_missing w l (key.Name name))) i.next
      (declared w target (key.Name name) q)) (goes_kept _ i.next w.state f)
      (goes_kept _ i.next (declared w target (key.Name name) q)
      (declared_kept w count f g target (key.Name name) q (of_undefined p)))
  given_kept x i u (node.Bind name src read_only) dsts sites =
      let q : AbstractProperty =
      record { value = at w src; attrs = of_attrs (bound_attrs read_only) } in
      goes_kept _ i.next (defined w (at w scope).label (key.Name name) q)
      (defined_kept w count f g (at w scope).label (key.Name name) q (of_at src))
  given_kept x i u (node.PushScope site) dsts sites =
      let own = λ (a : AbstractState). scope_own (a.register scope.0).label in
      goes_kept true i.next (enters_scope (with_object p w.state site own) site)
      (scope_entered site _ sites.each.0.told.site.1 (object_kept p count w.state site own
      (λ a h. own_scope p good (a.register scope.0).label (of_chain a h)) f))
  given_kept x i u (node.Convert dst src kind other) dsts sites =
      set_here dst _ i.next dsts.0 (of_join p (value_if _ (of_labels (at w src).label))
      (primitives_of (at w src)) (of_one_if p _ (of_labels (at w src).label)
      (of_some_labels p (at w src).label (of_at src).label)) (of_primitives p (at w src)))
  given_kept x i u (node.Unary dst op src) dsts sites =
      set_here dst _ i.next dsts.0 (of_unary p w op (at w src))
  given_kept x i u (node.Binary dst op a b) dsts sites =
      set_here dst _ i.next dsts.0 (of_binary p w op (at w a) (at w b))
  given_kept x i u (node.Branch src) dsts sites =
      two_given (goes (at w src).flags.is_true i.next w.state) _ (goes_kept _ i.next w.state f)
      (goes_kept _ i.other w.state f)
  given_kept x i u (node.Call dst callee receiver args error) dsts sites =
      type_error_given (has_other w (calls_at p) (at w callee)) i error not_a_function_message
      sites.each.0.told.site.1
  given_kept x i u (node.New dst callee args site error) dsts sites =
      type_error_given (has_other w (constructs_at p) (at w callee)) i error
      not_a_constructor_message sites.each.1.0.told.site.1
  given_kept x i u (node.Names list object) dsts sites = goes_kept _ i.next w.state f
  given_kept x i u (node.Pick list dst object) dsts sites =
      two_given (sets w dst (names_shown w (at w object).label) i.next) _
      (set_here dst (names_shown w (at w object).label) i.next dsts.0
      (of_shown p w (at w object).label refl)) (goes_kept _ i.other w.state f)
  given_kept x i u (node.Throw src) dsts sites =
      set_here thrown _ i.handler thrown_there (of_at src)
  given_kept x i u (node.Return src) dsts sites = tt
  given_kept x i u node.Escape dsts sites = tt
  given_kept x i u (node.Intrinsic dst which list) dsts sites =
      set_here dst _ i.next dsts.0 (of_operation p which w (map (at w) list))
  given_kept x i u (node.Device dst which) dsts sites = device_given dst i _ dsts.0
  given_kept x i u (node.Stop kind) dsts sites = tt
