-- The state after a step of each kind of node is as it should be.
use Rattle.std.proofs.Common.{◌≡◌, ◌<◌, ℕ, suc, Bool, true, false, List, [], ◌∷◌, length, map, Some, None, Option, refl, sym, subst, arith}
use Rattle.std.specs.Prelude.{Result, Ok, Err, is_some, slice_get, ◌&&◌}
use Rattle.std.specs.List.{AllByRecursion}
use Rattle.std.specs.Option.{option_map, option_to_list}
use Rattle.std.proofs.lemmas.Bool.{eq-eqb, ne_eqb}
use Rattle.std.proofs.lemmas.Option.{option_and_then_some}
use lib.Chars.{codes}
use Rattle.ja_base.specs.declared.ids.FnId.{FnId}
use Rattle.ja_base.specs.declared.ids.NameId.{NameId}
use Rattle.ja_base.specs.declared.ids.Reg.{Reg}
use Rattle.ja_base.specs.declared.ids.ScopeKind.{ScopeKind}
use Rattle.ja_base.specs.declared.ids.ScopeKind.TheVariants as scope_kind
use Rattle.ja_base.specs.declared.ids.Site.{Site}
use Rattle.ja_base.proofs.Lists.{all_weaker}
use Rattle.ja_graph.specs.declared.attrs.TheConstants.{DONT_DELETE}
use Rattle.ja_prim.specs.declared.primitive.Primitive.{Primitive}
use Rattle.ja_prim.specs.declared.primitive.Primitive.TheVariants as primitive
use Rattle.ja_prim.specs.Texts.{is_short}
use Rattle.ja_graph.specs.declared.builtins.TheConstants as builtins
use Rattle.ja_graph.specs.declared.node.Args.{Args}
use Rattle.ja_graph.specs.declared.node.ErrorKind.TheVariants as error_kind
use Rattle.ja_graph.specs.declared.node.Hint.{Hint}
use Rattle.ja_graph.specs.declared.node.Hint.TheVariants as hint
use Rattle.ja_graph.specs.declared.node.Made.{Made}
use Rattle.ja_graph.specs.declared.node.Made.TheVariants as made
use Rattle.ja_graph.specs.declared.node.Wrappers.{Wrappers}
use Rattle.ja_graph.specs.declared.node.Node.{Node}
use Rattle.ja_graph.specs.declared.node.Node.TheVariants as node
use Rattle.ja_graph.specs.declared.program.Class.TheVariants as class
use Rattle.ja_graph.specs.declared.program.Program.{Program}
use Rattle.ja_graph.specs.declared.program.SiteInfo.{SiteInfo}
use Rattle.ja_graph.specs.Node.{Making, making, making_if_any, makings, makes_arguments, class_of, register_set, registers_named, argument_registers}
use Rattle.ja_graph.specs.Program.{global}
use Rattle.ja_graph.specs.WellFormed.{IsWellFormed, IsFunction, IsRegister, IsDestination, NamesFunctions}
use Rattle.ja_machine.specs.declared.machine.Addr.{Addr}
use Rattle.ja_machine.specs.declared.machine.Value.{Value}
use Rattle.ja_machine.specs.declared.machine.Value.TheVariants as value
use Rattle.ja_machine.specs.declared.machine.Content.{Content}
use Rattle.ja_machine.specs.declared.machine.Content.TheVariants as contents
use Rattle.ja_machine.specs.declared.machine.Property.{Property}
use Rattle.ja_machine.specs.declared.machine.Object.{Object}
use Rattle.ja_machine.specs.declared.machine.Heap.{Heap}
use Rattle.ja_machine.specs.declared.machine.Put.{Put}
use Rattle.ja_machine.specs.declared.machine.Put.TheVariants as put_ends
use Rattle.ja_machine.specs.declared.machine.Answer.{Answer}
use Rattle.ja_machine.specs.declared.machine.Answer.TheVariants as answers
use Rattle.ja_machine.specs.declared.machine.Event.{Event}
use Rattle.ja_machine.specs.Heap.{own, has, content_at, class_at, count, with_new, new_address, is_shared, inherits_from}
use Rattle.ja_machine.specs.Writes.{put, define, delete, can_delete}
use Rattle.ja_machine.specs.Enumeration.{names}
use Rattle.ja_machine.specs.Values.{OperatorOutcome, unary, binary, key_of}
use Rattle.ja_machine.specs.Frames.{undefined, register_of, thrown, scope, parameters_of, object_or_undefined, with_remaining}
use Rattle.ja_machine.specs.Objects.{first_of, empty_object, wrapper, text_length}
use Rattle.ja_machine.specs.Objects.{scope_object, function_object, prototype_object}
use Rattle.ja_machine.specs.Objects.{constructed_object, sharing, with_parameters, with_property}
use Rattle.ja_machine.specs.Objects.{property_with, empty_arguments, arguments_object, activation}
use Rattle.ja_machine.specs.Events.{Standing, sets, sets_in, left_scope, goes_on, throws, sets_content, sets_outcome, unbound_message, nothing_message, not_an_object_message, array_length_message, no_function_message, no_prototype_message, not_a_function_message, not_a_constructor_message}
use Rattle.ja_machine.specs.Calls.{site_of, function_called, function_constructing, object_in, receiver_of, ArgumentsRead, given, enters, calls_with, calls, prototype_of_callee, register_values, constructs_with, constructs, stays, default_function, convert_step}
use Rattle.ja_machine.specs.Intrinsics.{Computation, rows}
use Rattle.ja_machine.specs.Nodes
use Rattle.ja_machine.specs.State.{IsObjectOf, IsValueOf, IsContentOf, IsState, enters_functions, HaveDistinctNames}
use Rattle.ja_machine.proofs.Lists.{either_way, all_at, all_from}
use Rattle.ja_machine.proofs.Distinct.{distinct-none, distinct-one, distinct-two, distinct-with_property, distinct-with_parameters, distinct-with_elements}
use Rattle.ja_machine.proofs.Heaps
use Rattle.ja_machine.proofs.Heaps.{Grows, value_grows}
use Rattle.ja_machine.proofs.Writing.{Hold}
use Rattle.ja_machine.proofs.Growing.{IsKept, IsFitting, linked_of, linked-with_new, row, kept-with_new, kept-with_two, kept-define, kept-delete, kept-put}
use Rattle.ja_machine.proofs.Nodes as program_nodes
use Rattle.ja_machine.proofs.Nodes.{IsMade, IsMadeAs, AreMade, InOrder}
use Rattle.ja_machine.proofs.Made.{fitting, hold-with_property, hold-with_parameters}
use Rattle.ja_machine.proofs.Made.{hold-with_elements}
use Rattle.ja_machine.proofs.Frames.{callee_value}
use Rattle.ja_machine.proofs.Reading.{read_content, base_value, AreGiven, AreFew, registers_given, registers_few, arguments_given, arguments_few, object_in_there, receiver_there, callee_prototype_there}
use Rattle.ja_machine.proofs.Standing as standing
use Rattle.ja_machine.proofs.Standing.{OnNext, OnStep, IsAt}

-- what is listed of an option holds of its value
of_option : {X : Type 0} (P : X → Type 0) (o : Option X) (x : X) → o ≡ Some x
    → AllByRecursion P (option_to_list o) → P x
of_option P o x e all = (subst (λ r. AllByRecursion P (option_to_list r)) e all).0

-- ---- the functions that are run

module _ (p : Program) (good : IsWellFormed p) where
  told_functions : (v : Value) (info : SiteInfo) → site_of p v ≡ Some info → NamesFunctions p info
  told_functions (value.Object a) info e =
      all_at (NamesFunctions p) p.sites good.name_functions a.site.0 info e
  told_functions (value.Primitive q) info e = absurd (cc)

  -- the function that is called
  called_fits : (v : Value) (f : FnId) → function_called p v ≡ Some f → IsFunction p f
  called_fits v f e =
      option_and_then_some (λ (i : SiteInfo). i.calls) (site_of p v) f e
      (λ info info_is is. of_option (IsFunction p) info.calls f is
      (told_functions v info info_is).calls)

  -- .. the one that constructs
  constructing_fits : (v : Value) (f : FnId) → function_constructing p v ≡ Some f → IsFunction p f
  constructing_fits v f e =
      option_and_then_some (λ (i : SiteInfo). i.constructs) (site_of p v) f e
      (λ info info_is is. of_option (IsFunction p) info.constructs f is
      (told_functions v info info_is).constructs)

  -- .. and the one that gives a default value
  default_fits : (h : Hint) → IsFunction p (default_function p h)
  default_fits hint.Number = good.value_first
  default_fits hint.Text = good.text_first

module _ (p : Program) (good : IsWellFormed p) (s : Standing) (here : IsAt p s) where
  abbrev Kept : Event → Type 0
  Kept e = OnNext (IsState p) e

  abbrev KeptIf : Option Event → Type 0
  KeptIf o = OnStep (IsState p) o

  abbrev Sets : Reg → Type 0
  Sets dst = IsDestination here.top.function dst

  abbrev Held : Value → Type 0
  Held v = IsValueOf s.conf.heap v

  sets_kept : (dst : Reg) (v : Value) → Sets dst → Held v → Kept (sets s dst v)
  sets_kept dst v to of_heap = standing.sets_kept p good s here dst v to of_heap

  object_prototype : IsObjectOf s.conf.heap (first_of builtins.OBJECT_PROTOTYPE)
  object_prototype = program_nodes.object_prototype_there p good s.conf.heap here.heap

  function_prototype : IsObjectOf s.conf.heap (first_of builtins.FUNCTION_PROTOTYPE)
  function_prototype = program_nodes.function_prototype_there p good s.conf.heap here.heap

  reference_error : (error : Site) (message : List ℕ) → IsMade p (making error class.Error)
      → Kept (throws s error builtins.REFERENCE_ERROR_PROTOTYPE message)
  reference_error error message made =
      standing.throws_kept p good s here error error_kind.ReferenceError message made

  type_error : (error : Site) (message : List ℕ) → IsMade p (making error class.Error)
      → Kept (throws s error builtins.TYPE_ERROR_PROTOTYPE message)
  type_error error message made =
      standing.throws_kept p good s here error error_kind.TypeError message made

  content_kept : (dst : Reg) (content : Content) → Sets dst → IsContentOf s.conf.heap content
      → Kept (sets_content s dst content)
  content_kept dst (contents.Value v) to of_heap = sets_kept dst v to of_heap
  content_kept dst contents.Row to of_heap = tt

  outcome_kept : (dst : Reg) (o : OperatorOutcome) → Sets dst → Kept (sets_outcome s dst o)
  outcome_kept dst None to = tt
  outcome_kept dst (Some (Ok q)) to = sets_kept dst (value.Primitive q) to tt
  outcome_kept dst (Some (Err stop)) to = tt

  -- ---- names

  find_name_kept : (dst : Reg) (name : NameId) (x : Value) → Sets dst → Held x
      → Kept (Nodes.find_name_step p s dst name x)
  find_name_kept dst name (value.Object a) to there =
      sets_kept dst (Nodes.find_name s.conf.heap a (Nodes.name_text p name)) to
      (base_value p s.conf.heap here.heap a (Nodes.name_text p name) there)
  find_name_kept dst name (value.Primitive q) to there = tt

  reads_kept : (dst : Reg) (a : Addr) (name : List ℕ) → Sets dst
      → Kept (sets_content s dst (Nodes.read s.conf.heap a name))
  reads_kept dst a name to =
      content_kept dst (Nodes.read s.conf.heap a name) to
      (read_content p s.conf.heap here.heap a name)

  read_ref_kept : (dst : Reg) (name : NameId) (error : Site) (x : Value) → Sets dst
      → IsMade p (making error class.Error) → Kept (Nodes.read_ref_step p s dst name error x)
  read_ref_kept dst name error (value.Object a) to made =
      reads_kept dst a (Nodes.name_text p name) to
  read_ref_kept dst name error (value.Primitive primitive.Null) to made =
      reference_error error (unbound_message (Nodes.name_text p name)) made
  read_ref_kept dst name error (value.Primitive primitive.Undefined) to made = tt
  read_ref_kept dst name error (value.Primitive (primitive.Bool q)) to made = tt
  read_ref_kept dst name error (value.Primitive (primitive.Number q)) to made = tt
  read_ref_kept dst name error (value.Primitive (primitive.Text q)) to made = tt

  read_soft_kept : (dst : Reg) (name : NameId) (x : Value) → Sets dst
      → Kept (Nodes.read_soft_step p s dst name x)
  read_soft_kept dst name (value.Object a) to = reads_kept dst a (Nodes.name_text p name) to
  read_soft_kept dst name (value.Primitive primitive.Null) to = sets_kept dst undefined to tt
  read_soft_kept dst name (value.Primitive primitive.Undefined) to = tt
  read_soft_kept dst name (value.Primitive (primitive.Bool q)) to = tt
  read_soft_kept dst name (value.Primitive (primitive.Number q)) to = tt
  read_soft_kept dst name (value.Primitive (primitive.Text q)) to = tt

  -- ---- writes

  after_put_kept : (wrong_length : Event) → Kept wrong_length → (now : Heap)
      → IsKept p s.conf.heap now → (end : Put) → Kept (Nodes.after_put s wrong_length now end)
  after_put_kept wrong_length wrong now k put_ends.Done = standing.goes_on_kept p good s here now k
  after_put_kept wrong_length wrong now k put_ends.Ignored =
      standing.goes_on_kept p good s here now k
  after_put_kept wrong_length wrong now k put_ends.RangeError = wrong
  after_put_kept wrong_length wrong now k put_ends.LengthObject = tt
  after_put_kept wrong_length wrong now k put_ends.SharedArgument = tt

  puts_kept : (wrong_length : Event) → Kept wrong_length → (a : Addr) (name : List ℕ) (v : Value)
      → Held v → Kept (Nodes.puts s wrong_length a name v)
  puts_kept wrong_length wrong a name v of_heap =
      after_put_kept wrong_length wrong (put s.conf.heap a name v).heap
      (kept-put p s.conf.heap a here.heap name v of_heap) (put s.conf.heap a name v).put

  write_ref_kept : (name : NameId) (v x : Value) → Held v → Kept (Nodes.write_ref_step p s name v x)
  write_ref_kept name v (value.Object a) of_heap =
      either_way Kept (Nodes.is_array_at s.conf.heap a) (Nodes.not_taken s)
      (Nodes.puts s (Nodes.not_taken s) a (Nodes.name_text p name) v) (λ e. tt)
      (λ e. puts_kept (Nodes.not_taken s) tt a (Nodes.name_text p name) v of_heap)
  write_ref_kept name v (value.Primitive primitive.Null) of_heap =
      puts_kept (Nodes.not_taken s) tt (first_of global) (Nodes.name_text p name) v of_heap
  write_ref_kept name v (value.Primitive primitive.Undefined) of_heap = tt
  write_ref_kept name v (value.Primitive (primitive.Bool q)) of_heap = tt
  write_ref_kept name v (value.Primitive (primitive.Number q)) of_heap = tt
  write_ref_kept name v (value.Primitive (primitive.Text q)) of_heap = tt

  deletes_kept : (dst : Reg) → Sets dst → (a : Addr) (name : List ℕ)
      → Kept (Nodes.deletes s dst a name)
  deletes_kept dst to a name =
      let gone : Bool = can_delete s.conf.heap a name in
      let now : Heap = delete s.conf.heap a name in
      either_way Kept (gone && is_shared s.conf.heap a name)
      (left_scope s scope_kind.SharedArgument) (sets_in s now dst (Nodes.bool_value gone))
      (λ e. tt) (λ e. standing.sets_in_kept p good s here now
      (kept-delete p s.conf.heap a here.heap name) dst (Nodes.bool_value gone) to tt)

  delete_ref_kept : (dst : Reg) (name : NameId) (x : Value) → Sets dst
      → Kept (Nodes.delete_ref_step p s dst name x)
  delete_ref_kept dst name (value.Object a) to = deletes_kept dst to a (Nodes.name_text p name)
  delete_ref_kept dst name (value.Primitive primitive.Null) to =
      sets_kept dst (Nodes.bool_value true) to tt
  delete_ref_kept dst name (value.Primitive primitive.Undefined) to = tt
  delete_ref_kept dst name (value.Primitive (primitive.Bool q)) to = tt
  delete_ref_kept dst name (value.Primitive (primitive.Number q)) to = tt
  delete_ref_kept dst name (value.Primitive (primitive.Text q)) to = tt

  -- ---- properties

  property_kept : (f : Addr → List ℕ → Event) → ((a : Addr) (name : List ℕ) → Kept (f a name))
      → (x : Value) (key : Option (List ℕ)) → Kept (Nodes.on_property s f x key)
  property_kept f each (value.Object a) (Some key) = each a key
  property_kept f each (value.Object a) None = tt
  property_kept f each (value.Primitive q) key = tt

  -- ---- objects

  -- a heap with an object more, made at a site of the node
  made_kept : (m : Making) (o : Object) → IsFitting p s.conf.heap m.site o
      → Hold (IsContentOf (with_new s.conf.heap m.site o)) o.properties
      → IsKept p s.conf.heap (with_new s.conf.heap m.site o)
  made_kept m o fits new = kept-with_new p s.conf.heap m.site o here.heap fits new

  made_there : (m : Making) (o : Object) → IsFitting p s.conf.heap m.site o
      → IsObjectOf (with_new s.conf.heap m.site o) (new_address s.conf.heap m.site)
  made_there m o fits =
      Heaps.new_there s.conf.heap m.site o (row p s.conf.heap m.site o
      (linked_of p s.conf.heap here.heap) fits)

  makes_kept : (dst : Reg) (m : Making) (o : Object) → Sets dst → IsFitting p s.conf.heap m.site o
      → Hold (IsContentOf (with_new s.conf.heap m.site o)) o.properties
      → Kept (Nodes.makes s dst m.site o)
  makes_kept dst m o to fits new =
      standing.sets_in_kept p good s here (with_new s.conf.heap m.site o) (made_kept m o fits new)
      dst (value.Object (new_address s.conf.heap m.site)) to (made_there m o fits)

  to_object_kept : (dst : Reg) (sites : Wrappers) (error : Site) (x : Value) → Sets dst → Held x
      → IsMade p (making sites.boolean class.Boolean) → IsMade p (making sites.number class.Number)
      → IsMade p (making sites.text class.String) → IsMade p (making error class.Error)
      → Kept (Nodes.to_object_step s dst sites error x)
  to_object_kept dst sites error (value.Object a) to there boolean number text made =
      sets_kept dst (value.Object a) to there
  to_object_kept dst sites error (value.Primitive primitive.Undefined) to there boolean number text
      made = type_error error nothing_message made
  to_object_kept dst sites error (value.Primitive primitive.Null) to there boolean number text
      made = type_error error nothing_message made
  to_object_kept dst sites error (value.Primitive (primitive.Bool b)) to there boolean number text
      made =
      let o : Object = wrapper class.Boolean builtins.BOOLEAN_PROTOTYPE (primitive.Bool b) [] in
      let m : Making = making sites.boolean class.Boolean in
      let there = program_nodes.boolean_prototype_there p good s.conf.heap here.heap in
      let fits = fitting p s.conf.heap m o boolean refl refl tt tt there tt distinct-none in
      makes_kept dst m o to fits tt
  to_object_kept dst sites error (value.Primitive (primitive.Number n)) to there boolean number text
      made =
      let o : Object = wrapper class.Number builtins.NUMBER_PROTOTYPE (primitive.Number n) [] in
      let m : Making = making sites.number class.Number in
      let there = program_nodes.number_prototype_there p good s.conf.heap here.heap in
      let fits = fitting p s.conf.heap m o number refl refl tt tt there tt distinct-none in
      makes_kept dst m o to fits tt
  to_object_kept dst sites error (value.Primitive (primitive.Text units)) to there boolean number
      text made =
      let o : Object = wrapper class.String builtins.STRING_PROTOTYPE (primitive.Text units)
      (text_length units) in
      let m : Making = making sites.text class.String in
      let there = program_nodes.string_prototype_there p good s.conf.heap here.heap in
      let fits = fitting p s.conf.heap m o text refl refl tt tt there tt (distinct-one _) in
      either_way Kept (is_short units) (Nodes.makes s dst sites.text o)
      (left_scope s scope_kind.TextLength) (λ e. makes_kept dst m o to fits (tt, tt)) (λ e. tt)

  need_object_kept : (error : Site) (x : Value) → IsMade p (making error class.Error)
      → Kept (Nodes.need_object_step s error x)
  need_object_kept error (value.Object a) made = standing.stays_kept p good s here
  need_object_kept error (value.Primitive q) made = type_error error not_an_object_message made

  has_instance_kept : (dst : Reg) (not_object : Site) (left : Addr) (content : Option Content)
      → Sets dst → IsMade p (making not_object class.Error)
      → Kept (Nodes.has_instance s dst not_object left content)
  has_instance_kept dst not_object left (Some (contents.Value (value.Object a))) to made =
      sets_kept dst (Nodes.bool_value (inherits_from s.conf.heap left a)) to tt
  has_instance_kept dst not_object left (Some (contents.Value (value.Primitive q))) to made =
      type_error not_object no_prototype_message made
  has_instance_kept dst not_object left (Some contents.Row) to made =
      type_error not_object no_prototype_message made
  has_instance_kept dst not_object left None to made =
      type_error not_object no_prototype_message made

  instance_kept : (dst : Reg) (not_object : Site) (function : Addr) (x : Value) → Sets dst
      → IsMade p (making not_object class.Error)
      → Kept (Nodes.instance_of s dst not_object function x)
  instance_kept dst not_object function (value.Primitive q) to made =
      sets_kept dst (Nodes.bool_value false) to tt
  instance_kept dst not_object function (value.Object left) to made =
      has_instance_kept dst not_object left (content_at s.conf.heap function (codes "prototype")) to
      made

  instance_of_kept : (dst : Reg) (not_function not_object : Site) (left right : Value) → Sets dst
      → IsMade p (making not_function class.Error) → IsMade p (making not_object class.Error)
      → Kept (Nodes.instance_of_step s dst not_function not_object left right)
  instance_of_kept dst not_function not_object left (value.Primitive q) to first second =
      type_error not_function no_function_message first
  instance_of_kept dst not_function not_object left (value.Object a) to first second =
      either_way Kept (Nodes.is_function (class_at s.conf.heap a))
      (Nodes.instance_of s dst not_object a left)
      (throws s not_function builtins.TYPE_ERROR_PROTOTYPE no_function_message)
      (λ e. instance_kept dst not_object a left to second)
      (λ e. type_error not_function no_function_message first)

  new_object_kept : (dst : Reg) (site : Site) (kind : Made) → Sets dst
      → IsMade p (making site (class_of kind)) → Kept (Nodes.makes s dst site (empty_object kind))
  new_object_kept dst site made.Object to is_made =
      let m : Making = making site class.Object in
      let o : Object = empty_object made.Object in
      let there = object_prototype in
      let fits = fitting p s.conf.heap m o is_made refl refl tt tt there tt distinct-none in
      makes_kept dst m o to fits tt
  new_object_kept dst site made.Array to is_made =
      let m : Making = making site class.Array in
      let o : Object = empty_object made.Array in
      let there = program_nodes.array_prototype_there p good s.conf.heap here.heap in
      let fits = fitting p s.conf.heap m o is_made refl refl tt tt there tt (distinct-one _) in
      makes_kept dst m o to fits (tt, tt)
  new_object_kept dst site (made.Error kind) to is_made =
      let m : Making = making site class.Error in
      let o : Object = empty_object (made.Error kind) in
      let there = program_nodes.error_prototype_there p good s.conf.heap here.heap kind in
      let fits = fitting p s.conf.heap m o is_made refl refl tt tt there tt distinct-none in
      makes_kept dst m o to fits tt

  -- ---- two objects

  module _ (a b : Making) (first : ℕ) (in_order : InOrder first (a ∷ b ∷ [])) (o q : Object)
      (fits_o : IsFitting p s.conf.heap a.site o)
      (fits_q : IsFitting p (with_new s.conf.heap a.site o) b.site q) where
    abbrev both : Heap
    both = with_new (with_new s.conf.heap a.site o) b.site q

    apart : a.site.0 ≡ b.site.0 → ⊥
    apart e = let m : a.site.0 ≡ first = in_order.0 in
        let n : b.site.0 ≡ suc first = in_order.1.0 in omega arith

    row_a : a.site.0 < length s.conf.heap.objects
    row_a = row p s.conf.heap a.site o (linked_of p s.conf.heap here.heap) fits_o

    row_b : b.site.0 < length (with_new s.conf.heap a.site o).objects
    row_b =
        row p (with_new s.conf.heap a.site o) b.site q
        (linked-with_new p s.conf.heap a.site o (linked_of p s.conf.heap here.heap) fits_o) fits_q

    second_grows : Grows (with_new s.conf.heap a.site o) both
    second_grows = Heaps.grows-with_new (with_new s.conf.heap a.site o) b.site q row_b

    both_grow : Grows s.conf.heap both
    both_grow c there = second_grows c (Heaps.grows-with_new s.conf.heap a.site o row_a c there)

    -- the first is an object of the heap with both
    first_there : IsObjectOf both (new_address s.conf.heap a.site)
    first_there =
        second_grows (new_address s.conf.heap a.site) (Heaps.new_there s.conf.heap a.site o row_a)

    -- .. and so is the second, at the address that it would have without the first
    second_there : IsObjectOf both (new_address s.conf.heap b.site)
    second_there =
        let same : count (with_new s.conf.heap a.site o) b.site
        ≡ count s.conf.heap b.site = Heaps.count-with_new_other s.conf.heap a.site o row_a
        b.site (λ e. apart (sym e)) in
        let one : count both b.site ≡ suc (count (with_new s.conf.heap a.site o)
        b.site) = Heaps.count-with_new_same (with_new s.conf.heap a.site o) b.site q row_b
        b.site refl in
        Heaps.object_from_ordinal both (new_address s.conf.heap b.site) (omega arith)

    both_kept : Hold (IsContentOf both) o.properties → Hold (IsContentOf both) q.properties
        → IsKept p s.conf.heap both
    both_kept new_o new_q =
        kept-with_two p s.conf.heap a.site b.site o q apart here.heap fits_o fits_q new_o new_q

  make_function_kept : (dst : Reg) (function : FnId) (site proto_site : Site) (x : Value) → Sets dst
      → Held x → AreMade p (λ t. false)
      (making site class.Function ∷ making proto_site class.Object ∷ [])
      → Kept (Nodes.make_function_step p s dst function site proto_site x)
  make_function_kept dst function site proto_site (value.Primitive q) to there made = tt
  make_function_kept dst function site proto_site (value.Object chain) to there made =
      let a : Making = making site class.Function in
      let b : Making = making proto_site class.Object in
      let f : Addr = new_address s.conf.heap site in
      let g : Addr = new_address s.conf.heap proto_site in
      let o : Object = function_object (parameters_of p function) chain g in
      let q : Object = prototype_object f in
      let mid : Heap = with_new s.conf.heap site o in
      let now : Heap = with_new mid proto_site q in
      let names_o = distinct-two _ _ refl in
      let fits_o : IsFitting p s.conf.heap site o =
      fitting p s.conf.heap a o made.each.0 refl refl refl there function_prototype tt names_o in
      let grown : Grows s.conf.heap mid = Heaps.grows-with_new s.conf.heap site o
      (row p s.conf.heap site o (linked_of p s.conf.heap here.heap) fits_o) in
      let prototype = grown (first_of builtins.OBJECT_PROTOTYPE) object_prototype in
      let fits_q : IsFitting p mid proto_site q =
      fitting p mid b q made.each.1.0 refl refl tt tt prototype tt (distinct-one _) in
      let f_there : IsObjectOf now f = first_there a b made.first made.in_order o q fits_o fits_q in
      let g_there : IsObjectOf now g = second_there a b made.first made.in_order o q fits_o
      fits_q in
      standing.sets_in_kept p good s here now
      (both_kept a b made.first made.in_order o q fits_o fits_q (tt, (g_there, tt))
      (f_there, tt)) dst (value.Object f) to f_there

  -- ---- scopes

  arguments_of_frame : AllByRecursion (IsValueOf s.conf.heap) s.top.arguments
  arguments_of_frame = all_from (IsValueOf s.conf.heap) s.top.arguments here.top.arguments

  -- the activation, and the arguments object
  enter_kept : (site : Site) (outer : Addr) (names : List (List ℕ)) (arguments : Option Site)
      → IsObjectOf s.conf.heap outer → AreMade p
      (λ t. makes_arguments t (node.Enter site arguments))
      (making site class.Activation ∷ making_if_any arguments class.Object)
      → Kept (Nodes.enter s site outer names arguments)
  enter_kept site outer names None there made =
      let m : Making = making site class.Activation in
      let o : Object = activation outer (with_parameters [] names s.top.arguments []) in
      let now : Heap = with_new s.conf.heap site o in
      let names_o = distinct-with_parameters names [] s.top.arguments [] distinct-none in
      let fits : IsFitting p s.conf.heap site o =
      fitting p s.conf.heap m o made.each.0 refl refl tt tt tt there names_o in
      let grown : Grows s.conf.heap now = Heaps.grows-with_new s.conf.heap site o
      (row p s.conf.heap site o (linked_of p s.conf.heap here.heap) fits) in
      let values : AllByRecursion (IsValueOf now) s.top.arguments = all_weaker
      (IsValueOf s.conf.heap) (IsValueOf now) (λ v k. value_grows s.conf.heap now grown v k)
      s.top.arguments arguments_of_frame in
      standing.enters_scope_kept p good s here now
      (made_kept m o fits (hold-with_parameters now names [] s.top.arguments [] values tt))
      (new_address s.conf.heap site) (made_there m o fits)
  enter_kept site outer names (Some list) there made =
      let a : Making = making site class.Activation in
      let b : Making = making list class.Object in
      let flags : List Bool = sharing names s.top.arguments in
      let bound : List Property = with_parameters [] names s.top.arguments flags in
      let own_arguments : Property = property_with (codes "arguments")
      (value.Object (new_address s.conf.heap list)) DONT_DELETE in
      let o : Object = activation outer (with_property bound own_arguments) in
      let before : List Property =
      (empty_arguments (object_or_undefined s.top.callee) (length s.top.arguments)).properties in
      let q : Object = arguments_object (object_or_undefined s.top.callee) s.top.arguments flags in
      let mid : Heap = with_new s.conf.heap site o in
      let now : Heap = with_new mid list q in
      let activation_made : IsMade p a = subst (λ t. IsMadeAs p t a)
      (ne_eqb list.0 site.0 (λ e. omega (arith, e, made.in_order.0, made.in_order.1.0)))
      made.each.0 in
      let list_made : IsMadeAs p true b = subst (λ t. IsMadeAs p t b)
      (eq-eqb list.0 list.0 refl) made.each.1.0 in
      let names_bound = distinct-with_parameters names [] s.top.arguments flags distinct-none in
      let names_o = distinct-with_property bound own_arguments names_bound in
      let fits_o : IsFitting p s.conf.heap site o =
      fitting p s.conf.heap a o activation_made refl refl tt tt tt there names_o in
      let grown : Grows s.conf.heap mid = Heaps.grows-with_new s.conf.heap site o
      (row p s.conf.heap site o (linked_of p s.conf.heap here.heap) fits_o) in
      let prototype = grown (first_of builtins.OBJECT_PROTOTYPE) object_prototype in
      let two : HaveDistinctNames before = distinct-two _ _ refl in
      let names_q = distinct-with_elements before 0 s.top.arguments flags two in
      let fits_q : IsFitting p mid list q =
      fitting p mid b q list_made refl refl tt tt prototype tt names_q in
      let grows : Grows s.conf.heap now = both_grow a b made.first made.in_order o q fits_o
      fits_q in
      let values : AllByRecursion (IsValueOf now) s.top.arguments = all_weaker
      (IsValueOf s.conf.heap) (IsValueOf now) (λ v k. value_grows s.conf.heap now grows v k)
      s.top.arguments arguments_of_frame in
      let list_there : IsObjectOf now (new_address s.conf.heap list) = second_there a b made.first
      made.in_order o q fits_o fits_q in
      let site_there : IsObjectOf now (new_address s.conf.heap site) = first_there a b made.first
      made.in_order o q fits_o fits_q in
      let new_o : Hold (IsContentOf now) o.properties = hold-with_property now bound own_arguments
      list_there (hold-with_parameters now names [] s.top.arguments flags values tt) in
      let callee : IsValueOf now (object_or_undefined s.top.callee) = callee_value now s.top.callee
      (λ c e. grows c (here.top.callee c e)) in
      let new_q : Hold (IsContentOf now) q.properties =
      hold-with_elements now before 0 s.top.arguments flags values (callee, (tt, tt)) in
      standing.enters_scope_kept p good s here now
      (both_kept a b made.first made.in_order o q fits_o fits_q new_o new_q)
      (new_address s.conf.heap site) site_there

  enter_step_kept : (site : Site) (arguments : Option Site) (x : Value) → Held x
      → AreMade p (λ t. makes_arguments t (node.Enter site arguments))
      (making site class.Activation ∷ making_if_any arguments class.Object)
      → Kept (Nodes.enter_step p s site arguments x)
  enter_step_kept site arguments (value.Object outer) there made =
      enter_kept site outer (Nodes.parameter_names p s.top.function) arguments there made
  enter_step_kept site arguments (value.Primitive q) there made = tt

  declare_kept : (name : NameId) (x : Value) → Kept (Nodes.declare_step p s name x)
  declare_kept name (value.Primitive q) = tt
  declare_kept name (value.Object a) =
      let text : List ℕ = Nodes.name_text p name in
      let now : Heap = define s.conf.heap a text (contents.Value undefined) DONT_DELETE in
      standing.goes_on_kept p good s here _ (either_way (IsKept p s.conf.heap)
      (is_some (own s.conf.heap a text)) s.conf.heap now (λ e. standing.same p good s here)
      (λ e. kept-define p s.conf.heap a here.heap text (contents.Value undefined) DONT_DELETE
      tt))

  bind_kept : (name : NameId) (read_only : Bool) (v x : Value) → Held v
      → Kept (Nodes.bind_step p s name read_only v x)
  bind_kept name read_only v (value.Primitive q) of_heap = tt
  bind_kept name read_only v (value.Object a) of_heap =
      let text : List ℕ = Nodes.name_text p name in
      let now : Heap = define s.conf.heap a text (contents.Value v) (Nodes.bound_attrs read_only) in
      either_way Kept (is_shared s.conf.heap a text) (left_scope s scope_kind.SharedArgument)
      (goes_on s now) (λ e. tt) (λ e. standing.goes_on_kept p good s here now
      (kept-define p s.conf.heap a here.heap text (contents.Value v)
      (Nodes.bound_attrs read_only) of_heap))

  push_scope_kept : (site : Site) (x : Value) → Held x → IsMade p (making site class.Object)
      → Kept (Nodes.push_scope_step s site x)
  push_scope_kept site (value.Primitive q) there made = tt
  push_scope_kept site (value.Object outer) there made =
      let m : Making = making site class.Object in
      let o : Object = scope_object outer in
      let fits : IsFitting p s.conf.heap site o =
      fitting p s.conf.heap m o made refl refl tt tt object_prototype there distinct-none in
      standing.enters_scope_kept p good s here (with_new s.conf.heap site o) (made_kept m o fits tt)
      (new_address s.conf.heap site) (made_there m o fits)

  -- ---- `for`-`in`

  names_kept : (list : Reg) (x : Value) → Kept (Nodes.names_step s list x)
  names_kept list (value.Object a) =
      standing.moves p good s here s.conf.heap (standing.same p good s here) s.info.next
      (with_remaining s.top.lists list (names s.conf.heap a))
      (standing.well_formed p good s here).next
  names_kept list (value.Primitive q) = tt

  takes_kept : (list dst : Reg) (name : List ℕ) → Sets dst → Kept (Nodes.takes s list dst name)
  takes_kept list dst name to =
      standing.moves_with p good s here s.conf.heap (standing.same p good s here) dst
      (value.Primitive (primitive.Text name)) s.info.next _ to tt
      (standing.well_formed p good s here).next

  chosen_kept : (list dst : Reg) (r : Option (List ℕ)) → Sets dst
      → KeptIf (option_map (Nodes.takes s list dst) r)
  chosen_kept list dst None to = tt
  chosen_kept list dst (Some name) to = takes_kept list dst name to

  pick_kept : (list dst : Reg) (a : Addr) (answer : Answer) → Sets dst
      → KeptIf (Nodes.pick s list dst a answer)
  pick_kept list dst a (answers.Pick i) to =
      chosen_kept list dst (slice_get (Nodes.shown s.conf.heap s.top list a) i) to
  pick_kept list dst a answers.Tick to = standing.other_kept p good s here
  pick_kept list dst a (answers.Device q) to = tt

  pick_step_kept : (list dst : Reg) (answer : Answer) (x : Value) → Sets dst
      → KeptIf (Nodes.pick_step s list dst answer x)
  pick_step_kept list dst answer (value.Object a) to = pick_kept list dst a answer to
  pick_step_kept list dst answer (value.Primitive q) to = tt

  -- ---- calls

  module _ (is : enters_functions s.info.node ≡ true) where
    calls_with_kept : (f : FnId) (callee : Value) (receiver : Option Addr)
        (arguments : ArgumentsRead) → IsFunction p f → Held callee
        → ((a : Addr) → receiver ≡ Some a → IsObjectOf s.conf.heap a)
        → AreGiven p s.conf.heap here.heap arguments → AreFew arguments
        → Kept (calls_with p s f callee receiver arguments)
    calls_with_kept f callee None arguments fits callee_held there values few = tt
    calls_with_kept f callee (Some receiver) (Err kind) fits callee_held there values few = tt
    calls_with_kept f callee (Some receiver) (Ok arguments) fits callee_held there values few =
        standing.enters_kept p good s here s.conf.heap (standing.same p good s here) is f receiver
        (object_in callee) arguments fits (there receiver refl)
        (object_in_there p s.conf.heap here.heap callee callee_held) values few

    calls_kept : (callee receiver : Value) (arguments : Args) (error : Site) (r : Option FnId)
        → function_called p callee ≡ r → Held callee → Held receiver
        → AllByRecursion (IsRegister here.top.function) (argument_registers arguments)
        → IsMade p (making error class.Error)
        → Kept (calls p s callee (receiver_of s.conf.heap receiver) arguments error r)
    calls_kept callee receiver arguments error None called callee_held receiver_held registers
        made = type_error error not_a_function_message made
    calls_kept callee receiver arguments error (Some f) called callee_held receiver_held registers
        made =
        calls_with_kept f callee (receiver_of s.conf.heap receiver)
        (given s.conf.heap s.top arguments) (called_fits p good callee f called) callee_held
        (receiver_there p s.conf.heap here.heap good receiver receiver_held)
        (arguments_given p s.conf.heap here.heap s.top here.top arguments registers)
        (arguments_few p s.conf.heap s.top here.top arguments)

    constructs_with_kept : (f : FnId) (callee : Value) (site : Site) (arguments : ArgumentsRead)
        → IsFunction p f → Held callee → AreGiven p s.conf.heap here.heap arguments
        → AreFew arguments → IsMade p (making site class.Object)
        → Kept (constructs_with p s f callee site arguments)
    constructs_with_kept f callee site (Err kind) fits_f callee_held values few made_object = tt
    constructs_with_kept f callee site (Ok arguments) fits_f callee_held values few made_object =
        let m : Making = making site class.Object in
        let prototype : Addr = prototype_of_callee s.conf.heap (object_in callee) in
        let o : Object = constructed_object prototype in
        let now : Heap = with_new s.conf.heap site o in
        let there = callee_prototype_there p s.conf.heap here.heap good (object_in callee) in
        let fits : IsFitting p s.conf.heap site o =
        fitting p s.conf.heap m o made_object refl refl tt tt there tt distinct-none in
        let k : IsKept p s.conf.heap now = made_kept m o fits tt in
        let now_values : AllByRecursion (IsValueOf now) arguments = all_weaker
        (IsValueOf s.conf.heap) (IsValueOf now)
        (λ v of_heap. value_grows s.conf.heap now k.grows v of_heap) arguments values in
        standing.enters_kept p good s here now k is f (new_address s.conf.heap site)
        (object_in callee) arguments fits_f (made_there m o fits)
        (λ a e. k.grows a (object_in_there p s.conf.heap here.heap callee callee_held a e))
        now_values few

    constructs_kept : (callee : Value) (arguments : List Reg) (site error : Site) (r : Option FnId)
        → function_constructing p callee ≡ r → Held callee
        → AllByRecursion (IsRegister here.top.function) arguments
        → IsMade p (making site class.Object) → IsMade p (making error class.Error)
        → Kept (constructs p s callee arguments site error r)
    constructs_kept callee arguments site error None constructing callee_held registers made_object
        made = type_error error not_a_constructor_message made
    constructs_kept callee arguments site error (Some f) constructing callee_held registers
        made_object made =
        constructs_with_kept f callee site (register_values s.top arguments)
        (constructing_fits p good callee f constructing) callee_held
        (registers_given p s.conf.heap here.heap s.top here.top arguments registers)
        (registers_few s.top arguments) made_object

    convert_kept : (dst : Reg) (to_kind : Hint) (other : Option Value) (x : Value) → Sets dst
        → Held x → Kept (convert_step p s dst to_kind other x)
    convert_kept dst to_kind other (value.Primitive q) to there =
        sets_kept dst (value.Primitive q) to tt
    convert_kept dst to_kind other (value.Object a) to there =
        let f : FnId = default_function p to_kind in
        either_way Kept (stays other) (sets s dst (value.Object a))
        (enters p s s.conf.heap f a None []) (λ e. sets_kept dst (value.Object a) to there)
        (λ e. standing.enters_kept p good s here s.conf.heap (standing.same p good s here) is f
        a None [] (default_fits p good to_kind) there (λ b e. absurd (cc)) tt (omega arith))

  -- ---- the other kinds

  branch_kept : (x : Value) → Kept (Nodes.branch_step s x)
  branch_kept (value.Primitive (primitive.Bool true)) = standing.stays_kept p good s here
  branch_kept (value.Primitive (primitive.Bool false)) = standing.other_kept p good s here
  branch_kept (value.Primitive primitive.Undefined) = tt
  branch_kept (value.Primitive primitive.Null) = tt
  branch_kept (value.Primitive (primitive.Number n)) = tt
  branch_kept (value.Primitive (primitive.Text units)) = tt
  branch_kept (value.Object a) = tt

  given_kept : (dst : Reg) (o : Option (Result Primitive ScopeKind)) → Sets dst
      → Kept (Nodes.sets_given s dst o)
  given_kept dst None to = tt
  given_kept dst (Some (Ok q)) to = sets_kept dst (value.Primitive q) to tt
  given_kept dst (Some (Err kind)) to = tt

  intrinsic_kept : (dst : Reg) (which : ℕ) (arguments : List Value) → Sets dst
      → Kept (Nodes.intrinsic_step s dst which arguments)
  intrinsic_kept dst which arguments to =
      given_kept dst (option_map (λ (row : Computation). row arguments s.conf.heap)
      (slice_get rows which)) to

  device_kept : (dst : Reg) (answer : Answer) → Sets dst → KeptIf (Nodes.device_step s dst answer)
  device_kept dst (answers.Device q) to = sets_kept dst (value.Primitive q) to tt
  device_kept dst answers.Tick to = tt
  device_kept dst (answers.Pick i) to = tt

  -- ---- each kind of node

  held : (r : Reg) → IsRegister here.top.function r → Held (register_of s.top r)
  held r fits = standing.held p good s here r fits

  in_scope : Held (register_of s.top scope)
  in_scope = standing.held_scope p good s here

  enters_it : (n : Node) → s.info.node ≡ n → enters_functions n ≡ true
      → enters_functions s.info.node ≡ true
  enters_it n is e = subst (λ m. enters_functions m ≡ true) (sym is) e

  node_kept : (answer : Answer) (n : Node) → s.info.node ≡ n
      → AllByRecursion (IsDestination here.top.function) (option_to_list (register_set n))
      → AllByRecursion (IsRegister here.top.function) (registers_named n)
      → AreMade p (λ t. makes_arguments t n) (makings n)
      → KeptIf (Nodes.node_step p s answer n)
  unfolding register_set registers_named makings
  node_kept answer (node.Const dst q) is to named made = sets_kept dst (value.Primitive q) to.0 tt
  node_kept answer (node.Move dst src) is to named made =
      sets_kept dst (register_of s.top src) to.0 (held src named.0)
  node_kept answer (node.FindName dst name) is to named made =
      find_name_kept dst name (register_of s.top scope) to.0 in_scope
  node_kept answer (node.ReadRef dst base name error) is to named made =
      read_ref_kept dst name error (register_of s.top base) to.0 made.each.0
  node_kept answer (node.ReadSoft dst base name) is to named made =
      read_soft_kept dst name (register_of s.top base) to.0
  node_kept answer (node.WriteRef base name src) is to named made =
      write_ref_kept name (register_of s.top src) (register_of s.top base) (held src named.1.0)
  node_kept answer (node.DeleteRef dst base name) is to named made =
      delete_ref_kept dst name (register_of s.top base) to.0
  node_kept answer (node.ToObject dst src sites error) is to named made =
      to_object_kept dst sites error (register_of s.top src) to.0 (held src named.0) made.each.0
      made.each.1.0 made.each.1.1.0 made.each.1.1.1.0
  node_kept answer (node.NeedObject src error) is to named made =
      need_object_kept error (register_of s.top src) made.each.0
  node_kept answer (node.ReadProp dst object key) is to named made =
      property_kept (λ a name. sets_content s dst (Nodes.read s.conf.heap a name))
      (λ a name. reads_kept dst a name to.0) (register_of s.top object)
      (key_of (register_of s.top key))
  node_kept answer (node.WriteProp object key src error) is to named made =
      property_kept (λ a name. Nodes.puts s (Nodes.wrong_length s error) a name
      (register_of s.top src)) (λ a name. puts_kept (Nodes.wrong_length s error)
      (standing.throws_kept p good s here error error_kind.RangeError array_length_message
      made.each.0) a name (register_of s.top src) (held src named.1.1.0)) (register_of s.top object)
      (key_of (register_of s.top key))
  node_kept answer (node.DeleteProp dst object key) is to named made =
      property_kept (Nodes.deletes s dst) (deletes_kept dst to.0) (register_of s.top object)
      (key_of (register_of s.top key))
  node_kept answer (node.HasProp dst object key) is to named made =
      property_kept (λ a name. sets s dst (Nodes.bool_value (has s.conf.heap a name)))
      (λ a name. sets_kept dst (Nodes.bool_value (has s.conf.heap a name)) to.0 tt)
      (register_of s.top object) (key_of (register_of s.top key))
  node_kept answer (node.InstanceOf dst left right not_function not_object) is to named made =
      instance_of_kept dst not_function not_object (register_of s.top left)
      (register_of s.top right) to.0 made.each.0 made.each.1.0
  node_kept answer (node.NewObject dst site kind) is to named made =
      new_object_kept dst site kind to.0 made.each.0
  node_kept answer (node.MakeFunction dst function site proto_site) is to named made =
      make_function_kept dst function site proto_site (register_of s.top scope) to.0 in_scope made
  node_kept answer (node.Enter site arguments) is to named made =
      enter_step_kept site arguments (register_of s.top scope) in_scope made
  node_kept answer (node.Declare name) is to named made =
      declare_kept name (register_of s.top scope)
  node_kept answer (node.Bind name src read_only) is to named made =
      bind_kept name read_only (register_of s.top src) (register_of s.top scope) (held src named.0)
  node_kept answer (node.PushScope site) is to named made =
      push_scope_kept site (register_of s.top scope) in_scope made.each.0
  node_kept answer (node.Convert dst src to_kind other) is to named made =
      convert_kept (enters_it _ is refl) dst to_kind (option_map (register_of s.top) other)
      (register_of s.top src) to.0 (held src named.0)
  node_kept answer (node.Unary dst op src) is to named made =
      outcome_kept dst (unary s.conf.heap op (register_of s.top src)) to.0
  node_kept answer (node.Binary dst op a b) is to named made =
      outcome_kept dst (binary op (register_of s.top a) (register_of s.top b)) to.0
  node_kept answer (node.Branch src) is to named made = branch_kept (register_of s.top src)
  node_kept answer (node.Call dst callee receiver args error) is to named made =
      calls_kept (enters_it _ is refl) (register_of s.top callee) (register_of s.top receiver) args
      error (function_called p (register_of s.top callee)) refl (held callee named.0)
      (held receiver named.1.0) named.1.1 made.each.0
  node_kept answer (node.New dst callee args site error) is to named made =
      constructs_kept (enters_it _ is refl) (register_of s.top callee) args site error
      (function_constructing p (register_of s.top callee)) refl (held callee named.0) named.1
      made.each.0 made.each.1.0
  node_kept answer (node.Names list object) is to named made =
      names_kept list (register_of s.top object)
  node_kept answer (node.Pick list dst object) is to named made =
      pick_step_kept list dst answer (register_of s.top object) to.0
  node_kept answer (node.Throw src) is to named made =
      standing.throws_value_kept p good s here s.conf.heap (standing.same p good s here)
      (register_of s.top src) (held src named.0)
  node_kept answer (node.Return src) is to named made =
      standing.return_kept p good s here (register_of s.top src) (held src named.0)
  node_kept answer node.Escape is to named made =
      standing.escape_kept p good s here (register_of s.top thrown)
      (held thrown (standing.sets_thrown p good s.conf.heap s.top here.top).0)
  node_kept answer (node.Intrinsic dst which args) is to named made =
      intrinsic_kept dst which (map (register_of s.top) args) to.0
  node_kept answer (node.Device dst which) is to named made = device_kept dst answer to.0
  node_kept answer (node.Stop kind) is to named made = tt

  -- the state after a step
  pub step_kept : (answer : Answer) → KeptIf (Nodes.node_step p s answer s.info.node)
  step_kept answer =
      let k = standing.well_formed p good s here in
      node_kept answer s.info.node refl k.sets k.names_registers
      (standing.node_made p good s.conf.heap s.top here.top s.info here.info_is)
