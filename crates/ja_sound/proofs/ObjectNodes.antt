-- Rows of nodes: objects that are made, scopes, declarations.
use Rattle.std.specs.Prelude.{◌≡◌, ◌≢◌, ◌<◌, ◌&&◌, ℕ, Bool, true, false, if◌then◌else◌, IsTrue, List, [], ◌∷◌, map, length, slice_get, Option, Some, None, is_some, unwrap_or, suc, ◌≤◌, ◌+◌, pos, nat_lt}
use Rattle.std.specs.Option.{option_map_or}
use Rattle.std.proofs.Common.{refl, sym, subst, ap, ◌∙◌, inl, inr, arith, length-set}
use Rattle.std.proofs.lemmas.Bool.{cond-true, or_left, or_right, and_from, cond_both, ltb-true, ltb-false, leb-true, lt-ltb}
use Rattle.std.specs.List.{AllByRecursion, list_any}
use lib.Chars.{codes}
use Rattle.ja_base.specs.declared.ids.Label.{Label}
use Rattle.ja_base.specs.declared.ids.NameId.{NameId}
use Rattle.ja_base.specs.declared.ids.NodeId.{NodeId}
use Rattle.ja_base.specs.declared.ids.Reg.{Reg}
use Rattle.ja_base.specs.declared.ids.Site.{Site}
use Rattle.ja_base.specs.declared.ids.FnId.{FnId}
use Rattle.ja_base.specs.declared.ids.Context.{Context}
use Rattle.ja_base.proofs.Options.{some_value}
use Rattle.ja_base.proofs.Lists.{within_from_some}
use Rattle.ja_prim.specs.declared.primitive.Primitive.{Primitive}
use Rattle.ja_prim.specs.declared.primitive.Primitive.TheVariants as primitive
use Rattle.ja_prim.specs.declared.primitive.Num.TheVariants.{NaN, Whole}
use Rattle.ja_base.specs.declared.ids.ScopeKind.TheVariants.{TextLength}
use Rattle.ja_prim.specs.Index.{is_index}
use Rattle.ja_prim.specs.declared.primitive.Num.{Num}
use Rattle.ja_prim.specs.Texts.{is_short, max_units}
use Rattle.ja_graph.specs.declared.attrs.Attrs.{Attrs}
use Rattle.ja_graph.specs.declared.attrs.TheConstants.{DONT_DELETE}
use Rattle.ja_graph.specs.declared.builtins.TheConstants as builtins
use Rattle.ja_graph.specs.declared.node.ErrorKind.TheVariants as error_kind
use Rattle.ja_graph.specs.declared.node.Node.TheVariants as node
use Rattle.ja_graph.specs.declared.node.NodeInfo.{NodeInfo}
use Rattle.ja_graph.specs.declared.program.Class.TheVariants as class
use Rattle.ja_graph.specs.declared.program.Program.{Program}
use Rattle.ja_graph.specs.WellFormed.{IsWellFormed, IsDestination, IsRegister, IsName, builtin_names}
use Rattle.ja_graph.specs.declared.node.Made.{Made}
use Rattle.ja_graph.specs.declared.node.Wrappers.{Wrappers}
use Rattle.ja_graph.specs.declared.program.Class.{Class}
use Rattle.ja_graph.specs.declared.program.Function.{Function}
use Rattle.ja_machine.specs.declared.machine.Addr.{Addr}
use Rattle.ja_machine.specs.declared.machine.Value.{Value}
use Rattle.ja_machine.specs.declared.machine.Value.TheVariants as value
use Rattle.ja_machine.specs.declared.machine.Content.{Content}
use Rattle.ja_machine.specs.declared.machine.Content.TheVariants as contents
use Rattle.ja_machine.specs.declared.machine.Property.{Property}
use Rattle.ja_machine.specs.declared.machine.Object.{Object}
use Rattle.ja_machine.specs.declared.machine.Heap.{Heap}
use Rattle.ja_machine.specs.declared.machine.Frame.{Frame}
use Rattle.ja_machine.specs.declared.machine.Conf.{Conf}
use Rattle.ja_machine.specs.declared.machine.Event.{Event}
use Rattle.ja_machine.specs.Events.{Standing, next_state, goes_on, left_scope, nothing_message}
use Rattle.ja_machine.specs.Events as machine
use Rattle.ja_machine.specs.Frames.{register_of, undefined, scope, with_result, parameters_of, argument, object_or_undefined}
use Rattle.ja_machine.specs.Heap.{object_at, with_new, count, new_address, own, is_shared, with_object}
use Rattle.ja_machine.specs.Nodes.{name_text, to_object_step, push_scope_step, makes, make_function_step, enter, enter_step, parameter_names, declare_step, bind_step, bound_attrs}
use Rattle.ja_machine.specs.State.{IsHeap, IsFrame, IsObjectOf, IsValueOf}
use Rattle.ja_machine.specs.Objects.{empty_object, wrapper, text_length, scope_object, function_object, prototype_object, activation, arguments_object, with_parameters, with_property, property_with, sharing}
use Rattle.ja_machine.specs.Writes.{define, whole_number}
use Rattle.ja_machine.proofs.Growing.{IsNodeSite}
use Rattle.ja_machine.proofs.Lists.{either_way, is_some_from}
use Rattle.ja_machine.proofs.Heaps
use Rattle.ja_machine.proofs.Standing.{function_of_frame}
use Rattle.ja_abstract.specs.declared.abstraction.Key.{Key}
use Rattle.ja_abstract.specs.AbstractValue.{Labels, AbstractValue, AbstractProperty, undefined_value, of_labels, of_label, of_attrs, has_text}
use Rattle.ja_abstract.specs.AbstractState.{AbstractState, new, with_register, with_made}
use Rattle.ja_abstract.specs.Contents.{label_of, property_content, content_of, content}
use Rattle.ja_abstract.specs.Keys.{named}
use Rattle.ja_abstract.specs.Parts.{has_primitive}
use Rattle.ja_abstract.specs.Parts as meaning
use Rattle.ja_abstract.specs.Keys as meaning_keys
use Rattle.ja_abstract.specs.Resolved.{IsFilled, demands_of}
use Rattle.ja_abstract.specs.Made.{rest_register, empty_own, wrapper_own, text_own, scope_own, Own, with_objects, function_own, prototype_own, activation_own, arguments_own, parameter_ids, parameter_register, count_register}
use Rattle.ja_abstract.specs.Reading.{View, has_present, some_label}
use Rattle.ja_abstract.specs.Values.{has_labels, has_nullish}
use Rattle.ja_abstract.specs.declared.abstraction.Key.TheVariants as key
use Rattle.ja_abstract.specs.declared.abstraction.TextPart.{TextPart}
use Rattle.ja_abstract.specs.declared.abstraction.TextPart.TheVariants as text_part
use Rattle.ja_abstract.specs.Writes.{Write, has_some_part, sets_at, joined_at, replaced_at, strong_update, weak_update, one_target, own_at, is_missing, defined, declared}
use Rattle.ja_abstract.proofs.Labels.{same_label_from}
use Rattle.ja_abstract.proofs.Lists.{Member, member-append_left, member-append_right}
use Rattle.ja_abstract.proofs.Labels
use Rattle.ja_abstract.proofs.Parts.{of_attrs_allows}
use Rattle.ja_abstract.proofs.Keys.{same_key-true, key_of-name}
use Rattle.ja_meaning.specs.Meaning.{has_value, knows, Tells}
use Rattle.ja_meaning.proofs.Held.{HoldsOfFrame, HoldsOfAll, all_of, frame_of, holding}
use Rattle.ja_meaning.proofs.Parts.{has_part-has_value, is_present-has_value, is_present-known}
use Rattle.ja_meaning.proofs.Aged.{aged_has}
use Rattle.ja_meaning.proofs.Gets.{some_label-object, label-of_program}
use Rattle.ja_meaning.proofs.MadeObjects.{empty_made, wrapper_made, text_made, scope_made, function_made, prototype_made}
use Rattle.ja_meaning.proofs.Contents
use Rattle.ja_meaning.proofs.Inside.{inside}
use Rattle.ja_meaning.proofs.Allocated.{IsMade, with_objects_holds, frame_aged}
use Rattle.ja_meaning.proofs.Bound.{AreNames}
use Rattle.ja_meaning.proofs.MadeActivations.{activation_made, listed_activation_made, arguments_made}
use Rattle.ja_meaning.proofs.Puts.{Suits, one_suits, own_at_known, from_take}
use Rattle.ja_meaning.proofs.Targets.{target-is}
use Rattle.ja_meaning.proofs.Written.{weak_update_holds, strong_update_holds}
use Rattle.ja_meaning.proofs.Walks.{content-named, own-content}
use Rattle.ja_rows.specs.Out as abstract_out
use Rattle.ja_rows.specs.Objects as abstract
use Rattle.ja_rows.specs.Scopes as abstract_scopes
use Rattle.ja_rows.specs.Out.{Point, Given, goes, sets, name_keys}
use Rattle.ja_rows.specs.Transfer.{transfer_node}
use Rattle.ja_rows.specs.Objects.{bools_of, numbers_of}
use Rattle.ja_sound.specs.Statements.{IsAt}
use Rattle.ja_sound.proofs.Defining.{definition_same, defining, defining_other}
use Rattle.ja_sound.proofs.Registers.{IsDestinationOf, frame_with_result}
use Rattle.ja_sound.proofs.AtNode as rows
use Rattle.ja_sound.proofs.PropertyNodes.{throws_gives, sets_gives, rd, has, written_gives}
use Rattle.ja_sound.proofs.Steps.{member-goes}

module _ (e : Heap) (c : Conf) (top : Frame) (below : List Frame) (x : Point) (w : View)
    (at : IsAt w.program e c top below x w) (good : IsWellFormed w.program) where
  abbrev p : Program
  p = w.program

  abbrev i : NodeInfo
  i = x.info

  abbrev s : Standing
  s = record { conf = c; top = top; below = below; info = i }

  abbrev pub Gives : Given → Event → Type 0
  Gives = rows.Gives e c top below x w at good

  abbrev fr : IsFrame p c.heap top
  fr = rows.fr e c top below x w at good

  abbrev IsReg : Reg → Type 0
  IsReg r = IsRegister fr.function r

  abbrev IsDest : Reg → Type 0
  IsDest r = IsDestination fr.function r

  dest : (r : Reg) → IsDest r → IsDestinationOf p top r
  dest r d = rows.dest e c top below x w at good r d

  row : (t : Site) → IsNodeSite p t → t.0 < length c.heap.objects
  row t l = rows.row e c top below x w at good t l

  some-object : (test : Labels) (a : Addr) → IsObjectOf c.heap a → IsTrue (test (label_of c.heap a))
      → IsTrue (some_label w test)
  some-object test a o h = some_label-object e c.heap w (rd e c top below x w at good) test a o h

  -- ---- one object

  pub new_object_gives : (dst : Reg) (site : Site) (kind : Made) → IsDest dst → IsNodeSite p site
      → Gives (transfer_node w x i (node.NewObject dst site kind)).states
      (makes s dst site (empty_object kind))
  new_object_gives dst site kind d l =
      rows.makes_to e c top below x w at good _ dst i.next site (empty_object kind)
      (λ a. empty_own kind) l (dest dst d) (λ known. empty_made p good
      (with_new c.heap site (empty_object kind)) known kind) (inl refl)

  -- what a register has in a heap with one object more
  aged_register : (t : Site) (o : Object) → IsNodeSite p t → (r : ℕ) (v : Value)
      → IsValueOf c.heap v → IsTrue (has_value c.heap (w.state.register r) v)
      → IsTrue (has_value (with_new c.heap t o) ((with_made w.state t).register r) v)
  aged_register t o l r v there told =
      aged_has c.heap t o (row t l) (w.state.register r) v there told

  pub push_scope_gives : (site : Site) → IsNodeSite p site → (v : Value) → IsValueOf c.heap v
      → IsTrue (has_value c.heap (abstract_out.at w scope) v)
      → Gives (transfer_node w x i (node.PushScope site)).states (push_scope_step s site v)
  push_scope_gives site l (value.Object outer) there told =
      rows.makes_to e c top below x w at good _ scope i.next site (scope_object outer)
      (λ a. scope_own (a.register 2).label) l (rows.dest_scope e c top below x w at good)
      (λ known. scope_made p good (with_new c.heap site (scope_object outer)) known outer
      ((with_made w.state site).register 2).label
      (aged_register site (scope_object outer) l 2 (value.Object outer) there told))
      (inl refl)
  push_scope_gives site l (value.Primitive q) there told = tt

  -- ---- ToObject

  module _ (dst src : Reg) (sites : Wrappers) (error : Site) (d : IsDest dst)
      (l_bool : IsNodeSite p sites.boolean) (l_number : IsNodeSite p sites.number)
      (l_text : IsNodeSite p sites.text) (l_error : IsNodeSite p error) where
    abbrev v : AbstractValue
    v = abstract_out.at w src

    abbrev given : Given
    given = (transfer_node w x i (node.ToObject dst src sites error)).states

    abbrev g_object : Given
    g_object = sets w dst (of_labels v.label) i.next

    abbrev g_bool : Given
    g_bool = abstract.wraps w dst sites.boolean builtins.BOOLEAN_PROTOTYPE (bools_of v) i.next

    abbrev g_number : Given
    g_number = abstract.wraps w dst sites.number builtins.NUMBER_PROTOTYPE (numbers_of v) i.next

    abbrev g_text : Given
    g_text = abstract.wraps_text w dst sites.text v i.next

    nothing : IsTrue (has_nullish v) → Gives given
        (machine.throws s error builtins.TYPE_ERROR_PROTOTYPE nothing_message)
    nothing e_is =
        throws_gives e c top below x w at good given
        (has_nullish v) error error_kind.TypeError nothing_message l_error e_is
        (λ y m. member-append_right y g_object _ (member-append_right y g_bool _
        (member-append_right y g_number _ (member-append_right y g_text _ m))))

    wraps_gives : (kind : Class) (proto : Site) (n : ℕ) (k : Class) → proto.0 ≡ n
        → slice_get builtins.BUILTIN_CLASSES n ≡ Some k → (site : Site) → IsNodeSite p site
        → (q : Primitive) (u : AbstractValue) → IsTrue (has_primitive u q)
        → ((y : ℕ × AbstractState) → Member y (abstract.wraps w dst site proto u i.next)
        → Member y given) → Gives given (makes s dst site (wrapper kind proto q []))
    wraps_gives kind proto n k n_is k_is site l q u has_it among =
        rows.makes_to e c top below x w at good given dst i.next site (wrapper kind proto q [])
        (λ a. wrapper_own proto u) l (dest dst d)
        (λ known. wrapper_made p good (with_new c.heap site (wrapper kind proto q [])) known kind
        proto n k n_is k_is q u has_it)
        (among _ (member-goes (has_present w u) i.next _
        (is_present-has_value p c.heap at.known.heap u (value.Primitive q) tt has_it)))

    bool_has : (b : Bool) → IsTrue (has_primitive v (primitive.Bool b))
        → IsTrue (has_primitive (bools_of v) (primitive.Bool b))
    bool_has true h = h
    bool_has false h = h

    number_has : (n : Num) → IsTrue (has_primitive v (primitive.Number n))
        → IsTrue (has_primitive (numbers_of v) (primitive.Number n))
    number_has NaN h = h
    number_has (Whole n) h = h

    text_part_has : (part : TextPart) (t : List ℕ) → IsTrue (meaning.text_has part t)
        → IsTrue (has_text part)
    text_part_has text_part.Nothing t h = h
    text_part_has (text_part.One u) t h = refl
    text_part_has text_part.IndexText t h = refl
    text_part_has text_part.OtherText t h = refl
    text_part_has text_part.Text t h = refl

    -- the length of a text that isn't too long is an index
    length_is_index : (units : List ℕ) → IsTrue (is_short units)
        → IsTrue (is_index (pos (length units)))
    length_is_index units short =
        let few : length units ≤ max_units = leb-true (length units) max_units short in
        lt-ltb (length units) 4294967295 (omega arith)

    pub to_object_gives : (u : Value) → IsValueOf c.heap u → IsTrue (has_value c.heap v u)
        → Gives given (to_object_step s dst sites error u)
    to_object_gives (value.Object a) there told =
        sets_gives e c top below x w at good given dst (value.Object a)
        (of_labels v.label) d there told (λ y m. member-append_left y g_object _ m)
    to_object_gives (value.Primitive primitive.Undefined) there told =
        nothing (or_left _ _ told)
    to_object_gives (value.Primitive primitive.Null) there told =
        nothing (or_right _ _ told)
    to_object_gives (value.Primitive (primitive.Bool b)) there told =
        wraps_gives class.Boolean builtins.BOOLEAN_PROTOTYPE builtins.BOOLEAN_PROTOTYPE.0
        class.Boolean refl refl sites.boolean l_bool (primitive.Bool b) (bools_of v)
        (bool_has b told)
        (λ y m. member-append_right y g_object _ (member-append_left y g_bool _ m))
    to_object_gives (value.Primitive (primitive.Number n)) there told =
        wraps_gives class.Number builtins.NUMBER_PROTOTYPE builtins.NUMBER_PROTOTYPE.0
        class.Number refl refl sites.number l_number (primitive.Number n) (numbers_of v)
        (number_has n told)
        (λ y m. member-append_right y g_object _ (member-append_right y g_bool _
        (member-append_left y g_number _ m)))
    to_object_gives (value.Primitive (primitive.Text units)) there told =
        let o : Object =
        wrapper class.String builtins.STRING_PROTOTYPE (primitive.Text units)
        (text_length units) in
        either_way (Gives given) (is_short units) (makes s dst sites.text o)
        (machine.left_scope s TextLength)
        (λ short. rows.makes_to e c top below x w at good given dst i.next sites.text o
        (λ a. text_own v.text) l_text (dest dst d)
        (λ known. text_made p good (with_new c.heap sites.text o) known units v.text told
        (length_is_index units short))
        (member-append_right _ g_object _ (member-append_right _ g_bool _
        (member-append_right _ g_number _ (member-append_left _ g_text _
        (member-goes (has_text v.text) i.next _ (text_part_has v.text units told))))))) (λ long. tt)

  -- ---- two objects

  module _ (given : Given) (dst : Reg) (n : NodeId) (t u : Site) (o q : Object)
      (own_ other : AbstractState → Own) (l : IsNodeSite p t) (l_too : IsNodeSite p u)
      (apart : t.0 ≢ u.0) where
    abbrev middle : Heap
    middle = with_new c.heap t o

    abbrev two : Heap
    two = with_new middle u q

    abbrev both : AbstractState
    both = with_made (with_made w.state t) u

    row_too : u.0 < length middle.objects
    row_too =
        let k : length middle.objects ≡ length c.heap.objects = length-set c.heap.objects t.0 _ in
        let m : u.0 < length c.heap.objects = row u l_too in omega arith

    grown : (a : Addr) → IsObjectOf c.heap a → IsObjectOf middle a
    grown a there = Heaps.grows-with_new c.heap t o (row t l) a there

    pub first_is : label_of two (new_address c.heap t) ≡ new t
    first_is =
        Contents.label-with_new_other middle u q row_too (new_address c.heap t) apart
        ∙ Contents.label-with_new_new c.heap t o (row t l)

    pub second_is : label_of two (new_address c.heap u) ≡ new u
    second_is =
        let k : count two u ≡ suc (count middle u) =
        Heaps.count-with_new_same middle u q row_too u refl in
        let m : count middle u ≡ count c.heap u =
        Heaps.count-with_new_other c.heap t o (row t l) u (λ z. apart (sym z)) in
        Labels.same_parts (label_of two (new_address c.heap u)) (new u) refl
        (Contents.label_is_new two (new_address c.heap u) (omega arith))

    pub both_register : (r : ℕ) (v : Value) → IsValueOf c.heap v
        → IsTrue (has_value c.heap (w.state.register r) v)
        → IsTrue (has_value two (both.register r) v)
    both_register r v there told =
        aged_has middle u q row_too ((with_made w.state t).register r) v
        (Heaps.value_grows c.heap middle grown v there)
        (aged_has c.heap t o (row t l) (w.state.register r) v there told)

    pub two_gives : IsDestinationOf p top dst → (IsHeap p two → IsMade p two o (own_ both))
        → (IsHeap p two → IsMade p two q (other both))
        → Member {X = ℕ × AbstractState} (
          n.0,
          with_register
              (with_objects w.program w.state t own_ u other) dst (of_label (new t)),
        ) given
        → Gives given (next_state c two (with_result top dst
        (value.Object (new_address c.heap t)) n ∷ below))
    two_gives d made made_too among after =
        let f : HoldsOfFrame p middle top (with_made w.state t) =
        frame_aged p c.heap t o (row t l) top w.state fr.values fr.arguments (frame_of at.holds) in
        let g : HoldsOfFrame p two top both =
        frame_aged p middle u q row_too top (with_made w.state t)
        (λ r v is. Heaps.value_grows c.heap middle grown v (fr.values r v is))
        (λ r v is. Heaps.value_grows c.heap middle grown v (fr.arguments r v is)) f in
        record {
          top = with_result top dst (value.Object (new_address c.heap t)) n;
          frames_are = refl;
          state =
              with_register (with_objects w.program w.state t own_ u other) dst (of_label (new t));
          among = among;
          holds =
              holding
              (with_objects_holds p e c.heap t u o q (row t l) row_too apart w.state at.grows
              (λ b y there. inside p c.heap at.known.heap b y) (all_of at.holds.heap) own_ other
              (made after.heap) (made_too after.heap))
              (frame_with_result p two top (with_objects w.program w.state t own_ u other) dst
              (value.Object (new_address c.heap t)) (of_label (new t)) n d
              (same_label_from (new t) (label_of two (new_address c.heap t)) (sym first_is)) g);
        }

  pub make_function_gives : (dst : Reg) (function : FnId) (site proto_site : Site) → IsDest dst
      → IsNodeSite p site → IsNodeSite p proto_site → site.0 ≢ proto_site.0 → (v : Value)
      → IsValueOf c.heap v → IsTrue (has_value c.heap (abstract_out.at w scope) v)
      → Gives (transfer_node w x i (node.MakeFunction dst function site proto_site)).states
      (make_function_step p s dst function site proto_site v)
  make_function_gives dst function site proto_site d l l_too apart (value.Object chain) there told =
      let o : Object =
      function_object (parameters_of p function) chain (new_address c.heap proto_site) in
      let q : Object = prototype_object (new_address c.heap site) in
      let own_ : AbstractState → Own =
      λ (a : AbstractState). function_own p function (a.register 2).label (new proto_site) in
      let other : AbstractState → Own = λ (a : AbstractState). prototype_own p (new site) in
      let g : Given =
      (transfer_node w x i (node.MakeFunction dst function site proto_site)).states in
      two_gives g dst i.next site proto_site o q own_ other l l_too apart (dest dst d)
      (λ known. function_made p good (with_new (with_new c.heap site o) proto_site q) known function
      chain (new_address c.heap proto_site) ((with_made
      (with_made w.state site) proto_site).register 2).label (new proto_site)
      (both_register g dst i.next site proto_site o q own_ other l l_too apart 2
      (value.Object chain) there told) (sym (second_is g dst i.next site proto_site o q own_ other l
      l_too apart)))
      (λ known. prototype_made p good (with_new (with_new c.heap site o) proto_site q) known
      (new_address c.heap site) (new site) (sym (first_is g dst i.next site proto_site o q own_
      other l l_too apart)))
      (inl refl)
  make_function_gives dst function site proto_site d l l_too apart (value.Primitive q) there told =
      tt

  -- ---- Declare, Bind

  module _ (target : Labels) (name : NameId) (n_ok : IsName p name) (a : Addr)
      (there : IsObjectOf c.heap a) (in_ : IsTrue (target (label_of c.heap a)))
      (q : AbstractProperty) (content_put : Content) (attrs : Attrs) (writes : Label → List Write)
      (writes_are : writes (label_of c.heap a) ≡ sets_at (key.Name name) q ∷ [])
      (known : (now : Heap) → ((b : Addr) → label_of now b ≡ label_of c.heap b)
      → IsTrue (knows now q (content_of content_put attrs))) where
    abbrev t : List ℕ
    t = name_text p name

    key_is : meaning_keys.key_of p (named t) ≡ key.Name name
    key_is = key_of-name p good name n_ok

    module _ (o : Object) (o_is : object_at c.heap a ≡ Some o) where
      abbrev defined_heap : Heap
      defined_heap = with_object c.heap a (defining o t content_put attrs)

      suits : Suits e c.heap w (rd e c top below x w at good) good a o o_is t defined_heap
          (sets_at (meaning_keys.key_of p (named t)) q ∷ [])
      suits =
          one_suits e c.heap w (rd e c top below x w at good) good a o o_is t
          (defining o t content_put attrs) q (defining_other o t content_put attrs)
          (subst (λ u. IsTrue (knows defined_heap q u))
          (sym (definition_same o.properties t content_put attrs))
          (known defined_heap (Contents.label-with_object c.heap a o
          (defining o t content_put attrs) o_is)))

      abbrev sets_it : List Write
      sets_it = sets_at (key.Name name) q ∷ []

      abbrev defined_state : AbstractState
      defined_state =
          option_map_or (λ (l : Label). strong_update w.state l sets_it) (one_target w target)
          (weak_update p w.state target writes)

      abbrev Fits : AbstractState → Type 0
      Fits state = HoldsOfAll p e defined_heap state × (state.register ≡ w.state.register)

      by_target : (g : Option Label) → one_target w target ≡ g
          → Fits (option_map_or (λ (l : Label). strong_update w.state l sets_it) g
          (weak_update p w.state target writes))
      by_target (Some l) is =
          let (l_is, l_new) =
          target-is e c.heap w (rd e c top below x w at good) target a there in_ l is in (
            strong_update_holds p e c.heap defined_heap a suits.wrote w.state
                (all_of at.holds.heap) l (sym l_is) (ap (λ (z : Label). z.old) l_is ∙ l_new) sets_it
                (λ y. subst (λ k. Tells e defined_heap a y
                (replaced_at (sets_at k q ∷ []) (w.state.property l (meaning_keys.key_of p y))
                (meaning_keys.key_of p y))) key_is
                (suits.strong (λ z same. rows.only_name e c top below x w at good name z
                (sym key_is ∙ same_key-true (meaning_keys.key_of p (named t))
                (meaning_keys.key_of p z) same)) y (w.state.property l (meaning_keys.key_of p y))
                (subst (λ m. Tells e c.heap a y (w.state.property m (meaning_keys.key_of p y)))
                (sym l_is) (at.holds.heap.objects a y there)))),
            refl,
          )
      by_target None is = (
        weak_update_holds p e c.heap defined_heap a suits.wrote w.state (all_of at.holds.heap)
            target writes (label-of_program e c.heap w (rd e c top below x w at good) a there) in_
            (λ y. elim (suits.weak y) [
              | inl same ↦ inl same
              | inr told ↦
                  inr (λ z. subst (λ ws. IsTrue (knows defined_heap
                  (joined_at ws z (meaning_keys.key_of p y)) (content defined_heap a y)))
                  (sym writes_are) (subst (λ k. IsTrue (knows defined_heap
                  (joined_at (sets_at k q ∷ []) z (meaning_keys.key_of p y))
                  (content defined_heap a y))) key_is (told z)))
            ]),
        refl,
      )

      define_is : define c.heap a t content_put attrs ≡ defined_heap
      define_is =
          ap (λ r. option_map_or (λ (o : Object). with_object c.heap a
          (defining o t content_put attrs)) r c.heap) o_is

      pub defined_gives : (given : Given) → Member {X = ℕ × AbstractState}
          (i.next.0, defined_state) given → Gives given
          (goes_on s (define c.heap a t content_put attrs))
      defined_gives given among =
          let fit = by_target (one_target w target) refl in
          subst (λ h. Gives given (goes_on s h)) (sym define_is)
          (written_gives e c top below x w at good given a defined_heap defined_state suits.wrote
          fit.1 fit.0 among)

  has_by_labels : (now : Heap) → ((b : Addr) → label_of now b ≡ label_of c.heap b)
      → (u : AbstractValue) (v : Value) → IsTrue (has_value c.heap u v) → IsTrue (has_value now u v)
  has_by_labels now labels u (value.Primitive q) h = h
  has_by_labels now labels u (value.Object b) h = subst (λ l. IsTrue (u.label l)) (sym (labels b)) h

  pub bind_gives : (name : NameId) (src : Reg) (read_only : Bool) → IsName p name → IsReg src
      → (v : Value) → IsValueOf c.heap v → IsTrue (has_value c.heap (abstract_out.at w scope) v)
      → Gives (transfer_node w x i (node.Bind name src read_only)).states
      (bind_step p s name read_only (register_of top src) v)
  bind_gives name src read_only n_ok r (value.Object a) there told =
      let target : Labels = (abstract_out.at w scope).label in
      let q : AbstractProperty =
      record { value = abstract_out.at w src; attrs = of_attrs (bound_attrs read_only) } in
      either_way (Gives (transfer_node w x i (node.Bind name src read_only)).states)
      (is_shared c.heap a (name_text p name)) (left_scope s
      Rattle.ja_base.specs.declared.ids.ScopeKind.TheVariants.SharedArgument)
      (goes_on s (define c.heap a (name_text p name) (contents.Value (register_of top src))
      (bound_attrs read_only))) (λ shared. tt)
      (λ own. let (o, o_is) = some_value (object_at c.heap a) there in
      defined_gives target name n_ok a there told q (contents.Value (register_of top src))
      (bound_attrs read_only) (λ l. sets_at (key.Name name) q ∷ []) refl
      (λ now labels. and_from _ _ (has_by_labels now labels (abstract_out.at w src)
      (register_of top src) (has e c top below x w at good src r))
      (of_attrs_allows (bound_attrs read_only))) o o_is _
      (member-goes (has_labels w (abstract_out.at w scope)) i.next
      (defined w target (key.Name name) q) (some-object target a there told)))
  bind_gives name src read_only n_ok r (value.Primitive q) there told = tt

  module _ (name : NameId) (n_ok : IsName p name)
      (filled : IsFilled w.entries (transfer_node w x i (node.Declare name)).demands) where
    abbrev chain : Labels
    chain = (abstract_out.at w scope).label

    abbrev k : Key
    k = key.Name name

    abbrev q : AbstractProperty
    q = record { value = undefined_value; attrs = of_attrs DONT_DELETE }

    abbrev declared_given : Given
    declared_given = (transfer_node w x i (node.Declare name)).states

    module _ (a : Addr) (there : IsObjectOf c.heap a)
        (told : IsTrue (chain (label_of c.heap a))) where
      abbrev own_u : AbstractProperty
      own_u = own_at w (label_of c.heap a) k

      own_known : IsTrue (knows c.heap own_u (property_content (own c.heap a (name_text p name))))
      own_known =
          let key_is : meaning_keys.key_of p (named (name_text p name)) ≡ k =
          key_of-name p good name n_ok in
          subst (λ y. IsTrue (knows c.heap own_u y)) (content-named c.heap a (name_text p name))
          (subst (λ j. IsFilled w.entries (demands_of w.state (label_of c.heap a) j)
          → IsTrue (knows c.heap (own_at w (label_of c.heap a) j)
          (content c.heap a (named (name_text p name))))) key_is
          (λ f. own_at_known e c.heap w (rd e c top below x w at good) good a
          (named (name_text p name)) there f)
          (λ m j d. filled m j (some-object (λ l. chain l
          && list_any (λ (k : Key). demands_of w.state l k m j) (name_keys name)) a there
          (and_from _ _ told (or_left _ _ d)))))

      declare_by : (g : Option Property) → own c.heap a (name_text p name) ≡ g
          → Gives declared_given (goes_on s (if is_some g then c.heap else define c.heap a
          (name_text p name) (contents.Value undefined) DONT_DELETE))
      declare_by (Some z) is =
          let some : IsTrue (has_present w own_u.value) =
          is_present-known p c.heap at.known.heap own_u z.content z.attrs
          (own-content p c.heap at.known.heap a (name_text p name) z is)
          (subst (λ g. IsTrue (knows c.heap own_u (property_content g))) is own_known) in
          rows.leaves e c top below x w at good declared_given i.next c.heap top w.state
          (member-append_left _ _ _ (member-goes (some_label w
          (λ l. chain l && has_present w (own_at w l k).value)) i.next w.state
          (some-object (λ l. chain l && has_present w (own_at w l k).value) a there
          (and_from _ _ told some)))) (record {
            heap = at.holds.heap;
            registers = at.holds.registers;
            rest = at.holds.rest;
          })
      declare_by None is =
          let absent : IsTrue own_u.value.flags.absent =
          subst (λ g. IsTrue (knows c.heap own_u (property_content g))) is own_known in
          let (o, o_is) = some_value (object_at c.heap a) there in
          defined_gives chain name n_ok a there told q (contents.Value undefined) DONT_DELETE
          (λ l. if (own_at w l k).value.flags.absent then sets_at k q ∷ [] else [])
          (cond-true own_u.value.flags.absent (sets_at k q ∷ []) [] absent)
          (λ now labels. of_attrs_allows DONT_DELETE) o o_is declared_given
          (member-append_right _ (goes (some_label w
          (λ l. chain l && has_present w (own_at w l k).value)) i.next w.state) _
          (member-goes (some_label w (λ l. chain l && is_missing w l k)) i.next
          (declared w chain k q) (some-object (λ l. chain l && is_missing w l k) a there
          (and_from _ _ told absent))))

    pub declare_gives : (v : Value) → IsValueOf c.heap v
        → IsTrue (has_value c.heap (abstract_out.at w scope) v)
        → Gives declared_given (declare_step p s name v)
    declare_gives (value.Object a) there told =
        declare_by a there told (own c.heap a (name_text p name)) refl
    declare_gives (value.Primitive z) there told = tt

  -- ---- Enter

  abbrev few : length top.arguments ≤ 4294967295
  few = fr.few_arguments

  abbrev fn : Function
  fn = fr.function

  ids_are : parameter_ids p top.function ≡ fn.parameters
  ids_are = ap (λ o. option_map_or (λ (f : Function). f.parameters) o []) fr.function_is

  texts_are : parameter_names p top.function ≡ map (name_text p) (parameter_ids p top.function)
  texts_are =
      ap (λ o. option_map_or (λ (f : Function). map (name_text p) f.parameters) o [])
      fr.function_is ∙ ap (map (name_text p)) (sym ids_are)

  parameters_count : parameters_of p top.function ≡ length fn.parameters
  parameters_count =
      ap (λ o. option_map_or (λ (f : Function). length f.parameters) o 0) fr.function_is

  name_all : (now : Heap) (a : AbstractState) (t : List ℕ) (ns : List NameId)
      → AllByRecursion (IsName p) ns → AreNames p good now a t ns
  name_all now a t [] all = tt
  name_all now a t (n ∷ ns) all = (all.0, name_all now a t ns all.1)

  names_ok : (now : Heap) (a : AbstractState) (t : List ℕ)
      → AreNames p good now a t (parameter_ids p top.function)
  names_ok now a t =
      subst (AreNames p good now a t) (sym ids_are)
      (name_all now a t fn.parameters (function_of_frame p good c.heap top fr).parameters)

  -- what a register holds
  at_register : (r : ℕ) (v : Value) → slice_get top.registers r ≡ Some v
      → IsValueOf c.heap v × IsTrue (has_value c.heap (w.state.register r) v)
  at_register r v is = (fr.values r v is, at.holds.registers r v is)

  scope_goes : (outer : Addr) → IsObjectOf c.heap outer
      → IsTrue (has_value c.heap (abstract_out.at w scope) (value.Object outer))
      → IsTrue (has_some_part w (w.state.register count_register))
  scope_goes outer there told =
      has_part-has_value p c.heap at.known.heap (w.state.register count_register)
      (whole_number (length top.arguments)) tt (at.holds.registers 4
      (whole_number (length top.arguments)) fr.count_is)

  -- in the context of the frame's function
  abbrev made_with : FnId → Site → Option Site → AbstractState
  made_with f site list =
      option_map_or (λ (l : Site). with_objects w.program w.state site (activation_own p f list) l
      (arguments_own p f)) list (Rattle.ja_abstract.specs.Made.with_object w.program w.state site
      (activation_own p f list))

  abbrev given_for : FnId → Site → Option Site → Given
  given_for f site list =
      goes (has_some_part w (w.state.register count_register)) i.next
      (abstract_scopes.enters_scope (made_with f site list) site)

  plain_enter : (site : Site) → IsNodeSite p site → (outer : Addr) → IsObjectOf c.heap outer
      → IsTrue (has_value c.heap (abstract_out.at w scope) (value.Object outer))
      → Gives (given_for top.function site None)
      (enter s site outer (map (name_text p) (parameter_ids p top.function)) None)
  plain_enter site l outer there told =
      let f : FnId = top.function in
      let o : Object =
      activation outer (with_parameters [] (map (name_text p) (parameter_ids p f))
      top.arguments []) in
      rows.makes_to e c top below x w at good (given_for f site None) scope i.next site o
      (activation_own p f None) l (rows.dest_scope e c top below x w at good)
      (λ known. activation_made p good (with_new c.heap site o)
      (with_made w.state site) f outer top.arguments []
      (aged_register site o l 2 (value.Object outer) there told)
      (λ t. names_ok (with_new c.heap site o) (with_made w.state site) t)
      (λ n below_. let k = at_register (5 + n) (argument top.arguments n)
      (fr.parameters_are n (subst (λ ns. n < length ns) ids_are below_)) in
      aged_register site o l (5 + n) (argument top.arguments n) k.0 k.1))
      (member-goes (has_some_part w (w.state.register count_register)) i.next
      (abstract_scopes.enters_scope (made_with f site None) site) (scope_goes outer there told))

  module _ (site list : Site) (l : IsNodeSite p site) (l_list : IsNodeSite p list)
      (apart : site.0 ≢ list.0) (outer : Addr) (there : IsObjectOf c.heap outer)
      (told : IsTrue (has_value c.heap (abstract_out.at w scope) (value.Object outer))) where
    abbrev f : FnId
    f = top.function

    abbrev names_in : List (List ℕ)
    names_in = map (name_text p) (parameter_ids p f)

    abbrev flags : List Bool
    flags = sharing names_in top.arguments

    abbrev first_o : Object
    first_o =
        activation outer (with_property (with_parameters [] names_in top.arguments flags)
        (property_with (codes "arguments") (value.Object (new_address c.heap list)) DONT_DELETE))

    abbrev list_o : Object
    list_o = arguments_object (object_or_undefined top.callee) top.arguments flags

    abbrev g : Given
    g = given_for f site (Some list)

    arguments_fits : builtins.ARGUMENTS.0 < length p.names
    arguments_fits =
        within_from_some p.names builtins.ARGUMENTS.0
        (is_some_from (slice_get p.names builtins.ARGUMENTS.0) (codes "arguments")
        (from_take (length builtin_names) p.names builtins.ARGUMENTS.0 (codes "arguments")
        (ap (λ (xs : List (List ℕ)). slice_get xs builtins.ARGUMENTS.0) good.names ∙ refl)))

    two_register : (r : ℕ) (v : Value) → IsValueOf c.heap v
        × IsTrue (has_value c.heap (w.state.register r) v)
        → IsTrue (has_value (with_new (with_new c.heap site first_o) list list_o)
        ((with_made (with_made w.state site) list).register r) v)
    two_register r v k =
        both_register g scope i.next site list first_o list_o (activation_own p f (Some list))
        (arguments_own p f) l l_list apart r v k.0 k.1

    argument_is : (vs : List Value) (n : ℕ) (v : Value) → slice_get vs n ≡ Some v
        → argument vs n ≡ v
    argument_is vs n v is = ap (λ o. unwrap_or o undefined) is

    parameter_has : (n : ℕ) → n < length (parameter_ids p f)
        → IsValueOf c.heap (argument top.arguments n)
        × IsTrue (has_value c.heap (w.state.register (5 + n)) (argument top.arguments n))
    parameter_has n below_ =
        at_register (5 + n) (argument top.arguments n)
        (fr.parameters_are n (subst (λ ns. n < length ns) ids_are below_))

    each_argument : (n : ℕ) (v : Value) → slice_get top.arguments n ≡ Some v
        → IsTrue (has_value (with_new (with_new c.heap site first_o) list list_o)
        (if nat_lt n (parameters_of p f) then (with_made (with_made w.state site) list).register
        (parameter_register n) else (with_made (with_made w.state site) list).register
        (rest_register (parameters_of p f))) v)
    each_argument n v is =
        cond_both (nat_lt n (parameters_of p f))
        ((with_made (with_made w.state site) list).register (parameter_register n))
        ((with_made (with_made w.state site) list).register (rest_register (parameters_of p f)))
        (λ z. IsTrue (has_value (with_new (with_new c.heap site first_o) list list_o) z v))
        (λ less. let k : n < parameters_of p f = ltb-true n (parameters_of p f) less in
        let m : parameters_of p f ≡ length fn.parameters = parameters_count in
        subst (λ y. IsTrue (has_value (with_new (with_new c.heap site first_o) list list_o)
        ((with_made (with_made w.state site) list).register (parameter_register n)) y))
        (argument_is top.arguments n v is) (two_register (5 + n) (argument top.arguments n)
        (parameter_has n (subst (λ ns. n < length ns) (sym ids_are) (omega arith)))))
        (λ more. two_register (rest_register (parameters_of p f)) v
        (fr.arguments n v is, at.holds.rest n v (ltb-false n (parameters_of p f) more) is))

    listed_enter : Gives g (enter s site outer names_in (Some list))
    listed_enter =
        two_gives g scope i.next site list first_o list_o (activation_own p f (Some list))
        (arguments_own p f) l l_list apart (rows.dest_scope e c top below x w at good)
        (λ known. listed_activation_made p good (with_new
        (with_new c.heap site first_o) list list_o)
        (with_made (with_made w.state site) list) f outer top.arguments flags
        (two_register 2 (value.Object outer) (there, told))
        (λ t. names_ok (with_new (with_new c.heap site first_o) list list_o)
        (with_made (with_made w.state site) list) t)
        (λ n below_. two_register (5 + n) (argument top.arguments n) (parameter_has n below_))
        list (new_address c.heap list) (same_label_from (new list)
        (label_of (with_new (with_new c.heap site first_o) list list_o) (new_address c.heap list))
        (sym (second_is g scope i.next site list first_o list_o (activation_own p f (Some list))
        (arguments_own p f) l l_list apart))) arguments_fits)
        (λ known. arguments_made p good (with_new (with_new c.heap site first_o) list list_o)
        known (with_made (with_made w.state site) list) f top.arguments flags few
        (object_or_undefined top.callee) (two_register 3 (object_or_undefined top.callee)
        (at_register 3 (object_or_undefined top.callee) fr.callee_is))
        (two_register 4 (whole_number (length top.arguments))
        (at_register 4 (whole_number (length top.arguments)) fr.count_is)) each_argument)
        (member-goes (has_some_part w (w.state.register count_register)) i.next
        (abstract_scopes.enters_scope (made_with f site (Some list)) site)
        (scope_goes outer there told))

  function_is : top.function ≡ x.context.function
  function_is = sym (ap (λ (k : Context). k.function) at.context)

  abbrev pub SitesOf : Site → Option Site → Type 0
  SitesOf site None = IsNodeSite p site
  SitesOf site (Some list) = IsNodeSite p site × (IsNodeSite p list × (site.0 ≢ list.0))

  by_list : (site : Site) (list : Option Site) → SitesOf site list → (outer : Addr)
      → IsObjectOf c.heap outer → IsTrue (has_value c.heap (abstract_out.at w scope)
      (value.Object outer)) → Gives (given_for top.function site list)
      (enter s site outer (map (name_text p) (parameter_ids p top.function)) list)
  by_list site None l outer there told = plain_enter site l outer there told
  by_list site (Some list) l outer there told =
      listed_enter site list l.0 l.1.0 l.1.1 outer there told

  pub enter_gives : (site : Site) (list : Option Site) → SitesOf site list → (v : Value)
      → IsValueOf c.heap v → IsTrue (has_value c.heap (abstract_out.at w scope) v)
      → Gives (transfer_node w x i (node.Enter site list)).states (enter_step p s site list v)
  enter_gives site list l (value.Object outer) there told =
      subst (λ h. Gives (given_for h site list)
      (enter s site outer (parameter_names p top.function) list)) function_is
      (subst (λ ns. Gives (given_for top.function site list) (enter s site outer ns list))
      (sym texts_are) (by_list site list l outer there told))
  enter_gives site list l (value.Primitive q) there told = tt
