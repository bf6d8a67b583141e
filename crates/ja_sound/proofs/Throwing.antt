-- What goes wrong at a node is what its step throws.
use Rattle.std.specs.Prelude.{◌≡◌, ◌<◌, ℕ, zero, suc, Bool, true, false, not, IsTrue, List, [], ◌∷◌, length, Option, Some, None, is_some, Contains, Ok, Err}
use Rattle.std.specs.List.{AllByRecursion}
use Rattle.std.specs.Option.{option_and_then, option_map}
use Rattle.std.proofs.Common.{refl, sym, subst, ap, ◌∙◌, inl, inr, arith}
use Rattle.std.proofs.lemmas.Bool.{false≢true, cond-true, leb-true, leb-false}
use Rattle.std.proofs.lemmas.Option.{none-some, same_Some, option_and_then_some}
use Rattle.ja_base.specs.declared.ids.FnId.{FnId}
use Rattle.ja_base.specs.declared.ids.NameId.{NameId}
use Rattle.ja_base.specs.declared.ids.Reg.{Reg}
use Rattle.ja_base.specs.declared.ids.ScopeKind.TheVariants.{TextLength}
use Rattle.ja_base.specs.declared.ids.Site.{Site}
use Rattle.ja_prim.specs.declared.primitive.Primitive.TheVariants as primitive
use Rattle.ja_prim.specs.Texts.{max_units, is_short}
use Rattle.ja_graph.specs.declared.builtins.TheConstants as builtins
use Rattle.ja_graph.specs.declared.node.Args.{Args}
use Rattle.ja_graph.specs.declared.node.Node.{Node}
use Rattle.ja_graph.specs.declared.node.Node.TheVariants as node
use Rattle.ja_graph.specs.declared.node.NodeInfo.{NodeInfo}
use Rattle.ja_graph.specs.declared.node.Wrappers.{Wrappers}
use Rattle.ja_graph.specs.declared.program.Class.TheVariants as class
use Rattle.ja_graph.specs.declared.program.Program.{Program}
use Rattle.ja_graph.specs.Node.{Making, making, makings, makes_arguments}
use Rattle.ja_graph.specs.Program.{node_at, type_error_prototype, reference_error_prototype}
use Rattle.ja_graph.specs.WellFormed.{IsWellFormed}
use Rattle.ja_machine.specs.declared.machine.Addr.{Addr}
use Rattle.ja_machine.specs.declared.machine.Answer.{Answer}
use Rattle.ja_machine.specs.declared.machine.Conf.{Conf}
use Rattle.ja_machine.specs.declared.machine.Content.{Content}
use Rattle.ja_machine.specs.declared.machine.Content.TheVariants as contents
use Rattle.ja_machine.specs.declared.machine.End.{End}
use Rattle.ja_machine.specs.declared.machine.End.TheVariants as ending
use Rattle.ja_machine.specs.declared.machine.Event.{Event}
use Rattle.ja_machine.specs.declared.machine.Event.TheVariants as event
use Rattle.ja_machine.specs.declared.machine.Frame.{Frame}
use Rattle.ja_machine.specs.declared.machine.Heap.{Heap}
use Rattle.ja_machine.specs.declared.machine.Object.{Object}
use Rattle.ja_machine.specs.declared.machine.Value.{Value}
use Rattle.ja_machine.specs.declared.machine.Value.TheVariants as value
use Rattle.ja_machine.specs.Calls.{function_called, function_constructing, receiver_of, ArgumentsRead, given, register_values, calls, calls_with, constructs, constructs_with}
use Rattle.ja_machine.specs.Events.{Standing, throws, throws_value, left_scope, sets_content, unbound_message, nothing_message, not_a_function_message, not_a_constructor_message}
use Rattle.ja_machine.specs.Frames.{register_of}
use Rattle.ja_machine.specs.Heap.{size, object_at, with_new, new_address}
use Rattle.ja_machine.specs.Machine.{fits, wants, frames_step, step}
use Rattle.ja_machine.specs.Nodes.{name_text, read, read_ref_step, to_object_step, makes, node_step}
use Rattle.ja_machine.specs.Objects.{error_object, wrapper, text_length}
use Rattle.ja_machine.specs.Runs.{AreStates}
use Rattle.ja_machine.specs.State.{IsFrame, IsState, AreFrames}
use Rattle.ja_machine.proofs.Growing.{IsNodeSite}
use Rattle.ja_machine.proofs.Heaps
use Rattle.ja_machine.proofs.Lists.{either_way}
use Rattle.ja_machine.proofs.Nodes.{AreMade, IsMadeAs}
use Rattle.ja_machine.proofs.Standing.{node_made}
use Rattle.ja_rows.specs.declared.table.WarningKind.{WarningKind}
use Rattle.ja_rows.specs.declared.table.WarningKind.TheVariants.{NotAFunction, NoObject, UnboundName}
use Rattle.ja_rows.specs.Warning.{Operation, operation_at}
use Rattle.ja_sound.specs.Faults.{is_nothing_value, is_null, if_so, fault_at, fault_of_frames, fault_of}
use Rattle.ja_sound.specs.Throws.{Thrown, error_of, IsThrow, Throws, FaultsThrow}
use Rattle.ja_sound.proofs.FaultKinds.{so_parts, no_value}
use Rattle.ja_sound.proofs.Taken.{frames_taken}

-- ---- what tells events apart

abbrev is_next : Event → Bool
is_next (event.Next d) = true
is_next (event.End e d) = false

abbrev is_long : End → Bool
is_long (ending.Scope TextLength place) = true
is_long e = false

abbrev is_long_text : Event → Bool
is_long_text (event.Next d) = false
is_long_text (event.End e d) = is_long e

abbrev heap_after : Event → Heap
heap_after (event.Next d) = d.heap
heap_after (event.End e d) = d.heap

abbrev frames_after : Event → List Frame
frames_after (event.Next d) = d.frames
frames_after (event.End e d) = d.frames

-- what holds of all is held by one of them
pub contained : {X : Type 0} (P : X → Type 0) (xs : List X) (x : X) → AllByRecursion P xs
    → Contains xs x → P x
contained P [] x all (k, l, e) = absurd (omega arith)
contained P (y ∷ ys) x all (zero, l, e) = subst P e all.0
contained P (y ∷ ys) x all (suc k, l, e) = contained P ys x all.1 (k, omega arith, e)

-- ---- what is thrown

module _ (c : Conf) (f : Frame) (below : List Frame) (info : NodeInfo) where
  abbrev s : Standing
  s = record { conf = c; top = f; below = below; info = info }

  abbrev Thrown_ : Site → Thrown → Event → Type 0
  Thrown_ error t e = IsThrow c f below info error t (Some e)

  -- a throw is one
  throws_so : (error : Site) (t : Thrown) → Thrown_ error t (throws s error t.prototype t.message)
  throws_so error t =
      either_way (Thrown_ error t) (is_short t.message)
      (throws_value s (with_new c.heap error (error_object t.prototype t.message))
      (value.Object (new_address c.heap error))) (left_scope s TextLength)
      (λ k. inl (leb-true (length t.message) max_units k, refl))
      (λ k. inr (leb-false (length t.message) max_units k, refl))

  -- the end of a run is none, unless a text is too long
  no_end : (error : Site) (t : Thrown) (e : Event) → is_next e ≡ false → is_long_text e ≡ false
      → Thrown_ error t e → ⊥
  no_end error t e no_next no_text (inl x) =
      false≢true (sym no_next ∙ ap is_next (same_Some _ _ x.1))
  no_end error t e no_next no_text (inr x) =
      false≢true (sym no_text ∙ ap is_long_text (same_Some _ _ x.1))

  -- .. and none at all, where the message isn't
  no_long_end : (error : Site) (t : Thrown) (e : Event) → (max_units < length t.message → ⊥)
      → is_next e ≡ false → Thrown_ error t e → ⊥
  no_long_end error t e short no_next (inl x) =
      false≢true (sym no_next ∙ ap is_next (same_Some _ _ x.1))
  no_long_end error t e short no_next (inr x) = short x.0

  -- .. nor is a step into a function
  no_entry : (error : Site) (t : Thrown) (h : Heap) (g : Frame) (n : ℕ)
      → Thrown_ error t (event.Next (record { heap = h; frames = g ∷ f ∷ below; steps = n })) → ⊥
  no_entry error t h g n (inl x) =
      let k : suc (suc (length below)) ≡ suc (length below) =
      ap (λ (e : Event). length (frames_after e)) (same_Some _ _ x.1) in
      absurd (omega arith)
  no_entry error t h g n (inr x) = false≢true (sym (ap is_next (same_Some _ _ x.1)))

  module _ (error : Site) (row : error.0 < length c.heap.objects) where
    -- .. nor one that makes no object
    no_result : (t : Thrown) (d : Conf) → d.heap ≡ c.heap → Thrown_ error t (event.Next d) → ⊥
    no_result t d same (inl x) =
        let heap_is : d.heap ≡ with_new c.heap error (error_object t.prototype t.message) =
        ap heap_after (same_Some _ _ x.1) in
        let grown : size (with_new c.heap error (error_object t.prototype t.message))
        ≡ suc (size c.heap) =
        Heaps.size-with_new c.heap error (error_object t.prototype t.message) row in
        let size_is : size c.heap
        ≡ size (with_new c.heap error (error_object t.prototype t.message)) =
        ap size (sym same ∙ heap_is) in
        absurd (omega arith)
    no_result t d same (inr x) = false≢true (sym (ap is_next (same_Some _ _ x.1)))

    -- .. nor one that makes an object of another class
    error_class : (site : Site) (o q : Object) → site.0 < length c.heap.objects
        → with_new c.heap site o ≡ with_new c.heap error q → o.class ≡ q.class
    error_class site o q there same =
        let a : Addr = new_address c.heap error in
        let made : object_at (with_new c.heap site o) a ≡ Some q =
        ap (λ h. object_at h a) same ∙ Heaps.object-with_new_new c.heap error q row in
        elim (Heaps.old_or_new c.heap site o there a (ap is_some made)) [
          | inl old ↦
              let below_count = Heaps.ordinal-below c.heap a old in absurd (omega arith)
          | inr is ↦
              ap (λ (r : Object). r.class) (same_Some o q
              (sym (Heaps.object-with_new_new c.heap site o there)
              ∙ (ap (object_at (with_new c.heap site o)) (sym is) ∙ made)))
        ]

    no_other : (t : Thrown) (site : Site) (o : Object) (d : Conf) → site.0 < length c.heap.objects
        → (o.class ≡ class.Error → ⊥) → d.heap ≡ with_new c.heap site o
        → Thrown_ error t (event.Next d) → ⊥
    no_other t site o d there other same (inl x) =
        other (error_class site o (error_object t.prototype t.message) there
        (sym same ∙ ap heap_after (same_Some _ _ x.1)))
    no_other t site o d there other same (inr x) = false≢true (sym (ap is_next (same_Some _ _ x.1)))

-- ---- from a fault to a throw, and back

module _ (p : Program) (c : Conf) (f : Frame) (below : List Frame) (info : NodeInfo)
    (answer : Answer) where
  abbrev at_node : Standing
  at_node = record { conf = c; top = f; below = below; info = info }

  abbrev step_of : Node → Option Event
  step_of n = node_step p at_node answer n

  abbrev Throw : Site → Thrown → Option Event → Type 0
  Throw error t o = IsThrow c f below info error t o

  abbrev typed : List ℕ → Thrown
  typed message = record { prototype = type_error_prototype; message = message }

  abbrev referred : List ℕ → Thrown
  referred message = record { prototype = reference_error_prototype; message = message }

  -- the error of its kind is thrown at one of the node's sites
  pub record ThrowsAt (n : Node) (kind : WarningKind) : Type 0 where
    pub thrown : Thrown
    pub thrown_is : error_of p n kind ≡ Some thrown
    pub error : Site
    pub site : Contains (makings n) (making error class.Error)
    pub throws : Throw error thrown (step_of n)

  nothing_throws : (dst : Reg) (sites : Wrappers) (error : Site) (v : Value)
      → IsTrue (is_nothing_value v)
      → Throw error (typed nothing_message) (Some (to_object_step at_node dst sites error v))
  nothing_throws dst sites error (value.Primitive primitive.Undefined) k =
      throws_so c f below info error (typed nothing_message)
  nothing_throws dst sites error (value.Primitive primitive.Null) k =
      throws_so c f below info error (typed nothing_message)
  nothing_throws dst sites error (value.Primitive (primitive.Bool b)) k = absurd (false≢true k)
  nothing_throws dst sites error (value.Primitive (primitive.Number n)) k = absurd (false≢true k)
  nothing_throws dst sites error (value.Primitive (primitive.Text t)) k = absurd (false≢true k)
  nothing_throws dst sites error (value.Object a) k = absurd (false≢true k)

  null_throws : (dst : Reg) (name : NameId) (error : Site) (v : Value) → IsTrue (is_null v)
      → Throw error (referred (unbound_message (name_text p name)))
      (Some (read_ref_step p at_node dst name error v))
  null_throws dst name error (value.Primitive primitive.Null) k =
      throws_so c f below info error (referred (unbound_message (name_text p name)))
  null_throws dst name error (value.Primitive primitive.Undefined) k = absurd (false≢true k)
  null_throws dst name error (value.Primitive (primitive.Bool b)) k = absurd (false≢true k)
  null_throws dst name error (value.Primitive (primitive.Number n)) k = absurd (false≢true k)
  null_throws dst name error (value.Primitive (primitive.Text t)) k = absurd (false≢true k)
  null_throws dst name error (value.Object a) k = absurd (false≢true k)

  pub fault_throws : (n : Node) (kind : WarningKind) → fault_at p f n ≡ Some kind → ThrowsAt n kind
  unfolding makings
  fault_throws (node.Call dst callee receiver args error) kind is =
      let (none, kind_is) = so_parts (not (is_some (function_called p (register_of f callee))))
      NotAFunction kind is in
      subst (ThrowsAt (node.Call dst callee receiver args error)) kind_is (record {
        thrown = typed not_a_function_message;
        thrown_is = refl;
        error = error;
        site = (0, omega arith, refl);
        throws =
            subst (λ o. Throw error (typed not_a_function_message) (Some (calls p at_node
            (register_of f callee) (receiver_of c.heap (register_of f receiver)) args error o)))
            (sym (no_value (function_called p (register_of f callee)) none))
            (throws_so c f below info error (typed not_a_function_message));
      })
  fault_throws (node.New dst callee args site error) kind is =
      let (none, kind_is) =
      so_parts (not (is_some (function_constructing p (register_of f callee)))) NotAFunction kind
      is in
      subst (ThrowsAt (node.New dst callee args site error)) kind_is (record {
        thrown = typed not_a_constructor_message;
        thrown_is = refl;
        error = error;
        site = (1, omega arith, refl);
        throws =
            subst (λ o. Throw error (typed not_a_constructor_message) (Some (constructs p at_node
            (register_of f callee) args site error o)))
            (sym (no_value (function_constructing p (register_of f callee)) none))
            (throws_so c f below info error (typed not_a_constructor_message));
      })
  fault_throws (node.ToObject dst src sites error) kind is =
      let (so, kind_is) = so_parts (is_nothing_value (register_of f src)) NoObject kind is in
      subst (ThrowsAt (node.ToObject dst src sites error)) kind_is (record {
        thrown = typed nothing_message;
        thrown_is = refl;
        error = error;
        site = (3, omega arith, refl);
        throws = nothing_throws dst sites error (register_of f src) so;
      })
  fault_throws (node.ReadRef dst base name error) kind is =
      let (so, kind_is) = so_parts (is_null (register_of f base)) UnboundName kind is in
      subst (ThrowsAt (node.ReadRef dst base name error)) kind_is (record {
        thrown = referred (unbound_message (name_text p name));
        thrown_is = refl;
        error = error;
        site = (0, omega arith, refl);
        throws = null_throws dst name error (register_of f base) so;
      })
  fault_throws n kind is = absurd (none-some kind is)

  -- ---- back

  module _ (error : Site) (row : error.0 < length c.heap.objects) where
    no_call : (t : Thrown) → (max_units < length t.message → ⊥) → (g : FnId) (u : Value)
        (r : Option Addr) (vs : ArgumentsRead)
        → Throw error t (Some (calls_with p at_node g u r vs)) → ⊥
    no_call t short g u None vs throw = no_long_end c f below info error t _ short refl throw
    no_call t short g u (Some r) (Err kind) throw =
        no_long_end c f below info error t _ short refl throw
    no_call t short g u (Some r) (Ok vs) throw = no_entry c f below info error t _ _ _ throw

    no_construction : (t : Thrown) → (max_units < length t.message → ⊥) → (g : FnId) (u : Value)
        (site : Site) (vs : ArgumentsRead)
        → Throw error t (Some (constructs_with p at_node g u site vs)) → ⊥
    no_construction t short g u site (Err kind) throw =
        no_long_end c f below info error t _ short refl throw
    no_construction t short g u site (Ok vs) throw =
        no_entry c f below info error t _ _ _ throw

    call_back : (t : Thrown) → (max_units < length t.message → ⊥) → (u : Value) (r : Option Addr)
        (args : Args) (site : Site) (o : Option FnId)
        → Throw error t (Some (calls p at_node u r args site o)) → o ≡ None
    call_back t short u r args site None throw = refl
    call_back t short u r args site (Some g) throw =
        absurd (no_call t short g u r (given c.heap f args) throw)

    construction_back : (t : Thrown) → (max_units < length t.message → ⊥) → (u : Value)
        (args : List Reg) (site own : Site) (o : Option FnId)
        → Throw error t (Some (constructs p at_node u args site own o)) → o ≡ None
    construction_back t short u args site own None throw = refl
    construction_back t short u args site own (Some g) throw =
        absurd (no_construction t short g u site (register_values f args) throw)

    no_wrapper : (t : Thrown) (dst : Reg) (site : Site) (o : Object)
        → site.0 < length c.heap.objects → (o.class ≡ class.Error → ⊥)
        → Throw error t (Some (makes at_node dst site o)) → ⊥
    no_wrapper t dst site o there other throw =
        no_other c f below info error row t site o _ there other refl throw

    object_back : (t : Thrown) → (max_units < length t.message → ⊥) → (dst : Reg)
        (sites : Wrappers) (own : Site) → sites.boolean.0 < length c.heap.objects
        → sites.number.0 < length c.heap.objects → sites.text.0 < length c.heap.objects
        → (v : Value) → Throw error t (Some (to_object_step at_node dst sites own v))
        → IsTrue (is_nothing_value v)
    object_back t short dst sites own rb rn rt (value.Object a) throw =
        absurd (no_result c f below info error row t _ refl throw)
    object_back t short dst sites own rb rn rt (value.Primitive primitive.Undefined) throw = refl
    object_back t short dst sites own rb rn rt (value.Primitive primitive.Null) throw = refl
    object_back t short dst sites own rb rn rt (value.Primitive (primitive.Bool b)) throw =
        absurd (no_wrapper t dst sites.boolean _ rb (λ e. absurd (cc)) throw)
    object_back t short dst sites own rb rn rt (value.Primitive (primitive.Number n)) throw =
        absurd (no_wrapper t dst sites.number _ rn (λ e. absurd (cc)) throw)
    object_back t short dst sites own rb rn rt (value.Primitive (primitive.Text units)) throw =
        let o : Object = wrapper class.String builtins.STRING_PROTOTYPE (primitive.Text units)
        (text_length units) in
        absurd (either_way (λ (e : Event). Throw error t (Some e) → ⊥) (is_short units)
        (makes at_node dst sites.text o) (left_scope at_node TextLength)
        (λ k. no_wrapper t dst sites.text o rt (λ e. absurd (cc)))
        (λ k. no_long_end c f below info error t _ short refl) throw)

    content_back : (t : Thrown) (dst : Reg) (x : Content)
        → Throw error t (Some (sets_content at_node dst x)) → ⊥
    content_back t dst (contents.Value v) throw =
        no_result c f below info error row t _ refl throw
    content_back t dst contents.Row throw = no_end c f below info error t _ refl refl throw

    read_back : (t : Thrown) (dst : Reg) (name : NameId) (own : Site) (v : Value)
        → Throw error t (Some (read_ref_step p at_node dst name own v)) → IsTrue (is_null v)
    read_back t dst name own (value.Object a) throw =
        absurd (content_back t dst (read c.heap a (name_text p name)) throw)
    read_back t dst name own (value.Primitive primitive.Null) throw = refl
    read_back t dst name own (value.Primitive primitive.Undefined) throw =
        absurd (no_end c f below info error t _ refl refl throw)
    read_back t dst name own (value.Primitive (primitive.Bool b)) throw =
        absurd (no_end c f below info error t _ refl refl throw)
    read_back t dst name own (value.Primitive (primitive.Number n)) throw =
        absurd (no_end c f below info error t _ refl refl throw)
    read_back t dst name own (value.Primitive (primitive.Text u)) throw =
        absurd (no_end c f below info error t _ refl refl throw)

  module _ (rows : length c.heap.objects ≡ length p.sites) where
    abbrev AreMadeAt : Node → Type 0
    AreMadeAt n = AreMade p (λ s. makes_arguments s n) (makings n)

    row_of : (s : Site) → IsNodeSite p s → s.0 < length c.heap.objects
    row_of s l = let k : s.0 < length p.sites = l.1 in omega arith

    error_row : (n : Node) → AreMadeAt n → (error : Site)
        → Contains (makings n) (making error class.Error) → error.0 < length c.heap.objects
    error_row n made error among =
        row_of error (contained (λ (m : Making). IsMadeAs p (makes_arguments m.site n) m)
        (makings n) (making error class.Error) made.each among).told.site

    function_short : max_units < length not_a_function_message → ⊥
    function_short l = omega arith

    constructor_short : max_units < length not_a_constructor_message → ⊥
    constructor_short l = omega arith

    nothing_short : max_units < length nothing_message → ⊥
    nothing_short l = omega arith

    -- the error of a node
    same_error : (n : Node) (t u : Thrown) (error : Site) → Some u ≡ Some t
        → Throw error t (step_of n) → Throw error u (step_of n)
    same_error n t u error is throw =
        subst (λ v. Throw error v (step_of n)) (sym (same_Some u t is)) throw

    pub throw_faults : (n : Node) (kind : WarningKind) → AreMadeAt n → (t : Thrown)
        → error_of p n kind ≡ Some t → (error : Site) → error.0 < length c.heap.objects
        → Throw error t (step_of n) → fault_at p f n ≡ Some kind
    unfolding makings
    throw_faults (node.Call dst callee receiver args own) NotAFunction made t is error row throw =
        ap (λ (o : Option FnId). if_so (not (is_some o)) NotAFunction)
        (call_back error row (typed not_a_function_message) function_short (register_of f callee)
        (receiver_of c.heap (register_of f receiver)) args own
        (function_called p (register_of f callee)) (same_error
        (node.Call dst callee receiver args own) t (typed not_a_function_message) error is throw))
    throw_faults (node.New dst callee args site own) NotAFunction made t is error row throw =
        ap (λ (o : Option FnId). if_so (not (is_some o)) NotAFunction)
        (construction_back error row (typed not_a_constructor_message) constructor_short
        (register_of f callee) args site own (function_constructing p (register_of f callee))
        (same_error (node.New dst callee args site own) t (typed not_a_constructor_message) error
        is throw))
    throw_faults (node.ToObject dst src sites own) NoObject made t is error row throw =
        ap (λ b. if_so b NoObject) (object_back error row (typed nothing_message) nothing_short dst
        sites own (row_of sites.boolean made.each.0.told.site)
        (row_of sites.number made.each.1.0.told.site) (row_of sites.text made.each.1.1.0.told.site)
        (register_of f src) (same_error (node.ToObject dst src sites own) t (typed nothing_message)
        error is throw))
    throw_faults (node.ReadRef dst base name own) UnboundName made t is error row throw =
        ap (λ b. if_so b UnboundName) (read_back error row
        (referred (unbound_message (name_text p name))) dst name own (register_of f base)
        (same_error (node.ReadRef dst base name own) t
        (referred (unbound_message (name_text p name))) error is throw))
    throw_faults n kind made t is error row throw = absurd (none-some t is)

-- ---- in each state of a run

module _ (p : Program) (good : IsWellFormed p) (c : Conf) (known : IsState p c) (answer : Answer)
    (fit : IsTrue (fits p (wants p c) answer)) (o : Operation) where
  module _ (f : Frame) (below : List Frame) (frames_are : c.frames ≡ f ∷ below) (i : NodeInfo)
      (info_is : node_at p f.function f.node ≡ Some i) where
    -- the step is that of the node
    step_is : step p c answer
        ≡ node_step p (record { conf = c; top = f; below = below; info = i }) answer i.node
    step_is =
        cond-true (fits p (wants p c) answer) (frames_step p c answer c.frames) None fit
        ∙ frames_taken p c f below i frames_are info_is answer

    fault_is : fault_of p c ≡ option_map (operation_at p f.function i) (fault_at p f i.node)
    fault_is =
        ap (fault_of_frames p) frames_are
        ∙ ap (option_and_then (λ (j : NodeInfo).
        option_map (operation_at p f.function j) (fault_at p f j.node))) info_is

    faulted_at : (r : Option WarningKind) → fault_at p f i.node ≡ r
        → option_map (operation_at p f.function i) r ≡ Some o → Throws p c answer o
    faulted_at None is e = absurd (none-some o e)
    faulted_at (Some kind) is e =
        let at : ThrowsAt p c f below i answer i.node kind =
        fault_throws p c f below i answer i.node kind is in
        subst (Throws p c answer) (same_Some (operation_at p f.function i kind) o e) (record {
          top = f;
          below = below;
          frames_are = frames_are;
          info = i;
          info_is = info_is;
          operation_is = refl;
          thrown = at.thrown;
          thrown_is = at.thrown_is;
          error = at.error;
          site = at.site;
          throws = subst (IsThrow c f below i at.error at.thrown) (sym step_is) at.throws;
        })

    frame_known : IsFrame p c.heap f
    frame_known =
        let all : AreFrames p c.heap (f ∷ below) =
        subst (AreFrames p c.heap) frames_are known.frames in all.0

  faulted : (fs : List Frame) → c.frames ≡ fs → fault_of_frames p fs ≡ Some o
      → Throws p c answer o
  faulted [] frames_are e = absurd (none-some o e)
  faulted (f ∷ below) frames_are e =
      option_and_then_some (λ (i : NodeInfo).
      option_map (operation_at p f.function i) (fault_at p f i.node))
      (node_at p f.function f.node) o e
      (λ i info_is fault. faulted_at f below frames_are i info_is (fault_at p f i.node) refl fault)

  thrown_faults : Throws p c answer o → fault_of p c ≡ Some o
  thrown_faults r =
      let made = node_made p good c.heap r.top
      (frame_known r.top r.below r.frames_are r.info r.info_is) r.info r.info_is in
      let row : r.error.0 < length c.heap.objects =
      error_row p c r.top r.below r.info answer known.heap.rows r.info.node made r.error r.site in
      fault_is r.top r.below r.frames_are r.info r.info_is
      ∙ (ap (option_map (operation_at p r.top.function r.info))
      (throw_faults p c r.top r.below r.info answer known.heap.rows r.info.node o.kind made
      r.thrown r.thrown_is r.error row (subst (IsThrow c r.top r.below r.info r.error r.thrown)
      (step_is r.top r.below r.frames_are r.info r.info_is) r.throws))
      ∙ ap Some r.operation_is)

pub faults_throw : (p : Program) → IsWellFormed p → AreStates p → FaultsThrow p
faults_throw p good states answers c answer o reached fit = (
  faulted p good c (states answers c reached) answer fit o c.frames refl,
  thrown_faults p good c (states answers c reached) answer fit o,
)
