-- Rows of nodes: names and properties.
use Rattle.std.specs.Prelude.{◌≡◌, ◌&&◌, ◌++◌, not, ℕ, Bool, true, false, IsTrue, List, [], ◌∷◌, Option, Some, None, is_some, unwrap_or}
use Rattle.std.specs.Option.{option_map}
use Rattle.std.proofs.Common.{refl, sym, subst, ap, ◌∙◌, inl, inr}
use Rattle.std.proofs.lemmas.Bool.{cond-true, or_left, or_right, and_from, and_parts}
use Rattle.ja_base.specs.declared.ids.NameId.{NameId}
use Rattle.ja_base.specs.declared.ids.NodeId.{NodeId}
use Rattle.ja_base.specs.declared.ids.Reg.{Reg}
use Rattle.ja_base.specs.declared.ids.Site.{Site}
use Rattle.ja_base.proofs.Options.{some_value}
use Rattle.ja_prim.specs.declared.primitive.Primitive.TheVariants as primitive
use Rattle.ja_prim.specs.Texts.{is_short}
use Rattle.ja_graph.specs.declared.attrs.Attrs.{Attrs}
use Rattle.ja_graph.specs.declared.builtins.TheConstants as builtins
use Rattle.ja_graph.specs.declared.node.ErrorKind.{ErrorKind}
use Rattle.ja_graph.specs.declared.node.ErrorKind.TheVariants as error_kind
use Rattle.ja_graph.specs.declared.node.Node.TheVariants as node
use Rattle.ja_graph.specs.declared.node.NodeInfo.{NodeInfo}
use Rattle.ja_graph.specs.declared.program.Program.{Program}
use Rattle.ja_graph.specs.Program.{global}
use Rattle.ja_graph.specs.WellFormed.{IsWellFormed, IsDestination, IsRegister, IsName}
use Rattle.ja_machine.specs.declared.machine.Addr.{Addr}
use Rattle.ja_machine.specs.declared.machine.Value.{Value}
use Rattle.ja_machine.specs.declared.machine.Value.TheVariants as value
use Rattle.ja_machine.specs.declared.machine.Content.{Content}
use Rattle.ja_machine.specs.declared.machine.Content.TheVariants as contents
use Rattle.ja_machine.specs.declared.machine.Property.{Property}
use Rattle.ja_machine.specs.declared.machine.Object.{Object}
use Rattle.ja_machine.specs.declared.machine.Put.{Put}
use Rattle.ja_machine.specs.declared.machine.Put.TheVariants as put_ends
use Rattle.ja_machine.specs.declared.machine.Heap.{Heap}
use Rattle.ja_machine.specs.declared.machine.Frame.{Frame}
use Rattle.ja_machine.specs.declared.machine.Conf.{Conf}
use Rattle.ja_machine.specs.declared.machine.Event.{Event}
use Rattle.ja_machine.specs.Events.{Standing, goes_on, left_scope, sets_content, unbound_message, array_length_message}
use Rattle.ja_machine.specs.Events as machine
use Rattle.ja_machine.specs.Frames.{register_of, undefined, thrown, scope, moved_to, with_result}
use Rattle.ja_machine.specs.Heap.{object_at, with_new}
use Rattle.ja_machine.specs.Heap as heap
use Rattle.ja_machine.specs.Writes.{put, delete, can_delete, is_array}
use Rattle.ja_machine.specs.Objects.{first_of, error_object, prototype_of_error}
use Rattle.ja_machine.specs.Nodes.{name_text, bool_value, find_name, find_name_step, read, read_ref_step, read_soft_step, write_ref_step, delete_ref_step, puts, after_put, deletes, on_property, wrong_length, not_taken}
use Rattle.ja_machine.specs.Values.{key_of as key_text}
use Rattle.ja_machine.specs.State.{IsFrame, IsObjectOf, IsValueOf, IsContentOf}
use Rattle.ja_machine.proofs.Growing.{IsNodeSite}
use Rattle.ja_machine.proofs.Lists.{either_way}
use Rattle.ja_machine.proofs.Reading.{read_content, content_found, base_value}
use Rattle.ja_abstract.specs.declared.abstraction.Key.{Key}
use Rattle.ja_abstract.specs.AbstractValue.{Labels, AbstractValue, AbstractProperty, bare, join, undefined_value, no_value}
use Rattle.ja_abstract.specs.AbstractState.{AbstractState, new, with_register}
use Rattle.ja_abstract.specs.Contents.{held, label_of, property_content, content_of}
use Rattle.ja_abstract.specs.Keys.{named, is_among_keys}
use Rattle.ja_abstract.specs.Keys as meaning
use Rattle.ja_abstract.specs.Resolved.{IsFilled}
use Rattle.ja_abstract.specs.Made.{error_own, rest_register}
use Rattle.ja_abstract.specs.Primitives.{of_bools}
use Rattle.ja_abstract.specs.Reading.{View, get, demands_of_get, found, has_present, may_have, may_lack}
use Rattle.ja_abstract.specs.Values.{as_read, value_if}
use Rattle.ja_abstract.specs.Writes.{put_states, put_may_throw, demands_of_puts, or_global, delete_states, demands_of_delete, Deletion}
use Rattle.ja_abstract.proofs.Labels.{same_label_from}
use Rattle.ja_abstract.proofs.Lists.{Member, member-append_left, member-append_right, member-map}
use Rattle.ja_meaning.specs.Meaning.{has_value, knows, IsOfHeap}
use Rattle.ja_meaning.proofs.Held.{HoldsOfFrame, HoldsOfAll, of_all, holding}
use Rattle.ja_meaning.proofs.Builtins.{global_fits}
use Rattle.ja_meaning.proofs.Parts.{is_present-has_value, is_present-known, has_as_read, value_same}
use Rattle.ja_meaning.proofs.Putting.{IsBase, write_by}
use Rattle.ja_meaning.proofs.Values.{has_value-join_left, has_value-join_right}
use Rattle.ja_meaning.proofs.Deletes.{IsDeleted, is_deleted}
use Rattle.ja_meaning.proofs.Found.{found_known}
use Rattle.ja_meaning.proofs.Moments.{Reads}
use Rattle.ja_meaning.proofs.Gets.{get_known}
use Rattle.ja_meaning.proofs.MadeObjects.{an_error}
use Rattle.ja_meaning.proofs.PutStates.{IsLeft, LeftBy, put_left}
use Rattle.ja_meaning.proofs.Written.{Wrote, knows-now}
use Rattle.ja_rows.specs.Out as abstract
use Rattle.ja_rows.specs.Out.{Point, Given, goes, all_go, sets, sets_in, sets_results, read_value, name_keys, keys_in, with_error}
use Rattle.ja_rows.specs.Names.{without_arrays}
use Rattle.ja_rows.specs.Transfer.{transfer_node}
use Rattle.ja_sound.specs.Statements.{IsAt}
use Rattle.ja_sound.proofs.Registers.{frame_with_result}
use Rattle.ja_sound.proofs.Returned.{member-sets}
use Rattle.ja_sound.proofs.AtNode.{keys_among}
use Rattle.ja_sound.proofs.AtNode as rows
use Rattle.ja_sound.proofs.Steps as steps
use Rattle.ja_sound.proofs.Steps.{member-goes}

member-results : (w : View) (dst : Reg) (n : NodeId) (v : AbstractValue) (a : AbstractState)
    (rs : List Deletion) → Member {X = Deletion} (v, a) rs → IsTrue (has_present w v)
    → Member {X = ℕ × AbstractState} (n.0, with_register a dst v) (sets_results w dst n rs)
member-results w dst n v a [] m e = elim m [ ]
member-results w dst n v a (r ∷ rs) (inl is) e =
    subst (λ (z : Deletion). Member {X = ℕ × AbstractState} (n.0, with_register a dst v)
    (sets_in w z.1 dst z.0 n ++ sets_results w dst n rs)) (sym is)
    (member-append_left _ (sets_in w a dst v n) _ (member-sets w a dst v n e))
member-results w dst n v a (r ∷ rs) (inr m) e =
    member-append_right _ (sets_in w r.1 dst r.0 n) _ (member-results w dst n v a rs m e)

-- ---- what a reading has

known_value : (h : Heap) (q : AbstractProperty) (x : Content) (attrs : Attrs) (v : Value)
    → x ≡ contents.Value v → IsTrue (knows h q (content_of x attrs))
    → IsTrue (has_value h q.value v)
known_value h q (contents.Value u) attrs v is known =
    subst (λ y. IsTrue (has_value h q.value y)) (value_same u v is) (and_parts _ _ known).0
known_value h q contents.Row attrs v is known = cc

pub read_has : (h : Heap) (q : AbstractProperty) (g : Option Property) (v : Value)
    → IsTrue (knows h q (property_content g)) → unwrap_or
    (option_map (λ (r : Property). r.content) g) (contents.Value undefined) ≡ contents.Value v
    → IsTrue (has_value h (as_read q.value) v)
read_has h q None v known is =
    subst (λ y. IsTrue (has_value h (as_read q.value) y)) (value_same undefined v is)
    (or_right q.value.flags.undefined q.value.flags.absent known)
read_has h q (Some r) v known is =
    has_as_read h q.value v (known_value h q r.content r.attrs v is known)

of_heap_content : (h : Heap) (x : Content) (attrs : Attrs) → IsContentOf h x
    → IsOfHeap h (content_of x attrs)
of_heap_content h (contents.Value v) attrs there = there
of_heap_content h contents.Row attrs there = tt

pub bools_have : (h : Heap) (x y b : Bool) → (b ≡ true → IsTrue x) → (b ≡ false → IsTrue y)
    → IsTrue (has_value h (of_bools x y) (bool_value b))
bools_have h x y true f g = f refl
bools_have h x y false f g = g refl

module _ (e : Heap) (c : Conf) (top : Frame) (below : List Frame) (x : Point) (w : View)
    (at : IsAt w.program e c top below x w) (good : IsWellFormed w.program) where
  abbrev p : Program
  p = w.program

  abbrev i : NodeInfo
  i = x.info

  abbrev s : Standing
  s = record { conf = c; top = top; below = below; info = i }

  abbrev pub Gives : Given → Event → Type 0
  Gives = rows.Gives e c top below x w at good

  abbrev pub fr : IsFrame p c.heap top
  fr = rows.fr e c top below x w at good

  pub rd : Reads e c.heap w
  rd = steps.read_at e c top below x w at

  abbrev IsReg : Reg → Type 0
  IsReg r = IsRegister fr.function r

  abbrev IsDest : Reg → Type 0
  IsDest r = IsDestination fr.function r

  pub has : (r : Reg) → IsReg r → IsTrue (has_value c.heap (abstract.at w r) (register_of top r))
  has r l = rows.has e c top below x w at good r l

  pub of_heap : (r : Reg) → IsReg r → IsValueOf c.heap (register_of top r)
  of_heap r l = rows.of_heap e c top below x w at good r l

  -- ---- what nodes have in common

  -- an error is thrown
  pub throws_gives : (given : Given) (b : Bool) (error : Site) (kind : ErrorKind) (text : List ℕ)
      → IsNodeSite p error → IsTrue b → ((y : ℕ × AbstractState)
      → Member y (abstract.throws w b i error (prototype_of_error kind) text) → Member y given)
      → Gives given (machine.throws s error (prototype_of_error kind) text)
  throws_gives given b error kind text site b_is among =
      let now : Heap = with_new c.heap error (error_object (prototype_of_error kind) text) in
      either_way (Gives given) (is_short text) (machine.throws_value s now
      (value.Object (heap.new_address c.heap error)))
      (left_scope s Rattle.ja_base.specs.declared.ids.ScopeKind.TheVariants.TextLength)
      (λ short. rows.makes_to e c top below x w at good given thrown i.handler error
      (error_object (prototype_of_error kind) text)
      (λ a. error_own (prototype_of_error kind) text) site
      (rows.dest_thrown e c top below x w at good) (λ known. an_error p good now known kind text)
      (among _ (member-goes (b && is_short text) i.handler
      (with_error w error (prototype_of_error kind) text) (and_from _ _ b_is short))))
      (λ long. tt)

  -- a register is set, in the same heap
  pub sets_gives : (given : Given) (dst : Reg) (v : Value) (u : AbstractValue) → IsDest dst
      → IsValueOf c.heap v → IsTrue (has_value c.heap u v)
      → ((y : ℕ × AbstractState) → Member y (sets w dst u i.next) → Member y given)
      → Gives given (machine.sets s dst v)
  sets_gives given dst v u d there told among =
      rows.sets_to e c top below x w at good given dst i.next v u
      (rows.dest e c top below x w at good dst d) there told
      (λ some. among _ (member-sets w w.state dst u i.next some))

  -- .. to what is read
  pub content_gives : (given : Given) (dst : Reg) (y : Content) (u : AbstractValue) → IsDest dst
      → IsContentOf c.heap y → ((v : Value) → y ≡ contents.Value v → IsTrue (has_value c.heap u v))
      → ((y : ℕ × AbstractState) → Member y (sets w dst u i.next) → Member y given)
      → Gives given (sets_content s dst y)
  content_gives given dst (contents.Value v) u d there told among =
      sets_gives given dst v u d there (told v refl) among
  content_gives given dst contents.Row u d there told among = tt

  -- the frame in a heap in which an object is written
  frame_written : (a : Addr) (now : Heap) → Wrote c.heap now a → (state : AbstractState)
      → state.register ≡ w.state.register → HoldsOfFrame p now top state
  frame_written a now wrote state is = record {
    registers =
        λ r v at_r. subst (λ g. IsTrue (has_value now (g r) v)) (sym is)
        (knows-now c.heap now a wrote (bare (w.state.register r)) (held v)
        (at.holds.registers r v at_r));
    rest =
        λ j v more at_j. let r = rest_register (Rattle.ja_machine.specs.Frames.parameters_of p
        top.function) in subst (λ g. IsTrue (has_value now (g r) v)) (sym is)
        (knows-now c.heap now a wrote (bare (w.state.register r)) (held v)
        (at.holds.rest j v more at_j));
  }

  pub written_gives : (given : Given) (a : Addr) (now : Heap) (state : AbstractState)
      → Wrote c.heap now a → state.register ≡ w.state.register → HoldsOfAll p e now state
      → Member {X = ℕ × AbstractState} (i.next.0, state) given → Gives given (goes_on s now)
  written_gives given a now state wrote is holds among =
      let f = frame_written a now wrote state is in
      λ after. record {
        top = moved_to top i.next;
        frames_are = refl;
        state = state;
        among =
            among;
        holds = record {
          heap = of_all p e now state holds;
          registers = f.registers;
          rest = f.rest;
        };
      }

  -- ---- reads

  module _ (given : Given) (dst : Reg) (d : IsDest dst) (start : Labels) (keys : List Key)
      (filled : IsFilled w.entries (demands_of_get w start keys)) (a : Addr) (t : List ℕ)
      (there : IsObjectOf c.heap a) (started : IsTrue (start (label_of c.heap a)))
      (key_in : IsTrue (is_among_keys keys (meaning.key_of p (named t)))) where
    known : IsTrue (knows c.heap (get w start keys) (property_content (heap.get c.heap a t)))
    known = get_known e c.heap w rd start keys filled t key_in a there started

    pub read_told : (v : Value) → read c.heap a t ≡ contents.Value v
        → IsTrue (has_value c.heap (read_value w start keys) v)
    read_told v is = read_has c.heap (get w start keys) (heap.get c.heap a t) v known is

    has_by : (g : Option Property) → heap.get c.heap a t ≡ g
        → IsTrue (has_value c.heap (of_bools (may_have w (get w start keys))
        (may_lack (get w start keys))) (bool_value (is_some g)))
    has_by None is =
        subst (λ g. IsTrue (knows c.heap (get w start keys) (property_content g))) is known
    has_by (Some q) is =
        is_present-known p c.heap at.known.heap (get w start keys) q.content q.attrs
        (of_heap_content c.heap q.content q.attrs
        (content_found p c.heap at.known.heap a t q.content
        (ap (option_map (λ (r : Property). r.content)) is)))
        (subst (λ g. IsTrue (knows c.heap (get w start keys) (property_content g))) is known)

    pub has_told : IsTrue (has_value c.heap (of_bools (may_have w (get w start keys))
        (may_lack (get w start keys))) (bool_value (heap.has c.heap a t)))
    has_told = has_by (heap.get c.heap a t) refl

  -- ---- names

  pub find_gives : (dst : Reg) (name : NameId) → IsDest dst → IsName p name
      → IsFilled w.entries (transfer_node w x i (node.FindName dst name)).demands → (v : Value)
      → IsValueOf c.heap v → IsTrue (has_value c.heap (abstract.at w scope) v)
      → Gives (transfer_node w x i (node.FindName dst name)).states (find_name_step p s dst name v)
  find_gives dst name d n filled (value.Primitive q) there told = tt
  find_gives dst name d n filled (value.Object a) there told =
      sets_gives _ dst (find_name c.heap a (name_text p name))
      (found w (abstract.at w scope).label (name_keys name)) d
      (base_value p c.heap at.known.heap a (name_text p name) there)
      (found_known e c.heap w rd (abstract.at w scope).label (name_keys name) filled
      (name_text p name) (rows.name_among e c top below x w at good name n) a there told) (λ y m. m)

  pub read_ref_gives : (dst base : Reg) (name : NameId) (error : Site) → IsDest dst → IsName p name
      → IsNodeSite p error → IsFilled w.entries (transfer_node w x i
      (node.ReadRef dst base name error)).demands → (v : Value) → IsValueOf c.heap v
      → IsTrue (has_value c.heap (abstract.at w base) v)
      → Gives (transfer_node w x i (node.ReadRef dst base name error)).states
      (read_ref_step p s dst name error v)
  read_ref_gives dst base name error d n site filled (value.Object a) there told =
      content_gives _ dst (read c.heap a (name_text p name))
      (read_value w (abstract.at w base).label (name_keys name)) d
      (read_content p c.heap at.known.heap a (name_text p name))
      (read_told [] dst d (abstract.at w base).label (name_keys name) filled a
      (name_text p name) there told (rows.name_among e c top below x w at good name n))
      (λ y m. member-append_right y (abstract.throws w
      (abstract.at w base).flags.null i error builtins.REFERENCE_ERROR_PROTOTYPE
      (unbound_message (name_text p name))) _ m)
  read_ref_gives dst base name error d n site filled (value.Primitive primitive.Null) there told =
      throws_gives _ (abstract.at w base).flags.null error error_kind.ReferenceError
      (unbound_message (name_text p name)) site told (λ y m. member-append_left y _ _ m)
  read_ref_gives dst base name error d n site filled
      (value.Primitive primitive.Undefined) there told =
      tt
  read_ref_gives dst base name error d n site filled
      (value.Primitive (primitive.Bool b)) there told =
      tt
  read_ref_gives dst base name error d n site filled
      (value.Primitive (primitive.Number z)) there told =
      tt
  read_ref_gives dst base name error d n site filled
      (value.Primitive (primitive.Text z)) there told =
      tt

  pub read_soft_gives : (dst base : Reg) (name : NameId) → IsDest dst → IsName p name
      → IsFilled w.entries (transfer_node w x i (node.ReadSoft dst base name)).demands → (v : Value)
      → IsValueOf c.heap v → IsTrue (has_value c.heap (abstract.at w base) v)
      → Gives (transfer_node w x i (node.ReadSoft dst base name)).states
      (read_soft_step p s dst name v)
  read_soft_gives dst base name d n filled (value.Object a) there told =
      let u : AbstractValue = read_value w (abstract.at w base).label (name_keys name) in
      let nothing : AbstractValue = value_if (abstract.at w base).flags.null undefined_value in
      content_gives _ dst (read c.heap a (name_text p name)) (join nothing u) d
      (read_content p c.heap at.known.heap a (name_text p name))
      (λ v is. has_value-join_right c.heap nothing u v
      (read_told [] dst d (abstract.at w base).label (name_keys name) filled a
      (name_text p name) there told (rows.name_among e c top below x w at good name n) v is))
      (λ y m. m)
  read_soft_gives dst base name d n filled (value.Primitive primitive.Null) there told =
      let u : AbstractValue = read_value w (abstract.at w base).label (name_keys name) in
      let nothing : AbstractValue = value_if (abstract.at w base).flags.null undefined_value in
      sets_gives _ dst undefined (join nothing u) d tt
      (has_value-join_left c.heap nothing u undefined
      (subst (λ z. IsTrue (has_value c.heap z undefined))
      (sym (cond-true (abstract.at w base).flags.null undefined_value no_value told)) refl))
      (λ y m. m)
  read_soft_gives dst base name d n filled (value.Primitive primitive.Undefined) there told = tt
  read_soft_gives dst base name d n filled (value.Primitive (primitive.Bool b)) there told = tt
  read_soft_gives dst base name d n filled (value.Primitive (primitive.Number z)) there told = tt
  read_soft_gives dst base name d n filled (value.Primitive (primitive.Text z)) there told = tt

  pub read_prop_gives : (dst object key : Reg) → IsDest dst → IsReg key
      → IsFilled w.entries (transfer_node w x i (node.ReadProp dst object key)).demands
      → (v : Value) → IsValueOf c.heap v → IsTrue (has_value c.heap (abstract.at w object) v)
      → (k : Option (List ℕ)) → key_text (register_of top key) ≡ k
      → Gives (transfer_node w x i (node.ReadProp dst object key)).states
      (on_property s (λ a name. sets_content s dst (read s.conf.heap a name)) v k)
  read_prop_gives dst object key d r filled (value.Object a) there told (Some t) is =
      content_gives _ dst (read c.heap a t) (read_value w (abstract.at w object).label
      (keys_in w key)) d (read_content p c.heap at.known.heap a t)
      (read_told [] dst d (abstract.at w object).label (keys_in w key) filled a t there told
      (keys_among e c top below x w at good key r t is)) (λ y m. m)
  read_prop_gives dst object key d r filled (value.Object a) there told None is = tt
  read_prop_gives dst object key d r filled (value.Primitive q) there told k is = tt

  pub has_prop_gives : (dst object key : Reg) → IsDest dst → IsReg key
      → IsFilled w.entries (transfer_node w x i (node.HasProp dst object key)).demands → (v : Value)
      → IsValueOf c.heap v → IsTrue (has_value c.heap (abstract.at w object) v)
      → (k : Option (List ℕ)) → key_text (register_of top key) ≡ k
      → Gives (transfer_node w x i (node.HasProp dst object key)).states
      (on_property s (λ a name. machine.sets s dst (bool_value (heap.has s.conf.heap a name))) v k)
  has_prop_gives dst object key d r filled (value.Object a) there told (Some t) is =
      let q = get w (abstract.at w object).label (keys_in w key) in
      sets_gives _ dst (bool_value (heap.has c.heap a t))
      (of_bools (may_have w q) (may_lack q)) d tt
      (has_told [] dst d (abstract.at w object).label (keys_in w key) filled a t there told
      (keys_among e c top below x w at good key r t is)) (λ y m. m)
  has_prop_gives dst object key d r filled (value.Object a) there told None is = tt
  has_prop_gives dst object key d r filled (value.Primitive q) there told k is = tt

  -- ---- writes

  module _ (given : Given) (wrong : Event) (target : Labels) (keys : List Key) (u : AbstractValue)
      (v : Value) (told : IsTrue (has_value c.heap u v))
      (among : (a : AbstractState) → Member a (put_states w target keys u)
      → Member {X = ℕ × AbstractState} (i.next.0, a) given)
      (throws : IsTrue (put_may_throw w target keys u) → Gives given wrong)
      (filled : IsFilled w.entries (demands_of_puts w target keys)) where
    left_gives : (a : Addr) (now : Heap) → IsLeft e c.heap w a now (put_states w target keys u)
        → Gives given (goes_on s now)
    left_gives a now h =
        written_gives given a now h.state h.wrote h.registers h.heap (among h.state h.among)

    pub puts_gives : (a : Addr) (t : List ℕ) → IsObjectOf c.heap a
        → IsTrue (target (label_of c.heap a)) → IsTrue
        (is_among_keys keys (meaning.key_of p (named t))) → Gives given (puts s wrong a t v)
    puts_gives a t there in_ key_in =
        let (o, is) = some_value (object_at c.heap a) there in
        by (put c.heap a t v).put (put c.heap a t v).heap o is
        (put_left e c.heap w rd good target keys u v told a o is t in_ key_in filled)
      where
        by : (q : Put) (now : Heap) (o : Object) (is : object_at c.heap a ≡ Some o)
            → LeftBy e c.heap w rd good target keys u v told a o is t in_ key_in filled q now
            → Gives given (after_put s wrong now q)
        by put_ends.Done now o is h = left_gives a now h
        by put_ends.Ignored now o is h = left_gives a now h
        by put_ends.RangeError now o is h = throws h.1
        by put_ends.LengthObject now o is h = tt
        by put_ends.SharedArgument now o is h = tt

  goes_all : (a : AbstractState) (states : List AbstractState) → Member a states
      → Member {X = ℕ × AbstractState} (i.next.0, a) (all_go i.next states)
  goes_all a states m =
      member-map (λ (b : AbstractState). let y : ℕ × AbstractState = (i.next.0, b) in y) a states m

  pub write_prop_gives : (object key src : Reg) (error : Site) → IsReg key → IsReg src
      → IsNodeSite p error → IsFilled w.entries (transfer_node w x i
      (node.WriteProp object key src error)).demands → (v : Value) → IsValueOf c.heap v
      → IsTrue (has_value c.heap (abstract.at w object) v) → (k : Option (List ℕ))
      → key_text (register_of top key) ≡ k → Gives
      (transfer_node w x i (node.WriteProp object key src error)).states
      (on_property s (λ a name. puts s (wrong_length s error) a name (register_of top src)) v k)
  write_prop_gives object key src error r q site filled (value.Object a) there told (Some t) is =
      let target : Labels = (abstract.at w object).label in
      let keys : List Key = keys_in w key in
      let u : AbstractValue = abstract.at w src in
      puts_gives _ (wrong_length s error) target keys u (register_of top src) (has src q)
      (λ a m. member-append_left _ (all_go i.next (put_states w target keys u)) _
      (goes_all a (put_states w target keys u) m))
      (λ may. throws_gives _ (put_may_throw w target keys u) error error_kind.RangeError
      array_length_message site may (λ y m. member-append_right y
      (all_go i.next (put_states w target keys u)) _ m))
      filled a t there told (keys_among e c top below x w at good key r t is)
  write_prop_gives object key src error r q site filled (value.Object a) there told None is = tt
  write_prop_gives object key src error r q site filled (value.Primitive z) there told k is = tt

  -- the global object
  pub global_label : label_of c.heap (first_of global) ≡ new global
  global_label =
      rows.opened e c top below x w at good c.heap at.known.heap global (global_fits p good)

  base_among : (base : Reg) (v : Value) (b : Addr) → IsBase v b
      → IsTrue (has_value c.heap (abstract.at w base) v)
      → IsTrue (or_global (abstract.at w base) (label_of c.heap b))
  base_among base (value.Object a) b is told =
      or_left _ _ (subst (λ d. IsTrue ((abstract.at w base).label (label_of c.heap d))) is told)
  base_among base (value.Primitive primitive.Null) b is told =
      or_right _ _ (and_from _ _ told (same_label_from (new global) (label_of c.heap b)
      (sym global_label ∙ ap (label_of c.heap) is)))
  base_among base (value.Primitive primitive.Undefined) b is told = elim is [ ]
  base_among base (value.Primitive (primitive.Bool q)) b is told = elim is [ ]
  base_among base (value.Primitive (primitive.Number q)) b is told = elim is [ ]
  base_among base (value.Primitive (primitive.Text q)) b is told = elim is [ ]

  pub write_ref_gives : (base : Reg) (name : NameId) (src : Reg) → IsName p name → IsReg src
      → IsFilled w.entries (transfer_node w x i (node.WriteRef base name src)).demands → (v : Value)
      → IsValueOf c.heap v → IsTrue (has_value c.heap (abstract.at w base) v)
      → Gives (transfer_node w x i (node.WriteRef base name src)).states
      (write_ref_step p s name (register_of top src) v)
  write_ref_gives base name src n q filled v there told =
      let target : Labels = without_arrays p (or_global (abstract.at w base)) in
      let u : AbstractValue = abstract.at w src in
      write_by p good s at.known.heap (Gives (transfer_node w x i
      (node.WriteRef base name src)).states) (λ kind. tt) name (register_of top src) v there
      (λ b o b_is is no_array. puts_gives _ (not_taken s) target (name_keys name) u
      (register_of top src) (has src q) (λ a m. goes_all a
      (put_states w target (name_keys name) u) m) (λ may. tt) filled b (name_text p name)
      (Rattle.ja_machine.proofs.Lists.is_some_from (object_at c.heap b) o is)
      (and_from _ _ (base_among base v b b_is told)
      (ap not (sym (ap is_array (at.known.heap.class b o is)) ∙ no_array)))
      (rows.name_among e c top below x w at good name n))

  -- ---- deletions

  module _ (given : Given) (dst : Reg) (d : IsDest dst) (target : Labels) (keys : List Key)
      (among : (y : ℕ × AbstractState) → Member y
      (sets_results w dst i.next (delete_states w target keys)) → Member y given)
      (filled : IsFilled w.entries (demands_of_delete w target keys)) where
    deleted_gives : (a : Addr) (now : Heap) (b : Bool)
        → IsDeleted e c.heap w a now b (delete_states w target keys)
        → Gives given (machine.sets_in s now dst (bool_value b))
    deleted_gives a now b h after =
        let f = frame_written a now h.wrote h.state h.registers in
        record {
          top = with_result top dst (bool_value b) i.next;
          frames_are = refl;
          state = with_register h.state dst h.value;
          among =
              among _ (member-results w dst i.next h.value h.state
              (delete_states w target keys) h.among (is_present-has_value p now after.heap h.value
              (bool_value b) tt h.has));
          holds =
              holding h.heap
              (frame_with_result p now top h.state dst (bool_value b) h.value i.next
              (rows.dest e c top below x w at good dst d) h.has f);
        }

    pub deletes_gives : (a : Addr) (t : List ℕ) → IsObjectOf c.heap a
        → IsTrue (target (label_of c.heap a)) → IsTrue
        (is_among_keys keys (meaning.key_of p (named t))) → Gives given (deletes s dst a t)
    deletes_gives a t there in_ key_in =
        let (o, is) = some_value (object_at c.heap a) there in
        either_way (Gives given) (can_delete c.heap a t && heap.is_shared c.heap a t)
        (left_scope s Rattle.ja_base.specs.declared.ids.ScopeKind.TheVariants.SharedArgument)
        (machine.sets_in s (delete c.heap a t) dst (bool_value (can_delete c.heap a t)))
        (λ shared. tt)
        (λ own. deleted_gives a (delete c.heap a t) (can_delete c.heap a t)
        (is_deleted e c.heap w rd good target keys a o is t in_ key_in filled))

  pub delete_prop_gives : (dst object key : Reg) → IsDest dst → IsReg key
      → IsFilled w.entries (transfer_node w x i (node.DeleteProp dst object key)).demands
      → (v : Value) → IsValueOf c.heap v → IsTrue (has_value c.heap (abstract.at w object) v)
      → (k : Option (List ℕ)) → key_text (register_of top key) ≡ k
      → Gives (transfer_node w x i (node.DeleteProp dst object key)).states
      (on_property s (deletes s dst) v k)
  delete_prop_gives dst object key d r filled (value.Object a) there told (Some t) is =
      deletes_gives _ dst d (abstract.at w object).label (keys_in w key)
      (λ y m. m) filled a t there told (keys_among e c top below x w at good key r t is)
  delete_prop_gives dst object key d r filled (value.Object a) there told None is = tt
  delete_prop_gives dst object key d r filled (value.Primitive q) there told k is = tt

  pub delete_ref_gives : (dst base : Reg) (name : NameId) → IsDest dst → IsName p name
      → IsFilled w.entries (transfer_node w x i (node.DeleteRef dst base name)).demands
      → (v : Value) → IsValueOf c.heap v → IsTrue (has_value c.heap (abstract.at w base) v)
      → Gives (transfer_node w x i (node.DeleteRef dst base name)).states
      (delete_ref_step p s dst name v)
  delete_ref_gives dst base name d n filled (value.Object a) there told =
      deletes_gives _ dst d (abstract.at w base).label (name_keys name)
      (λ y m. member-append_right y (goes (abstract.at w base).flags.null i.next
      (with_register w.state dst (of_bools true false))) _ m) filled a (name_text p name) there told
      (rows.name_among e c top below x w at good name n)
  delete_ref_gives dst base name d n filled (value.Primitive primitive.Null) there told =
      rows.sets_to e c top below x w at good _ dst i.next (bool_value true) (of_bools true false)
      (rows.dest e c top below x w at good dst d) tt refl
      (λ some. member-append_left _ _ _ (member-goes (abstract.at w base).flags.null i.next
      (with_register w.state dst (of_bools true false)) told))
  delete_ref_gives dst base name d n filled (value.Primitive primitive.Undefined) there told = tt
  delete_ref_gives dst base name d n filled (value.Primitive (primitive.Bool b)) there told = tt
  delete_ref_gives dst base name d n filled (value.Primitive (primitive.Number z)) there told = tt
  delete_ref_gives dst base name d n filled (value.Primitive (primitive.Text z)) there told = tt
