-- Rows of nodes: control, enumeration, and objects that stand alone.
use Rattle.std.specs.Prelude.{◌≡◌, ◌&&◌, ◌||◌, not, ℕ, Bool, true, false, IsTrue, List, [], ◌∷◌, slice_get, Option, Some, None, Ok, Err, filter, zero, suc}
use Rattle.std.specs.Option.{option_map}
use Rattle.std.proofs.Common.{refl, sym, subst, ap, ◌∙◌, inl, inr}
use Rattle.std.proofs.lemmas.Bool.{cond-true, cond-false, or_left, or_right, and_from, and_parts, cases_Bool}
use Rattle.std.proofs.lemmas.Option.{none-some, same_Some}
use lib.Chars.{codes}
use Rattle.ja_base.specs.declared.ids.NodeId.{NodeId}
use Rattle.ja_base.specs.declared.ids.Reg.{Reg}
use Rattle.ja_base.specs.declared.ids.Site.{Site}
use Rattle.ja_base.proofs.Options.{some_value}
use Rattle.ja_prim.specs.declared.primitive.Primitive.{Primitive}
use Rattle.ja_prim.specs.declared.primitive.Primitive.TheVariants as primitive
use Rattle.ja_prim.specs.declared.primitive.Num.TheVariants.{NaN, Whole}
use Rattle.ja_graph.specs.declared.attrs.Attrs.{Attrs}
use Rattle.ja_graph.specs.declared.builtins.TheConstants as builtins
use Rattle.ja_graph.specs.declared.node.ErrorKind.{ErrorKind}
use Rattle.ja_graph.specs.declared.node.ErrorKind.TheVariants as error_kind
use Rattle.ja_graph.specs.declared.node.Node.TheVariants as node
use Rattle.ja_graph.specs.declared.node.NodeInfo.{NodeInfo}
use Rattle.ja_graph.specs.declared.program.Class.TheVariants as class
use Rattle.ja_graph.specs.declared.program.Program.{Program}
use Rattle.ja_graph.specs.WellFormed.{IsWellFormed, IsDestination, IsRegister}
use Rattle.ja_graph.specs.declared.program.Class.{Class}
use Rattle.ja_machine.specs.declared.machine.Addr.{Addr}
use Rattle.ja_machine.specs.declared.machine.Value.{Value}
use Rattle.ja_machine.specs.declared.machine.Value.TheVariants as value
use Rattle.ja_machine.specs.declared.machine.Content.{Content}
use Rattle.ja_machine.specs.declared.machine.Content.TheVariants as contents
use Rattle.ja_machine.specs.declared.machine.Property.{Property}
use Rattle.ja_machine.specs.declared.machine.Object.{Object}
use Rattle.ja_machine.specs.declared.machine.Heap.{Heap}
use Rattle.ja_machine.specs.declared.machine.Frame.{Frame}
use Rattle.ja_machine.specs.declared.machine.Conf.{Conf}
use Rattle.ja_machine.specs.declared.machine.Event.{Event}
use Rattle.ja_machine.specs.declared.machine.Event.TheVariants as event
use Rattle.ja_machine.specs.Events.{Standing, next_state, not_an_object_message, no_function_message, no_prototype_message, sets_outcome}
use Rattle.ja_machine.specs.Events as machine
use Rattle.ja_machine.specs.Frames.{register_of, thrown, moved_to, remaining, with_remaining, without_first}
use Rattle.ja_machine.specs.Heap.{object_at, class_at, inherits_from}
use Rattle.ja_machine.specs.Heap as heap
use Rattle.ja_machine.specs.Objects.{prototype_of_error}
use Rattle.ja_machine.specs.Nodes.{bool_value, shown, takes, pick_step, names_step, branch_step, need_object_step, instance_of_step, instance_of, has_instance, is_function}
use Rattle.ja_machine.specs.State.{IsFrame, IsState, IsObjectOf, IsValueOf, IsContentOf}
use Rattle.ja_machine.specs.declared.machine.Answer.{Answer}
use Rattle.ja_machine.specs.declared.machine.Answer.TheVariants as answers
use Rattle.ja_machine.specs.Enumeration.{shows, names}
use Rattle.ja_machine.specs.Values.{OperatorOutcome}
use Rattle.ja_machine.specs.Machine.{class_of_site}
use Rattle.ja_machine.proofs.Growing.{IsNodeSite}
use Rattle.ja_machine.proofs.Lists.{either_way}
use Rattle.ja_machine.proofs.Reading.{content_found}
use Rattle.ja_abstract.specs.AbstractValue.{Labels, AbstractValue, AbstractProperty, no_value, of_primitive}
use Rattle.ja_abstract.specs.AbstractState.{AbstractState, with_register}
use Rattle.ja_abstract.specs.Contents.{label_of, property_content, content_of}
use Rattle.ja_abstract.specs.Keys.{named}
use Rattle.ja_abstract.specs.Parts.{has_primitive}
use Rattle.ja_abstract.specs.Keys as meaning
use Rattle.ja_abstract.specs.Resolved.{IsFilled}
use Rattle.ja_abstract.specs.Reading.{View, get, demands_of_get, some_label, proper_ancestors}
use Rattle.ja_abstract.specs.Reading as reading
use Rattle.ja_abstract.specs.Values.{has_atoms, has_labels, primitives_of, is_function_label, is_function_class, has_non_object}
use Rattle.ja_abstract.proofs.Lists.{Member, member-append_left, member-append_right}
use Rattle.ja_abstract.proofs.Parts.{of_primitive_has}
use Rattle.ja_abstract.proofs.Atoms.{has_atoms-from}
use Rattle.ja_abstract.proofs.Keys.{same_key-self}
use Rattle.ja_meaning.specs.Meaning.{has_value, knows}
use Rattle.ja_meaning.proofs.Held.{all_of, frame_of, holding}
use Rattle.ja_meaning.proofs.Parts.{is_present-has_value}
use Rattle.ja_meaning.proofs.Gets.{get_known, some_label-object}
use Rattle.ja_meaning.proofs.Ancestors.{inherits-known}
use Rattle.ja_meaning.proofs.Shown.{shown-known}
use Rattle.ja_rows.specs.Out as abstract
use Rattle.ja_rows.specs.Out.{Point, Given, goes, sets}
use Rattle.ja_rows.specs.Transfer.{transfer_node}
use Rattle.ja_rows.specs.Properties.{functions_in, prototype_keys, instance_prototype, instance_value}
use Rattle.ja_sound.specs.Statements.{IsAt, IsGiven}
use Rattle.ja_sound.proofs.Registers.{frame_with_result}
use Rattle.ja_sound.proofs.Returned.{member-sets}
use Rattle.ja_sound.proofs.AtNode as rows
use Rattle.ja_sound.proofs.PropertyNodes.{throws_gives, sets_gives, rd, has, of_heap}
use Rattle.ja_sound.proofs.Steps.{member-goes}

-- what a filter keeps passes
pass_at : {X : Type 0} (test : X → Bool) (y : X) (ys : List X) (j : ℕ) (x : X) → test y ≡ true
    → ((k : ℕ) → slice_get ys k ≡ Some x → test x ≡ true) → slice_get (y ∷ ys) j ≡ Some x
    → test x ≡ true
pass_at test y ys zero x in_ more f = subst (λ z. test z ≡ true) (same_Some y x f) in_
pass_at test y ys (suc j) x in_ more f = more j f

filter-passes : {X : Type 0} (test : X → Bool) (xs : List X) (i : ℕ) (x : X)
    → slice_get (filter test xs) i ≡ Some x → test x ≡ true
filter-passes test [] i x e = absurd (none-some x e)
filter-passes test (y ∷ ys) i x e =
    elim (cases_Bool (test y)) [
      | inl in_ ↦
          pass_at test y (filter test ys) i x in_ (λ k f. filter-passes test ys k x f)
          (subst (λ zs. slice_get zs i ≡ Some x) (cond-true (test y) (y ∷ filter test ys)
          (filter test ys) in_) e)
      | inr out_ ↦
          filter-passes test ys i x (subst (λ zs. slice_get zs i ≡ Some x)
          (cond-false (test y) (y ∷ filter test ys) (filter test ys) out_) e)
    ]

pub primitives-have : (v : AbstractValue) (q : Primitive) → IsTrue (has_primitive v q)
    → IsTrue (has_primitive (primitives_of v) q)
primitives-have v primitive.Undefined e = e
primitives-have v primitive.Null e = e
primitives-have v (primitive.Bool true) e = e
primitives-have v (primitive.Bool false) e = e
primitives-have v (primitive.Number NaN) e = e
primitives-have v (primitive.Number (Whole n)) e = e
primitives-have v (primitive.Text t) e = e

same_class : (k : Class) → is_function (Some k) ≡ is_function_class k
same_class class.Object = refl
same_class class.Function = refl
same_class class.Array = refl
same_class class.String = refl
same_class class.Boolean = refl
same_class class.Number = refl
same_class class.Error = refl
same_class class.Math = refl
same_class class.Activation = refl

module _ (e : Heap) (c : Conf) (top : Frame) (below : List Frame) (x : Point) (w : View)
    (at : IsAt w.program e c top below x w) (good : IsWellFormed w.program) where
  abbrev p : Program
  p = w.program

  abbrev i : NodeInfo
  i = x.info

  abbrev s : Standing
  s = record { conf = c; top = top; below = below; info = i }

  abbrev pub Gives : Given → Event → Type 0
  Gives = rows.Gives e c top below x w at good

  abbrev pub GivesIf : Given → Option Event → Type 0
  GivesIf given None = Unit {0}
  GivesIf given (Some event) = Gives given event

  -- a step within the activation
  abbrev pub Within : Given → Option Event → Type 0
  Within given o =
      (d : Conf) → o ≡ Some (event.Next d) → IsState p d → (moved : Frame)
      → d.frames ≡ moved ∷ below → IsGiven p e below given d

  pub within : (given : Given) (o : Option Event) → GivesIf given o → Within given o
  within given None g d is known moved after = absurd (none-some (event.Next d) is)
  within given (Some (event.Next d)) g f is known moved after =
      let same : d ≡ f = cc in subst (IsGiven p e below given) same
      (g (subst (IsState p) (sym same) known))
  within given (Some (event.End end d)) g f is known moved after = cc

  abbrev fr : IsFrame p c.heap top
  fr = rows.fr e c top below x w at good

  abbrev IsReg : Reg → Type 0
  IsReg r = IsRegister fr.function r

  abbrev IsDest : Reg → Type 0
  IsDest r = IsDestination fr.function r

  -- the node goes to another, in the same heap
  pub goes_gives : (given : Given) (n : NodeId)
      → Member {X = ℕ × AbstractState} (n.0, w.state) given
      → Gives given (next_state c c.heap (moved_to top n ∷ below))
  goes_gives given n m =
      rows.leaves e c top below x w at good given n c.heap top w.state m
      (record {
        heap = at.holds.heap;
        registers = at.holds.registers;
        rest = at.holds.rest;
      })

  some-object : (test : Labels) (a : Addr) → IsObjectOf c.heap a → IsTrue (test (label_of c.heap a))
      → IsTrue (some_label w test)
  some-object test a o h = some_label-object e c.heap w (rd e c top below x w at good) test a o h

  sets_g : (given : Given) (dst : Reg) (v : Value) (u : AbstractValue) → IsDest dst
      → IsValueOf c.heap v → IsTrue (has_value c.heap u v)
      → ((y : ℕ × AbstractState) → Member y (sets w dst u i.next) → Member y given)
      → Gives given (machine.sets s dst v)
  sets_g given dst v u d there told among =
      sets_gives e c top below x w at good given dst v u d there told among

  throws_g : (given : Given) (b : Bool) (error : Site) (kind : ErrorKind) (text : List ℕ)
      → IsNodeSite p error → IsTrue b → ((y : ℕ × AbstractState)
      → Member y (abstract.throws w b i error (prototype_of_error kind) text) → Member y given)
      → Gives given (machine.throws s error (prototype_of_error kind) text)
  throws_g given b error kind text site is among =
      throws_gives e c top below x w at good given b error kind text site is among

  -- ---- Const, Move, Unary, Binary: what they give is in the value

  pub const_gives : (dst : Reg) (q : Primitive) → IsDest dst
      → Gives (transfer_node w x i (node.Const dst q)).states
      (machine.sets s dst (value.Primitive q))
  const_gives dst q d =
      sets_g _ dst (value.Primitive q) (of_primitive q) d tt (of_primitive_has q) (λ y m. m)

  pub move_gives : (dst src : Reg) → IsDest dst → IsReg src
      → Gives (transfer_node w x i (node.Move dst src)).states
      (machine.sets s dst (register_of top src))
  move_gives dst src d r =
      sets_g _ dst (register_of top src) (abstract.at w src) d
      (of_heap e c top below x w at good src r) (has e c top below x w at good src r) (λ y m. m)

  -- an operator, where its value has what the machine's gives
  pub outcome_gives : (dst : Reg) (u : AbstractValue) (o : OperatorOutcome) → IsDest dst
      → ((q : Primitive) → o ≡ Some (Ok q) → IsTrue (has_primitive u q))
      → Gives (sets w dst u i.next) (sets_outcome s dst o)
  outcome_gives dst u None d covers = tt
  outcome_gives dst u (Some (Ok q)) d covers =
      sets_g _ dst (value.Primitive q) u d tt (covers q refl) (λ y m. m)
  outcome_gives dst u (Some (Err stop)) d covers = tt

  -- ---- Branch, Throw, NeedObject

  pub branch_gives : (src : Reg) (v : Value) → IsTrue (has_value c.heap (abstract.at w src) v)
      → Gives (transfer_node w x i (node.Branch src)).states (branch_step s v)
  branch_gives src (value.Primitive (primitive.Bool true)) told =
      goes_gives _ i.next (member-append_left _ _ _
      (member-goes (abstract.at w src).flags.is_true i.next w.state told))
  branch_gives src (value.Primitive (primitive.Bool false)) told =
      goes_gives _ i.other (member-append_right _
      (goes (abstract.at w src).flags.is_true i.next w.state) _
      (member-goes (abstract.at w src).flags.is_false i.other w.state told))
  branch_gives src (value.Primitive primitive.Undefined) told = tt
  branch_gives src (value.Primitive primitive.Null) told = tt
  branch_gives src (value.Primitive (primitive.Number n)) told = tt
  branch_gives src (value.Primitive (primitive.Text t)) told = tt
  branch_gives src (value.Object a) told = tt

  pub throw_gives : (src : Reg) → IsReg src → Gives (transfer_node w x i (node.Throw src)).states
      (machine.throws_value s c.heap (register_of top src))
  throw_gives src r =
      rows.sets_to e c top below x w at good _ thrown i.handler (register_of top src)
      (abstract.at w src) (rows.dest_thrown e c top below x w at good)
      (of_heap e c top below x w at good src r) (has e c top below x w at good src r)
      (λ some. member-sets w w.state thrown (abstract.at w src) i.handler some)

  pub need_object_gives : (src : Reg) (error : Site) → IsNodeSite p error → (v : Value)
      → IsValueOf c.heap v → IsTrue (has_value c.heap (abstract.at w src) v)
      → Gives (transfer_node w x i (node.NeedObject src error)).states (need_object_step s error v)
  need_object_gives src error site (value.Object a) there told =
      goes_gives _ i.next (member-append_left _ _ _
      (member-goes (has_labels w (abstract.at w src)) i.next w.state
      (some-object (abstract.at w src).label a there told)))
  need_object_gives src error site (value.Primitive q) there told =
      throws_g _ (has_atoms (abstract.at w src)) error error_kind.TypeError not_an_object_message
      site (has_atoms-from (abstract.at w src) q told)
      (λ y m. member-append_right y (goes (has_labels w (abstract.at w src)) i.next w.state) _ m)

  -- ---- Names, Pick

  pub names_gives : (list object : Reg) (v : Value) → IsValueOf c.heap v
      → IsTrue (has_value c.heap (abstract.at w object) v)
      → Gives (transfer_node w x i (node.Names list object)).states (names_step s list v)
  names_gives list object (value.Object a) there told =
      λ after. record {
        top = moved_to (record top
            { lists = with_remaining top.lists list (names c.heap a) }) i.next;
        frames_are = refl;
        state =
            w.state;
        among = member-goes (has_labels w (abstract.at w object)) i.next w.state
            (some-object (abstract.at w object).label a there told);
        holds =
            record {
              heap = at.holds.heap;
              registers = at.holds.registers;
              rest = at.holds.rest;
            };
      }
  names_gives list object (value.Primitive q) there told = tt

  takes_gives : (given : Given) (list dst : Reg) (t : List ℕ) (u : AbstractValue) → IsDest dst
      → IsTrue (has_value c.heap u (value.Primitive (primitive.Text t)))
      → ((y : ℕ × AbstractState) → Member y (sets w dst u i.next) → Member y given)
      → Gives given (takes s list dst t)
  takes_gives given list dst t u d told among after =
      let v : Value = value.Primitive (primitive.Text t) in
      let f =
      frame_with_result p c.heap top w.state dst v u i.next
      (rows.dest e c top below x w at good dst d) told (frame_of at.holds) in
      record {
        top =
            moved_to (Rattle.ja_machine.specs.Frames.with_register
            (record top {
              lists = with_remaining top.lists list
                  (without_first (remaining top.lists list) t);
            }) dst v) i.next;
        frames_are = refl;
        state = with_register w.state dst u;
        among =
            among _ (member-sets w w.state dst u i.next
            (is_present-has_value p c.heap at.known.heap u v tt told));
        holds =
            holding (all_of at.holds.heap)
            (record { registers = f.registers; rest = f.rest });
      }

  pub pick_gives : (list dst object : Reg) → IsDest dst
      → IsFilled w.entries (transfer_node w x i (node.Pick list dst object)).demands
      → (answer : Answer) (v : Value) → IsValueOf c.heap v
      → IsTrue (has_value c.heap (abstract.at w object) v)
      → GivesIf (transfer_node w x i (node.Pick list dst object)).states
      (pick_step s list dst answer v)
  pick_gives list dst object d filled (answers.Pick n) (value.Object a) there told =
      by (slice_get (shown c.heap top list a) n) refl
    where
      by : (o : Option (List ℕ)) → slice_get (shown c.heap top list a) n ≡ o
          → GivesIf (transfer_node w x i (node.Pick list dst object)).states
          (option_map (takes s list dst) o)
      by None is = tt
      by (Some t) is =
          takes_gives _ list dst t (reading.names_shown w (abstract.at w object).label) d
          (shown-known e c.heap w (rd e c top below x w at good)
          (abstract.at w object).label filled t a there told
          (filter-passes (shows c.heap a) (remaining top.lists list) n t is))
          (λ y m. member-append_left y _ _ m)
  pick_gives list dst object d filled answers.Tick (value.Object a) there told =
      goes_gives _ i.other (member-append_right _
      (sets w dst (reading.names_shown w (abstract.at w object).label) i.next) _
      (member-goes (has_labels w (abstract.at w object)) i.other w.state
      (some-object (abstract.at w object).label a there told)))
  pick_gives list dst object d filled (answers.Device q) (value.Object a) there told = tt
  pick_gives list dst object d filled answer (value.Primitive q) there told = tt

  -- ---- InstanceOf

  module _ (dst left right : Reg) (not_function not_object : Site) (d : IsDest dst)
      (site : IsNodeSite p not_function) (site_too : IsNodeSite p not_object)
      (filled : IsFilled w.entries (transfer_node w x i
      (node.InstanceOf dst left right not_function not_object)).demands) where
    abbrev v : AbstractValue
    v = abstract.at w left

    abbrev r : AbstractValue
    r = abstract.at w right

    abbrev q : AbstractValue
    q = instance_prototype w left right

    abbrev no_function : Bool
    no_function = has_atoms r || some_label w (λ l. r.label l && not (is_function_label p l))

    abbrev given : Given
    given = (transfer_node w x i (node.InstanceOf dst left right not_function not_object)).states

    abbrev first : Given
    first = abstract.type_error w no_function i not_function no_function_message

    abbrev second : Given
    second = abstract.type_error w (has_non_object q) i not_object no_prototype_message

    gives_value : (b : Bool) → IsTrue (has_value c.heap (instance_value w left right)
        (bool_value b)) → Gives given (machine.sets s dst (bool_value b))
    gives_value b told =
        sets_g given dst (bool_value b) (instance_value w left right) d tt told
        (λ y m. member-append_right y first _ (member-append_right y second _ m))

    not_a_function : IsTrue no_function → Gives given
        (machine.throws s not_function builtins.TYPE_ERROR_PROTOTYPE no_function_message)
    not_a_function e_is =
        throws_g given no_function not_function error_kind.TypeError no_function_message site e_is
        (λ y m. member-append_left y first _ m)

    module _ (a : Addr) (there : IsObjectOf c.heap a)
        (in_functions : IsTrue (functions_in w r (label_of c.heap a))) where
      module _ (b : Addr) (left_there : IsObjectOf c.heap b)
          (left_told : IsTrue (v.label (label_of c.heap b))) where
        has_left : IsTrue (has_labels w v)
        has_left = some-object v.label b left_there left_told

        abbrev g : AbstractProperty
        g = get w (functions_in w r) (prototype_keys p)

        q_is : q ≡ g.value
        q_is = cond-true (has_labels w v) g.value no_value has_left

        known : IsTrue (knows c.heap g (property_content (heap.get c.heap a (codes "prototype"))))
        known =
            get_known e c.heap w (rd e c top below x w at good) (functions_in w r)
            (prototype_keys p) (λ m j f. filled m j (or_left _ _ (and_from _ _ has_left f)))
            (codes "prototype") (or_left _ _ (same_key-self
            (meaning.key_of p (named (codes "prototype"))))) a there in_functions

        no_object : IsTrue (has_non_object g.value)
            → Gives given (machine.throws s not_object builtins.TYPE_ERROR_PROTOTYPE
            no_prototype_message)
        no_object e_is =
            throws_g given (has_non_object q) not_object error_kind.TypeError no_prototype_message
            site_too (subst (λ z. IsTrue (has_non_object z)) (sym q_is) e_is)
            (λ y m. member-append_right y first _ (member-append_left y second _ m))

        some : IsTrue (some_label w (functions_in w r))
        some = some-object (functions_in w r) a there in_functions

        instance_by : (o : Addr) → IsObjectOf c.heap o → IsTrue (g.value.label (label_of c.heap o))
            → (z : Bool) → inherits_from c.heap b o ≡ z
            → IsTrue (has_value c.heap (instance_value w left right) (bool_value z))
        instance_by o o_there label true is =
            let q_label : IsTrue (q.label (label_of c.heap o)) =
            subst (λ z. IsTrue (z.label (label_of c.heap o))) (sym q_is) label in
            some-object (λ l. proper_ancestors w v.label l && q.label l) o o_there
            (and_from _ _ (inherits-known e c.heap w (rd e c top below x w at good) v.label
            (λ m j f. filled m j (or_right ((has_labels w v)
            && demands_of_get w (functions_in w r) (prototype_keys p) m j) _
            (and_from _ _ (some-object q.label o o_there q_label) f))) b o left_there left_told is)
            q_label)
        instance_by o o_there label false is =
            or_right (some_label w (functions_in w r) && has_atoms v) _
            (some-object q.label o o_there (subst (λ z. IsTrue (z.label (label_of c.heap o)))
            (sym q_is) label))

        by_content : (y : Content) (attrs : Attrs) → IsContentOf c.heap y
            → IsTrue (knows c.heap g (content_of y attrs))
            → Gives given (has_instance s dst not_object b (Some y))
        by_content (contents.Value (value.Object o)) attrs o_there e_is =
            gives_value (inherits_from c.heap b o) (instance_by o o_there
            (and_parts (g.value.label (label_of c.heap o)) _ e_is).0
            (inherits_from c.heap b o) refl)
        by_content (contents.Value (value.Primitive z)) attrs o_there e_is =
            no_object (or_right g.value.flags.absent _
            (or_right g.value.flags.row _ (has_atoms-from g.value z
            (and_parts (has_primitive g.value z) _ e_is).0)))
        by_content contents.Row attrs o_there e_is =
            no_object (or_right g.value.flags.absent _
            (or_left _ _ (and_parts g.value.flags.row _ e_is).0))

        by_property : (o : Option Property) → heap.get c.heap a (codes "prototype") ≡ o
            → IsTrue (knows c.heap g (property_content o))
            → Gives given (has_instance s dst not_object b
            (option_map (λ (z : Property). z.content) o))
        by_property None is e_is = no_object (or_left _ _ e_is)
        by_property (Some z) is e_is =
            by_content z.content z.attrs (content_found p c.heap at.known.heap a
            (codes "prototype") z.content (ap (option_map (λ (z : Property). z.content)) is)) e_is

      of_function : (u : Value) → IsValueOf c.heap u → IsTrue (has_value c.heap v u)
          → Gives given (instance_of s dst not_object a u)
      of_function (value.Primitive z) left_there left_told =
          gives_value false (or_left (some_label w (functions_in w r) && has_atoms v) _
          (and_from _ _ (some-object (functions_in w r) a there in_functions)
          (has_atoms-from v z left_told)))
      of_function (value.Object b) left_there left_told =
          by_property b left_there left_told (heap.get c.heap a (codes "prototype")) refl
          (known b left_there left_told)

    class_is : (a : Addr) → IsObjectOf c.heap a
        → is_function (class_at c.heap a) ≡ is_function_label p (label_of c.heap a)
    class_is a there =
        let (o, is) = some_value (object_at c.heap a) there in
        ap is_function (ap (option_map (λ (o : Object). o.class)) is
        ∙ ap Some (at.known.heap.class a o is)) ∙ same_class (class_of_site p a.site.0)

    pub instance_gives : (u f : Value) → IsValueOf c.heap u → IsTrue (has_value c.heap v u)
        → IsValueOf c.heap f → IsTrue (has_value c.heap r f)
        → Gives given (instance_of_step s dst not_function not_object u f)
    instance_gives u (value.Primitive z) left_there left_told there told =
        not_a_function (or_left _ _ (has_atoms-from r z told))
    instance_gives u (value.Object a) left_there left_told there told =
        either_way (Gives given) (is_function (class_at c.heap a))
        (instance_of s dst not_object a u) (machine.throws s not_function
        builtins.TYPE_ERROR_PROTOTYPE no_function_message)
        (λ yes_. of_function a there (and_from _ _ told (sym (class_is a there) ∙ yes_)) u
        left_there left_told)
        (λ no_. not_a_function (or_right (has_atoms r) _
        (some-object (λ l. r.label l && not (is_function_label p l)) a there
        (and_from _ _ told (ap not (sym (class_is a there) ∙ no_))))))
