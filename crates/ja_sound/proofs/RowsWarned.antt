-- A run that leaves the profile where a built-in is read that isn't there is one that the table's
-- state there allows, so that the table's warnings have it.
use Rattle.std.specs.Prelude.{◌≡◌, ◌∷◌, ℕ, Bool, true, false, IsTrue, List, [], Option, Some, None, is_some, Contains}
use Rattle.std.specs.List.{AllByRecursion}
use Rattle.std.specs.Option.{option_to_list}
use Rattle.std.proofs.Common.{refl, sym, subst, ap, ◌∙◌, arith}
use Rattle.std.proofs.lemmas.Bool.{false≢true, or_left}
use Rattle.ja_base.specs.declared.ids.NameId.{NameId}
use Rattle.ja_base.specs.declared.ids.Place.{Place}
use Rattle.ja_base.specs.declared.ids.Reg.{Reg}
use Rattle.ja_base.specs.declared.ids.ScopeKind.{ScopeKind}
use Rattle.ja_base.specs.declared.ids.ScopeKind.TheVariants as scope_kind
use Rattle.ja_base.specs.declared.ids.Site.{Site}
use Rattle.ja_prim.specs.declared.primitive.Primitive.TheVariants as primitive
use Rattle.ja_prim.specs.Texts.{is_short}
use Rattle.ja_graph.specs.declared.builtins.TheConstants as builtins
use Rattle.ja_graph.specs.declared.node.Node.{Node}
use Rattle.ja_graph.specs.declared.node.Node.TheVariants as node
use Rattle.ja_graph.specs.declared.node.NodeInfo.{NodeInfo}
use Rattle.ja_graph.specs.declared.program.Program.{Program}
use Rattle.ja_graph.specs.Node.{name_in, registers_named}
use Rattle.ja_graph.specs.WellFormed.{IsWellFormed, IsName, IsRegister}
use Rattle.ja_machine.specs.declared.machine.Addr.{Addr}
use Rattle.ja_machine.specs.declared.machine.Answer.{Answer}
use Rattle.ja_machine.specs.declared.machine.Conf.{Conf}
use Rattle.ja_machine.specs.declared.machine.Content.{Content}
use Rattle.ja_machine.specs.declared.machine.Content.TheVariants as contents
use Rattle.ja_machine.specs.declared.machine.End.{End}
use Rattle.ja_machine.specs.declared.machine.End.TheVariants as ending
use Rattle.ja_machine.specs.declared.machine.Event.{Event}
use Rattle.ja_machine.specs.declared.machine.Event.TheVariants as event
use Rattle.ja_machine.specs.declared.machine.Frame.{Frame}
use Rattle.ja_machine.specs.declared.machine.Heap.{Heap}
use Rattle.ja_machine.specs.declared.machine.Value.{Value}
use Rattle.ja_machine.specs.declared.machine.Value.TheVariants as value
use Rattle.ja_machine.specs.Events.{Standing, left_scope, sets_content, throws, throws_value, unbound_message}
use Rattle.ja_machine.specs.Frames.{register_of}
use Rattle.ja_machine.specs.Heap.{new_address, with_new}
use Rattle.ja_machine.specs.Machine.{step}
use Rattle.ja_machine.specs.Nodes.{name_text, read, read_ref_step, read_soft_step, on_property, node_step}
use Rattle.ja_machine.specs.Objects.{error_object}
use Rattle.ja_machine.specs.Runs.{AreStates}
use Rattle.ja_machine.specs.State.{IsFrame, IsObjectOf, IsValueOf}
use Rattle.ja_machine.specs.Values.{key_of as key_text}
use Rattle.ja_machine.proofs.Lists.{either_way}
use Rattle.ja_abstract.specs.declared.abstraction.Key.{Key}
use Rattle.ja_abstract.specs.AbstractValue.{AbstractValue}
use Rattle.ja_abstract.specs.Contents.{label_of}
use Rattle.ja_abstract.specs.Keys.{key_of, named, is_among_keys}
use Rattle.ja_abstract.specs.Reading.{View, demands_of_get}
use Rattle.ja_abstract.specs.Resolved.{IsFilled}
use Rattle.ja_abstract.proofs.Keys.{same_key_from}
use Rattle.ja_meaning.specs.Meaning.{has_value}
use Rattle.ja_rows.specs.declared.table.Warning.{Warning}
use Rattle.ja_rows.specs.declared.table.WarningKind.TheVariants.{NotAFunction, NoObject, ScopeRow}
use Rattle.ja_rows.specs.Out.{Point, name_keys, keys_in}
use Rattle.ja_rows.specs.Out as abstract
use Rattle.ja_rows.specs.Table.{Table, IsClosed}
use Rattle.ja_rows.specs.Transfer.{transfer_node}
use Rattle.ja_rows.specs.Warning.{has_row, one_key, keys_if, row_of_name, row_of_property, AreWarnings}
use Rattle.ja_sound.specs.Faults.{kinds}
use Rattle.ja_sound.specs.Sound.{reads_one, WarnsOfRows}
use Rattle.ja_sound.specs.Statements.{IsAt}
use Rattle.ja_sound.proofs.AtCovered.{GrowsAlong}
use Rattle.ja_sound.proofs.AtNode as nodes
use Rattle.ja_sound.proofs.AtOperation.{entry_heap, is_at, filled, is_reached}
use Rattle.ja_sound.proofs.AtOperation as stands_at
use Rattle.ja_sound.proofs.Certain.{only_kind, no_kind}
use Rattle.ja_sound.proofs.OneKey.{text_held, filled_at_key}
use Rattle.ja_sound.proofs.RowReads.{row_told}
use Rattle.ja_sound.proofs.Steps as steps
use Rattle.ja_sound.proofs.Taken.{node_taken}
use Rattle.ja_sound.proofs.Warned.{IsTold}

-- ---- what tells the end with a row apart

abbrev is_row : ScopeKind → Bool
is_row scope_kind.Row = true
is_row kind = false

abbrev is_row_end : End → Bool
is_row_end (ending.Scope kind place) = is_row kind
is_row_end e = false

abbrev is_row_event : Event → Bool
is_row_event (event.Next d) = false
is_row_event (event.End e d) = is_row_end e

abbrev is_row_step : Option Event → Bool
is_row_step None = false
is_row_step (Some e) = is_row_event e

abbrev EndsWithRow : Option Event → Type 0
EndsWithRow o = (place : Place) × (d : Conf) × (o ≡ Some (event.End (ending.Scope scope_kind.Row
    place) d))

row_step : (o : Option Event) → EndsWithRow o → IsTrue (is_row_step o)
row_step o (place, d, is) = ap is_row_step is

function_no_row : NotAFunction ≡ ScopeRow → ⊥
function_no_row is = cc

object_no_row : NoObject ≡ ScopeRow → ⊥
object_no_row is = cc

-- ---- at a node

module _ (e : Heap) (c : Conf) (top : Frame) (below : List Frame) (x : Point) (w : View)
    (at : IsAt w.program e c top below x w) (good : IsWellFormed w.program)
    (answer : Answer) where
  abbrev p : Program
  p = w.program

  abbrev i : NodeInfo
  i = x.info

  abbrev s : Standing
  s = record { conf = c; top = top; below = below; info = i }

  abbrev fr : IsFrame p c.heap top
  fr = nodes.fr e c top below x w at good

  held : (r : Reg) → IsRegister fr.function r
      → IsTrue (has_value c.heap (abstract.at w r) (register_of top r))
  held r l = nodes.has e c top below x w at good r l

  there : (r : Reg) → IsRegister fr.function r → IsValueOf c.heap (register_of top r)
  there r l = nodes.of_heap e c top below x w at good r l

  content_is : (dst : Reg) (y : Content) → IsTrue (is_row_event (sets_content s dst y))
      → y ≡ contents.Row
  content_is dst (contents.Value v) ends = absurd (false≢true ends)
  content_is dst contents.Row ends = refl

  -- an error that is thrown isn't the end with a row
  no_throw : (error prototype : Site) (message : List ℕ)
      → IsTrue (is_row_event (throws s error prototype message)) → ⊥
  no_throw error prototype message =
      either_way (λ (y : Event). IsTrue (is_row_event y) → ⊥) (is_short message)
      (throws_value s (with_new c.heap error (error_object prototype message))
      (value.Object (new_address c.heap error))) (left_scope s scope_kind.TextLength)
      (λ k ends. false≢true ends) (λ k ends. false≢true ends)

  module _ (dst base : Reg) (l : IsRegister fr.function base) (name : NameId) (n : IsName p name)
      (filled_ : IsFilled w.entries (demands_of_get w (abstract.at w base).label (name_keys name)))
    where
      abbrev v : AbstractValue
      v = abstract.at w base

      name_told : (a : Addr) → IsObjectOf c.heap a → IsTrue (v.label (label_of c.heap a))
          → IsTrue (is_row_event (sets_content s dst (read c.heap a (name_text p name))))
          → IsTrue (has_row w v.label (name_keys name))
      name_told a o told ends =
          row_told e c.heap w (steps.read_at e c top below x w at) v.label (name_keys name) filled_
          (name_text p name) (nodes.name_among e c top below x w at good name n) a o told
          (content_is dst (read c.heap a (name_text p name)) ends)

      ref_told : (error : Site) (u : Value) → IsValueOf c.heap u → IsTrue (has_value c.heap v u)
          → IsTrue (is_row_event (read_ref_step p s dst name error u))
          → IsTrue (has_row w v.label (name_keys name))
      ref_told error (value.Object a) o told ends = name_told a o told ends
      ref_told error (value.Primitive primitive.Null) o told ends =
          absurd (no_throw error builtins.REFERENCE_ERROR_PROTOTYPE
          (unbound_message (name_text p name)) ends)
      ref_told error (value.Primitive primitive.Undefined) o told ends = absurd (false≢true ends)
      ref_told error (value.Primitive (primitive.Bool b)) o told ends = absurd (false≢true ends)
      ref_told error (value.Primitive (primitive.Number z)) o told ends = absurd (false≢true ends)
      ref_told error (value.Primitive (primitive.Text t)) o told ends = absurd (false≢true ends)

      soft_told : (u : Value) → IsValueOf c.heap u → IsTrue (has_value c.heap v u)
          → IsTrue (is_row_event (read_soft_step p s dst name u))
          → IsTrue (has_row w v.label (name_keys name))
      soft_told (value.Object a) o told ends = name_told a o told ends
      soft_told (value.Primitive primitive.Null) o told ends = absurd (false≢true ends)
      soft_told (value.Primitive primitive.Undefined) o told ends = absurd (false≢true ends)
      soft_told (value.Primitive (primitive.Bool b)) o told ends = absurd (false≢true ends)
      soft_told (value.Primitive (primitive.Number z)) o told ends = absurd (false≢true ends)
      soft_told (value.Primitive (primitive.Text t)) o told ends = absurd (false≢true ends)

  module _ (dst object key : Reg) (l : IsRegister fr.function object)
      (m : IsRegister fr.function key) (filled_ : IsFilled w.entries
      (demands_of_get w (abstract.at w object).label (keys_in w key))) where
    abbrev ov : AbstractValue
    ov = abstract.at w object

    abbrev kv : AbstractValue
    kv = abstract.at w key

    abbrev step_with : Value → Option (List ℕ) → Event
    step_with u t = on_property s (λ a name. sets_content s dst (read s.conf.heap a name)) u t

    prop_told : (k : Key) → one_key w kv ≡ Some k → (u : Value) → IsValueOf c.heap u
        → IsTrue (has_value c.heap ov u)
        → IsTrue (is_row_event (step_with u (key_text (register_of top key))))
        → IsTrue (has_row w ov.label (k ∷ []))
    prop_told k one (value.Primitive q) o told ends = absurd (false≢true ends)
    prop_told k one (value.Object a) o told ends =
        let (t, text_is, key_is) =
        text_held w good kv k one c.heap at.known.heap (register_of top key) (there key m)
        (held key m) in
        let among : IsTrue (is_among_keys (keys_in w key) k) =
        subst (λ j. IsTrue (is_among_keys (keys_in w key) j)) key_is
        (nodes.keys_among e c top below x w at good key m t text_is) in
        row_told e c.heap w (steps.read_at e c top below x w at) ov.label (k ∷ [])
        (filled_at_key w good kv k one among ov.label filled_) t
        (or_left _ _ (same_key_from k (key_of p (named t)) (sym key_is))) a o told
        (content_is dst (read c.heap a t)
        (subst (λ z. IsTrue (is_row_event (step_with (value.Object a) z))) text_is ends))

    prop_told_by : (o : Option Key) → one_key w kv ≡ o → IsTrue (is_some o)
        → IsTrue (is_row_event (step_with (register_of top object)
        (key_text (register_of top key)))) → IsTrue (has_row w ov.label (keys_if o))
    prop_told_by None is some ends = absurd (false≢true some)
    prop_told_by (Some k) is some ends =
        prop_told k is (register_of top object) (there object l) (held object l) ends

  -- ---- each kind of node

  told_by : (n : Node) → AllByRecursion (IsRegister fr.function) (registers_named n)
      → AllByRecursion (IsName p) (option_to_list (name_in n))
      → IsFilled w.entries (transfer_node w x i n).demands → Contains (kinds n) ScopeRow
      → IsTrue (reads_one w n) → IsTrue (is_row_step (node_step p s answer n))
      → IsTold w n ScopeRow
  unfolding registers_named name_in
  told_by (node.Call dst callee receiver args error) r n f among one ends =
      absurd (function_no_row (only_kind NotAFunction ScopeRow among))
  told_by (node.New dst callee args site error) r n f among one ends =
      absurd (function_no_row (only_kind NotAFunction ScopeRow among))
  told_by (node.ToObject dst src sites error) r n f among one ends =
      absurd (object_no_row (only_kind NoObject ScopeRow among))
  told_by (node.ReadRef dst base name error) r n f among one ends = record {
    test = row_of_name base (name_keys name);
    test_is = (1, omega arith, refl);
    kind_is = refl;
    fault = ref_told dst base r.0 name n.0 f error (register_of top base) (there base r.0)
        (held base r.0) ends;
  }
  told_by (node.ReadSoft dst base name) r n f among one ends = record {
    test = row_of_name base (name_keys name);
    test_is = (0, omega arith, refl);
    kind_is = refl;
    fault = soft_told dst base r.0 name n.0 f (register_of top base) (there base r.0)
        (held base r.0) ends;
  }
  told_by (node.ReadProp dst object key) r n f among one ends = record {
    test = row_of_property object key;
    test_is = (0, omega arith, refl);
    kind_is = refl;
    fault = prop_told_by dst object key r.0 r.1.0 f (one_key w (abstract.at w key)) refl one ends;
  }
  told_by n r m f among one ends = absurd (no_kind ScopeRow among)

  pub row_told_at : IsFilled w.entries (transfer_node w x i i.node).demands
      → Contains (kinds i.node) ScopeRow → IsTrue (reads_one w i.node)
      → EndsWithRow (step p c answer) → IsTold w i.node ScopeRow
  row_told_at filled_ among one (place, d, is) =
      told_by i.node (nodes.formed e c top below x w at good).names_registers
      (nodes.formed e c top below x w at good).name filled_ among one
      (row_step (node_step p s answer i.node) (
        place,
        d,
        node_taken p c top below i at.frames_are at.info answer
            (event.End (ending.Scope scope_kind.Row place) d) is,
      ))

-- ---- in each state of a run

module _ (p : Program) (good : IsWellFormed p) (t : Table) (closed : IsClosed p t)
    (ws : List Warning) (warnings : AreWarnings p t ws) (states : AreStates p)
    (grows : GrowsAlong p) where
  pub warns_of_rows : WarnsOfRows p t ws
  warns_of_rows answers c answer o cov stands reached kind_is (d, ends) one =
      let e = entry_heap p t closed states grows answers c reached cov o stands in
      let w = stands_at.w p t closed states grows answers c reached cov o stands in
      let x = stands_at.x p t closed states grows answers c reached cov o stands in
      let at = is_at p t closed states grows answers c reached cov o stands in
      let told : IsTold w stands.info.node ScopeRow =
      row_told_at e c cov.top cov.below x w at good answer
      (filled p t closed states grows answers c reached cov o stands)
      (subst (λ k. Contains (kinds stands.info.node) k) kind_is stands.kind_is) one
      (o.place, d, ends) in
      warnings.complete o told.test w
      (is_reached p t closed states grows answers c reached cov o stands told.test told.test_is
      (told.kind_is ∙ sym kind_is)) told.fault
