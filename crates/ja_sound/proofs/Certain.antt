-- Where a warning is certain, a run that stands at its operation fails there: what the view doesn't
-- allow the state isn't.
use Rattle.std.specs.Prelude.{◌≡◌, ◌⊎◌, ◌&&◌, ◌||◌, ◌+◌, not, ℕ, zero, suc, Bool, true, false, IsTrue, List, [], ◌∷◌, Option, Some, None, is_some, Contains}
use Rattle.std.specs.List.{AllByRecursion}
use Rattle.std.specs.Option.{option_and_then, option_map, option_to_list}
use Rattle.std.proofs.Common.{refl, sym, subst, ap, ◌∙◌, inl, inr, arith}
use Rattle.std.proofs.lemmas.Bool.{false≢true, cases_Bool, both_ways, and_from, or_left, or_parts, cond-true}
use Rattle.ja_base.specs.declared.ids.Label.{Label}
use Rattle.ja_base.specs.declared.ids.NameId.{NameId}
use Rattle.ja_base.specs.declared.ids.Reg.{Reg}
use Rattle.ja_base.specs.declared.ids.ScopeKind.{ScopeKind}
use Rattle.ja_base.specs.declared.ids.ScopeKind.TheVariants as scope_kind
use Rattle.ja_base.specs.declared.ids.Site.{Site}
use Rattle.ja_prim.specs.declared.primitive.Num.TheVariants.{NaN, Whole}
use Rattle.ja_prim.specs.declared.primitive.Primitive.TheVariants as primitive
use Rattle.ja_graph.specs.declared.node.Node.{Node}
use Rattle.ja_graph.specs.declared.node.Node.TheVariants as node
use Rattle.ja_graph.specs.declared.node.NodeInfo.{NodeInfo}
use Rattle.ja_graph.specs.declared.program.Program.{Program}
use Rattle.ja_graph.specs.Node.{name_in, registers_named}
use Rattle.ja_graph.specs.WellFormed.{IsWellFormed, IsName, IsRegister}
use Rattle.ja_machine.specs.declared.machine.Addr.{Addr}
use Rattle.ja_machine.specs.declared.machine.Answer.{Answer}
use Rattle.ja_machine.specs.declared.machine.Conf.{Conf}
use Rattle.ja_machine.specs.declared.machine.Content.{Content}
use Rattle.ja_machine.specs.declared.machine.Content.TheVariants as contents
use Rattle.ja_machine.specs.declared.machine.End.TheVariants as ending
use Rattle.ja_machine.specs.declared.machine.Event.{Event}
use Rattle.ja_machine.specs.declared.machine.Event.TheVariants as event
use Rattle.ja_machine.specs.declared.machine.Frame.{Frame}
use Rattle.ja_machine.specs.declared.machine.Heap.{Heap}
use Rattle.ja_machine.specs.declared.machine.Value.{Value}
use Rattle.ja_machine.specs.declared.machine.Value.TheVariants as value
use Rattle.ja_machine.specs.Calls.{function_called, function_constructing}
use Rattle.ja_machine.specs.Events.{Standing, left_scope, sets_content}
use Rattle.ja_machine.specs.Frames.{register_of}
use Rattle.ja_machine.specs.Machine.{fits, wants, frames_step, step}
use Rattle.ja_machine.specs.Nodes.{name_text, read, read_ref_step, read_soft_step, on_property, node_step}
use Rattle.ja_machine.specs.Runs.{AreStates}
use Rattle.ja_machine.specs.State.{IsFrame, IsObjectOf, IsValueOf}
use Rattle.ja_machine.specs.Values.{key_of as key_text}
use Rattle.ja_abstract.specs.declared.abstraction.Key.{Key}
use Rattle.ja_abstract.specs.AbstractState.{labels_of}
use Rattle.ja_abstract.specs.AbstractValue.{AbstractValue}
use Rattle.ja_abstract.specs.Contents.{label_of}
use Rattle.ja_abstract.specs.Keys.{key_of, named, is_among_keys}
use Rattle.ja_abstract.specs.Reading.{View, some_label, demands_of_get}
use Rattle.ja_abstract.specs.Resolved.{IsFilled}
use Rattle.ja_abstract.specs.Values.{has_labels}
use Rattle.ja_abstract.proofs.Keys.{same_key_from}
use Rattle.ja_abstract.proofs.Labels.{some_among}
use Rattle.ja_meaning.specs.Meaning.{has_value}
use Rattle.ja_meaning.proofs.Parts.{has_part-has_value, label_of-among}
use Rattle.ja_rows.specs.declared.table.Warning.{Warning}
use Rattle.ja_rows.specs.declared.table.WarningKind.{WarningKind}
use Rattle.ja_rows.specs.declared.table.WarningKind.TheVariants.{NotAFunction, NoObject, UnboundName, ScopeRow}
use Rattle.ja_rows.specs.Edges.{calls_at, constructs_at}
use Rattle.ja_rows.specs.Out.{Point, name_keys, keys_in}
use Rattle.ja_rows.specs.Out as abstract
use Rattle.ja_rows.specs.Table.{Table, IsClosed}
use Rattle.ja_rows.specs.Transfer.{transfer_node}
use Rattle.ja_rows.specs.Warning.{Test, Operation, operation_at, operation_of, tests, some_entry, has_something, has_non_row, one_key, keys_if, no_function, no_object, unbound, row_of_name, row_of_property, IsWarned, AreWarnings}
use Rattle.ja_sound.specs.Faults.{is_nothing_value, is_null, if_so, fault_at, fault_of, fault_of_frames, kinds, Fails}
use Rattle.ja_sound.specs.Sound.{IsCovered, CoversRuns, FailsWhereCertain}
use Rattle.ja_sound.specs.Statements.{IsAt}
use Rattle.ja_sound.proofs.AtCovered.{GrowsAlong}
use Rattle.ja_sound.proofs.AtNode as nodes
use Rattle.ja_sound.proofs.AtOperation.{entry_heap, operation_is, is_at, filled, is_reached}
use Rattle.ja_sound.proofs.AtOperation as stands_at
use Rattle.ja_sound.proofs.OneKey.{text_held, filled_at_key}
use Rattle.ja_sound.proofs.RowReads.{row_is}
use Rattle.ja_sound.proofs.Steps as steps
use Rattle.ja_sound.proofs.Taken.{frames_taken}
use Rattle.ja_sound.proofs.Throwing.{contained}

-- ---- kinds of a list

pub only_kind : (a kind : WarningKind) → Contains (a ∷ []) kind → a ≡ kind
only_kind a kind (zero, l, is) = is
only_kind a kind (suc k, l, is) = absurd (omega arith)

either_kind : (a b kind : WarningKind) → Contains (a ∷ b ∷ []) kind → (a ≡ kind) ⊎ (b ≡ kind)
either_kind a b kind (zero, l, is) = inl is
either_kind a b kind (suc k, l, is) = inr (only_kind b kind (k, omega arith, is))

pub no_kind : (kind : WarningKind) → Contains [] kind → ⊥
no_kind kind (k, l, is) = absurd (omega arith)

-- ---- at a node

module _ (e : Heap) (c : Conf) (top : Frame) (below : List Frame) (x : Point) (w : View)
    (at : IsAt w.program e c top below x w) (good : IsWellFormed w.program)
    (answer : Answer) where
  abbrev p : Program
  p = w.program

  abbrev i : NodeInfo
  i = x.info

  abbrev s : Standing
  s = record { conf = c; top = top; below = below; info = i }

  abbrev fr : IsFrame p c.heap top
  fr = nodes.fr e c top below x w at good

  held : (r : Reg) → IsRegister fr.function r
      → IsTrue (has_value c.heap (abstract.at w r) (register_of top r))
  held r l = nodes.has e c top below x w at good r l

  there : (r : Reg) → IsRegister fr.function r → IsValueOf c.heap (register_of top r)
  there r l = nodes.of_heap e c top below x w at good r l

  -- the run ends there, and leaves the profile
  abbrev pub Ends : Option Event → ScopeKind → Type 0
  Ends o kind = (d : Conf) × (o ≡ Some (event.End (ending.Scope kind i.place) d))

  out : (kind : ScopeKind) → Ends (Some (left_scope s kind)) kind
  out kind = (record c { steps = c.steps + 1 }, refl)

  no_value : Ends (Some (left_scope s scope_kind.Register)) scope_kind.Register
  no_value = out scope_kind.Register

  abbrev pub FailsAt : Node → WarningKind → Type 0
  FailsAt n NotAFunction = fault_at p top n ≡ Some NotAFunction
  FailsAt n NoObject = fault_at p top n ≡ Some NoObject
  FailsAt n UnboundName =
      (fault_at p top n ≡ Some UnboundName) ⊎ Ends (node_step p s answer n) scope_kind.Register
  FailsAt n ScopeRow =
      Ends (node_step p s answer n) scope_kind.Row ⊎ Ends (node_step p s answer n)
      scope_kind.Register

  -- a test of the node that says the kind: where the view allows nothing else, the state fails
  pub record IsAsked (n : Node) (kind : WarningKind) : Type 0 where
    pub test : Test
    pub test_is : Contains (tests n) test
    pub kind_is : test.kind ≡ kind
    pub fails : test.more w ≡ false → FailsAt n kind

  -- ---- callees

  some-object : (test : Label → Bool) (a : Addr)
      → IsObjectOf c.heap a → IsTrue (test (label_of c.heap a))
      → IsTrue (some_label w test)
  some-object test a o h =
      some_among test (labels_of p) (label_of c.heap a)
      (label_of-among p c.heap at.known.heap a o) h

  called_none : (v : AbstractValue) (u : Value) → IsValueOf c.heap u
      → IsTrue (has_value c.heap v u) → some_entry w (calls_at p) v ≡ false
      → is_some (function_called p u) ≡ false
  called_none v (value.Primitive q) o told none = refl
  called_none v (value.Object a) o told none =
      elim (cases_Bool (is_some (function_called p (value.Object a)))) [
        | inl some ↦ absurd (both_ways (some_entry w (calls_at p) v) none
            (some-object (λ l. v.label l && is_some (calls_at p l)) a o (and_from _ _ told some)))
        | inr other ↦ other
      ]

  constructing_none : (v : AbstractValue) (u : Value) → IsValueOf c.heap u
      → IsTrue (has_value c.heap v u) → some_entry w (constructs_at p) v ≡ false
      → is_some (function_constructing p u) ≡ false
  constructing_none v (value.Primitive q) o told none = refl
  constructing_none v (value.Object a) o told none =
      elim (cases_Bool (is_some (function_constructing p (value.Object a)))) [
        | inl some ↦ absurd (both_ways (some_entry w (constructs_at p) v) none
            (some-object (λ l. v.label l && is_some (constructs_at p l)) a o
            (and_from _ _ told some)))
        | inr other ↦ other
      ]

  -- ---- undefined and null

  abbrev something : AbstractValue → AbstractValue
  something v = record v { flags = record v.flags { undefined = false; null = false } }

  some_part : (v : AbstractValue) (u : Value) → IsValueOf c.heap u
      → IsTrue (has_value c.heap (something v) u) → has_something w v ≡ false → ⊥
  some_part v u o told none =
      both_ways (has_something w v) none
      (has_part-has_value p c.heap at.known.heap (something v) u o told)

  nothing_held : (v : AbstractValue) (u : Value) → IsValueOf c.heap u
      → IsTrue (has_value c.heap v u) → has_something w v ≡ false → is_nothing_value u ≡ true
  nothing_held v (value.Primitive primitive.Undefined) o told none = refl
  nothing_held v (value.Primitive primitive.Null) o told none = refl
  nothing_held v (value.Primitive (primitive.Bool true)) o told none =
      absurd (some_part v (value.Primitive (primitive.Bool true)) o told none)
  nothing_held v (value.Primitive (primitive.Bool false)) o told none =
      absurd (some_part v (value.Primitive (primitive.Bool false)) o told none)
  nothing_held v (value.Primitive (primitive.Number NaN)) o told none =
      absurd (some_part v (value.Primitive (primitive.Number NaN)) o told none)
  nothing_held v (value.Primitive (primitive.Number (Whole n))) o told none =
      absurd (some_part v (value.Primitive (primitive.Number (Whole n))) o told none)
  nothing_held v (value.Primitive (primitive.Text t)) o told none =
      absurd (some_part v (value.Primitive (primitive.Text t)) o told none)
  nothing_held v (value.Object a) o told none = absurd (some_part v (value.Object a) o told none)

  -- ---- names

  unbound_held : (dst : Reg) (name : NameId) (error : Site) (v : AbstractValue) (u : Value)
      → IsValueOf c.heap u → IsTrue (has_value c.heap v u) → has_labels w v ≡ false
      → (is_null u ≡ true)
      ⊎ Ends (Some (read_ref_step p s dst name error u)) scope_kind.Register
  unbound_held dst name error v (value.Object a) o told none =
      absurd (both_ways (has_labels w v) none (some-object v.label a o told))
  unbound_held dst name error v (value.Primitive primitive.Null) o told none = inl refl
  unbound_held dst name error v (value.Primitive primitive.Undefined) o told none =
      inr no_value
  unbound_held dst name error v (value.Primitive (primitive.Bool b)) o told none = inr no_value
  unbound_held dst name error v (value.Primitive (primitive.Number n)) o told none = inr no_value
  unbound_held dst name error v (value.Primitive (primitive.Text t)) o told none = inr no_value

  -- ---- rows

  -- the run leaves the profile with a row, or with a register's value
  abbrev EndsOut : Option Event → Type 0
  EndsOut o = Ends o scope_kind.Row ⊎ Ends o scope_kind.Register

  row_read : (dst : Reg) (y : Content) → y ≡ contents.Row
      → EndsOut (Some (sets_content s dst y))
  row_read dst y is =
      subst (λ z. EndsOut (Some (sets_content s dst z))) (sym is) (inl (out scope_kind.Row))

  module _ (dst base : Reg) (l : IsRegister fr.function base) (name : NameId) (n : IsName p name)
      (filled : IsFilled w.entries (demands_of_get w (abstract.at w base).label (name_keys name)))
    where
      abbrev v : AbstractValue
      v = abstract.at w base

      name_row : (a : Addr) → IsObjectOf c.heap a
          → IsTrue (v.label (label_of c.heap a)) → has_non_row w v.label (name_keys name) ≡ false
          → EndsOut (Some (sets_content s dst (read c.heap a (name_text p name))))
      name_row a o told none =
          row_read dst (read c.heap a (name_text p name))
          (row_is e c.heap w (steps.read_at e c top below x w at) v.label (name_keys name) filled
          (name_text p name) (nodes.name_among e c top below x w at good name n) a o told none)

      ref_row : (error : Site) (u : Value) → IsValueOf c.heap u → IsTrue (has_value c.heap v u)
          → v.flags.null ≡ false → has_non_row w v.label (name_keys name) ≡ false
          → EndsOut (Some (read_ref_step p s dst name error u))
      ref_row error (value.Object a) o told no_null none = name_row a o told none
      ref_row error (value.Primitive primitive.Null) o told no_null none =
          absurd (both_ways v.flags.null no_null told)
      ref_row error (value.Primitive primitive.Undefined) o told no_null none = inr no_value
      ref_row error (value.Primitive (primitive.Bool b)) o told no_null none = inr no_value
      ref_row error (value.Primitive (primitive.Number z)) o told no_null none = inr no_value
      ref_row error (value.Primitive (primitive.Text t)) o told no_null none = inr no_value

      soft_row : (u : Value) → IsValueOf c.heap u → IsTrue (has_value c.heap v u)
          → v.flags.null ≡ false → has_non_row w v.label (name_keys name) ≡ false
          → EndsOut (Some (read_soft_step p s dst name u))
      soft_row (value.Object a) o told no_null none = name_row a o told none
      soft_row (value.Primitive primitive.Null) o told no_null none =
          absurd (both_ways v.flags.null no_null told)
      soft_row (value.Primitive primitive.Undefined) o told no_null none = inr no_value
      soft_row (value.Primitive (primitive.Bool b)) o told no_null none = inr no_value
      soft_row (value.Primitive (primitive.Number z)) o told no_null none = inr no_value
      soft_row (value.Primitive (primitive.Text t)) o told no_null none = inr no_value

  module _ (dst object key : Reg) (l : IsRegister fr.function object)
      (m : IsRegister fr.function key) (filled : IsFilled w.entries
      (demands_of_get w (abstract.at w object).label (keys_in w key))) where
    abbrev ov : AbstractValue
    ov = abstract.at w object

    abbrev kv : AbstractValue
    kv = abstract.at w key

    abbrev step_with : Value → Option (List ℕ) → Event
    step_with u t = on_property s (λ a name. sets_content s dst (read s.conf.heap a name)) u t

    prop_row : (k : Key) → one_key w kv ≡ Some k → has_non_row w ov.label (k ∷ []) ≡ false
        → (u : Value) → IsValueOf c.heap u → IsTrue (has_value c.heap ov u)
        → EndsOut (Some (step_with u (key_text (register_of top key))))
    prop_row k one none (value.Primitive q) o told = inr no_value
    prop_row k one none (value.Object a) o told =
        let (t, text_is, key_is) =
        text_held w good kv k one c.heap at.known.heap (register_of top key) (there key m)
        (held key m) in
        let among : IsTrue (is_among_keys (keys_in w key) k) =
        subst (λ j. IsTrue (is_among_keys (keys_in w key) j)) key_is
        (nodes.keys_among e c top below x w at good key m t text_is) in
        subst (λ z. EndsOut (Some (step_with (value.Object a) z))) (sym text_is)
        (row_read dst (read c.heap a t)
        (row_is e c.heap w (steps.read_at e c top below x w at) ov.label (k ∷ [])
        (filled_at_key w good kv k one among ov.label filled) t
        (or_left _ _ (same_key_from k (key_of p (named t)) (sym key_is))) a o told none))

    prop_row_by : (o : Option Key) → one_key w kv ≡ o
        → (not (is_some o) || has_non_row w ov.label (keys_if o)) ≡ false
        → EndsOut (Some (step_with (register_of top object) (key_text (register_of top key))))
    prop_row_by None is none = absurd (false≢true (sym none))
    prop_row_by (Some k) is none =
        prop_row k is none (register_of top object) (there object l) (held object l)

  -- ---- each kind of node

  fails_by : (n : Node) → AllByRecursion (IsRegister fr.function) (registers_named n)
      → AllByRecursion (IsName p) (option_to_list (name_in n))
      → IsFilled w.entries (transfer_node w x i n).demands → (kind : WarningKind)
      → Contains (kinds n) kind → IsAsked n kind
  unfolding registers_named name_in
  fails_by (node.Call dst callee receiver args error) r n f kind among =
      subst (IsAsked (node.Call dst callee receiver args error))
      (only_kind NotAFunction kind among) (record {
        test = no_function calls_at callee;
        test_is = (0, omega arith, refl);
        kind_is = refl;
        fails =
            λ none. ap (λ b. if_so (not b) NotAFunction) (called_none (abstract.at w callee)
            (register_of top callee) (there callee r.0) (held callee r.0) none);
      })
  fails_by (node.New dst callee args site error) r n f kind among =
      subst (IsAsked (node.New dst callee args site error)) (only_kind NotAFunction kind among)
      (record {
        test = no_function constructs_at callee;
        test_is = (0, omega arith, refl);
        kind_is = refl;
        fails =
            λ none. ap (λ b. if_so (not b) NotAFunction) (constructing_none (abstract.at w callee)
            (register_of top callee) (there callee r.0) (held callee r.0) none);
      })
  fails_by (node.ToObject dst src sites error) r n f kind among =
      subst (IsAsked (node.ToObject dst src sites error)) (only_kind NoObject kind among) (record {
        test = no_object src;
        test_is = (0, omega arith, refl);
        kind_is = refl;
        fails =
            λ none. ap (λ b. if_so b NoObject) (nothing_held (abstract.at w src)
            (register_of top src) (there src r.0) (held src r.0) none);
      })
  fails_by (node.ReadRef dst base name error) r n f kind among =
      elim (either_kind UnboundName ScopeRow kind among) [
        | inl is ↦ subst (IsAsked (node.ReadRef dst base name error)) is (record {
          test = unbound base;
          test_is = (0, omega arith, refl);
          kind_is = refl;
          fails =
              λ none. elim (unbound_held dst name error (abstract.at w base)
              (register_of top base) (there base r.0) (held base r.0) none) [
                | inl null ↦ inl (ap (λ b. if_so b UnboundName) null)
                | inr ends ↦ inr ends
              ];
        })
        | inr is ↦ subst (IsAsked (node.ReadRef dst base name error)) is (record {
          test = row_of_name base (name_keys name);
          test_is = (1, omega arith, refl);
          kind_is = refl;
          fails =
              λ none. let (no_null, no_rest) = or_parts _ _ none in
              ref_row dst base r.0 name n.0 f error (register_of top base) (there base r.0)
              (held base r.0) no_null no_rest;
        })
      ]
  fails_by (node.ReadSoft dst base name) r n f kind among =
      subst (IsAsked (node.ReadSoft dst base name)) (only_kind ScopeRow kind among) (record {
        test = row_of_name base (name_keys name);
        test_is = (0, omega arith, refl);
        kind_is = refl;
        fails =
            λ none. let (no_null, no_rest) = or_parts _ _ none in
            soft_row dst base r.0 name n.0 f (register_of top base) (there base r.0)
            (held base r.0) no_null no_rest;
      })
  fails_by (node.ReadProp dst object key) r n f kind among =
      subst (IsAsked (node.ReadProp dst object key)) (only_kind ScopeRow kind among) (record {
        test = row_of_property object key;
        test_is = (0, omega arith, refl);
        kind_is = refl;
        fails =
            λ none. prop_row_by dst object key r.0 r.1.0 f (one_key w (abstract.at w key)) refl
            none;
      })
  fails_by n r m f kind among = absurd (no_kind kind among)

  pub fails_at : IsFilled w.entries (transfer_node w x i i.node).demands → (kind : WarningKind)
      → Contains (kinds i.node) kind → IsAsked i.node kind
  fails_at filled kind among =
      fails_by i.node (nodes.formed e c top below x w at good).names_registers
      (nodes.formed e c top below x w at good).name filled kind among

  -- ---- of the state

  module _ (fit : IsTrue (fits p (wants p c) answer)) where
    step_is : step p c answer ≡ node_step p s answer i.node
    step_is =
        cond-true (fits p (wants p c) answer) (frames_step p c answer c.frames) None fit
        ∙ frames_taken p c top below i at.frames_are at.info answer

    fault_is : fault_of p c ≡ option_map (operation_at p top.function i) (fault_at p top i.node)
    fault_is =
        ap (fault_of_frames p) at.frames_are
        ∙ ap (option_and_then (λ (j : NodeInfo).
        option_map (operation_at p top.function j) (fault_at p top j.node))) at.info

    ends_so : (kind : ScopeKind) → Ends (node_step p s answer i.node) kind
        → Ends (step p c answer) kind
    ends_so kind (d, is) = (d, step_is ∙ is)

    goes_wrong : (kind : WarningKind) → fault_at p top i.node ≡ Some kind
        → fault_of p c ≡ Some (operation_at p top.function i kind)
    goes_wrong kind is = fault_is ∙ ap (option_map (operation_at p top.function i)) is

    pub fails_so : (kind : WarningKind) → FailsAt i.node kind
        → Fails p c answer (operation_at p top.function i kind) kind
    fails_so NotAFunction is = goes_wrong NotAFunction is
    fails_so NoObject is = goes_wrong NoObject is
    fails_so UnboundName (inl is) = inl (goes_wrong UnboundName is)
    fails_so UnboundName (inr ends) = inr (ends_so scope_kind.Register ends)
    fails_so ScopeRow (inl ends) = inl (ends_so scope_kind.Row ends)
    fails_so ScopeRow (inr ends) = inr (ends_so scope_kind.Register ends)

-- ---- in each state of a run

module _ (p : Program) (good : IsWellFormed p) (t : Table) (closed : IsClosed p t)
    (ws : List Warning) (warnings : AreWarnings p t ws) (states : AreStates p)
    (grows : GrowsAlong p) (covers : CoversRuns p t) where
  pub fails_where_certain : FailsWhereCertain p ws
  fails_where_certain answers c answer warning reached fit among certain stands =
      let o : Operation = operation_of warning in
      let cov : IsCovered p t answers c = covers answers c reached in
      let e = entry_heap p t closed states grows answers c reached cov o stands in
      let w = stands_at.w p t closed states grows answers c reached cov o stands in
      let x = stands_at.x p t closed states grows answers c reached cov o stands in
      let at = is_at p t closed states grows answers c reached cov o stands in
      let asked : IsAsked e c cov.top cov.below x w at good answer stands.info.node warning.kind =
      fails_at e c cov.top cov.below x w at good answer
      (filled p t closed states grows answers c reached cov o stands) warning.kind stands.kind_is in
      let warned : IsWarned p t warning =
      contained (IsWarned p t) ws warning warnings.warned among in
      subst (λ q. Fails p c answer q warning.kind)
      (operation_is p t closed states grows answers c reached cov o stands)
      (fails_so e c cov.top cov.below x w at good answer fit warning.kind
      (asked.fails (warned.certain.0 certain asked.test w
      (is_reached p t closed states grows answers c reached cov o stands asked.test asked.test_is
      asked.kind_is))))
