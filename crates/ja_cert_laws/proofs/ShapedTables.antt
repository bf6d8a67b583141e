-- A table that visits build: its states, values at entry and edges have the shape of their kinds,
-- and what stands in it is of the program. So a certificate says all of it, and the visits are of
-- the program too.
use Rattle.std.specs.Prelude.{◌≡◌, ◌<◌, ◌≤◌, ◌||◌, ◌&&◌, ◌==◌, ℕ, length, Bool, true, false, List, [], ◌∷◌, map, Option, Some, None, IfSome, IsSome, IsTrue}
use Rattle.std.specs.List.{AllByRecursion, flat_map, list_any}
use Rattle.std.specs.Option.{option_map_or, option_map}
use Rattle.std.proofs.Common.{refl, sym, subst, ap, ◌∙◌, arith}
use Rattle.std.proofs.lemmas.Bool.{cond_both, and_parts, lt-ltb, false≢true}
use Rattle.ja_base.specs.declared.ids.Context.{Context}
use Rattle.ja_base.specs.declared.ids.Label.{Label}
use Rattle.ja_base.specs.declared.ids.NameId.{NameId}
use Rattle.ja_base.specs.declared.ids.NodeId.{NodeId}
use Rattle.ja_base.proofs.Lists.{all_append, within_from_some}
use Rattle.ja_prim.specs.Texts.{same_text}
use Rattle.ja_prim.specs.declared.primitive.Primitive.{Primitive}
use Rattle.ja_graph.specs.declared.attrs.Attrs.{Attrs}
use Rattle.ja_graph.specs.declared.node.Node.{Node}
use Rattle.ja_graph.specs.declared.node.Node.TheVariants as node
use Rattle.ja_graph.specs.declared.node.NodeInfo.{NodeInfo}
use Rattle.ja_graph.specs.declared.program.Class.TheVariants as class
use Rattle.ja_graph.specs.declared.program.Program.{Program}
use Rattle.ja_graph.specs.Program.{node_at, nodes_of, global}
use Rattle.ja_graph.specs.WellFormed.{IsWellFormed}
use Rattle.ja_machine.specs.Frames.{parameters_of}
use Rattle.ja_machine.specs.Machine.{program_function}
use Rattle.ja_machine.specs.declared.machine.Addr.{Addr}
use Rattle.ja_machine.specs.declared.machine.Content.{Content}
use Rattle.ja_machine.specs.declared.machine.Content.TheVariants as contents
use Rattle.ja_machine.specs.declared.machine.Heap.{Heap}
use Rattle.ja_machine.specs.declared.machine.Object.{Object}
use Rattle.ja_machine.specs.declared.machine.Property.{Property}
use Rattle.ja_machine.specs.declared.machine.Value.{Value}
use Rattle.ja_machine.specs.declared.machine.Value.TheVariants as value
use Rattle.ja_machine.specs.Heap.{object_at, property_of}
use Rattle.ja_machine.specs.Machine.{opening_heap}
use Rattle.ja_machine.specs.Nodes.{name_text}
use Rattle.ja_machine.specs.Objects.{first_of}
use Rattle.ja_machine.specs.State.{IsContentOf, IsHeap, IsObjectOf, IsValueOf}
use Rattle.ja_machine.proofs.Lists.{all_both, all_map, all_of, either_way, is_some_from}
use Rattle.ja_machine.proofs.Opening.{heap-opening, opened_at_address}
use Rattle.ja_abstract.specs.declared.abstraction.Key.{Key}
use Rattle.ja_abstract.specs.declared.abstraction.Key.TheVariants as key
use Rattle.ja_abstract.specs.declared.abstraction.Slot.{Slot}
use Rattle.ja_abstract.specs.declared.abstraction.Slot.TheVariants as slot
use Rattle.ja_abstract.specs.AbstractValue.{AbstractProperty, AbstractValue, Labels, absent_value, bare, join_properties, no_property, no_value, of_attrs, of_label, of_primitive, row_value, undefined_value}
use Rattle.ja_abstract.specs.AbstractState.{AbstractState, is_label, new}
use Rattle.ja_abstract.specs.Contents.{missing, held, content_of, held_address, held_primitive, key_content, label_of, object_content, of_content, of_value, opened, opened_at, property_content}
use Rattle.ja_abstract.specs.Keys.{internal, named}
use Rattle.ja_abstract.specs.Reading.{View}
use Rattle.ja_abstract.specs.Resolved.{Entries, from_entry, join_all, known_part, origins, renamed, resolved}
use Rattle.ja_rows.specs.declared.table.Edge.{Edge}
use Rattle.ja_rows.specs.declared.table.Item.{Item}
use Rattle.ja_rows.specs.declared.table.Item.TheVariants.{Open, Step, Fill, Back}
use Rattle.ja_rows.specs.Calls.{calling, given_back}
use Rattle.ja_rows.specs.Out.{Point}
use Rattle.ja_rows.specs.Table.{Table, Builds, Effects, IsBuilt, IsItem, StateAt, ValuesOf, applied, at_node, effects, effects_back, effects_fill, effects_step, entry_state_of, exit_at, is_demanded, joined_state, no_arguments, node_numbers, opening_state, opening_table, point, root, same_context, same_edge, view_at, visited, with_demand, with_state, with_states, with_value}
use Rattle.ja_rows.specs.Transfer.{transfer, transfer_node}
use Rattle.ja_rows.proofs.StepEdges.{IsFrom, edges_from_node}
use Rattle.ja_rows.proofs.TablesInProgram as in_program
use Rattle.ja_rows.proofs.Views.{same_context-true, with_view_by}
use Rattle.ja_table.specs.Tables.{table_of, IsContext}
use Rattle.ja_height.proofs.EdgesInProgram.{IsInto, edges_into}
use Rattle.ja_meaning.proofs.Inside.{found_at}
use Rattle.ja_table.proofs.Places.{edges_order}
use Rattle.ja_table.proofs.TableLemmas.{root_is_context}
use Rattle.ja_cert.specs.Wrong.{calls}
use Rattle.ja_cert_laws.specs.Back.{CanBeWritten, IsSolved, IsCall, IsEdgeOf, IsItemOf, IsNodeOf, IsOfEntry, IsShaped, IsTableShaped}
use Rattle.ja_cert_read.specs.declared.certificate.Certificate.{Certificate}
use Rattle.ja_cert_read.specs.Said.{said_property, said_state, said_table, said_value}
use Rattle.ja_cert_laws.proofs.ShapedReadings.{IsViewIn, resolved_is}
use Rattle.ja_cert_laws.proofs.ShapedStates.{AreEntriesIn, IsEntryIn, IsPropertyIn, IsShapedIn, at_site, bare_in, builtin_there, joined_shaped, properties_joined, text_in}
use Rattle.ja_cert_laws.proofs.ShapedSteps.{back_shaped, callee_shaped, calling_view, entry_shaped, given_shaped}
use Rattle.ja_cert_laws.proofs.ShapedValues.{AreLabels, no_objects, of_constant, of_one_label, of_one_primitive, of_undefined, one_object}
use Rattle.ja_cert_parts.proofs.UnitLemmas.{and_false}

-- ---- values at entry

neither : (a b : Bool) → a ≡ false → b ≡ false → (a || b) ≡ false
neither a b f g = ap (λ c. c || b) f ∙ g

of_joined : (q r : AbstractProperty) → IsOfEntry q → IsOfEntry r → IsOfEntry (join_properties q r)
of_joined q r f g = neither q.value.flags.entry r.value.flags.entry f g

entries_joined : (p : Program) (k : Key) (q r : AbstractProperty) → IsEntryIn p k q
    → IsEntryIn p k r → IsEntryIn p k (join_properties q r)
entries_joined p k q r f g = record {
  entry = of_joined q r f.entry g.entry;
  property = properties_joined p k q r f.property g.property;
}

bare_entry : (p : Program) (k : Key) (v : AbstractValue) → v.flags.entry ≡ false
    → AreLabels p v.label → IsEntryIn p k (bare v)
bare_entry p k v e f = record { entry = e; property = bare_in p k v f }

nothing_in : (p : Program) (k : Key) → IsEntryIn p k no_property
nothing_in p k = bare_entry p k no_value refl (no_objects p)

of_resolved : (a : AbstractState) (entries : Entries) (l : Label) (k : Key)
    → ((m : Label) → IfSome (entries m k) IsOfEntry) → IsOfEntry (resolved a entries l k)
of_resolved a entries l k f =
    let q = a.property l k in
    either_way IsOfEntry q.value.flags.entry
    (join_properties (known_part q) (from_entry a entries l k)) q
    (λ _. of_joined (known_part q) (from_entry a entries l k) refl (each (origins a.mask l)))
    (λ apart. apart)
  where
    one : (o : Option AbstractProperty) → IfSome o IsOfEntry
        → IsOfEntry (option_map_or (renamed a.mask) o no_property)
    one None g = refl
    one (Some q) g = g

    each : (ms : List Label) → IsOfEntry (join_all (map
        (λ (m : Label). option_map_or (renamed a.mask) (entries m k) no_property) ms))
    each [] = refl
    each (m ∷ ms) =
        of_joined (option_map_or (renamed a.mask) (entries m k) no_property) (join_all (map
        (λ (m : Label). option_map_or (renamed a.mask) (entries m k) no_property) ms))
        (one (entries m k) (f m)) (each ms)

read_entry : (w : View) → IsViewIn w → (l : Label) (k : Key)
    → IsEntryIn w.program k (resolved w.state w.entries l k)
read_entry w f l k = record {
  entry = of_resolved w.state w.entries l k (λ m. by (w.entries m k) (f.entries m k));
  property = resolved_is w f l k;
}
  where
    by : (o : Option AbstractProperty) → IfSome o (IsEntryIn w.program k) → IfSome o IsOfEntry
    by None h = tt
    by (Some q) h = h.entry

-- ---- .. of the opening heap

module _ (p : Program) (good : IsWellFormed p) where
  abbrev heap : Heap
  heap = opening_heap p

  known : IsHeap p heap
  known = heap-opening p good

  -- an object of the heap has a label of the program
  object_of : (a : Addr) → IsObjectOf heap a → AreLabels p (of_label (label_of heap a)).label
  object_of a there =
      let fits : a.site.0 < length p.opening = (opened_at_address p good a there).site_fits in
      let enough : length p.opening ≤ length p.sites = good.sites in
      one_object p (label_of heap a) (lt-ltb a.site.0 (length p.sites) (omega arith))

  missing_in : (k : Key) → IsEntryIn p k (of_content heap missing)
  missing_in k = bare_entry p k absent_value refl (no_objects p)

  held_in : (k : Key) (v : Value) → IsValueOf heap v → IsEntryIn p k (of_content heap (held v))
  held_in k (value.Primitive q) there =
      let f = of_one_primitive p q in
      bare_entry p k (of_primitive q) f.plain.entry f.labels
  held_in k (value.Object a) there =
      bare_entry p k (of_label (label_of heap a)) refl (object_of a there)

  linked_in : (k : Key) (o : Option Addr) → ((b : Addr) → o ≡ Some b → IsObjectOf heap b)
      → IsEntryIn p k (of_content heap (held_address o))
  linked_in k None there = missing_in k
  linked_in k (Some b) there = held_in k (value.Object b) (there b refl)

  primitive_in : (k : Key) (o : Option Primitive)
      → IsEntryIn p k (of_content heap (held_primitive o))
  primitive_in k None = missing_in k
  primitive_in k (Some q) = held_in k (value.Primitive q) tt

  slot_in : (s : Slot) (a : Addr) (o : Object) → object_at heap a ≡ Some o
      → IsEntryIn p (key.Slot s) (of_content heap (object_content o (internal s)))
  slot_in slot.Prototype a o is =
      linked_in (key.Slot slot.Prototype) o.slots.prototype
      (λ b link. (known.prototype_before a b o is link).0)
  slot_in slot.Outer a o is =
      linked_in (key.Slot slot.Outer) o.slots.outer (λ b link. (known.outer_before a b o is link).0)
  slot_in slot.Scope a o is =
      linked_in (key.Slot slot.Scope) o.slots.scope (λ b link. known.scope a b o is link)
  slot_in slot.Value a o is = primitive_in (key.Slot slot.Value) o.slots.value

  named_in : (n : NameId) (c : Content) (attrs : Attrs) → IsContentOf heap c
      → IsEntryIn p (key.Name n) (of_content heap (content_of c attrs))
  named_in n (contents.Value v) attrs there =
      let f = held_in (key.Name n) v there in
      let q : AbstractProperty = record { value = of_value heap v; attrs = of_attrs attrs } in
      record { entry = f.entry; property = text_in p (key.Name n) q refl f.property.labels }
  named_in n contents.Row attrs there =
      let q : AbstractProperty = record { value = row_value; attrs = of_attrs attrs } in
      record { entry = refl; property = text_in p (key.Name n) q refl (no_objects p) }

  property_in : (n : NameId) (a : Addr) (o : Object) → object_at heap a ≡ Some o
      → (r : Option Property) → property_of o (name_text p n) ≡ r
      → IsEntryIn p (key.Name n) (of_content heap (property_content r))
  property_in n a o is None e = missing_in (key.Name n)
  property_in n a o is (Some q) e =
      let (i, at, test) = found_at (λ (r : Property). same_text r.name (name_text p n))
      o.properties q e in
      named_in n q.content q.attrs (known.properties a o i q is at)

  content_in : (a : Addr) (k : Key) → IsEntryIn p k (of_content heap (key_content p a k))
  content_in a key.OtherIndex = missing_in key.OtherIndex
  content_in a key.OtherName = missing_in key.OtherName
  content_in a (key.Name n) = by (object_at heap a) refl
    where
      by : (r : Option Object) → object_at heap a ≡ r
          → IsEntryIn p (key.Name n) (of_content heap (option_map_or
          (λ (o : Object). object_content o (named (name_text p n))) r missing))
      by None is = missing_in (key.Name n)
      by (Some o) is = property_in n a o is (property_of o (name_text p n)) refl
  content_in a (key.Slot s) = by (object_at heap a) refl
    where
      by : (r : Option Object) → object_at heap a ≡ r
          → IsEntryIn p (key.Slot s) (of_content heap (option_map_or
          (λ (o : Object). object_content o (internal s)) r missing))
      by None is = missing_in (key.Slot s)
      by (Some o) is = slot_in s a o is

  pub opened_in : (l : Label) (k : Key) → IsEntryIn p k (opened p l k)
  opened_in l k =
      cond_both l.old no_property (opened_at p k (first_of l.site)) (IsEntryIn p k)
      (λ _. nothing_in p k) (λ _. at_object (object_at (opening_heap p) (first_of l.site)))
    where
      at_object : (o : Option Object) → IsEntryIn p k (option_map_or (λ (o : Object). of_content
          (opening_heap p) (key_content p (first_of l.site) k)) o no_property)
      at_object None = nothing_in p k
      at_object (Some o) = content_in (first_of l.site) k

-- ---- what is said

module _ (p : Program) where
  labels_said : (set : Labels) → AreLabels p set → (l : Label) → (is_label p l && set l) ≡ set l
  labels_said set f l = by (set l) refl
    where
      by : (b : Bool) → set l ≡ b → (is_label p l && b) ≡ b
      by true e = ap (λ c. c && true) (f l e)
      by false e = and_false (is_label p l)

  value_said : (v : AbstractValue) → AreLabels p v.label → said_value p v ≡ v
  value_said v f = λ i. record v { label = λ l. labels_said v.label f l i }

  pub property_said : (k : Key) (q : AbstractProperty) → IsPropertyIn p k q
      → said_property p k q ≡ q
  property_said k q f =
      λ i. record { value = value_said q.value f.labels i; attrs = f.attrs i }

  pub shaped_said : (a : AbstractState) → IsShapedIn p a → said_state p a ≡ a
  shaped_said a f = λ i. record a {
    register = λ r. value_said (a.register r) (f.registers r).labels i;
    property = λ l k. property_said k (a.property l k) (f.properties l k) i;
  }

-- ---- nodes and edges

module _ (p : Program) (good : IsWellFormed p) where
  node_of : (x : Context) (n : NodeId) (i : NodeInfo) → IsContext p x
      → node_at p x.function n ≡ Some i → IsNodeOf p x n
  node_of x n i context is = record {
    context = context;
    node = within_from_some (nodes_of p x.function) n.0 (is_some_from _ i is);
  }

  abbrev IsEdge : Edge → Type 0
  IsEdge e = IsEdgeOf p e × IsCall p e

  -- a node that gives edges is a call
  calls_given : (w : View) (x : Point) (i : NodeInfo) (n : Node)
      → AllByRecursion (λ (e : Edge). IsTrue (calls n)) (transfer_node w x i n).edges
  calls_given w x i (node.Convert dst src kind other) = all_of _ (λ e. refl) _
  calls_given w x i (node.Call dst callee receiver args error) = all_of _ (λ e. refl) _
  calls_given w x i (node.New dst callee args site error) = all_of _ (λ e. refl) _
  calls_given w x i n = tt

  edge_of : (x : Context) (n : NodeId) (i : NodeInfo) (e : Edge) → IsContext p x
      → node_at p x.function n ≡ Some i → IsFrom x n e → IsContext p e.callee
      → IsTrue (calls i.node) → IsEdge e
  edge_of x n i e context is from callee call = (
    record {
      from = subst (λ (c : Context × NodeId). IsNodeOf p c.0 c.1)
          (λ j. (sym from.0 j, sym from.1 j)) (node_of x n i context is);
      callee = callee;
    },
    subst (λ (c : Context × NodeId). IsTrue (option_map_or (λ (i : NodeInfo). calls i.node)
        (node_at p c.0.function c.1) false)) (λ j. (sym from.0 j, sym from.1 j))
        (subst (λ (o : Option NodeInfo). IsTrue (option_map_or (λ (i : NodeInfo). calls i.node) o
        false)) (sym is) call),
  )

  step_edges : (t : Table) (x : Context) (n : NodeId) (i : NodeInfo) (a : AbstractState)
      → IsContext p x → node_at p x.function n ≡ Some i
      → AllByRecursion IsEdge (transfer (view_at p t x a) (point x n i)).edges
  step_edges t x n i a context is =
      let w = view_at p t x a in
      let es = (transfer w (point x n i)).edges in
      all_both (λ (e : Edge). IsFrom x n e × IsInto w (point x n i) e)
      (λ (e : Edge). IsTrue (calls i.node)) IsEdge (λ e at call. edge_of x n i e context is at.0
      (record { function = at.1.0; receiver = at.1.1 }) call) es
      (all_both (IsFrom x n) (IsInto w (point x n i))
      (λ (e : Edge). IsFrom x n e × IsInto w (point x n i) e) (λ e from into. (from, into)) es
      (edges_from_node w (point x n i) i i.node) (edges_into w (point x n i) i i.node))
      (calls_given w (point x n i) i i.node)

  -- ---- tables

  abbrev IsStateOf : Context → AbstractState → Type 0
  IsStateOf x a = IsContext p x × IsShapedIn p a

  record IsRight (t : Table) : Type 0 where
    states : (x : Context) (n : ℕ) → IfSome (t.state x n) (IsStateOf x)
    entries : (x : Context) → AreEntriesIn p (t.entry x)
    edges : (e : Edge) → IsTrue (t.edge e) → IsEdge e

  abbrev AreValues : ValuesOf → Type 0
  AreValues v = (l : Label) (k : Key) → IsEntryIn p k (v.value l k)

  record AreRight (fx : Effects) : Type 0 where
    states : AllByRecursion (λ (g : StateAt). IsStateOf g.context g.state) fx.states
    values : AllByRecursion AreValues fx.values
    edges : AllByRecursion IsEdge fx.edges

  -- what is joined in
  states_right : (x : Context) (n : ℕ) (gs : List StateAt) (o : Option AbstractState)
      → AllByRecursion (λ (g : StateAt). IsStateOf g.context g.state) gs → IfSome o (IsStateOf x)
      → IfSome (with_states o x n gs) (IsStateOf x)
  states_right x n [] o all before = before
  states_right x n (g ∷ gs) o all before =
      states_right x n gs (with_state o x n g) all.1 (cond_both
      (same_context g.context x && (g.node == n)) (Some (joined_state o g.state)) o
      (λ r. IfSome r (IsStateOf x)) (λ here. (
        subst (IsContext p) (same_context-true g.context x (and_parts (same_context g.context x)
            (g.node == n) here).0) all.0.0,
        joined o before,
      )) (λ _. before))
    where
      joined : (o : Option AbstractState) → IfSome o (IsStateOf x)
          → IsShapedIn p (joined_state o g.state)
      joined None before = all.0.1
      joined (Some b) before = joined_shaped p b g.state before.1 all.0.1

  values_right : (x : Context) (l : Label) (k : Key) (vs : List ValuesOf)
      (o : Option AbstractProperty) → AllByRecursion AreValues vs → IfSome o (IsEntryIn p k)
      → IfSome (with_value o x l k vs) (IsEntryIn p k)
  values_right x l k [] o all before = before
  values_right x l k (v ∷ vs) o all before =
      values_right x l k vs _ all.1 (cond_both (same_context v.context x)
      (option_map (λ (q : AbstractProperty). join_properties q (v.value l k)) o) o
      (λ r. IfSome r (IsEntryIn p k)) (λ _. more o before) (λ _. before))
    where
      more : (o : Option AbstractProperty) → IfSome o (IsEntryIn p k)
          → IfSome (option_map (λ (q : AbstractProperty). join_properties q (v.value l k)) o)
          (IsEntryIn p k)
      more None before = tt
      more (Some q) before = entries_joined p k q (v.value l k) before (all.0 l k)

  demand_right : (k : Key) (o : Option AbstractProperty) (b : Bool) → IfSome o (IsEntryIn p k)
      → IfSome (with_demand o b) (IsEntryIn p k)
  demand_right k None true before = nothing_in p k
  demand_right k (Some q) true before = before
  demand_right k o false before = before

  edges_right : (e : Edge) (ds : List Edge) → AllByRecursion IsEdge ds
      → list_any (λ (d : Edge). same_edge d e) ds ≡ true → IsEdge e
  edges_right e [] all found = absurd (false≢true found)
  edges_right e (d ∷ ds) all found = by (same_edge d e) refl found (edges_right e ds all.1)
    where
      by : (b : Bool) → same_edge d e ≡ b → (b || list_any (λ (d : Edge). same_edge d e) ds) ≡ true
          → (list_any (λ (d : Edge). same_edge d e) ds ≡ true → IsEdge e) → IsEdge e
      by true here _ later = subst IsEdge (edges_order.exact d e here) all.0
      by false _ more later = later more

  applied_right : (t : Table) (fx : Effects) → IsRight t → AreRight fx → IsRight (applied t fx)
  applied_right t fx f g = record {
    states = λ x n. states_right x n fx.states (t.state x n) g.states (f.states x n);
    entries = λ x l k. demand_right k _ (is_demanded x l k fx.demands)
        (values_right x l k fx.values (t.entry x l k) g.values (f.entries x l k));
    edges = λ e. either_way (λ b. IsTrue b → IsEdge e)
        (list_any (λ (d : Edge). same_edge d e) fx.edges) true (t.edge e)
        (λ found _. edges_right e fx.edges g.edges found) (λ _ h. f.edges e h);
  }

  -- ---- what visits join in

  module _ (t : Table) (f : IsRight t) where
    state_right : (x : Context) (n : ℕ) (a : AbstractState) → t.state x n ≡ Some a → IsStateOf x a
    state_right x n a is = subst (λ o. IfSome o (IsStateOf x)) is (f.states x n)

    view_right : (x : Context) (a : AbstractState) → IsShapedIn p a → IsViewIn (view_at p t x a)
    view_right x a g = record { state = g; entries = f.entries x }

    step_right : (x : Context) (n : NodeId) → AreRight (effects p t (Step x n))
    step_right x n =
        with_view_by p t x n (λ w i. effects_step w (point x n i) (transfer w (point x n i)))
        AreRight (record { states = tt; values = tt; edges = tt }) (λ i a i_is a_is.
        let w = view_at p t x a in
        let (context, g) = state_right x n.0 a a_is in
        let h = view_right x a g in
        let made = (in_program.node_of p good x.function n i i_is).sites in
        let o = transfer w (point x n i) in
        let edges = step_edges t x n i a context i_is in
        record {
          states = all_append (λ (s : StateAt). IsStateOf s.context s.state)
              (map (at_node x) o.states) _
              (all_map (λ (s : ℕ × AbstractState). IsShapedIn p s.1)
              (λ (s : StateAt). IsStateOf s.context s.state) (at_node x) (λ s k. (context, k))
              o.states (given_shaped w good h (point x n i) i _ i.node made))
              (all_map IsEdge (λ (s : StateAt). IsStateOf s.context s.state) (entry_state_of w i)
              (λ e is. (is.0.callee, callee_shaped w good h e i.node is.0.callee.receiver)) o.edges
              edges);
          values = tt;
          edges = edges;
        })

    exits_right : (e : Edge) (a : AbstractState) (i : NodeInfo) → IsShapedIn p a → (ns : List ℕ)
        → AllByRecursion (λ (s : ℕ × AbstractState). IsShapedIn p s.1)
        (flat_map (exit_at p t e (view_at p t e.caller a) i) ns)
    exits_right e a i g [] = tt
    exits_right e a i g (n ∷ ns) =
        all_append (λ (s : ℕ × AbstractState). IsShapedIn p s.1)
        (exit_at p t e (view_at p t e.caller a) i n) _ (by (t.state e.callee n)
        (f.states e.callee n) (node_at p e.callee.function (record { 0 = n })))
        (exits_right e a i g ns)
      where
        by : (o : Option AbstractState) → IfSome o (IsStateOf e.callee) → (at : Option NodeInfo)
            → AllByRecursion (λ (s : ℕ × AbstractState). IsShapedIn p s.1)
            (option_map_or (λ (exit : AbstractState). option_map_or
            (λ (at : NodeInfo). given_back (view_at p t e.caller a) e i exit at.node) at []) o [])
        by None h at = tt
        by (Some exit) h None = tt
        by (Some exit) h (Some at) =
            back_shaped (view_at p t e.caller a) good (view_right e.caller a g) e i exit at.node
            h.0.receiver h.1

    effects_right : (item : Item) → AreRight (effects p t item)
    effects_right Open =
        record { states = tt; values = (opened_in p good, tt); edges = tt }
    effects_right (Step x n) = step_right x n
    effects_right (Fill e) =
        with_view_by p t e.caller e.node (effects_fill t e) AreRight
        (record { states = tt; values = tt; edges = tt }) (λ i a i_is a_is.
        let w = view_at p t e.caller a in
        let (context, g) = state_right e.caller e.node.0 a a_is in
        let h = calling_view w good (view_right e.caller a g) i.node e.callee.function.0 in
        record {
          states = tt;
          values = (read_entry (calling w i.node e.callee.function.0) h, tt);
          edges = tt;
        })
    effects_right (Back e) =
        with_view_by p t e.caller e.node (effects_back p t e) AreRight
        (record { states = tt; values = tt; edges = tt }) (λ i a i_is a_is.
        let (context, g) = state_right e.caller e.node.0 a a_is in
        record {
          states = all_map (λ (s : ℕ × AbstractState). IsShapedIn p s.1)
              (λ (s : StateAt). IsStateOf s.context s.state) (at_node e.caller)
              (λ s k. (context, k)) _ (exits_right e a i g (node_numbers p e.callee.function));
          values = tt;
          edges = tt;
        })

    item_right : (item : Item) → IsItem p t item → IsItemOf p item
    item_right Open is = tt
    item_right (Step x n) is = record {
      context = by (t.state x n.0) (f.states x n.0) is.1;
      node = within_from_some (nodes_of p x.function) n.0 is.0;
    }
      where
        by : (o : Option AbstractState) → IfSome o (IsStateOf x) → IsSome o → IsContext p x
        by None g some = absurd (false≢true some)
        by (Some a) g some = g.0
    item_right (Fill e) is = (f.edges e is).0
    item_right (Back e) is = (f.edges e is).0

  -- ---- all visits

  opening_right : IsRight (opening_table p)
  opening_right = record {
    states = λ x n. cond_both (same_context root x && (n == 0)) (Some (opening_state p)) None
        (λ r. IfSome r (IsStateOf x)) (λ here. (
          subst (IsContext p) (same_context-true root x (and_parts (same_context root x) (n == 0)
              here).0) (root_is_context p good),
          shaped,
        )) (λ _. tt);
    entries = λ x l k. tt;
    edges = λ e h. absurd (false≢true h);
  }
    where
      shaped : IsShapedIn p (opening_state p)
      shaped =
          let global_value = of_label (new global) in
          let there = of_one_label p (new global)
          (at_site p global (builtin_there p good global class.Object refl)) in
          entry_shaped p (parameters_of p program_function) global_value global_value
          undefined_value no_arguments there there (of_undefined p) (λ j. of_undefined p)
          (of_undefined p) (of_constant p 0)

  built_by : (from : Table) (items : List Item) (t : Table) → Builds p from items t → IsRight from
      → IsRight t × AllByRecursion (IsItemOf p) items
  built_by from [] t same f = (subst IsRight same f, tt)
  built_by from (item ∷ items) t builds f =
      let next = applied_right from (effects p from item) f (effects_right from f item) in
      let (right, all) = built_by (visited p from item) items t builds.2 next in
      (right, (item_right from f item builds.0, all))

  pub record IsBuiltShape (t : Table) (items : List Item) : Type 0 where
    pub shaped : IsTableShaped p t
    pub said : said_table p t ≡ t
    pub visits : AllByRecursion (IsItemOf p) items

  pub built_shaped : (items : List Item) (t : Table) → IsBuilt p items t → IsBuiltShape t items
  built_shaped items t built =
      let (right, all) = built_by (opening_table p) items t built opening_right in
      record {
        shaped = record {
          states = λ x n. shape x (t.state x n) (right.states x n);
          entries = λ x l k. entry k (t.entry x l k) (right.entries x l k);
          edges = λ e h. (right.edges e h).1;
        };
        said = λ i. record t {
          state = λ x n. state_said x (t.state x n) (right.states x n) i;
          entry = λ x l k. entry_said k (t.entry x l k) (right.entries x l k) i;
        };
        visits = all;
      }
    where
      shape : (x : Context) (o : Option AbstractState) → IfSome o (IsStateOf x)
          → IfSome o IsShaped
      shape x None f = tt
      shape x (Some a) f =
          record { registers = λ r. (f.1.registers r).plain; masks = f.1.masks }

      entry : (k : Key) (o : Option AbstractProperty) → IfSome o (IsEntryIn p k)
          → IfSome o IsOfEntry
      entry k None f = tt
      entry k (Some q) f = f.entry

      state_said : (x : Context) (o : Option AbstractState) → IfSome o (IsStateOf x)
          → option_map (said_state p) o ≡ o
      state_said x None f = refl
      state_said x (Some a) f = ap Some (shaped_said p a f.1)

      entry_said : (k : Key) (o : Option AbstractProperty) → IfSome o (IsEntryIn p k)
          → option_map (said_property p k) o ≡ o
      entry_said k None f = refl
      entry_said k (Some q) f = ap Some (property_said p k q f.property)

-- ---- certificates

pub solved_written : (c : Certificate) → IsSolved c → CanBeWritten c
solved_written c h =
    let built = built_shaped c.program h.loaded.well_formed c.visits.items (table_of c.table)
    h.built in
    record {
      loaded = h.loaded;
      fits = record {
        each = h.fits.each;
        ordered = h.fits.ordered;
        edges = h.fits.edges;
        edges_ordered = h.fits.edges_ordered;
      };
      shaped = built.shaped;
      said = built.said;
      visits = built.visits;
    }
