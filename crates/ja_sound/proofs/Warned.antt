-- What goes wrong at a node is allowed by the state that a table has there, so that the table's
-- warnings have it.
use Rattle.std.specs.Prelude.{◌≡◌, not, IsTrue, List, Option, Some, None, is_some, Any, Contains}
use Rattle.std.specs.List.{AllByRecursion}
use Rattle.std.specs.Option.{option_map}
use Rattle.std.proofs.Common.{refl, sym, ap, ◌∙◌, arith}
use Rattle.std.proofs.lemmas.Bool.{false≢true, or_left, or_right}
use Rattle.std.proofs.lemmas.Option.{none-some, same_Some, option_and_then_some}
use Rattle.ja_base.specs.declared.ids.Reg.{Reg}
use Rattle.ja_prim.specs.declared.primitive.Primitive.TheVariants as primitive
use Rattle.ja_graph.specs.declared.node.Node.{Node}
use Rattle.ja_graph.specs.declared.node.Node.TheVariants as node
use Rattle.ja_graph.specs.declared.node.NodeInfo.{NodeInfo}
use Rattle.ja_graph.specs.declared.program.Program.{Program}
use Rattle.ja_graph.specs.Node.{registers_named}
use Rattle.ja_graph.specs.Program.{node_at}
use Rattle.ja_graph.specs.WellFormed.{IsWellFormed, IsRegister}
use Rattle.ja_machine.specs.declared.machine.Answer.{Answer}
use Rattle.ja_machine.specs.declared.machine.Conf.{Conf}
use Rattle.ja_machine.specs.declared.machine.Frame.{Frame}
use Rattle.ja_machine.specs.declared.machine.Heap.{Heap}
use Rattle.ja_machine.specs.declared.machine.Value.{Value}
use Rattle.ja_machine.specs.declared.machine.Value.TheVariants as value
use Rattle.ja_machine.specs.Calls.{function_called, function_constructing}
use Rattle.ja_machine.specs.Frames.{register_of}
use Rattle.ja_machine.specs.Machine.{state_of}
use Rattle.ja_machine.specs.Runs.{AreStates}
use Rattle.ja_machine.specs.State.{IsFrame, IsValueOf}
use Rattle.ja_abstract.specs.AbstractValue.{AbstractValue}
use Rattle.ja_abstract.specs.Reading.{View}
use Rattle.ja_abstract.specs.Values.{has_nullish}
use Rattle.ja_meaning.specs.Meaning.{has_value, context_of}
use Rattle.ja_rows.specs.declared.table.Warning.{Warning}
use Rattle.ja_rows.specs.declared.table.WarningKind.{WarningKind}
use Rattle.ja_rows.specs.declared.table.WarningKind.TheVariants.{NotAFunction, NoObject, UnboundName}
use Rattle.ja_rows.specs.Edges.{calls_at, constructs_at}
use Rattle.ja_rows.specs.Out.{Point}
use Rattle.ja_rows.specs.Out as abstract
use Rattle.ja_rows.specs.Table.{Table, view_at, point}
use Rattle.ja_rows.specs.Warning.{Test, Operation, operation_at, operation_of, tests, no_function, no_object, unbound, AreWarnings}
use Rattle.ja_sound.specs.Faults.{is_nothing_value, is_null, fault_at, fault_of_frames}
use Rattle.ja_sound.specs.Sound.{IsCovered, CoversRuns, WarnsOfFaults}
use Rattle.ja_sound.specs.Statements.{IsAt}
use Rattle.ja_sound.proofs.AtCovered.{GrowsAlong, at_covered}
use Rattle.ja_sound.proofs.AtNode as nodes
use Rattle.ja_sound.proofs.Called.{called_other, constructing_other}
use Rattle.ja_sound.proofs.FaultKinds.{so_parts, no_value}

-- a test of the node that says the kind, and that the view passes
pub record IsTold (w : View) (n : Node) (kind : WarningKind) : Type 0 where
  pub test : Test
  pub test_is : Contains (tests n) test
  pub kind_is : test.kind ≡ kind
  pub fault : IsTrue (test.fault w)

module _ (e : Heap) (c : Conf) (top : Frame) (below : List Frame) (x : Point) (w : View)
    (at : IsAt w.program e c top below x w) (good : IsWellFormed w.program) where
  abbrev p : Program
  p = w.program

  abbrev i : NodeInfo
  i = x.info

  abbrev fr : IsFrame p c.heap top
  fr = nodes.fr e c top below x w at good

  held : (r : Reg) → IsRegister fr.function r
      → IsTrue (has_value c.heap (abstract.at w r) (register_of top r))
  held r l = nodes.has e c top below x w at good r l

  there : (r : Reg) → IsRegister fr.function r → IsValueOf c.heap (register_of top r)
  there r l = nodes.of_heap e c top below x w at good r l

  nothing_told : (v : AbstractValue) (u : Value) → IsTrue (has_value c.heap v u)
      → IsTrue (is_nothing_value u) → IsTrue (has_nullish v)
  nothing_told v (value.Primitive primitive.Undefined) told k = or_left _ _ told
  nothing_told v (value.Primitive primitive.Null) told k = or_right v.flags.undefined _ told
  nothing_told v (value.Primitive (primitive.Bool b)) told k = absurd (false≢true k)
  nothing_told v (value.Primitive (primitive.Number n)) told k = absurd (false≢true k)
  nothing_told v (value.Primitive (primitive.Text t)) told k = absurd (false≢true k)
  nothing_told v (value.Object a) told k = absurd (false≢true k)

  null_told : (v : AbstractValue) (u : Value) → IsTrue (has_value c.heap v u)
      → IsTrue (is_null u) → IsTrue v.flags.null
  null_told v (value.Primitive primitive.Null) told k = told
  null_told v (value.Primitive primitive.Undefined) told k = absurd (false≢true k)
  null_told v (value.Primitive (primitive.Bool b)) told k = absurd (false≢true k)
  null_told v (value.Primitive (primitive.Number n)) told k = absurd (false≢true k)
  null_told v (value.Primitive (primitive.Text t)) told k = absurd (false≢true k)
  null_told v (value.Object a) told k = absurd (false≢true k)

  -- what goes wrong at a node has a test that the view passes
  told_by : (n : Node) → AllByRecursion (IsRegister fr.function) (registers_named n)
      → (kind : WarningKind) → fault_at p top n ≡ Some kind → IsTold w n kind
  unfolding registers_named
  told_by (node.Call dst callee receiver args error) r kind is =
      let (none, kind_is) = so_parts
      (not (is_some (function_called p (register_of top callee)))) NotAFunction kind is in
      record {
        test = no_function calls_at callee;
        test_is = (0, omega arith, refl);
        kind_is = kind_is;
        fault =
            called_other w c.heap at.known.heap (abstract.at w callee) (register_of top callee)
            (there callee r.0) (held callee r.0)
            (no_value (function_called p (register_of top callee)) none);
      }
  told_by (node.New dst callee args site error) r kind is =
      let (none, kind_is) = so_parts
      (not (is_some (function_constructing p (register_of top callee)))) NotAFunction kind is in
      record {
        test = no_function constructs_at callee;
        test_is = (0, omega arith, refl);
        kind_is = kind_is;
        fault =
            constructing_other w c.heap at.known.heap (abstract.at w callee)
            (register_of top callee) (there callee r.0) (held callee r.0)
            (no_value (function_constructing p (register_of top callee)) none);
      }
  told_by (node.ToObject dst src sites error) r kind is =
      let (so, kind_is) = so_parts (is_nothing_value (register_of top src)) NoObject kind is in
      record {
        test = no_object src;
        test_is = (0, omega arith, refl);
        kind_is = kind_is;
        fault = nothing_told (abstract.at w src) (register_of top src) (held src r.0) so;
      }
  told_by (node.ReadRef dst base name error) r kind is =
      let (so, kind_is) = so_parts (is_null (register_of top base)) UnboundName kind is in
      record {
        test = unbound base;
        test_is = (0, omega arith, refl);
        kind_is = kind_is;
        fault = null_told (abstract.at w base) (register_of top base) (held base r.0) so;
      }
  told_by n r kind is = absurd (none-some kind is)

  pub told_at : (kind : WarningKind) → fault_at p top i.node ≡ Some kind → IsTold w i.node kind
  told_at kind is = told_by i.node (nodes.formed e c top below x w at good).names_registers kind is

-- ---- in each state of a run

module _ (p : Program) (good : IsWellFormed p) (t : Table) (ws : List Warning)
    (warnings : AreWarnings p t ws) (states : AreStates p) (grows : GrowsAlong p)
    (covers : CoversRuns p t) where
  module _ (answers : List Answer) (c : Conf) (o : Operation)
      (reached : state_of p answers ≡ Some c) where
    abbrev cov : IsCovered p t answers c
    cov = covers answers c reached

    abbrev w : View
    w = view_at p t (context_of cov.at_entry.heap cov.top) cov.state

    warned_at : (i : NodeInfo) → node_at p cov.top.function cov.top.node ≡ Some i
        → option_map (operation_at p cov.top.function i) (fault_at p cov.top i.node) ≡ Some o
        → Any (λ (v : Warning). operation_of v ≡ o) ws
    warned_at i info_is is = by (fault_at p cov.top i.node) refl is
      where
        by : (r : Option WarningKind) → fault_at p cov.top i.node ≡ r
            → option_map (operation_at p cov.top.function i) r ≡ Some o
            → Any (λ (v : Warning). operation_of v ≡ o) ws
        by None fault_is k = absurd (none-some o k)
        by (Some kind) fault_is k =
            let told : IsTold w i.node kind =
            told_at cov.at_entry.heap c cov.top cov.below
            (point (context_of cov.at_entry.heap cov.top) cov.top.node i) w
            (at_covered p t states grows answers c reached cov i info_is) good kind fault_is in
            let o_is : operation_at p cov.top.function i kind ≡ o =
            same_Some (operation_at p cov.top.function i kind) o k in
            warnings.complete o told.test w (record {
              context = context_of cov.at_entry.heap cov.top;
              number = cov.top.node;
              info = i;
              info_is = info_is;
              test_is = told.test_is;
              operation_is =
                  ap (operation_at p cov.top.function i) told.kind_is ∙ o_is;
              state = cov.state;
              state_is = cov.state_is;
              view_is = refl;
            }) told.fault

  pub warns_of_faults : WarnsOfFaults p ws
  warns_of_faults answers c o reached is =
      let cov : IsCovered p t answers c = covers answers c reached in
      option_and_then_some (λ (i : NodeInfo).
      option_map (operation_at p cov.top.function i) (fault_at p cov.top i.node))
      (node_at p cov.top.function cov.top.node) o
      (sym (ap (fault_of_frames p) cov.frames_are) ∙ is)
      (λ i info_is fault. warned_at answers c o reached i info_is fault)
