-- Where a state that a table covers stands at an operation: the table has a view there, and what
-- the node demands is there.
use Rattle.std.specs.Prelude.{◌≡◌, List, ◌∷◌, Some, Contains}
use Rattle.std.proofs.Common.{refl, sym, subst, ap, ◌∙◌}
use Rattle.ja_base.specs.declared.ids.Context.{Context}
use Rattle.ja_graph.specs.declared.node.NodeInfo.{NodeInfo}
use Rattle.ja_graph.specs.declared.program.Program.{Program}
use Rattle.ja_graph.specs.Program.{node_at}
use Rattle.ja_machine.specs.declared.machine.Answer.{Answer}
use Rattle.ja_machine.specs.declared.machine.Conf.{Conf}
use Rattle.ja_machine.specs.declared.machine.Frame.{Frame}
use Rattle.ja_machine.specs.declared.machine.Heap.{Heap}
use Rattle.ja_machine.specs.Machine.{state_of}
use Rattle.ja_machine.specs.Runs.{AreStates}
use Rattle.ja_abstract.specs.Reading.{View}
use Rattle.ja_abstract.specs.Resolved.{IsFilled}
use Rattle.ja_meaning.specs.Meaning.{context_of}
use Rattle.ja_rows.specs.Out.{Point}
use Rattle.ja_rows.specs.Table.{Table, IsClosed, view_at, point}
use Rattle.ja_rows.specs.Transfer.{transfer}
use Rattle.ja_rows.specs.Warning.{Test, Operation, operation_at, tests, IsReached}
use Rattle.ja_sound.specs.Faults.{StandsAt}
use Rattle.ja_sound.specs.Sound.{IsCovered}
use Rattle.ja_sound.specs.Statements.{IsAt}
use Rattle.ja_sound.proofs.AtCovered.{GrowsAlong, at_covered}
use Rattle.ja_sound.proofs.Covering.{demands_filled}

first_same : (f g : Frame) (fs gs : List Frame) → f ∷ fs ≡ g ∷ gs → f ≡ g
first_same f g fs gs e = cc

module _ (p : Program) (t : Table) (closed : IsClosed p t) (states : AreStates p)
    (grows : GrowsAlong p) (answers : List Answer) (c : Conf)
    (reached : state_of p answers ≡ Some c) (cov : IsCovered p t answers c) (o : Operation)
    (stands : StandsAt p c o) where
  abbrev pub entry_heap : Heap
  entry_heap = cov.at_entry.heap

  abbrev pub ctx : Context
  ctx = context_of entry_heap cov.top

  abbrev i : NodeInfo
  i = stands.info

  abbrev pub w : View
  w = view_at p t ctx cov.state

  abbrev pub x : Point
  x = point ctx cov.top.node i

  same : stands.top ≡ cov.top
  same =
      first_same stands.top cov.top stands.below cov.below (sym stands.frames_are ∙ cov.frames_are)

  info_is : node_at p cov.top.function cov.top.node ≡ Some i
  info_is = subst (λ (f : Frame). node_at p f.function f.node ≡ Some i) same stands.info_is

  pub operation_is : operation_at p cov.top.function i o.kind ≡ o
  operation_is =
      subst (λ (f : Frame). operation_at p f.function i o.kind ≡ o) same stands.operation_is

  pub is_at : IsAt p entry_heap c cov.top cov.below x w
  is_at = at_covered p t states grows answers c reached cov i info_is

  pub filled : IsFilled w.entries (transfer w x).demands
  filled = demands_filled p t closed ctx cov.top.node i cov.state info_is cov.state_is

  -- the view is one that is reached at the operation, with each test of its kind
  pub is_reached : (test : Test) → Contains (tests i.node) test → test.kind ≡ o.kind
      → IsReached p t o test w
  is_reached test test_is kind_is = record {
    context = ctx;
    number = cov.top.node;
    info = i;
    info_is = info_is;
    test_is = test_is;
    operation_is = ap (operation_at p cov.top.function i) kind_is ∙ operation_is;
    state = cov.state;
    state_is = cov.state_is;
    view_is = refl;
  }
