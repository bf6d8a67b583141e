-- Each step into a function is sound: the node at which it is taken calls, constructs or converts.
use Rattle.std.specs.Prelude.{◌≡◌, suc, true, List, ◌∷◌, length, Some}
use Rattle.std.specs.List.{AllByRecursion}
use Rattle.std.proofs.Common.{refl, sym, subst, ap, ◌∙◌, inl, inr, arith}
use Rattle.std.proofs.lemmas.Bool.{false≢true}
use Rattle.std.proofs.lemmas.Option.{same_Some}
use Rattle.ja_graph.specs.declared.node.Node.{Node}
use Rattle.ja_graph.specs.declared.node.Node.TheVariants as node
use Rattle.ja_graph.specs.declared.node.NodeInfo.{NodeInfo}
use Rattle.ja_graph.specs.declared.program.Program.{Program}
use Rattle.ja_graph.specs.Node.{registers_named, makings, makes_arguments}
use Rattle.ja_graph.specs.Program.{node_at}
use Rattle.ja_graph.specs.WellFormed.{IsWellFormed, IsNodeWellFormed, IsRegister, IsAllowed}
use Rattle.ja_machine.specs.declared.machine.Answer.{Answer}
use Rattle.ja_machine.specs.declared.machine.Conf.{Conf}
use Rattle.ja_machine.specs.declared.machine.Event.{Event}
use Rattle.ja_machine.specs.declared.machine.Event.TheVariants as event
use Rattle.ja_machine.specs.declared.machine.Frame.{Frame}
use Rattle.ja_machine.specs.declared.machine.Heap.{Heap}
use Rattle.ja_machine.specs.Events.{Standing}
use Rattle.ja_machine.specs.Machine.{step}
use Rattle.ja_machine.specs.Nodes.{node_step}
use Rattle.ja_machine.specs.Runs.{AreSteps, GoesAlongEdge, LeavesFunction}
use Rattle.ja_machine.specs.State.{IsFrame, IsState, enters_functions}
use Rattle.ja_machine.proofs.Nodes.{AreMade}
use Rattle.ja_abstract.specs.Reading.{View}
use Rattle.ja_rows.specs.Out.{Point}
use Rattle.ja_sound.specs.Statements.{IsAt, IsEntered, SoundInto}
use Rattle.ja_sound.proofs.AtNode as nodes
use Rattle.ja_sound.proofs.EnteringNodes.{Enters, call_enters, new_enters, convert_enters}
use Rattle.ja_sound.proofs.Taken.{node_taken}

module _ (e : Heap) (c : Conf) (top : Frame) (below : List Frame) (x : Point) (w : View)
    (at : IsAt w.program e c top below x w) (good : IsWellFormed w.program)
    (steps : AreSteps w.program) where
  abbrev p : Program
  p = w.program

  abbrev i : NodeInfo
  i = x.info

  abbrev s : Standing
  s = record { conf = c; top = top; below = below; info = i }

  abbrev fr : IsFrame p c.heap top
  fr = nodes.fr e c top below x w at good

  abbrev formed : IsNodeWellFormed p fr.function i
  formed = nodes.formed e c top below x w at good

  -- ---- the node calls, constructs or converts

  top_of : (f : Frame) (fs : List Frame) → c.frames ≡ f ∷ fs → (top ≡ f) × (below ≡ fs)
  top_of f fs is = let k : top ∷ below ≡ f ∷ fs = sym at.frames_are ∙ is in (cc, cc)

  info_of : (f : Frame) (fs : List Frame) (j : NodeInfo) → c.frames ≡ f ∷ fs
      → node_at p f.function f.node ≡ Some j → j ≡ i
  info_of f fs j is at_node =
      same_Some j i (sym at_node ∙ (ap (λ (g : Frame). node_at p g.function g.node)
      (sym (top_of f fs is).0) ∙ at.info))

  module _ (d : Conf) (answer : Answer) (above : Frame)
      (next : step p c answer ≡ Some (event.Next d)) (frames : d.frames ≡ above ∷ top ∷ below) where
    longer : (fs : List Frame) → d.frames ≡ fs → length fs ≡ suc (suc (length below))
    longer fs is = sym (ap length is) ∙ ap length frames

    no_edge : GoesAlongEdge p c.frames d.frames → ⊥
    no_edge g =
        let k : length (g.moved ∷ g.below) ≡ suc (suc (length below)) =
        longer (g.moved ∷ g.below) g.after_is in
        let l : length (g.moved ∷ g.below) ≡ suc (length g.below) = refl in
        let m : length below ≡ length g.below = ap length (top_of g.top g.below g.before_is).1 in
        absurd (omega arith)

    no_return : LeavesFunction p c.frames d.frames → ⊥
    no_return g =
        let k : length (g.moved ∷ g.below) ≡ suc (suc (length below)) =
        longer (g.moved ∷ g.below) g.after_is in
        let l : length (g.moved ∷ g.below) ≡ suc (length g.below) = refl in
        let m : length below ≡ length (g.caller ∷ g.below) =
        ap length (top_of g.top (g.caller ∷ g.below) g.before_is).1 in
        let n : length (g.caller ∷ g.below) ≡ suc (length g.below) = refl in
        absurd (omega arith)

    entering : enters_functions i.node ≡ true
    entering =
        let (more, rest) = steps c answer (event.Next d) next in
        elim rest [
          | inl g ↦ absurd (no_edge g)
          | inr other ↦ elim other [
            | inl g ↦
                subst (λ (j : NodeInfo). enters_functions j.node ≡ true)
                (info_of g.top g.below g.info g.before_is g.info_is) g.enters
            | inr g ↦ absurd (no_return g)
          ]
        ]

    -- ---- by the node

    of_event : (o : Event) → Enters e c top below x w at good o → Some o ≡ Some (event.Next d)
        → IsState p d → IsEntered p e d top above x w
    of_event o enters is known =
        let here : Enters e c top below x w at good (event.Next d) =
        subst (Enters e c top below x w at good) (same_Some o (event.Next d) is) enters in
        here known above frames

    by_node : (n : Node) → i.node ≡ n → AllByRecursion (IsRegister fr.function) (registers_named n)
        → AreMade p (λ t. makes_arguments t n) (makings n) → IsAllowed p fr.function n
        → enters_functions n ≡ true → node_step p s answer n ≡ Some (event.Next d) → IsState p d
        → IsEntered p e d top above x w
    unfolding registers_named makings
    by_node (node.Call dst callee receiver args error) is r m allowed enters taken known =
        of_event _ (call_enters e c top below x w at good dst callee receiver args error r.0 r.1.0
        r.1.1 allowed is) taken known
    by_node (node.New dst callee args site error) is r m allowed enters taken known =
        of_event _ (new_enters e c top below x w at good dst callee args site error r.0 r.1
        m.each.0.told.site is) taken known
    by_node (node.Convert dst src kind other) is r m allowed enters taken known =
        of_event _ (convert_enters e c top below x w at good dst src kind other r.0 r.1 is) taken
        known
    by_node n is r m allowed enters taken known = absurd (false≢true enters)

    pub entered_at : IsState p d → IsEntered p e d top above x w
    entered_at known =
        by_node i.node refl formed.names_registers (nodes.made e c top below x w at good)
        formed.allowed entering
        (node_taken p c top below i at.frames_are at.info answer (event.Next d) next) known

-- ---- of each program

-- the statement at a view
abbrev At : Program → Heap → Conf → Conf → Answer → Frame → Frame → List Frame → Point → View
    → Type 0
At q e c d answer top above below x w =
    IsWellFormed q → AreSteps q → IsAt q e c top below x w → step q c answer ≡ Some (event.Next d)
    → IsState q d → d.frames ≡ above ∷ top ∷ below → IsEntered q e d top above x w

at_view : (e : Heap) (c d : Conf) (answer : Answer) (top above : Frame) (below : List Frame)
    (x : Point) (w : View) → At w.program e c d answer top above below x w
at_view e c d answer top above below x w good steps at next known frames =
    entered_at e c top below x w at good steps d answer above next frames known

pub into_sound : (p : Program) → IsWellFormed p → AreSteps p → SoundInto p
into_sound p good steps e c d answer top above below x w at next known frames =
    subst (λ q. At q e c d answer top above below x w) at.program
    (at_view e c d answer top above below x w) good steps at next known frames
