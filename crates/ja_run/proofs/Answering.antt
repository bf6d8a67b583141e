-- The answers that are given are those that are wanted, and a device's answer ends no run.
use Rattle.std.proofs.Common.{◌≡◌, ◌<◌, ◌+◌, ℕ, Bool, true, false, List, [], ◌∷◌, Option, Some, None, length, refl, sym, ap, ◌∙◌, subst, arith}
use Rattle.std.proofs.lemmas.Bool.Decides.{nat_tests}
use Rattle.std.specs.Prelude.{if◌then◌else◌, nat_lt, slice_get}
use Rattle.std.proofs.lemmas.Option.{same_Some}
use Rattle.std.specs.List.{list_any}
use Rattle.std.specs.Option.{option_and_then, option_map_or}
use Rattle.ja_base.specs.declared.ids.Reg.{Reg}
use Rattle.ja_base.proofs.Lists.{element_within}
use Rattle.ja_prim.specs.declared.primitive.Primitive.{Primitive}
use Rattle.ja_prim.specs.declared.signature.Signature.{Signature}
use Rattle.ja_graph.specs.Program.{node_at}
use Rattle.ja_graph.specs.declared.node.Node.{Node}
use Rattle.ja_graph.specs.declared.node.Node.TheVariants as node
use Rattle.ja_graph.specs.declared.node.NodeInfo.{NodeInfo}
use Rattle.ja_graph.specs.declared.program.Program.{Program}
use Rattle.ja_graph.specs.WellFormed.{IsWellFormed, IsAllowed}
use Rattle.ja_machine.specs.declared.machine.Answer.TheVariants as answers
use Rattle.ja_machine.specs.declared.machine.Conf.{Conf}
use Rattle.ja_machine.specs.declared.machine.Event.{Event}
use Rattle.ja_machine.specs.declared.machine.Event.TheVariants as event
use Rattle.ja_machine.specs.declared.machine.Frame.{Frame}
use Rattle.ja_machine.specs.declared.machine.Heap.{Heap}
use Rattle.ja_machine.specs.declared.machine.Value.{Value}
use Rattle.ja_machine.specs.declared.machine.Value.TheVariants as value
use Rattle.ja_machine.specs.declared.machine.Wants.{Wants}
use Rattle.ja_machine.specs.declared.machine.Wants.TheVariants as wanted
use Rattle.ja_machine.specs.Events.{Standing, sets}
use Rattle.ja_machine.specs.Frames.{register_of, with_result}
use Rattle.ja_machine.specs.Machine.{pick_wanted, pick_wants, node_wants, frames_want, wants, is_of_kinds, fits, frames_step, step}
use Rattle.ja_machine.specs.Nodes.{shown, node_step}
use Rattle.ja_machine.specs.Values.{is_object}
use Rattle.ja_step.specs.Given.{answer_to}
use Rattle.ja_step.proofs.Stepped.{node_of_program}
use Rattle.ja_run.specs.Run.{IsUnasked, AnswersFit}

-- ---- where no device is asked

abbrev Fits : Program → Wants → Type 0
Fits p w = IsUnasked w → fits p w (answer_to w) ≡ true

-- the first of some names is one of them
some_place : (name : List ℕ) (names : List (List ℕ)) → nat_lt 0 (length (name ∷ names)) ≡ true
some_place name names = grind (arith, nat_tests)

pick_fits : (p : Program) (names : List (List ℕ)) → Fits p (pick_wanted names)
pick_fits p [] = λ _. refl
pick_fits p (name ∷ names) = λ _. some_place name names

value_fits : (p : Program) (h : Heap) (f : Frame) (list : Reg) (v : Value)
    → Fits p (pick_wants h f list v)
value_fits p h f list (value.Object a) = pick_fits p (shown h f list a)
value_fits p h f list (value.Primitive q) = λ _. refl

device_fits : (p : Program) (which : ℕ) (objects : Bool)
    → Fits p (if objects then wanted.Tick else wanted.Device which)
device_fits p which true = λ _. refl
device_fits p which false = λ none. absurd none

node_fits : (p : Program) (h : Heap) (f : Frame) (n : Node) → Fits p (node_wants h f n)
node_fits p h f (node.Pick list dst object) = value_fits p h f list (register_of f object)
node_fits p h f (node.Device dst which) = device_fits p which (list_any is_object f.arguments)
node_fits p h f n = λ _. refl

standing_fits : (p : Program) (h : Heap) (f : Frame) (at : Option NodeInfo)
    → Fits p (option_map_or (λ (info : NodeInfo). node_wants h f info.node) at wanted.Tick)
standing_fits p h f None = λ _. refl
standing_fits p h f (Some info) = node_fits p h f info.node

frames_fit : (p : Program) (h : Heap) (frames : List Frame) → Fits p (frames_want p h frames)
frames_fit p h [] = λ _. refl
frames_fit p h (f ∷ below) = standing_fits p h f (node_at p f.function f.node)

-- ---- where one is asked

-- the top frame stands at the device's node
pub record IsAsking (p : Program) (frames : List Frame) (which : ℕ) : Type 0 where
  pub top : Frame
  pub below : List Frame
  pub frames_are : frames ≡ top ∷ below
  pub info : NodeInfo
  pub info_is : node_at p top.function top.node ≡ Some info
  pub dst : Reg
  pub node_is : info.node ≡ node.Device dst which

pick_asks_none : (names : List (List ℕ)) (which : ℕ) → pick_wanted names ≡ wanted.Device which → ⊥
pick_asks_none [] which e = absurd (cc)
pick_asks_none (name ∷ names) which e = absurd (cc)

value_asks_none : (h : Heap) (f : Frame) (list : Reg) (v : Value) (which : ℕ)
    → pick_wants h f list v ≡ wanted.Device which → ⊥
value_asks_none h f list (value.Object a) which e = pick_asks_none (shown h f list a) which e
value_asks_none h f list (value.Primitive q) which e = absurd (cc)

that_device : (objects : Bool) (asked which : ℕ)
    → (if objects then wanted.Tick else wanted.Device asked) ≡ wanted.Device which → asked ≡ which
that_device true asked which e = absurd (cc)
that_device false asked which e = cc

node_asks : (h : Heap) (f : Frame) (n : Node) (which : ℕ) → node_wants h f n ≡ wanted.Device which
    → (dst : Reg) × (n ≡ node.Device dst which)
node_asks h f (node.Pick list dst object) which e =
    absurd (value_asks_none h f list (register_of f object) which e)
node_asks h f (node.Device dst asked) which e =
    (dst, ap (node.Device dst) (that_device (list_any is_object f.arguments) asked which e))
node_asks h f n which e = absurd (cc)

module _ (p : Program) (which : ℕ) where
  standing_asks : (h : Heap) (f : Frame) (below : List Frame) (at : Option NodeInfo)
      → node_at p f.function f.node ≡ at → option_map_or
      (λ (info : NodeInfo). node_wants h f info.node) at wanted.Tick ≡ wanted.Device which
      → IsAsking p (f ∷ below) which
  standing_asks h f below None is e = absurd (cc)
  standing_asks h f below (Some info) is e =
      let n = node_asks h f info.node which e in
      record {
        top = f;
        below = below;
        frames_are = refl;
        info = info;
        info_is = is;
        dst = n.0;
        node_is = n.1;
      }

  frames_ask : (h : Heap) (frames : List Frame) → frames_want p h frames ≡ wanted.Device which
      → IsAsking p frames which
  frames_ask h [] e = absurd (cc)
  frames_ask h (f ∷ below) e = standing_asks h f below (node_at p f.function f.node) refl e

  pub asking : (c : Conf) → wants p c ≡ wanted.Device which → IsAsking p c.frames which
  asking c e = frames_ask c.heap c.frames e

-- a choice of which nothing is the other part is the first, if it is some
chosen : {X : Type 0} (b : Bool) (o : Option X) (x : X) → (if b then o else None) ≡ Some x
    → o ≡ Some x
chosen true o x e = e
chosen false o x e = absurd (cc)

-- behind a device's answer the run goes on
pub goes_on : (p : Program) (c : Conf) (which : ℕ) (q : Primitive) (e : Event)
    → wants p c ≡ wanted.Device which → step p c (answers.Device q) ≡ Some e
    → (d : Conf) × (e ≡ event.Next d)
goes_on p c which q e wanted stepped =
    let a = asking p which c wanted in
    let s : Standing = record { conf = c; top = a.top; below = a.below; info = a.info } in
    let top = chosen (fits p (wants p c) (answers.Device q))
    (frames_step p c (answers.Device q) c.frames) e stepped in
    let row : frames_step p c (answers.Device q) c.frames
    ≡ Some (sets s a.dst (value.Primitive q)) =
    ap (frames_step p c (answers.Device q)) a.frames_are
    ∙ ap (option_and_then (λ (i : NodeInfo).
    node_step p (record { conf = c; top = a.top; below = a.below; info = i }) (answers.Device q)
    i.node)) a.info_is
    ∙ ap (node_step p s (answers.Device q)) a.node_is in
    let next : Conf = record {
      heap = c.heap;
      frames = with_result a.top a.dst (value.Primitive q) a.info.next ∷ a.below;
      steps = c.steps + 1;
    } in
    (next, same_Some e (event.Next next) (sym top ∙ row))

-- ---- the law

-- a device that is asked is one of the program's
among : (p : Program) (c : Conf) (which : ℕ) → IsWellFormed p → wants p c ≡ wanted.Device which
    → which < length p.signatures
among p c which good e =
    let a = asking p which c e in
    let well = node_of_program p good a.top.function a.top.node a.info a.info_is in
    subst (IsAllowed p well.0) a.node_is well.1.allowed

kinds_fit : (p : Program) (w : Wants) (which : ℕ) (s : Signature) (q : Primitive)
    → w ≡ wanted.Device which → slice_get p.signatures which ≡ Some s → is_of_kinds s.kinds q ≡ true
    → fits p w (answers.Device q) ≡ true
kinds_fit p w which s q asked is kinds =
    ap (λ v. fits p v (answers.Device q)) asked
    ∙ ap (λ o. option_map_or (λ (t : Signature). is_of_kinds t.kinds q) o false) is ∙ kinds

pub answers_fit : (p : Program) → IsWellFormed p → AnswersFit p
answers_fit p good = record {
  unasked = λ c. frames_fit p c.heap c.frames;
  asked = λ c which e.
      let s = element_within p.signatures which (among p c which good e) in
      (s.0, s.1, λ q kinds. kinds_fit p (wants p c) which s.0 q e s.1 kinds);
}
