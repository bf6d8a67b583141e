-- At a node of a run: its registers, names and sites, and the states that it may give.
use Rattle.std.specs.Prelude.{◌≡◌, ◌<◌, ℕ, IsTrue, List, ◌∷◌, length, Some}
use Rattle.std.proofs.Common.{refl, sym, ap, arith}
use Rattle.std.proofs.lemmas.Bool.{or_left}
use Rattle.ja_base.specs.declared.ids.NameId.{NameId}
use Rattle.ja_base.specs.declared.ids.NodeId.{NodeId}
use Rattle.ja_base.specs.declared.ids.Reg.{Reg}
use Rattle.ja_base.specs.declared.ids.Site.{Site}
use Rattle.ja_graph.specs.declared.node.NodeInfo.{NodeInfo}
use Rattle.ja_graph.specs.declared.program.Program.{Program}
use Rattle.ja_graph.specs.Node.{makings, makes_arguments}
use Rattle.ja_graph.specs.WellFormed.{IsWellFormed, IsNodeWellFormed, IsDestination, IsRegister, IsName}
use Rattle.ja_machine.specs.declared.machine.Addr.{Addr}
use Rattle.ja_machine.specs.declared.machine.Value.{Value}
use Rattle.ja_machine.specs.declared.machine.Value.TheVariants as value
use Rattle.ja_machine.specs.declared.machine.Object.{Object}
use Rattle.ja_machine.specs.declared.machine.Heap.{Heap}
use Rattle.ja_machine.specs.declared.machine.Frame.{Frame}
use Rattle.ja_machine.specs.declared.machine.Conf.{Conf}
use Rattle.ja_machine.specs.declared.machine.Event.{Event}
use Rattle.ja_machine.specs.declared.machine.Event.TheVariants as event
use Rattle.ja_machine.specs.Events.{Standing, next_state}
use Rattle.ja_machine.specs.Frames.{register_of, scope, thrown, moved_to, with_result}
use Rattle.ja_machine.specs.Heap.{count, with_new, new_address}
use Rattle.ja_machine.specs.Objects.{first_of}
use Rattle.ja_machine.specs.Nodes.{name_text}
use Rattle.ja_machine.specs.Values.{key_of as key_text}
use Rattle.ja_machine.specs.State.{IsHeap, IsFrame, IsState, IsValueOf}
use Rattle.ja_machine.proofs.Growing.{IsNodeSite}
use Rattle.ja_machine.proofs.Nodes.{AreMade as AreMadeAt}
use Rattle.ja_machine.proofs.Standing.{node_well_formed, node_made, sets_thrown, sets_scope, register_scope}
use Rattle.ja_abstract.specs.declared.abstraction.Key.TheVariants as key
use Rattle.ja_abstract.specs.AbstractValue.{AbstractValue, of_label}
use Rattle.ja_abstract.specs.AbstractState.{AbstractState, new, with_register, with_made}
use Rattle.ja_abstract.specs.Keys.{Spot, named, internal, key_of, is_among_keys, keys_of_value}
use Rattle.ja_abstract.specs.Contents.{label_of}
use Rattle.ja_abstract.specs.Reading.{View, has_present}
use Rattle.ja_abstract.specs.Made.{Own, with_object}
use Rattle.ja_abstract.proofs.Labels
use Rattle.ja_abstract.proofs.Keys.{same_key_from, key_of-name, text_of_key}
use Rattle.ja_abstract.proofs.Labels.{same_label_from}
use Rattle.ja_abstract.proofs.Lists.{Member}
use Rattle.ja_meaning.specs.Meaning.{has_value, Holds}
use Rattle.ja_meaning.proofs.Held.{all_of, frame_of, holding}
use Rattle.ja_meaning.proofs.Contents
use Rattle.ja_meaning.proofs.Frames.{register_of_heap, register_held}
use Rattle.ja_meaning.proofs.Inside.{inside}
use Rattle.ja_meaning.proofs.Parts.{is_present-has_value}
use Rattle.ja_meaning.proofs.Allocated.{IsMade, with_object_holds, frame_aged}
use Rattle.ja_meaning.proofs.KeyTexts.{key-among}
use Rattle.ja_rows.specs.Out as abstract
use Rattle.ja_rows.specs.Out.{Point, Given}
use Rattle.ja_sound.specs.Statements.{IsAt, IsGiven}
use Rattle.ja_sound.proofs.Registers.{IsDestinationOf, destination_of, frame_with_result}
use Rattle.ja_sound.proofs.Steps as steps

-- ---- at a node

module _ (e : Heap) (c : Conf) (top : Frame) (below : List Frame) (x : Point) (w : View)
    (at : IsAt w.program e c top below x w) (good : IsWellFormed w.program) where
  abbrev p : Program
  p = w.program

  abbrev i : NodeInfo
  i = x.info

  abbrev s : Standing
  s = record { conf = c; top = top; below = below; info = i }

  -- the state that an event leads to is held by one of those that are given, where it is one of a
  -- run
  abbrev pub Gives : Given → Event → Type 0
  Gives given (event.Next d) = IsState p d → IsGiven p e below given d
  Gives given (event.End end d) = Unit {0}

  pub fr : IsFrame p c.heap top
  fr = steps.frame e c top below x w at

  pub formed : IsNodeWellFormed p fr.function i
  formed = node_well_formed p good c.heap top fr i at.info

  pub made : AreMadeAt p (λ t. makes_arguments t i.node) (makings i.node)
  made = node_made p good c.heap top fr i at.info

  -- ---- registers

  pub fits : (r : Reg) → IsRegister fr.function r → r.0 < length top.registers
  fits r l = let k : length top.registers ≡ fr.function.registers = fr.registers in omega arith

  pub dest : (r : Reg) → IsDestination fr.function r → IsDestinationOf p top r
  dest r d = destination_of p c.heap top fr r d

  pub dest_thrown : IsDestinationOf p top thrown
  dest_thrown = dest thrown (sets_thrown p good c.heap top fr)

  pub dest_scope : IsDestinationOf p top scope
  dest_scope = dest scope (sets_scope p good c.heap top fr)

  pub has : (r : Reg) → IsRegister fr.function r
      → IsTrue (has_value c.heap (abstract.at w r) (register_of top r))
  has r l = at.holds.registers r.0 (register_of top r) (register_held top r (fits r l))

  pub of_heap : (r : Reg) → IsRegister fr.function r → IsValueOf c.heap (register_of top r)
  of_heap r l = register_of_heap p c.heap top r fr (fits r l)

  -- the key of what a key register holds is among the keys of its value
  pub keys_among : (r : Reg) → IsRegister fr.function r → (t : List ℕ)
      → key_text (register_of top r) ≡ Some t → IsTrue
      (is_among_keys (keys_of_value p (abstract.at w r)) (key_of p (named t)))
  keys_among r l t is =
      key-among p c.heap (abstract.at w r) (register_of top r) t (has r l) is

  pub scope_is : IsRegister fr.function scope
  scope_is = register_scope p good c.heap top fr

  -- ---- sites, names

  pub row : (t : Site) → IsNodeSite p t → t.0 < length c.heap.objects
  row t l =
      let k : length c.heap.objects ≡ length p.sites = at.known.heap.rows in
      let m : t.0 < length p.sites = l.1 in omega arith

  pub name_among : (n : NameId) → IsName p n → IsTrue
      (is_among_keys (abstract.name_keys n) (key_of p (named (name_text p n))))
  name_among n l =
      or_left _ _ (same_key_from (key.Name n) (key_of p (named (name_text p n)))
      (sym (key_of-name p good n l)))

  pub only_name : (n : NameId) (y : Spot) → key.Name n ≡ key_of p y → y ≡ named (name_text p n)
  only_name n (named u) is = ap named (sym (text_of_key p u n (sym is)))
  only_name n (internal q) is = cc

  -- the one object of an opening site is new
  pub opened : (h : Heap) → IsHeap p h → (t : Site) → t.0 < length p.opening
      → label_of h (first_of t) ≡ new t
  opened h known t l =
      let one : count h t ≡ 1 = known.opening t l in
      Labels.same_parts (label_of h (first_of t)) (new t) refl
      (Contents.label_is_new h (first_of t) (omega arith))

  -- ---- states that are given

  -- a state holds of a heap, with the registers of the view
  pub leaves : (given : Given) (n : NodeId) (now : Heap) (f : Frame) (a : AbstractState)
      → Member {X = ℕ × AbstractState} (n.0, a) given → Holds p e now (moved_to f n) a
      → Gives given (next_state c now (moved_to f n ∷ below))
  leaves given n now f a among holds after =
      record { top = moved_to f n; frames_are = refl; state = a; among = among; holds = holds }

  -- an object is made, and a register has it
  pub makes_to : (given : Given) (dst : Reg) (n : NodeId) (t : Site) (o : Object)
      (own : AbstractState → Own) → IsNodeSite p t → IsDestinationOf p top dst
      → (IsHeap p (with_new c.heap t o) → IsMade p (with_new c.heap t o) o
      (own (with_made w.state t))) → Member {X = ℕ × AbstractState}
      (n.0, abstract.makes w dst t own) given → Gives given
      (next_state c (with_new c.heap t o) (with_result top dst
      (value.Object (new_address c.heap t)) n ∷ below))
  makes_to given dst n t o own site d made_ among after =
      let now : Heap = with_new c.heap t o in
      let a : Addr = new_address c.heap t in
      let u : AbstractValue = of_label (new t) in
      let told : IsTrue (has_value now u (value.Object a)) =
      same_label_from (new t) (label_of now a)
      (sym (Contents.label-with_new_new c.heap t o (row t site))) in
      record {
        top = with_result top dst (value.Object a) n;
        frames_are = refl;
        state = abstract.makes w dst t own;
        among = among;
        holds =
            holding
            (with_object_holds p e c.heap t o (row t site) w.state at.grows
            (λ b y there. inside p c.heap at.known.heap b y) (all_of at.holds.heap) own
            (made_ after.heap))
            (frame_with_result p now top (with_object w.program w.state t own) dst
            (value.Object a) u n d told (frame_aged p c.heap t o
            (row t site) top w.state fr.values fr.arguments (frame_of at.holds)));
      }

  -- what a register is set to, anywhere
  pub sets_to : (given : Given) (dst : Reg) (n : NodeId) (v : Value) (u : AbstractValue)
      → IsDestinationOf p top dst → IsValueOf c.heap v → IsTrue (has_value c.heap u v)
      → (IsTrue (has_present w u) → Member {X = ℕ × AbstractState}
      (n.0, with_register w.state dst u) given) → Gives given
      (next_state c c.heap (with_result top dst v n ∷ below))
  sets_to given dst n v u d there told among after = record {
    top = with_result top dst v n;
    frames_are = refl;
    state = with_register w.state dst u;
    among = among (is_present-has_value p c.heap at.known.heap u v there told);
    holds =
        holding (all_of at.holds.heap)
        (frame_with_result p c.heap top w.state dst v u n d told (frame_of at.holds));
  }
