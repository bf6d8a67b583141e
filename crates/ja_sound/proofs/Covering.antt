-- A closed table covers every run: the induction on the steps, from what is shown of one step.
use Rattle.std.specs.Prelude.{◌≡◌, ◌<◌, ◌≤◌, ◌+◌, ◌-◌, ◌++◌, ◌&&◌, Bool, is_some, ℕ, suc, true, IsTrue, List, [], ◌∷◌, length, drop, map, flat_map, slice_get, Option, Some, None, IsSome}
use Rattle.std.specs.List.{list_any, range_with_len}
use Rattle.std.specs.Option.{option_and_then, option_map_or}
use Rattle.std.proofs.Common.{refl, sym, subst, ap, ◌∙◌, inl, inr, arith, length-append, append_assoc}
use Rattle.std.proofs.lemmas.Bool.{or_left, or_right, and_from}
use Rattle.std.proofs.lemmas.Option.{none-some, same_Some, slice_get_within}
use Rattle.ja_base.specs.declared.ids.FnId.{FnId}
use Rattle.ja_base.specs.declared.ids.Context.{Context}
use Rattle.ja_base.specs.declared.ids.Label.{Label}
use Rattle.ja_base.specs.declared.ids.NodeId.{NodeId}
use Rattle.ja_graph.specs.declared.node.NodeInfo.{NodeInfo}
use Rattle.ja_graph.specs.declared.program.Program.{Program}
use Rattle.ja_graph.specs.Program.{node_at, nodes_of}
use Rattle.ja_machine.specs.declared.machine.Heap.{Heap}
use Rattle.ja_machine.specs.declared.machine.Frame.{Frame}
use Rattle.ja_machine.specs.declared.machine.Conf.{Conf}
use Rattle.ja_machine.specs.declared.machine.Answer.{Answer}
use Rattle.ja_machine.specs.declared.machine.Event.{Event}
use Rattle.ja_machine.specs.declared.machine.Event.TheVariants as event
use Rattle.ja_machine.specs.Machine.{step, next_of, state_of, earlier_state}
use Rattle.ja_machine.specs.declared.machine.Addr.{Addr}
use Rattle.ja_machine.specs.State.{IsState, AreFrames, IsObjectOf}
use Rattle.ja_machine.specs.Runs.{AreStates, AreSteps, IsSameActivation, GoesAlongEdge, EntersFunction, LeavesFunction}
use Rattle.ja_abstract.specs.AbstractValue.{AbstractProperty, same_label}
use Rattle.ja_abstract.specs.AbstractState.{AbstractState, same_key, labels_of}
use Rattle.ja_abstract.specs.Resolved.{demands_of, origins, IsFilled}
use Rattle.ja_abstract.specs.Contents.{label_of, content}
use Rattle.ja_abstract.specs.Keys.{Spot, key_of}
use Rattle.ja_abstract.specs.Reading.{View}
use Rattle.ja_abstract.proofs.Keys.{same_key-true}
use Rattle.ja_abstract.proofs.Labels.{same_label-true, some_among}
use Rattle.ja_abstract.proofs.Lists.{Member, member-append_left, member-append_right, member-map, member-flat_map, member-range}
use Rattle.ja_abstract.proofs.Joins.{and_three_parts}
use Rattle.ja_meaning.specs.Meaning.{EntriesHold, context_of, knows, Holds}
use Rattle.ja_meaning.proofs.Parts.{label_of-among}
use Rattle.ja_meaning.proofs.Values.{knows-join_left, knows-join_right}
use Rattle.ja_meaning.proofs.Above.{holds-join_left, holds-join_right}
use Rattle.ja_rows.specs.declared.table.Edge.{Edge}
use Rattle.ja_rows.specs.declared.table.Item.TheVariants.{Step, Fill, Back}
use Rattle.ja_rows.specs.Out.{Point}
use Rattle.ja_rows.specs.Transfer.{transfer}
use Rattle.ja_rows.specs.Table.{Table, IsClosed, StateAt, ValuesOf, Effects, no_effects, with_view, applied, at_node, view_at, point, demands_at_context, entry_state_of, effects_step, effects_fill, effects_back, exit_at}
use Rattle.ja_rows.specs.Calls.{calling_state, demands_of_calling, demands_of_fill, entered_by, filled_with, given_back}
use Rattle.ja_rows.proofs.Applied.{HasState, IfDemanded, settled-state, settled-demand, settled-edge, settled-value}
use Rattle.ja_sound.specs.Sound.{IsCovered, CoversRuns}
use Rattle.ja_sound.specs.Statements.{IsAt, IsGiven, SoundWithin, edge_into, IsEntered, SoundInto, IsCalling, SoundOutOf}
use Rattle.ja_sound.proofs.AtCovered.{GrowsAlong, at_covered}
use Rattle.ja_sound.proofs.Stacked.{IsAbove, AreStacked}

-- ---- lists of answers

-- an earlier moment is the same one after an answer more
drop_more : {A : Type 0} (x : A) (xs : List A) (n : ℕ) → n ≤ length xs
    → drop (length (x ∷ xs) - n) (x ∷ xs) ≡ drop (length xs - n) xs
drop_more x xs n l =
    let e : length (x ∷ xs) - n ≡ suc (length xs - n) = omega arith in
    ap (λ k. drop k (x ∷ xs)) e

-- what holds after each list of answers that ends so
abbrev AtEach : (List Answer → Type 0) → List Answer → Type 0
AtEach P [] = P []
AtEach P (a ∷ earlier) = P (a ∷ earlier) × AtEach P earlier

each_here : (P : List Answer → Type 0) (answers : List Answer) → AtEach P answers → P answers
each_here P [] h = h
each_here P (a ∷ earlier) h = h.0

each_after : (P : List Answer → Type 0) (later answers : List Answer) → AtEach P (later ++ answers)
    → AtEach P answers
each_after P [] answers h = h
each_after P (a ∷ later) answers h = each_after P later answers h.1

-- an earlier moment is the same one after more answers
earlier_same : {A : Type 0} (front xs : List A) (n : ℕ) → n ≤ length xs
    → drop (length (front ++ xs) - n) (front ++ xs) ≡ drop (length xs - n) xs
earlier_same [] xs n l = refl
earlier_same (x ∷ front) xs n l =
    let longer : n ≤ length (front ++ xs) = omega (arith, length-append front xs) in
    drop_more x (front ++ xs) n longer ∙ earlier_same front xs n l

-- ---- steps

pub next_is : (o : Option Event) (d : Conf) → option_and_then next_of o ≡ Some d
    → o ≡ Some (event.Next d)
next_is None d e = absurd (none-some d e)
next_is (Some (event.Next c)) d e = ap (λ (x : Conf). Some (event.Next x)) (same_Some c d e)
next_is (Some (event.End end c)) d e = absurd (none-some d e)

-- the state before the last answer
pub before_is : (p : Program) (answer : Answer) (d : Conf) (o : Option Conf)
    → option_and_then (λ (c : Conf). option_and_then next_of (step p c answer)) o ≡ Some d
    → (c : Conf) × (o ≡ Some c) × (step p c answer ≡ Some (event.Next d))
before_is p answer d None e = absurd (none-some d e)
before_is p answer d (Some c) e = (c, refl, next_is (step p c answer) d e)

state_after : (p : Program) (answer : Answer) (earlier : List Answer) (c d : Conf)
    → state_of p earlier ≡ Some c → step p c answer ≡ Some (event.Next d)
    → state_of p (answer ∷ earlier) ≡ Some d
state_after p answer earlier c d e s =
    ap (λ o. option_and_then (λ (x : Conf). option_and_then next_of (step p x answer)) o) e
    ∙ ap (λ o. option_and_then next_of o) s

-- ---- the same activation

context_same : (e : Heap) (f g : Frame) → IsSameActivation f g → context_of e g ≡ context_of e f
context_same e f g s = λ i. record { function = s.function i; receiver = label_of e (s.receiver i) }

same_after : (f g h : Frame) → IsSameActivation f g → IsSameActivation g h → IsSameActivation f h
same_after f g h s r = record {
  function = r.function ∙ s.function;
  born = r.born ∙ s.born;
  receiver = r.receiver ∙ s.receiver;
  callee = r.callee ∙ s.callee;
  scope = r.scope ∙ s.scope;
  arguments = r.arguments ∙ s.arguments;
}

same_frame : (f g h : Frame) → g ≡ h → IsSameActivation f g → IsSameActivation f h
same_frame f g h e s = subst (IsSameActivation f) e s

top_is : (f g : Frame) (fs gs : List Frame) → f ∷ fs ≡ g ∷ gs → f ≡ g
top_is f g fs gs e = cc

rest_is : (f g : Frame) (fs gs : List Frame) → f ∷ fs ≡ g ∷ gs → fs ≡ gs
rest_is f g fs gs e = cc

-- ---- the stack

above_more : (p : Program) (a : Answer) (answers : List Answer) (f g : Frame) (rest : List Frame)
    → IsAbove p answers f g rest → IsAbove p (a ∷ answers) f g rest
above_more p a answers f g rest s = record {
  later = a ∷ s.later;
  answer = s.answer;
  earlier = s.earlier;
  answers_are = ap (λ xs. a ∷ xs) s.answers_are;
  born = s.born;
  before = s.before;
  before_is = s.before_is;
  before_frames = s.before_frames;
  after = s.after;
  after_is = s.after_is;
  entered = s.entered;
  after_frames = s.after_frames;
  same = s.same;
}

stacked_more : (p : Program) (a : Answer) (answers : List Answer) (fs : List Frame)
    → AreStacked p answers fs → AreStacked p (a ∷ answers) fs
stacked_more p a answers [] s = tt
stacked_more p a answers (f ∷ []) s = s
stacked_more p a answers (f ∷ g ∷ rest) s =
    (above_more p a answers f g rest s.0, stacked_more p a answers (g ∷ rest) s.1)

-- the top frame moves within its activation
above_moved : (p : Program) (answers : List Answer) (f h g : Frame) (rest : List Frame)
    → IsSameActivation f h → IsAbove p answers f g rest → IsAbove p answers h g rest
above_moved p answers f h g rest same s = record {
  later = s.later;
  answer = s.answer;
  earlier = s.earlier;
  answers_are = s.answers_are;
  born = same.born ∙ s.born;
  before = s.before;
  before_is = s.before_is;
  before_frames = s.before_frames;
  after = s.after;
  after_is = s.after_is;
  entered = s.entered;
  after_frames = s.after_frames;
  same = same_after s.entered f h s.same same;
}

stacked_moved : (p : Program) (answers : List Answer) (f h : Frame) (fs : List Frame)
    → IsSameActivation f h → AreStacked p answers (f ∷ fs) → AreStacked p answers (h ∷ fs)
stacked_moved p answers f h [] same s = same.born ∙ s
stacked_moved p answers f h (g ∷ rest) same s = (above_moved p answers f h g rest same s.0, s.1)

stacked_tail : (p : Program) (answers : List Answer) (f : Frame) (fs : List Frame)
    → AreStacked p answers (f ∷ fs) → AreStacked p answers fs
stacked_tail p answers f [] s = tt
stacked_tail p answers f (g ∷ rest) s = s.1

within_list : {A : Type 0} (xs : List A) (n : ℕ) (x : A) → slice_get xs n ≡ Some x → n < length xs
within_list xs n x e = slice_get_within xs n x e

-- ---- the induction

-- where a state is covered, and its frames are stacked
pub record IsGood (p : Program) (t : Table) (answers : List Answer) (c : Conf) : Type 0 where
  pub covered : IsCovered p t answers c
  pub stacked : AreStacked p answers c.frames
  pub steps_are : c.steps ≡ length answers

abbrev pub Good : Program → Table → List Answer → Type 0
Good p t answers = (c : Conf) → state_of p answers ≡ Some c → IsGood p t answers c

module _ (p : Program) (t : Table) (closed : IsClosed p t) where
  some-is : (o : Option AbstractState) (a : AbstractState) → o ≡ Some a → IsSome o
  some-is o a e = subst (λ r. IsSome r) (sym e) refl

  -- the effects of an item whose node has a state
  viewed : (x : Context) (n : NodeId) (i : NodeInfo) (a : AbstractState)
      (f : View → NodeInfo → Effects) → node_at p x.function n ≡ Some i → t.state x n.0 ≡ Some a
      → with_view p t x n f ≡ f (view_at p t x a) i
  viewed x n i a f d e =
      ap (λ o. option_map_or (λ (j : NodeInfo). option_map_or
      (λ (b : AbstractState). f (view_at p t x b) j) (t.state x n.0) no_effects) o no_effects) d
      ∙ ap (λ o. option_map_or (λ (b : AbstractState). f (view_at p t x b) i) o no_effects) e

  step_same : (x : Context) (n : NodeId) (i : NodeInfo) (a : AbstractState)
      → node_at p x.function n ≡ Some i → t.state x n.0 ≡ Some a
      → applied t (effects_step (view_at p t x a) (point x n i)
      (transfer (view_at p t x a) (point x n i))) ≡ t
  step_same x n i a d e =
      ap (applied t) (sym (viewed x n i a (λ w j. effects_step w (point x n j)
      (transfer w (point x n j))) d e)) ∙ closed.settled (Step x n)
      (subst (λ r. IsSome r) (sym d) refl, some-is (t.state x n.0) a e)

  -- what a node demands is there, where it has a state
  pub demands_filled : (x : Context) (n : NodeId) (i : NodeInfo) (a : AbstractState)
      → node_at p x.function n ≡ Some i → t.state x n.0 ≡ Some a
      → IsFilled (t.entry x) (transfer (view_at p t x a) (point x n i)).demands
  demands_filled x n i a d e l k h =
      let w = view_at p t x a in
      settled-demand t (effects_step w (point x n i) (transfer w (point x n i)))
      (step_same x n i a d e) (demands_at_context x (transfer w (point x n i)).demands) l k
      (inl refl) h

  fill_same : (g : Edge) (i : NodeInfo) (a : AbstractState) → t.edge g ≡ true
      → node_at p g.caller.function g.node ≡ Some i → t.state g.caller g.node.0 ≡ Some a
      → applied t (effects_fill t g (view_at p t g.caller a) i) ≡ t
  fill_same g i a m d e =
      ap (applied t) (sym (viewed g.caller g.node i a (effects_fill t g) d e))
      ∙ closed.settled (Fill g) m

  back_same : (g : Edge) (i : NodeInfo) (a : AbstractState) → t.edge g ≡ true
      → node_at p g.caller.function g.node ≡ Some i → t.state g.caller g.node.0 ≡ Some a
      → applied t (effects_back p t g (view_at p t g.caller a) i) ≡ t
  back_same g i a m d e =
      ap (applied t) (sym (viewed g.caller g.node i a (effects_back p t g) d e))
      ∙ closed.settled (Back g) m

  -- a state that is there
  state-there : (P : AbstractState → Type 0) (o : Option AbstractState) → HasState P o
      → (s : AbstractState) × (o ≡ Some s) × P s
  state-there P None h = elim h [ ]
  state-there P (Some s) h = (s, refl, h)

  module _ (within : SoundWithin p) (into : SoundInto p) (out_of : SoundOutOf p)
      (states : AreStates p) (steps : AreSteps p) (grows : GrowsAlong p) where
    -- ---- a moment of a run

    module _ (answers : List Answer) (c : Conf) (reached : state_of p answers ≡ Some c)
        (good : IsGood p t answers c) (i : NodeInfo)
        (info_is : node_at p good.covered.top.function good.covered.top.node ≡ Some i) where
      abbrev cov : IsCovered p t answers c
      cov = good.covered

      abbrev e : Heap
      e = cov.at_entry.heap

      abbrev ctx : Context
      ctx = context_of e cov.top

      abbrev x : Point
      x = point ctx cov.top.node i

      abbrev w : View
      w = view_at p t ctx cov.state

      is_at : IsAt p e c cov.top cov.below x w
      is_at = at_covered p t states grows answers c reached cov i info_is

      stays : applied t (effects_step w x (transfer w x)) ≡ t
      stays = step_same ctx cov.top.node i cov.state info_is cov.state_is

      step_filled : IsFilled w.entries (transfer w x).demands
      step_filled = demands_filled ctx cov.top.node i cov.state info_is cov.state_is

      module _ (a : Answer) (d : Conf) (next : step p c a ≡ Some (event.Next d)) where
        known_after : IsState p d
        known_after = states (a ∷ answers) d (state_after p a answers c d reached next)

        steps_after : d.steps ≡ c.steps + 1 → d.steps ≡ length (a ∷ answers)
        steps_after s =
            let u : c.steps ≡ length answers = good.steps_are in let v : length (a ∷ answers)
            ≡ suc (length answers) = refl in s ∙ (ap (λ n. n + 1) u ∙ omega (arith, v))

        entry_after : earlier_state p (a ∷ answers) cov.top.born ≡ Some cov.at_entry
        entry_after = ap (state_of p) (drop_more a answers cov.top.born cov.born) ∙ cov.at_entry_is

        -- ---- along an edge

        covers_moved : (moved : Frame) → IsSameActivation cov.top moved
            → IsGiven p e cov.below (transfer w x).states d → d.frames ≡ moved ∷ cov.below
            → IsCovered p t (a ∷ answers) d
        covers_moved moved same g frames =
            let top_same : g.top ≡ moved =
            top_is g.top moved cov.below cov.below (sym g.frames_are ∙ frames) in
            let act : IsSameActivation cov.top g.top =
            same_frame cov.top moved g.top (sym top_same) same in
            let at : StateAt = at_node ctx (g.top.node.0, g.state) in
            let mem : Member at (effects_step w x (transfer w x)).states =
            member-append_left at (map (at_node ctx) (transfer w x).states)
            (map (entry_state_of w i) (transfer w x).edges)
            (member-map (at_node ctx) (g.top.node.0, g.state) (transfer w x).states g.among) in
            let (s, found, holds) =
            state-there (Holds p e d.heap g.top) (t.state ctx g.top.node.0)
            (settled-state t (effects_step w x (transfer w x)) stays (Holds p e d.heap g.top)
            (holds-join_left p e d.heap g.top) (holds-join_right p e d.heap g.top) at mem
            g.holds) in
            let ctx_is : context_of e g.top ≡ ctx = context_same e cov.top g.top act in
            let born_is : g.top.born ≡ cov.top.born = act.born in
            record {
              top = g.top;
              below = cov.below;
              frames_are = g.frames_are;
              born =
                  let u : cov.top.born ≤ length answers = cov.born in let v : length (a ∷ answers)
                  ≡ suc (length answers) = refl in omega arith;
              at_entry = cov.at_entry;
              at_entry_is =
                  subst (λ n. earlier_state p (a ∷ answers) n ≡ Some cov.at_entry)
                  (sym born_is) entry_after;
              state = s;
              state_is = ap (λ y. t.state y g.top.node.0) ctx_is ∙ found;
              holds = holds;
              entries = subst (λ y. EntriesHold p e (t.entry y)) (sym ctx_is) cov.entries;
            }

        along : (moved : Frame) → IsSameActivation cov.top moved → d.frames ≡ moved ∷ cov.below
            → d.steps ≡ c.steps + 1 → IsGood p t (a ∷ answers) d
        along moved same frames more = record {
          covered =
              covers_moved moved same (within e c d a cov.top moved cov.below x w is_at step_filled
              next known_after frames same) frames;
          stacked =
              subst (AreStacked p (a ∷ answers)) (sym frames)
              (stacked_moved p (a ∷ answers) cov.top moved cov.below same
              (stacked_more p a answers (cov.top ∷ cov.below)
              (subst (AreStacked p answers) cov.frames_are good.stacked)));
          steps_are = steps_after more;
        }

        -- ---- into a function

        module _ (entered : Frame) (frames : d.frames ≡ entered ∷ cov.top ∷ cov.below) where
          en : IsEntered p e d cov.top entered x w
          en = into e c d a cov.top entered cov.below x w is_at next known_after frames

          abbrev edge : Edge
          edge = edge_into x d.heap entered

          abbrev y : Context
          y = context_of d.heap entered

          in_table : t.edge edge ≡ true
          in_table = settled-edge t (effects_step w x (transfer w x)) stays edge en.edge

          entered_filled : IsFilled w.entries (entered_by w edge i.node).demands
          entered_filled l k h =
              settled-demand t (effects_step w x (transfer w x)) stays
              (demands_at_context ctx (entered_by w edge i.node).demands) l k
              (inr (member-map (λ (g : Edge). demands_at_context ctx
              (entered_by w g i.node).demands) edge (transfer w x).edges en.edge)) h

          fill_stays : applied t (effects_fill t edge w i) ≡ t
          fill_stays = fill_same edge i cov.state in_table info_is cov.state_is

          fill_filled : IsFilled w.entries (demands_of_fill w edge i.node (t.entry y))
          fill_filled l k h =
              settled-demand t (effects_fill t edge w i) fill_stays
              (demands_at_context ctx (demands_of_fill w edge i.node (t.entry y))) l k (inl refl) h

          calling_filled : IsFilled w.entries (demands_of_calling w i.node entered.function.0)
          calling_filled l k h = fill_filled l k (or_left _ _ h)

          -- a pair that the callee demands is read in the calling state
          abbrev cs : AbstractState
          cs = calling_state w i.node entered.function.0

          pair_filled : (o : Addr) (z : Spot) (q : AbstractProperty) → IsObjectOf d.heap o
              → t.entry y (label_of d.heap o) (key_of p z) ≡ Some q
              → IsFilled w.entries (demands_of cs (label_of d.heap o) (key_of p z))
          pair_filled o z q there found m j h =
              let l = label_of d.heap o in
              let k = key_of p z in
              let (h1, h23) =
              and_three_parts (cs.property l k).value.flags.entry (same_key k j)
              (list_any (λ (r : Label). same_label r m) (origins cs.mask l)) h in
              let k_is : k ≡ j = same_key-true k j h23.0 in
              let test : Label → Bool = λ r. is_some (t.entry y r j) && demands_of cs r j m j in
              fill_filled m j (or_right _ _ (some_among test (labels_of p) l
              (label_of-among p d.heap known_after.heap o there)
              (and_from _ _ (subst (λ r. IsTrue (is_some (t.entry y l r))) k_is
              (subst (λ u. IsSome u) (sym found) refl))
              (subst (λ r. IsTrue (demands_of cs l r m j)) k_is h))))

          entries_after : EntriesHold p d.heap (t.entry y)
          entries_after l k q found o z there same_l same_k =
              let l_is : label_of d.heap o ≡ l = same_label-true (label_of d.heap o) l same_l in
              let k_is : key_of p z ≡ k = same_key-true (key_of p z) k same_k in
              let P : AbstractProperty → Type 0 =
              λ r. IsTrue (knows d.heap r (content d.heap o z)) in
              let here : t.entry y (label_of d.heap o) (key_of p z) ≡ Some q =
              ap (λ m. t.entry y m (key_of p z)) l_is ∙ (ap (t.entry y l) k_is ∙ found) in
              let v : ValuesOf = record { context = y; value = filled_with w edge i.node } in
              subst (IfDemanded P) here (settled-value t (effects_fill t edge w i) fill_stays P
              (λ r s. knows-join_left d.heap r s (content d.heap o z))
              (λ r s. knows-join_right d.heap r s (content d.heap o z)) v (label_of d.heap o)
              (key_of p z) (inl refl) (en.values o z there calling_filled
              (pair_filled o z q there here)))

          entered_good : entered.node.0 ≡ 0 → entered.born ≡ c.steps + 1 → d.steps ≡ c.steps + 1
              → IsGood p t (a ∷ answers) d
          entered_good first born more =
              let at : StateAt = entry_state_of w i edge in
              let mem : Member at (effects_step w x (transfer w x)).states =
              member-append_right at (map (at_node ctx) (transfer w x).states)
              (map (entry_state_of w i) (transfer w x).edges)
              (member-map (entry_state_of w i) edge (transfer w x).edges en.edge) in
              let (s, found, holds) =
              state-there (Holds p d.heap d.heap entered) (t.state y 0)
              (settled-state t (effects_step w x (transfer w x)) stays
              (Holds p d.heap d.heap entered) (holds-join_left p d.heap d.heap entered)
              (holds-join_right p d.heap d.heap entered) at mem (en.state entered_filled)) in
              let u : c.steps ≡ length answers = good.steps_are in
              let v : length (a ∷ answers) ≡ suc (length answers) = refl in
              let born_is : entered.born ≡ length (a ∷ answers) = omega arith in
              record {
                covered = record {
                  top = entered;
                  below = cov.top ∷ cov.below;
                  frames_are = frames;
                  born = omega arith;
                  at_entry = d;
                  at_entry_is =
                      subst (λ n. state_of p (drop n (a ∷ answers)) ≡ Some d)
                      (let z : 0 ≡ length (a ∷ answers) - entered.born = omega arith in z)
                      (state_after p a answers c d reached next);
                  state = s;
                  state_is = ap (t.state y) first ∙ found;
                  holds = holds;
                  entries = entries_after;
                };
                stacked = subst (AreStacked p (a ∷ answers)) (sym frames) (
                  record {
                    later = [];
                    answer = a;
                    earlier = answers;
                    answers_are = refl;
                    born = born_is;
                    before = c;
                    before_is = reached;
                    before_frames = cov.frames_are;
                    after = d;
                    after_is = next;
                    entered = entered;
                    after_frames = frames;
                    same =
                        record {
                          function = refl;
                          born = refl;
                          receiver = refl;
                          callee =
                              refl;
                          scope = refl;
                          arguments = refl;
                        };
                  },
                  stacked_more p a answers (cov.top ∷ cov.below)
                      (subst (AreStacked p answers) cov.frames_are good.stacked),
                );
                steps_are = steps_after more;
              }

    -- ---- out of a function

    module _ (answers : List Answer) (c : Conf) (reached : state_of p answers ≡ Some c)
        (good : IsGood p t answers c) (each : AtEach (Good p t) answers) (i : NodeInfo)
        (info_is : node_at p good.covered.top.function good.covered.top.node ≡ Some i) (a : Answer)
        (d : Conf) (next : step p c a ≡ Some (event.Next d)) (caller moved : Frame)
        (rest : List Frame) (below_is : good.covered.below ≡ caller ∷ rest)
        (frames : d.frames ≡ moved ∷ rest) (same : IsSameActivation caller moved) where
      abbrev top : Frame
      top = good.covered.top

      stack : AreStacked p answers (top ∷ caller ∷ rest)
      stack =
          subst (λ fs. AreStacked p answers (top ∷ fs)) below_is
          (subst (AreStacked p answers) good.covered.frames_are good.stacked)

      above : IsAbove p answers top caller rest
      above = stack.0

      each_earlier : AtEach (Good p t) (above.answer ∷ above.earlier)
      each_earlier =
          each_after (Good p t) above.later (above.answer ∷ above.earlier)
          (subst (AtEach (Good p t)) above.answers_are each)

      first : IsGood p t above.earlier above.before
      first = each_here (Good p t) above.earlier each_earlier.1 above.before above.before_is

      abbrev cov0 : IsCovered p t above.earlier above.before
      cov0 = first.covered

      -- the frame below called, in a state that is covered
      frames0 : cov0.top ∷ cov0.below ≡ caller ∷ rest
      frames0 = sym cov0.frames_are ∙ above.before_frames

      caller_is : caller ≡ cov0.top
      caller_is = sym (top_is cov0.top caller cov0.below rest frames0)

      rest_are : rest ≡ cov0.below
      rest_are = sym (rest_is cov0.top caller cov0.below rest frames0)

      module _ (i0 : NodeInfo) (info0 : node_at p cov0.top.function cov0.top.node ≡ Some i0) where
        abbrev m : Heap
        m = above.after.heap

        abbrev w0 : View
        w0 = w above.earlier above.before above.before_is first i0 info0

        abbrev x0 : Point
        x0 = x above.earlier above.before above.before_is first i0 info0

        entered_frames : above.after.frames ≡ above.entered ∷ cov0.top ∷ cov0.below
        entered_frames = above.after_frames ∙ ap (λ fs. above.entered ∷ fs) (sym frames0)

        en0 : IsEntered p cov0.at_entry.heap above.after cov0.top above.entered x0 w0
        en0 =
            en above.earlier above.before above.before_is first i0 info0 above.answer above.after
            above.after_is above.entered entered_frames

        -- the heap with which the function was entered
        entry_is : good.covered.at_entry ≡ above.after
        entry_is =
            let xs : List Answer = above.answer ∷ above.earlier in
            let long : length xs ≡ suc (length above.earlier) = refl in
            let z : length xs - suc (length above.earlier) ≡ 0 = omega arith in
            let fits : suc (length above.earlier) ≤ length xs = omega arith in
            let back : state_of p (drop (length answers - top.born) answers) ≡ state_of p xs =
            subst (λ n. state_of p (drop (length answers - n) answers) ≡ state_of p xs)
            (sym above.born) (subst (λ ys. state_of p
            (drop (length ys - suc (length above.earlier)) ys) ≡ state_of p xs)
            (sym above.answers_are) (ap (state_of p)
            (earlier_same above.later xs (suc (length above.earlier)) fits
            ∙ ap (λ k. drop k xs) z))) in
            same_Some good.covered.at_entry above.after
            (sym good.covered.at_entry_is ∙ (back ∙ state_after p above.answer above.earlier
            above.before above.after above.before_is above.after_is))

        abbrev ctx1 : Context
        ctx1 = context_of m top

        abbrev exit : View
        exit = view_at p t ctx1 good.covered.state

        exit_at_m : IsAt p m c top (cov0.top ∷ cov0.below) (point ctx1 top.node i) exit
        exit_at_m =
            subst (λ fs. IsAt p m c top fs (point ctx1 top.node i) exit) (below_is ∙ sym frames0)
            (subst (λ (h : Conf). IsAt p h.heap c top good.covered.below
            (point (context_of h.heap top) top.node i)
            (view_at p t (context_of h.heap top) good.covered.state)) entry_is
            (is_at answers c reached good i info_is))

        abbrev edge0 : Edge
        edge0 = edge_into x0 m top

        edge_there : t.edge edge0 ≡ true
        edge_there =
            ap (λ (y : Context). let g : Edge = record {
              caller = x0.context;
              node =
                  x0.number;
              callee = y;
            } in t.edge g) (context_same m above.entered top above.same)
            ∙ in_table above.earlier above.before above.before_is first i0 info0 above.answer
            above.after above.after_is above.entered entered_frames

        after_known : IsState p above.after
        after_known =
            states (above.answer ∷ above.earlier) above.after
            (state_after p above.answer above.earlier above.before above.after above.before_is
            above.after_is)

        after_frames : AreFrames p m (above.entered ∷ cov0.top ∷ cov0.below)
        after_frames = subst (AreFrames p m) entered_frames after_known.frames

        is_calling : IsCalling p cov0.at_entry.heap m cov0.top top x0 w0
        is_calling = record {
          program = refl;
          entry_heap = (is_at above.earlier above.before above.before_is first i0 info0).entry_heap;
          heap = after_known.heap;
          frame = after_frames.1.0;
          receiver = subst (IsObjectOf m) (sym above.same.receiver) after_frames.0.receiver;
          grows =
              grows (above.answer ∷ above.earlier) cov0.top.born cov0.at_entry above.after
              (entry_after above.earlier above.before above.before_is first i0 info0 above.answer
              above.after above.after_is) (state_after p above.answer above.earlier above.before
              above.after above.before_is above.after_is);
          info = info0;
          holds =
              subst (λ (f : FnId). Holds p cov0.at_entry.heap m cov0.top
              (calling_state w0 i0.node f.0)) (sym above.same.function)
              (en0.calling (calling_filled above.earlier above.before above.before_is first i0 info0
              above.answer above.after above.after_is above.entered entered_frames));
        }

        frames_after : d.frames ≡ moved ∷ cov0.below
        frames_after = frames ∙ ap (λ fs. moved ∷ fs) rest_are

        same_caller : IsSameActivation cov0.top moved
        same_caller = subst (λ f. IsSameActivation f moved) caller_is same

        given : IsGiven p cov0.at_entry.heap cov0.below
            (given_back w0 edge0 i0 good.covered.state i.node) d
        given =
            out_of cov0.at_entry.heap m c d a top cov0.top moved cov0.below x0
            (point ctx1 top.node i) w0 exit is_calling exit_at_m next
            (known_after answers c reached good i info_is a d next) frames_after same_caller

        back_stays : applied t (effects_back p t edge0 w0 i0) ≡ t
        back_stays = back_same edge0 i0 cov0.state edge_there info0 cov0.state_is

        exit_is : exit_at p t edge0 w0 i0 top.node.0
            ≡ given_back w0 edge0 i0 good.covered.state i.node
        exit_is =
            let state_is : t.state ctx1 top.node.0 ≡ Some good.covered.state =
            subst (λ (h : Conf). t.state (context_of h.heap top) top.node.0
            ≡ Some good.covered.state) entry_is good.covered.state_is in
            ap (λ o. option_map_or (λ (b : AbstractState). option_map_or
            (λ (j : NodeInfo). given_back w0 edge0 i0 b j.node)
            (node_at p top.function top.node) []) o []) state_is
            ∙ ap (λ o. option_map_or (λ (j : NodeInfo). given_back w0 edge0 i0 good.covered.state
            j.node) o []) info_is

        returned_good : d.steps ≡ c.steps + 1 → IsGood p t (a ∷ answers) d
        returned_good more =
            let e0 : Heap = cov0.at_entry.heap in
            let ctx0 : Context = context_of e0 cov0.top in
            let g = given in
            let top_same : g.top ≡ moved =
            top_is g.top moved cov0.below cov0.below (sym g.frames_are ∙ frames_after) in
            let act : IsSameActivation cov0.top g.top =
            same_frame cov0.top moved g.top (sym top_same) same_caller in
            let pair : ℕ × AbstractState = (g.top.node.0, g.state) in
            let nodes : List NodeInfo = nodes_of p top.function in
            let below_all : top.node.0 < length nodes = within_list nodes top.node.0 i info_is in
            let mem : Member (at_node ctx0 pair) (effects_back p t edge0 w0 i0).states =
            member-map (at_node ctx0) pair (flat_map (exit_at p t edge0 w0 i0)
            (range_with_len 0 (length nodes))) (member-flat_map
            (exit_at p t edge0 w0 i0) top.node.0 pair (range_with_len 0 (length nodes))
            (subst (λ k. Member k (range_with_len 0 (length nodes)))
            (let z : 0 + top.node.0 ≡ top.node.0 = omega arith in z)
            (member-range 0 (length nodes) top.node.0 below_all))
            (subst (λ xs. Member pair xs) (sym exit_is) g.among)) in
            let (s, found, holds) =
            state-there (Holds p e0 d.heap g.top) (t.state ctx0 g.top.node.0)
            (settled-state t (effects_back p t edge0 w0 i0) back_stays (Holds p e0 d.heap g.top)
            (holds-join_left p e0 d.heap g.top) (holds-join_right p e0 d.heap g.top)
            (at_node ctx0 pair) mem g.holds) in
            let ctx_is : context_of e0 g.top ≡ ctx0 = context_same e0 cov0.top g.top act in
            let born_is : g.top.born ≡ cov0.top.born = act.born in
            let early : cov0.top.born ≤ length above.earlier = cov0.born in
            let all : List Answer = a ∷ answers in
            let front : List Answer = a ∷ above.later ++ above.answer ∷ [] in
            let all_are : all ≡ front ++ above.earlier =
            ap (λ xs. a ∷ xs) (above.answers_are ∙ sym
            (append_assoc above.later (above.answer ∷ []) above.earlier)) in
            let longer : length all ≡ length front + length above.earlier =
            ap length all_are ∙ length-append front above.earlier in
            let entry : earlier_state p all cov0.top.born ≡ Some cov0.at_entry =
            subst (λ xs. state_of p (drop (length xs - cov0.top.born) xs) ≡ Some cov0.at_entry)
            (sym all_are) (ap (state_of p) (earlier_same front above.earlier cov0.top.born
            early) ∙ cov0.at_entry_is) in
            record {
              covered = record {
                top = g.top;
                below = cov0.below;
                frames_are = g.frames_are;
                born = omega arith;
                at_entry = cov0.at_entry;
                at_entry_is =
                    subst (λ n. earlier_state p all n ≡ Some cov0.at_entry) (sym born_is) entry;
                state = s;
                state_is = ap (λ y. t.state y g.top.node.0) ctx_is ∙ found;
                holds = holds;
                entries = subst (λ y. EntriesHold p e0 (t.entry y)) (sym ctx_is) cov0.entries;
              };
              stacked =
                  subst (AreStacked p all) (sym frames)
                  (stacked_moved p all caller moved rest same
                  (stacked_more p a answers (caller ∷ rest) stack.1));
              steps_are = steps_after answers c reached good i info_is a d next more;
            }

    -- ---- each step

    module _ (answers : List Answer) (c : Conf) (reached : state_of p answers ≡ Some c)
        (good : IsGood p t answers c) (each : AtEach (Good p t) answers) (a : Answer) (d : Conf)
        (next : step p c a ≡ Some (event.Next d)) where
      tops : (f : Frame) (fs : List Frame) → c.frames ≡ f ∷ fs → good.covered.top ≡ f
      tops f fs e =
          top_is good.covered.top f good.covered.below fs (sym good.covered.frames_are ∙ e)

      belows : (f : Frame) (fs : List Frame) → c.frames ≡ f ∷ fs → good.covered.below ≡ fs
      belows f fs e =
          rest_is good.covered.top f good.covered.below fs (sym good.covered.frames_are ∙ e)

      info_of_top : (f : Frame) (i : NodeInfo) → good.covered.top ≡ f
          → node_at p f.function f.node ≡ Some i → node_at p good.covered.top.function
          good.covered.top.node ≡ Some i
      info_of_top f i e is = subst (λ (g : Frame). node_at p g.function g.node ≡ Some i) (sym e) is

      by_edge : d.steps ≡ c.steps + 1 → GoesAlongEdge p c.frames d.frames
          → IsGood p t (a ∷ answers) d
      by_edge more g =
          along answers c reached good g.info (info_of_top g.top g.info
          (tops g.top g.below g.before_is) g.info_is) a d next g.moved
          (subst (λ f. IsSameActivation f g.moved) (sym (tops g.top g.below g.before_is)) g.same)
          (g.after_is ∙ ap (λ fs. g.moved ∷ fs) (sym (belows g.top g.below g.before_is))) more

      by_entry : d.steps ≡ c.steps + 1 → EntersFunction p c d.frames → IsGood p t (a ∷ answers) d
      by_entry more g =
          let top_same = tops g.top g.below g.before_is in
          let frames : d.frames ≡ g.entered ∷ good.covered.top ∷ good.covered.below =
          g.after_is ∙ ap (λ fs. g.entered ∷ fs) (sym g.before_is ∙ good.covered.frames_are) in
          entered_good answers c reached good g.info
          (info_of_top g.top g.info top_same g.info_is) a d next g.entered frames g.first_node
          g.born more

      -- the frame below stands at a node
      by_return : d.steps ≡ c.steps + 1 → LeavesFunction p c.frames d.frames
          → IsGood p t (a ∷ answers) d
      by_return more g =
          let top_same = tops g.top (g.caller ∷ g.below) g.before_is in
          let info_is = info_of_top g.top g.info top_same g.info_is in
          let below_is = belows g.top (g.caller ∷ g.below) g.before_is in
          let caller_same : g.caller ≡ (cov0 answers c reached good each g.info info_is a d next
          g.caller g.moved g.below below_is g.after_is g.same).top =
          caller_is answers c reached good each g.info info_is a d next g.caller g.moved g.below
          below_is g.after_is g.same in
          returned_good answers c reached good each g.info info_is a d next g.caller g.moved g.below
          below_is g.after_is g.same g.caller_info
          (subst (λ (f : Frame). node_at p f.function f.node ≡ Some g.caller_info) caller_same
          g.caller_info_is) more

      step_good : IsGood p t (a ∷ answers) d
      step_good =
          let (more, rest) = steps c a (event.Next d) next in
          elim rest [
            | inl g ↦ by_edge more g
            | inr other ↦
                elim other [ inl g ↦ by_entry more g | inr g ↦ by_return more g ]
          ]

    -- ---- all of them

    module _ (opening : Good p t []) where
      all_good : (answers : List Answer) → AtEach (Good p t) answers
      all_good [] = opening
      all_good (a ∷ answers) =
          let earlier = all_good answers in (
            λ d is.
                let (c, reached, next) = before_is p a d (state_of p answers) is in
                step_good answers c reached (each_here (Good p t) answers earlier c reached) earlier
                a d next,
            earlier,
          )

      pub covers_runs : CoversRuns p t
      covers_runs answers c is = (each_here (Good p t) answers (all_good answers) c is).covered
