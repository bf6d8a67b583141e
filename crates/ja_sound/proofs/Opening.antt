-- What the induction begins with, and that no object goes on the way.
use Rattle.std.specs.Prelude.{◌≡◌, ◌<◌, ◌≤◌, ◌-◌, ℕ, zero, suc, pos, IsTrue, [], ◌∷◌, length, drop, Some, None, IsSome}
use Rattle.std.specs.Option.{option_map}
use Rattle.std.proofs.Common.{refl, sym, subst, ap, ◌∙◌, inl, inr, arith}
use Rattle.std.proofs.lemmas.Bool.{cases_lt}
use Rattle.std.proofs.lemmas.Option.{none-some, same_Some}
use Rattle.std.proofs.lemmas.Cmp.{int_eq_equiv}
use Rattle.ja_base.specs.declared.ids.Label.{Label}
use Rattle.ja_base.specs.declared.ids.Site.{Site}
use Rattle.ja_graph.specs.declared.program.Program.{Program}
use Rattle.ja_graph.specs.Program.{global}
use Rattle.ja_graph.specs.WellFormed.{IsWellFormed}
use Rattle.ja_machine.specs.declared.machine.Addr.{Addr}
use Rattle.ja_machine.specs.declared.machine.Value.TheVariants as value
use Rattle.ja_machine.specs.declared.machine.Heap.{Heap}
use Rattle.ja_machine.specs.declared.machine.Conf.{Conf}
use Rattle.ja_machine.specs.declared.machine.Answer.{Answer}
use Rattle.ja_machine.specs.declared.machine.Event.TheVariants as event
use Rattle.ja_machine.specs.Heap.{count}
use Rattle.ja_machine.specs.Frames.{parameters_of}
use Rattle.ja_machine.specs.Objects.{first_of}
use Rattle.ja_machine.specs.Machine.{program_function, opening_heap, opening_frame, step, state_of}
use Rattle.ja_machine.specs.Machine as machine
use Rattle.ja_machine.specs.State.{IsState, IsObjectOf}
use Rattle.ja_machine.specs.Runs.{AreStates, ObjectsStay, Stays}
use Rattle.ja_machine.proofs.Heaps
use Rattle.ja_abstract.specs.declared.abstraction.Key.{Key}
use Rattle.ja_abstract.specs.AbstractValue.{AbstractProperty, join_properties, of_label, undefined_value}
use Rattle.ja_abstract.specs.AbstractState.{new}
use Rattle.ja_abstract.specs.Contents.{opened, label_of}
use Rattle.ja_abstract.proofs.Labels
use Rattle.ja_abstract.proofs.Labels.{same_label_from}
use Rattle.ja_meaning.specs.Meaning.{context_of, EntriesHold, has_value, Grows, Holds}
use Rattle.ja_meaning.proofs.Above.{holds-above}
use Rattle.ja_meaning.proofs.Contents
use Rattle.ja_meaning.proofs.Opened.{entries_hold}
use Rattle.ja_meaning.proofs.Builtins.{global_fits}
use Rattle.ja_rows.specs.declared.table.Item.TheVariants.{Open}
use Rattle.ja_rows.specs.Table.{Table, root, no_arguments, opening_state, IsClosed}
use Rattle.ja_sound.proofs.AtCovered.{GrowsAlong}
use Rattle.ja_sound.proofs.Covering.{IsGood, Good, before_is}
use Rattle.ja_sound.proofs.Entered.{AreGiven, entry_holds}

-- ---- no object goes

pub counts_stay : (c d : Heap) → ((a : Addr) → IsObjectOf c a → IsObjectOf d a) → (s : Site) (n : ℕ)
    → count c s ≡ n → n ≤ count d s
counts_stay c d stay s zero e = omega arith
counts_stay c d stay s (suc k) e =
    let a : Addr = record { site = s; ordinal = k } in
    let in_c : k < count c s = omega arith in
    let in_d : k < count d s =
    Heaps.ordinal-below d a (stay a (Heaps.object_from_ordinal c a in_c)) in
    omega arith

drop_none : (k : ℕ) → drop {A = Answer} k [] ≡ []
drop_none zero = refl
drop_none (suc k) = refl

module _ (p : Program) (stay : ObjectsStay p) where
  still : (c d : Conf) (answer : Answer) → step p c answer ≡ Some (event.Next d) → (a : Addr)
      → IsObjectOf c.heap a → IsObjectOf d.heap a
  still c d answer next a there =
      let s : Stays c.heap d.heap a = stay c d answer next a there in
      subst (λ o. IsSome o) (sym s.is) refl

  grows_next : (c d : Conf) (answer : Answer) → step p c answer ≡ Some (event.Next d)
      → Grows c.heap d.heap
  grows_next c d answer next s =
      counts_stay c.heap d.heap (still c d answer next) s (count c.heap s) refl

  same_state : (c d : Conf) → Some c ≡ Some d → Grows c.heap d.heap
  same_state c d e s =
      let is : c ≡ d = same_Some c d e in let k : count c.heap s
      ≡ count d.heap s = ap (λ (x : Conf). count x.heap s) is in omega arith

  pub grows_along : GrowsAlong p
  grows_along [] n c d is now =
      let z : drop {A = Answer} (0 - n) [] ≡ [] = drop_none (0 - n) in
      same_state c d (sym is ∙ (ap (state_of p) z ∙ now))
  grows_along (a ∷ answers) n c d is now =
      elim (cases_lt n (length (a ∷ answers))) [
        | inl less ↦
            let long : length (a ∷ answers) ≡ suc (length answers) = refl in
            let k : length (a ∷ answers) - n ≡ suc (length answers - n) = omega arith in
            let (m, reached, next) = before_is p a d (state_of p answers) now in
            let first : Grows c.heap m.heap =
            grows_along answers n c m (sym (ap (λ j. state_of p (drop j (a ∷ answers))) k) ∙ is)
            reached in
            let then_ : Grows m.heap d.heap = grows_next m d a next in
            λ s. let u : count c.heap s ≤ count m.heap s =
            first s in let v : count m.heap s ≤ count d.heap s = then_ s in omega arith
        | inr past ↦
            let z : length (a ∷ answers) - n ≡ 0 = omega arith in
            same_state c d (sym is ∙ (ap (λ j. state_of p (drop j (a ∷ answers))) z ∙ now))
      ]

-- ---- the opening

module _ (p : Program) (good : IsWellFormed p) (states : AreStates p) (t : Table)
    (closed : IsClosed p t) where
  h : Heap
  h = opening_heap p

  opening : IsState p (machine.opening_state p)
  opening = states [] (machine.opening_state p) refl

  global_label : label_of (opening_heap p) (first_of global) ≡ new global
  global_label =
      let one : count (opening_heap p) global ≡ 1 =
      opening.heap.opening global (global_fits p good) in
      Labels.same_parts _ (new global) refl (Contents.label_is_new (opening_heap p)
      (first_of global) (omega arith))

  global_has : IsTrue (has_value (opening_heap p) (of_label (new global))
      (value.Object (first_of global)))
  global_has =
      same_label_from (new global) (label_of (opening_heap p) (first_of global)) (sym global_label)

  nothing_given : AreGiven (opening_heap p) (parameters_of p program_function) [] no_arguments
  nothing_given =
      record {
        parameter = λ j l. refl;
        rest = λ i v l e. absurd
            (none-some v e);
        no_rest = refl;
        count = int_eq_equiv.refl (pos 0);
      }

  first_holds : Holds p (opening_heap p) (opening_heap p) (opening_frame p) (opening_state p)
  first_holds =
      entry_holds (opening_heap p) p 0 program_function (first_of global) None (first_of global) []
      (of_label (new global)) (of_label (new global)) undefined_value no_arguments global_has
      global_has refl nothing_given

  -- the table's state has each of its parts
  table_holds : Holds p (opening_heap p) (opening_heap p) (opening_frame p) closed.opening.state
  table_holds =
      holds-above p (opening_heap p) (opening_heap p) (opening_frame p) (opening_state p)
      closed.opening.state closed.opening.least first_holds

  open_settled : (l : Label) (k : Key) (q : AbstractProperty) → t.entry root l k ≡ Some q
      → q ≡ join_properties q (opened p l k)
  open_settled l k q e =
      let same : option_map (λ (r : AbstractProperty). join_properties r (opened p l k))
      (t.entry root l k) ≡ t.entry root l k = ap (λ (u : Table). u.entry root l k)
      (closed.settled Open tt) in
      let at : Some (join_properties q (opened p l k)) ≡ Some q =
      ap (option_map (λ (r : AbstractProperty). join_properties r (opened p l k))) (sym e)
      ∙ (same ∙ e) in
      sym (same_Some _ _ at)

  context_is : context_of (opening_heap p) (opening_frame p) ≡ root
  context_is = ap (λ (l : Label). let x : _ = root in record x { receiver = l }) global_label

  pub opening_good : Good p t []
  opening_good c is = subst (IsGood p t []) (same_Some (machine.opening_state p) c is) (record {
    covered = record {
      top = opening_frame p;
      below = [];
      frames_are = refl;
      born = omega arith;
      at_entry = machine.opening_state p;
      at_entry_is = refl;
      state = closed.opening.state;
      state_is = ap (λ x. t.state x 0) context_is ∙ closed.opening.state_is;
      holds = table_holds;
      entries =
          subst (λ x. EntriesHold p (opening_heap p) (t.entry x)) (sym context_is)
          (entries_hold p good (t.entry root) open_settled);
    };
    stacked = refl;
    steps_are = refl;
  })
