-- The states that a deletion may leave, each with what it gives: one of them holds of the heap
-- behind it.
use Rattle.std.specs.Prelude.{◌≡◌, ◌⊎◌, ◌&&◌, ◌||◌, not, ℕ, Bool, true, false, if◌then◌else◌, IsTrue, List, [], ◌∷◌, filter, Option, Some, None}
use Rattle.std.specs.List.{list_any}
use Rattle.std.specs.Option.{option_map_or, option_and_then}
use Rattle.std.proofs.Common.{refl, sym, subst, ap, ◌∙◌, inl, inr, arith}
use Rattle.std.proofs.lemmas.Bool.{true≢false, cond-true, false_from_ne_true, and_from, or_left, or_right, not-true, not-false}
use Rattle.ja_base.specs.declared.ids.Label.{Label}
use Rattle.ja_base.specs.declared.ids.NameId.{NameId}
use Rattle.ja_prim.specs.Texts.{same_text}
use Rattle.ja_graph.specs.declared.program.Program.{Program}
use Rattle.ja_graph.specs.WellFormed.{IsWellFormed}
use Rattle.ja_machine.specs.declared.machine.Addr.{Addr}
use Rattle.ja_machine.specs.declared.machine.Property.{Property}
use Rattle.ja_machine.specs.declared.machine.Object.{Object}
use Rattle.ja_machine.specs.declared.machine.Heap.{Heap}
use Rattle.ja_machine.specs.Heap.{count, object_at, with_object, property_of}
use Rattle.ja_machine.specs.Heap as heap
use Rattle.ja_machine.specs.Nodes.{bool_value}
use Rattle.ja_machine.specs.Writes.{can_delete, delete, without}
use Rattle.ja_machine.specs.State.{IsObjectOf}
use Rattle.ja_machine.proofs.Heaps
use Rattle.ja_machine.proofs.Lists.{is_some_from}
use Rattle.ja_abstract.specs.declared.abstraction.Key.{Key}
use Rattle.ja_abstract.specs.declared.abstraction.Key.TheVariants as key
use Rattle.ja_abstract.specs.declared.abstraction.Slot.TheVariants as slot
use Rattle.ja_abstract.specs.AbstractValue.{Labels, AbstractValue, absent_property}
use Rattle.ja_abstract.specs.AbstractState.{AbstractState, is_label, same_key}
use Rattle.ja_abstract.specs.Resolved.{demands_of, IsFilled}
use Rattle.ja_abstract.specs.Contents.{missing, content, content_of, object_content, property_content, label_of}
use Rattle.ja_abstract.specs.Keys.{Spot, named, internal, key_of, is_among_keys}
use Rattle.ja_abstract.specs.Parts.{allows}
use Rattle.ja_abstract.specs.Primitives.{of_bools}
use Rattle.ja_abstract.specs.Reading.{View, has_present}
use Rattle.ja_abstract.specs.Writes.{sets_at, joins_at, joined_at, strong_update, weak_update, strong_at, some_at, own_at, may_keep, may_delete, is_missing, Deletion, if_given, strong_delete, delete_list, weak_delete, delete_states, demands_of_delete}
use Rattle.ja_abstract.proofs.Texts.{text_same}
use Rattle.ja_abstract.proofs.Keys.{text_of_key, same_key-true, same_key-self}
use Rattle.ja_abstract.proofs.Lists.{Member, member-append_left, member-append_right}
use Rattle.ja_abstract.proofs.Joins.{and_three_parts}
use Rattle.ja_abstract.proofs.Among.{some_key, among-filter}
use Rattle.ja_meaning.specs.Meaning.{has_value, knows, IsOfHeap, Tells}
use Rattle.ja_meaning.proofs.Held.{HoldsOfAll, all_of}
use Rattle.ja_meaning.proofs.Contents
use Rattle.ja_meaning.proofs.Contents.{named_cases}
use Rattle.ja_meaning.proofs.Inside.{inside}
use Rattle.ja_meaning.proofs.Parts.{allows_attrs-known, is_present-known}
use Rattle.ja_meaning.proofs.Arrays.{find-kept, find-cut}
use Rattle.ja_meaning.proofs.Moments.{Reads}
use Rattle.ja_meaning.proofs.Gets.{some_label-object, label-of_program}
use Rattle.ja_meaning.proofs.Puts.{wrote_object, wrote_nothing, content_now, member-joins, own_at_known, one_suits, Suits}
use Rattle.ja_meaning.proofs.Targets.{strong-is}
use Rattle.ja_meaning.proofs.Written.{Wrote, tells-now, written-knows, weak_update_holds, strong_update_holds}

-- where nothing of an object changes the state holds as it is
pub same_holds : (p : Program) (e c now : Heap) (a : Addr) (wrote : Wrote c now a)
    (s : AbstractState) → HoldsOfAll p e c s → ((y : Spot) → content now a y ≡ content c a y)
    → HoldsOfAll p e now s
same_holds p e c now a wrote s holds same = record {
  objects =
      λ b y there. subst (λ l. Tells e now b y (s.property l (key_of p y))) (sym (wrote.labels b))
      (tells-now c now a wrote e b y (s.property (label_of c b) (key_of p y))
      (elim (Heaps.address_cases b a) [
        | inl is ↦ subst (λ d. content now d y ≡ content c d y) (sym is) (same y)
        | inr other ↦ wrote.others b y other
      ]) (holds.objects b y (wrote.there b there)));
  some = λ t l. let k : count now t ≡ count c t = wrote.counts t in holds.some t (omega arith);
  none = λ t l. holds.none t (l ∙ wrote.counts t);
}

pub member-if_given : (b : Bool) (v : AbstractValue) (a : AbstractState) → IsTrue b
    → Member {X = Deletion} (v, a) (if_given b v a)
member-if_given b v a e =
    let x : Deletion = (v, a) in subst (Member x) (sym (cond-true b (x ∷ []) [] e)) (inl refl)

-- ---- an object without a property

module _ (o : Object) (t : List ℕ) where
  abbrev pub less : Object
  less = record o { properties = without o.properties t }

  less_same : object_content less (named t) ≡ missing
  less_same =
      ap property_content (find-cut (λ (q : Property). not (same_text q.name t)) o.properties t
      (λ q s. ap not s))

  less_other : (y : Spot) → (y ≡ named t → ⊥) → object_content less y ≡ object_content o y
  less_other (named u) ne =
      ap property_content (find-kept (λ (q : Property). not (same_text q.name t)) o.properties u
      (λ q s. ap not (false_from_ne_true (same_text q.name t)
      (λ x. ne (ap named (sym (text_same q.name u s) ∙ text_same q.name t x))))))
  less_other (internal slot.Prototype) ne = refl
  less_other (internal slot.Outer) ne = refl
  less_other (internal slot.Scope) ne = refl
  less_other (internal slot.Value) ne = refl

-- one of the results holds, and has what the deletion gives
pub record IsDeleted (e c : Heap) (w : View) (a : Addr) (now : Heap) (b : Bool)
    (results : List Deletion) : Type 0 where
  pub value : AbstractValue
  pub state : AbstractState
  pub among : Member {X = Deletion} (value, state) results
  pub has : IsTrue (has_value now value (bool_value b))
  pub registers : state.register ≡ w.state.register
  pub heap : HoldsOfAll w.program e now state
  pub wrote : Wrote c now a

module _ (e c : Heap) (w : View) (r : Reads e c w) (good : IsWellFormed w.program) (target : Labels)
    (keys : List Key) (a : Addr) (o : Object) (there : object_at c a ≡ Some o) (t : List ℕ)
    (among : IsTrue (target (label_of c a))) (key_in : IsTrue
    (is_among_keys keys (key_of w.program (named t))))
    (filled : IsFilled w.entries (demands_of_delete w target keys)) where
  abbrev p : Program
  p = w.program

  abbrev l : Label
  l = label_of c a

  abbrev k : Key
  k = key_of p (named t)

  is_object : IsObjectOf c a
  is_object = is_some_from (object_at c a) o there

  of_program : IsTrue (is_label p l)
  of_program = label-of_program e c w r a is_object

  holds : HoldsOfAll p e c w.state
  holds = all_of r.holds

  filled_own : IsFilled w.entries (demands_of w.state l k)
  filled_own m j d =
      filled m j (some_label-object e c w r (λ l. target l
      && list_any (λ (k : Key). demands_of w.state l k m j) keys) a is_object
      (and_from _ _ among (some_key (λ (k : Key). demands_of w.state l k m j) keys k key_in d)))

  content_is : content c a (named t) ≡ property_content (property_of o t)
  content_is = Contents.content-at c a o (named t) there

  known : IsTrue (knows c (own_at w l k) (property_content (property_of o t)))
  known =
      subst (λ u. IsTrue (knows c (own_at w l k) u)) content_is
      (own_at_known e c w r good a (named t) is_object filled_own)

  some-at : (test : Label → Key → Bool) → IsTrue (test l k) → IsTrue (some_at w target keys test)
  some-at test e_is =
      some_label-object e c w r (λ m. target m && list_any (test m) keys) a is_object
      (and_from _ _ among (some_key (test l) keys k key_in e_is))

  only_from : (n : NameId) → k ≡ key.Name n → (y : Spot) → IsTrue (same_key k (key_of p y))
      → y ≡ named t
  only_from n is (named x) s =
      ap named (sym (text_of_key p x n (sym (same_key-true k (key_of p (named x)) s) ∙ is))
      ∙ text_of_key p t n is)
  only_from n is (internal q) s =
      let z : key.Name n ≡ key.Slot q = sym is ∙ same_key-true k (key.Slot q) s in cc

  abbrev weak_value : AbstractValue
  weak_value =
      of_bools (some_at w target keys (λ l k. is_missing w l k || may_delete w l k))
      (some_at w target keys (may_keep w))

  module _ (now : Heap) (b : Bool) (wrote : Wrote c now a) (v : AbstractValue) (x : AbstractState)
      (x_among : Member {X = Deletion} (v, x) (strong_delete w l k))
      (x_has : IsTrue (has_value now v (bool_value b)))
      (x_registers : x.register ≡ w.state.register)
      (x_holds : ((y : Spot) → IsTrue (same_key k (key_of p y)) → y ≡ named t) → l.old ≡ false
      → HoldsOfAll p e now x) (weak_has : IsTrue (has_value now weak_value (bool_value b)))
      (weak : HoldsOfAll p e now (weak_update p w.state target (delete_list w keys))) where
    deleted_by : (s : Option (Label × Key)) → strong_at w target keys ≡ s
        → IsDeleted e c w a now b (option_map_or (λ (s : Label × Key). strong_delete w s.0 s.1) s
        (weak_delete w target keys))
    deleted_by (Some s) is =
        let k_is = strong-is e c w r target a is_object among keys k s key_in is in
        record {
          value = v;
          state = x;
          among =
              subst (λ m. Member {X = Deletion} (v, x) (strong_delete w m s.1)) (sym k_is.label)
              (subst (λ j. Member {X = Deletion} (v, x) (strong_delete w l j))
              (sym k_is.key_same) x_among);
          has = x_has;
          registers = x_registers;
          heap = x_holds (only_from k_is.name k_is.name_is) k_is.new;
          wrote = wrote;
        }
    deleted_by None is =
        record {
          value = weak_value;
          state = weak_update p w.state target
              (delete_list w keys);
          among = inl refl;
          has = weak_has;
          registers = refl;
          heap =
              weak;
          wrote = wrote;
        }

    deleted : IsDeleted e c w a now b (delete_states w target keys)
    deleted = deleted_by (strong_at w target keys) refl

  abbrev now : Heap
  now = with_object c a (less o t)

  wrote_less : Wrote c now a
  wrote_less = wrote_object c a o (less o t) there

  -- nothing is there
  module _ (none : property_of o t ≡ None) where
    absent : IsTrue (is_missing w l k)
    absent = subst (λ g. IsTrue (knows c (own_at w l k) (property_content g))) none known

    same_by : (y : Spot) → (y ≡ named t) ⊎ (y ≡ named t → ⊥)
        → object_content (less o t) y ≡ object_content o y
    same_by y (inl is) =
        subst (λ y. object_content (less o t) y ≡ object_content o y) (sym is)
        (less_same o t ∙ sym (ap property_content none))
    same_by y (inr ne) = less_other o t y ne

    same : (y : Spot) → content now a y ≡ content c a y
    same y =
        content_now c a o (less o t) there y ∙ (same_by y (named_cases y t)
        ∙ sym (Contents.content-at c a o y there))

    pub nothing_deleted : IsDeleted e c w a now true (delete_states w target keys)
    nothing_deleted =
        deleted now true wrote_less (of_bools true false) w.state
        (member-append_left _ (if_given (is_missing w l k) (of_bools true false) w.state) _
        (member-if_given (is_missing w l k) (of_bools true false) w.state absent)) refl refl
        (λ only new. same_holds p e c now a wrote_less w.state holds same)
        (some-at (λ l k. is_missing w l k || may_delete w l k) (or_left _ _ absent))
        (weak_update_holds p e c now a wrote_less w.state holds target (delete_list w keys)
        of_program among (λ y. inl (same y)))

  module _ (q : Property) (some : property_of o t ≡ Some q) where
    known_some : IsTrue (knows c (own_at w l k) (content_of q.content q.attrs))
    known_some = subst (λ g. IsTrue (knows c (own_at w l k) (property_content g))) some known

    present : IsTrue (has_present w (own_at w l k).value)
    present =
        is_present-known p c r.heap_now (own_at w l k) q.content q.attrs
        (subst (IsOfHeap c) (content_is ∙ ap property_content some)
        (inside p c r.heap_now a (named t))) known_some

    allowed : IsTrue (allows (own_at w l k).attrs.dont_delete q.attrs.dont_delete)
    allowed =
        (and_three_parts (allows (own_at w l k).attrs.read_only q.attrs.read_only)
        (allows (own_at w l k).attrs.dont_enum q.attrs.dont_enum)
        (allows (own_at w l k).attrs.dont_delete q.attrs.dont_delete)
        (allows_attrs-known c (own_at w l k) q.content q.attrs known_some)).1.1

    -- it stays
    kept : q.attrs.dont_delete ≡ true → IsDeleted e c w a c false (delete_states w target keys)
    kept is =
        let keep : IsTrue (may_keep w l k) =
        and_from _ _ present (subst (λ b. IsTrue (allows (own_at w l k).attrs.dont_delete b)) is
        allowed) in
        deleted c false (wrote_nothing c a) (of_bools false true) w.state
        (member-append_right _ (if_given (is_missing w l k) (of_bools true false) w.state) _
        (member-append_left _ (if_given (may_keep w l k) (of_bools false true) w.state) _
        (member-if_given (may_keep w l k) (of_bools false true) w.state keep))) refl refl
        (λ only new. holds)
        (some-at (may_keep w) keep) (weak_update_holds p e c c a
        (wrote_nothing c a) w.state holds target (delete_list w keys) of_program among
        (λ y. inl refl))

    -- it goes
    module _ (is : q.attrs.dont_delete ≡ false) where
      go : IsTrue (may_delete w l k)
      go =
          and_from _ _ present (subst (λ b. IsTrue (allows (own_at w l k).attrs.dont_delete b)) is
          allowed)

      suits : Suits e c w r good a o there t now (sets_at k absent_property ∷ [])
      suits =
          one_suits e c w r good a o there t (less o t) absent_property (less_other o t)
          (subst (λ u. IsTrue (knows now absent_property u)) (sym (less_same o t)) refl)

      gone : IsDeleted e c w a now true (delete_states w target keys)
      gone =
          let x : AbstractState = strong_update w.state l (sets_at k absent_property ∷ []) in
          deleted now true wrote_less (of_bools true false) x
          (member-append_right _ (if_given (is_missing w l k) (of_bools true false) w.state) _
          (member-append_right _ (if_given (may_keep w l k) (of_bools false true) w.state) _
          (member-if_given (may_delete w l k) (of_bools true false) x go))) refl refl
          (λ only new. strong_update_holds p e c now a wrote_less w.state holds l refl new
          (sets_at k absent_property ∷ []) (λ y. suits.strong only y
          (w.state.property l (key_of p y)) (r.holds.objects a y is_object)))
          (some-at (λ l k. is_missing w l k || may_delete w l k) (or_right (is_missing w l k) _ go))
          (weak_update_holds p e c now a wrote_less w.state holds target (delete_list w keys)
          of_program among (λ y. elim (named_cases y t) [
            | inl y_is ↦
                inr (λ z. subst (λ y. IsTrue (knows now
                (joined_at (delete_list w keys l) z (key_of p y)) (content now a y))) (sym y_is)
                (written-knows now (content now a (named t)) k z (delete_list w keys l)
                (joins_at k absent_property) (member-joins absent_property
                (filter (may_delete w l) keys) k (among-filter (may_delete w l) keys k key_in go))
                (same_key-self k) (subst (λ u. IsTrue (knows now absent_property u))
                (sym (content_now c a o (less o t) there (named t) ∙ less_same o t)) refl)))
            | inr ne ↦
                inl (content_now c a o (less o t) there y
                ∙ (less_other o t y ne ∙ sym (Contents.content-at c a o y there)))
          ]))

  -- what a deletion leaves and gives
  delete_by : (g : Option Property) → property_of o t ≡ g → (b : Bool)
      → option_map_or (λ (q : Property). not q.attrs.dont_delete) g true ≡ b
      → IsDeleted e c w a (if b then now else c) b (delete_states w target keys)
  delete_by None none true is = nothing_deleted none
  delete_by None none false is = absurd (true≢false is)
  delete_by (Some q) some true is = gone q some (not-true q.attrs.dont_delete is)
  delete_by (Some q) some false is = kept q some (not-false q.attrs.dont_delete is)

  own_is : heap.own c a t ≡ property_of o t
  own_is = ap (λ r. option_and_then (λ (o : Object). property_of o t) r) there

  can_is : can_delete c a t ≡ option_map_or (λ (q : Property). not q.attrs.dont_delete)
      (property_of o t) true
  can_is = ap (λ g. option_map_or (λ (q : Property). not q.attrs.dont_delete) g true) own_is

  delete_is : delete c a t ≡ (if can_delete c a t then now else c)
  delete_is =
      ap (λ h. if can_delete c a t then h else c)
      (ap (λ r. option_map_or (λ (o : Object). with_object c a (less o t)) r c) there)

  pub is_deleted : IsDeleted e c w a (delete c a t) (can_delete c a t) (delete_states w target keys)
  is_deleted =
      subst (λ h. IsDeleted e c w a h (can_delete c a t) (delete_states w target keys))
      (sym delete_is) (delete_by (property_of o t) refl (can_delete c a t) (sym can_is))
