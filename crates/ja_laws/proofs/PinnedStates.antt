-- The laws of `specs/AbstractLaws.antt`: what writes, reads, objects that are made, keys and
-- returns say in other words.
use Rattle.std.specs.Prelude.{◌≡◌, ◌≢◌, ◌⊎◌, ◌↔◌, ◌<◌, ◌&&◌, ◌||◌, ◌==◌, ℕ, zero, suc, Bool, true, false, nat_eq, if◌then◌else◌, IsTrue, List, [], ◌∷◌, ◌++◌, map, filter, length, Option, Some, None}
use Rattle.std.specs.List.{list_any, range_with_len}
use Rattle.std.specs.Option.{option_map, option_map_or, option_and_then}
use Rattle.std.proofs.Common.{refl, sym, subst, ap, ◌∙◌, arith, inl, inr}
use Rattle.std.proofs.Math.Bool.{or-false, and-false, and-true}
use Rattle.std.proofs.lemmas.Bool.{and_parts, and_from, or_cases, or_left, or_right, eq-eqb, cases_Bool, cond_both, cond-true, cond-false, false≢true, false_from_ne_true, eqb-true, ltb-true}
use lib.Pointwise.{pointwise, bytes_decides}
use Rattle.ja_base.specs.declared.ids.Label.{Label}
use Rattle.ja_base.specs.declared.ids.NameId.{NameId}
use Rattle.ja_base.specs.declared.ids.Site.{Site}
use Rattle.ja_prim.specs.declared.primitive.Primitive.TheVariants as primitive
use Rattle.ja_graph.specs.declared.program.Program.{Program}
use Rattle.ja_graph.specs.WellFormed.{IsWellFormed}
use Rattle.ja_machine.specs.Nodes.{name_text}
use Rattle.ja_abstract.specs.declared.abstraction.Key.{Key}
use Rattle.ja_abstract.specs.declared.abstraction.Key.TheVariants as key
use Rattle.ja_abstract.specs.declared.abstraction.Mask.{Mask}
use Rattle.ja_abstract.specs.declared.abstraction.TextPart.TheVariants as text_part
use Rattle.ja_abstract.specs.Primitives.{of_text_part}
use Rattle.ja_abstract.specs.AbstractValue.{Labels, AbstractValue, AbstractProperty, same_label, join_properties, no_property, absent_property, entry_property, of_primitive}
use Rattle.ja_abstract.specs.AbstractState.{AbstractState, new, old, labels_of, keys_of, is_label, is_key, same_key, exactly_none, exactly_some, aged, aged_property, made_property, with_made, name_key}
use Rattle.ja_abstract.specs.Composed.{composed, composed_mask, all_of}
use Rattle.ja_abstract.specs.Keys.{is_index_key, has_key, is_among_keys, is_text_key, keys_of_value, text_key}
use Rattle.ja_laws.specs.AbstractLaws.{ChangesNothing, HasNone, IsAged, IsMade, IsOfOneObject, IsPlainPut, IsSameAtKeys, IsTarget, IsThere, Keep, PutInto, Replaces}
use Rattle.ja_abstract.specs.Made.{length_key, Own, at_keys_of, own_of, with_object}
use Rattle.ja_abstract.specs.Order.{LeqProperty, LeqState}
use Rattle.ja_abstract.specs.Reading.{View, may_accept, may_refuse, has_present, get, get_present, get_absent, own, one_label, present_property, prototype_walk, next_prototype, ends_at, may_be_absent}
use Rattle.ja_abstract.specs.Resolved.{Entries, join_all, resolved, renamed_labels, renamed, known_part, from_entry, origins, rounds, one_more, reached}
use Rattle.ja_abstract.specs.Writes.{Write, sets_at, joined_at, replaced_at, strong_update, weak_update, new_alone, one_target, one_name, strong_at, put_list, put_states, weak_put, defined, accepted_writes, asked_at, element_writes, if_there, length_writes, put_property, put_writes, strong_put}
use Rattle.ja_abstract.proofs.Among.{among-filter, among-append_left, among-append_right, among-names, text_among}
use Rattle.ja_abstract.proofs.Keys.{same_key-true, same_key-self, same_key_from, key_of-name, text_of_key, no_slot_of_text}
use Rattle.ja_abstract.proofs.Labels.{same_label-true, same_label-self, other_site, some_among}
use Rattle.ja_abstract.proofs.Least.{property_twice, with_nothing}
use Rattle.ja_abstract.proofs.Lists.{list_any-filter}
use Rattle.ja_abstract.proofs.Order.{property-join, property_same, property_both, state_same, value_same}

-- ---- strong writes

new_if : (b : Bool) (m l : Label) → (if b then None else Some m) ≡ Some l → (b ≡ false) × (m ≡ l)
new_if true m l e = cc
new_if false m l e = (refl, cc)

one_label_is : (ls : List Label) (l : Label) → new_alone ls ≡ Some l
    → (ls ≡ l ∷ []) × (l.old ≡ false)
one_label_is [] l e = cc
one_label_is (m ∷ []) l e =
    let (is_new, is) = new_if m.old m l e in
    (ap (λ n. n ∷ []) is, ap (λ (n : Label). n.old) (sym is) ∙ is_new)
one_label_is (m ∷ n ∷ ls) l e = cc

one_name_is : (keys : List Key) (k : Key) → one_name keys ≡ Some k
    → (n : NameId) × (k ≡ key.Name n) × (keys ≡ k ∷ [])
one_name_is [] k e = cc
one_name_is (key.Name n ∷ []) k e =
    let is : key.Name n ≡ k = cc in
    (n, sym is, ap (λ j. j ∷ []) is)
one_name_is (key.Name n ∷ j ∷ js) k e = cc
one_name_is (key.OtherIndex ∷ js) k e = cc
one_name_is (key.OtherName ∷ js) k e = cc
one_name_is (key.Slot s ∷ js) k e = cc

pair_is : (o : Option Label) (n : Option Key) (l : Label) (k : Key)
    → option_and_then {U = Label × Key} (λ m. option_map (λ j. (m, j)) n) o ≡ Some (l, k)
    → (o ≡ Some l) × (n ≡ Some k)
pair_is None n l k e = cc
pair_is (Some m) None l k e = cc
pair_is (Some m) (Some j) l k e =
    let is : (m, j) ≡ (l, k) = cc in
    (ap (λ (x : Label × Key). Some x.0) is, ap (λ (x : Label × Key). Some x.1) is)

pub strong_is : (w : View) (target : Labels) (keys : List Key) (l : Label) (k : Key)
    → strong_at w target keys ≡ Some (l, k) → IsOfOneObject w target keys l k
strong_is w target keys l k e =
    let (at_label, at_name) = pair_is (one_target w target) (one_name keys) l k e in
    let (alone, is_new) = one_label_is (filter target (labels_of w.program)) l at_label in
    let (name, is_name, key_alone) = one_name_is keys k at_name in
    record {
      is_new = is_new;
      alone = λ m t. only alone m t;
      key_alone = key_alone;
      name = name;
      is_name = is_name;
    }
  where
    only : filter target (labels_of w.program) ≡ l ∷ [] → (m : Label) → IsTarget w target m
        → m ≡ l
    only alone m t =
        let both : IsTrue (target m && same_label m m) =
        and_from (target m) (same_label m m) t.is_in (same_label-self m) in
        let kept : IsTrue (list_any (same_label m) (filter target (labels_of w.program))) =
        list_any-filter (same_label m) target (labels_of w.program)
        (some_among (λ x. target x && same_label m x) (labels_of w.program) m t.is_of_program both)
        in
        let there : IsTrue (same_label m l || false) =
        subst (λ ls. IsTrue (list_any (same_label m) ls)) alone kept in
        same_label-true m l (sym (or-false (same_label m l)) ∙ there)

-- a label, a key that is another one
other_label : (l m : Label) → m ≢ l → same_label l m ≡ false
other_label l m ne =
    false_from_ne_true (same_label l m) (λ e. ne (sym (same_label-true l m e)))

other_key : (k j : Key) → j ≢ k → same_key k j ≡ false
other_key k j ne = false_from_ne_true (same_key k j) (λ e. ne (sym (same_key-true k j e)))

pub replaces : (a : AbstractState) (l : Label) (k : Key) (q : AbstractProperty)
    → Replaces a (strong_update a l (sets_at k q ∷ [])) l k q
replaces a l k q = record {
  property =
      cond-true (same_label l l) (replaced_at (sets_at k q ∷ []) (a.property l k) k)
      (a.property l k) (same_label-self l)
      ∙ cond-true (same_key k k) q (a.property l k) (same_key-self k);
  others = λ m j ne. kept m j ne;
  registers = refl;
  masks = refl;
}
  where
    kept : (m : Label) (j : Key) → (m ≢ l) ⊎ (j ≢ k)
        → (strong_update a l (sets_at k q ∷ [])).property m j ≡ a.property m j
    kept m j (inl ne) =
        cond-false (same_label l m) (replaced_at (sets_at k q ∷ []) (a.property m j) j)
        (a.property m j) (other_label l m ne)
    kept m j (inr ne) =
        cond_both (same_label l m) (replaced_at (sets_at k q ∷ []) (a.property m j) j)
        (a.property m j) (λ r. r ≡ a.property m j)
        (λ _. cond-false (same_key k j) q (a.property m j) (other_key k j ne)) (λ _. refl)

pub read_behind : (a : AbstractState) (entries : Entries) (l : Label) (k : Key)
    (q : AbstractProperty) → q.value.flags.entry ≡ false
    → resolved (strong_update a l (sets_at k q ∷ [])) entries l k ≡ q
read_behind a entries l k q known =
    let b = strong_update a l (sets_at k q ∷ []) in
    let is : b.property l k ≡ q = (replaces a l k q).property in
    cond-false (b.property l k).value.flags.entry _ (b.property l k)
    (ap (λ (r : AbstractProperty). r.value.flags.entry) is ∙ known) ∙ is

-- a put to what is no array is one write
pub puts_replace : (w : View) (target : Labels) (keys : List Key) (v : AbstractValue) (l : Label)
    (k : Key) → strong_at w target keys ≡ Some (l, k) → IsPlainPut w l k
    → PutInto w l k v (put_states w target keys v)
puts_replace w target keys v l k e put =
    let q = put_property w l k v in
    let write = sets_at k q ∷ [] in
    let goes_in : put_writes w l k v ≡ Some write =
    ap (λ b. if b && same_key k length_key then length_writes w l v else if b
    && is_index_key w.program k then element_writes w l k v else Some write) put.no_array in
    subst (λ o. PutInto w l k v (option_map_or
    (λ (at : Label × Key). strong_put w at.0 at.1 v) o (weak_put w target keys v))) (sym e)
    (subst (λ b. PutInto w l k v (if_there b w.state ++ option_map_or
    (λ writes. strong_update w.state l writes ∷ []) (accepted_writes w l k v) []))
    (sym put.not_refused)
    (cond_both (may_accept (asked_at w l k)) (put_writes w l k v) None
    (λ o. PutInto w l k v (option_map_or (λ writes. strong_update w.state l writes ∷ []) o []))
    (λ _. subst (λ o. PutInto w l k v (option_map_or
    (λ writes. strong_update w.state l writes ∷ []) o [])) (sym goes_in)
    (replaces w.state l k q, tt)) (λ _. tt)))

-- ---- weak writes

joined_keeps : (xs : List Write) (q : AbstractProperty) (k : Key)
    → LeqProperty q (joined_at xs q k)
joined_keeps [] q k = property_same q
joined_keeps (x ∷ xs) q k =
    cond_both (same_key x.key k) (join_properties (joined_at xs q k) x.property) (joined_at xs q k)
    (λ r. LeqProperty q r)
    (λ _. property_both q (joined_at xs q k) _ (joined_keeps xs q k)
    (property-join (joined_at xs q k) x.property)) (λ _. joined_keeps xs q k)

weak_keeps : (p : Program) (a : AbstractState) (target : Labels) (writes : Label → List Write)
    → LeqState a (weak_update p a target writes)
weak_keeps p a target writes = record {
  register = λ r. value_same (a.register r);
  property =
      λ l k. cond_both (is_label p l && target l) (joined_at (writes l) (a.property l k) k)
      (a.property l k) (λ q. LeqProperty (a.property l k) q)
      (λ _. joined_keeps (writes l) (a.property l k) k) (λ _. property_same (a.property l k));
  mask = (state_same a).mask;
}

pub puts_keep : (w : View) (target : Labels) (keys : List Key) (v : AbstractValue)
    → strong_at w target keys ≡ None → Keep w.state (put_states w target keys v)
puts_keep w target keys v e =
    subst (λ o. Keep w.state (option_map_or
    (λ (at : Label × Key). strong_put w at.0 at.1 v) o
    (weak_put w target keys v))) (sym e) (cond_both _
    (weak_update w.program w.state target (put_list w keys v) ∷ []) [] (Keep w.state)
    (λ _. (weak_keeps w.program w.state target (put_list w keys v), tt)) (λ _. tt))

pub definitions_keep : (w : View) (target : Labels) (k : Key) (q : AbstractProperty)
    → one_target w target ≡ None → Keep w.state (defined w target k q ∷ [])
definitions_keep w target k q e =
    subst (λ o. Keep w.state (option_map_or
    (λ l. strong_update w.state l (sets_at k q ∷ [])) o
    (weak_update w.program w.state target (λ l. sets_at k q ∷ [])) ∷ [])) (sym e)
    (weak_keeps w.program w.state target (λ l. sets_at k q ∷ []), tt)

-- ---- an object more

other_number : (m n : ℕ) → m ≢ n → (m == n) ≡ false
other_number m n ne = false_from_ne_true (m == n) (λ e. ne (eqb-true m n e))

is_aged : (s : Site) (v : AbstractValue) → IsAged s v (aged s v)
is_aged s v = record {
  none_is_new = cond-true (s.0 == s.0) false (v.label (new s)) (eq-eqb s.0 s.0 refl);
  old_ones =
      cond-true (s.0 == s.0) (v.label (old s) || v.label (new s)) (v.label (old s))
      (eq-eqb s.0 s.0 refl);
  others =
      λ l ne. cond-false (l.site.0 == s.0) (l.old && (v.label (old s) || v.label (new s)))
      (v.label l) (other_number l.site.0 s.0 ne);
  same_flags = refl;
  same_number = refl;
  same_text = refl;
}

other_property : (p : Program) (a : AbstractState) (s : Site) (own : AbstractState → Own)
    (l : Label) (k : Key) → l.site.0 ≢ s.0
    → (with_object p a s own).property l k ≡ aged_property s (a.property l k)
other_property p a s own l k ne =
    let apart : s.0 ≢ l.site.0 = λ e. ne (sym e) in
    cond-false (same_label (new s) l) (at_keys_of p (own (with_made a s)) k)
    (made_property a s l k) (other_site (new s) l apart)
    ∙ cond-false (same_label (new s) l) absent_property _ (other_site (new s) l apart)
    ∙ cond-false (same_label (old s) l) _ (aged_property s (a.property l k))
    (other_site (old s) l apart)

pub is_made : (p : Program) (a : AbstractState) (s : Site) (own : AbstractState → Own)
    → IsMade s a (with_object p a s own)
is_made p a s own = record {
  registers = λ r. is_aged s (a.register r);
  properties =
      λ l k ne. subst (λ (q : AbstractProperty). IsAged s (a.property l k).value q.value)
      (sym (other_property p a s own l k ne)) (is_aged s (a.property l k).value);
  attributes =
      λ l k ne. ap (λ (q : AbstractProperty). q.attrs) (other_property p a s own l k ne);
  mask = cond-true (s.0 == s.0) exactly_some (a.mask s.0) (eq-eqb s.0 s.0 refl);
  masks =
      λ t ne. cond-false (s.0 == t) exactly_some (a.mask t)
      (other_number s.0 t (λ e. ne (sym e)));
}

none_of : (list : List (Key × AbstractProperty)) (k : Key) → HasNone list k
    → own_of list k ≡ absent_property
none_of [] k h = refl
none_of (q ∷ qs) k h = cond-false (same_key q.0 k) q.1 (own_of qs k) h.0 ∙ none_of qs k h.1

pub is_empty : (p : Program) (a : AbstractState) (s : Site)
    (list : List (Key × AbstractProperty)) (k : Key) → IsTrue (is_key p k) → HasNone list k
    → (with_object p a s (λ b. own_of list)).property (new s) k ≡ absent_property
is_empty p a s list k of_program none =
    cond-true (same_label (new s) (new s)) (at_keys_of p (own_of list) k)
    (made_property a s (new s) k) (same_label-self (new s))
    ∙ cond-true (is_key p k) (own_of list k) entry_property of_program ∙ none_of list k none

-- ---- reads

-- a set in which no label of a list is
pub no_label_of : (test : Labels) (ls : List Label) → ((l : Label) → test l ≡ false)
    → list_any test ls ≡ false
no_label_of test [] none = refl
no_label_of test (l ∷ ls) none =
    ap (λ b. b || list_any test ls) (none l) ∙ no_label_of test ls none

leads_nowhere : (next : Label → Labels) (l : Label) → ((m : Label) → next l m ≡ false)
    → (m x : Label) (b : Bool) → b ≡ same_label l x → (b && next x m) ≡ false
leads_nowhere next l stays m x true e =
    ap (λ y. next y m) (sym (same_label-true l x (sym e))) ∙ stays m
leads_nowhere next l stays m x false e = refl

-- a walk that no step leads on from its one start stays there
walk_stays : (next : Label → Labels) (ls : List Label) (l : Label)
    → ((m : Label) → next l m ≡ false) → (n : ℕ) (m : Label)
    → rounds next ls (same_label l) n m ≡ same_label l m
walk_stays next ls l stays zero m = refl
walk_stays next ls l stays (suc n) m =
    let set = rounds next ls (same_label l) n in
    ap (λ b. set m || b) (no_label_of (λ x. set x && next x m) ls
    (λ x. leads_nowhere next l stays m x (set x) (walk_stays next ls l stays n x)))
    ∙ or-false (set m) ∙ walk_stays next ls l stays n m

-- the join over labels of what is a property at one of them, and nothing at the others
joined_once : (f : Label → AbstractProperty) (l : Label) (q : AbstractProperty)
    → ((m : Label) → f m ≡ (if same_label l m then q else no_property)) → (ls : List Label)
    → join_all (map f ls) ≡ (if list_any (same_label l) ls then q else no_property)
joined_once f l q each [] = refl
joined_once f l q each (m ∷ ms) =
    ap (λ r. join_properties r (join_all (map f ms))) (each m)
    ∙ ap (join_properties (if same_label l m then q else no_property)) (joined_once f l q each ms)
    ∙ once (same_label l m) (list_any (same_label l) ms)
  where
    once : (b c : Bool) → join_properties (if b then q else no_property)
        (if c then q else no_property) ≡ (if b || c then q else no_property)
    once true true = property_twice q
    once true false = with_nothing q
    once false c = refl

module _ (w : View) (l : Label) (k : Key) (there : IsTarget w (one_label l) l)
    (known : IsThere w (w.state.property l k)) where
  q : AbstractProperty
  q = w.state.property l k

  keys : List Key
  keys = k ∷ []

  own_is : own w l keys ≡ q
  unfolding q keys
  own_is =
      with_nothing (resolved w.state w.entries l k)
      ∙ cond-false (w.state.property l k).value.flags.entry _ (w.state.property l k) known.not_entry

  not_absent : may_be_absent w l keys ≡ false
  unfolding q keys
  not_absent = ap (λ (r : AbstractProperty). r.value.flags.absent) own_is ∙ known.not_absent

  walk_is : (m : Label) → prototype_walk w (one_label l) keys m ≡ same_label l m
  unfolding keys
  walk_is m =
      walk_stays (next_prototype w keys) (labels_of w.program) l
      (λ x. ap (λ b. b && (Rattle.ja_abstract.specs.Reading.slot w l
      Rattle.ja_abstract.specs.Resolved.prototype).label x) not_absent) (length (labels_of
      w.program)) m

  whole : present_property w q ≡ q
  unfolding q
  whole =
      cond-true (has_present w q.value) _ no_property known.present
      ∙ (λ i. record q {
        value =
            record q.value {
              flags =
                  record q.value.flags {
                    absent = sym known.not_absent i;
                    entry = sym
                        known.not_entry i;
                  };
            };
      })

  present_at : (m : Label) → (if prototype_walk w (one_label l) keys m
      then present_property w (own w m keys) else no_property)
      ≡ (if same_label l m then q else no_property)
  present_at m =
      ap (λ b. if b then present_property w (own w m keys) else no_property) (walk_is m)
      ∙ cond_both (same_label l m) (present_property w (own w m keys)) no_property
      (λ r. r ≡ (if same_label l m then q else no_property))
      (λ e. ap (λ x. present_property w (own w x keys)) (sym (same_label-true l m e))
      ∙ ap (present_property w) own_is ∙ whole ∙ sym (cond-true (same_label l m) q no_property e))
      (λ e. sym (cond-false (same_label l m) q no_property e))

  absent_at : (m : Label) → (if prototype_walk w (one_label l) keys m && ends_at w keys m
      then absent_property else no_property) ≡ (if same_label l m then no_property else no_property)
  absent_at m =
      cond-false (prototype_walk w (one_label l) keys m && ends_at w keys m) absent_property
      no_property (no_end m) ∙ cond_both (same_label l m) no_property no_property
      (λ r. no_property ≡ r) (λ _. refl) (λ _. refl)
    where
      no_end : (x : Label) → (prototype_walk w (one_label l) keys x && ends_at w keys x) ≡ false
      no_end x = ap (λ b. b && ends_at w keys x) (walk_is x) ∙ elim (cases_Bool (same_label l x)) [
        | inl e ↦
            ap (λ b. same_label l x && b) (ap (ends_at w keys) (sym (same_label-true l x e))
            ∙ ap (λ b. b && (Rattle.ja_abstract.specs.Reading.slot w l
            Rattle.ja_abstract.specs.Resolved.prototype).flags.absent) not_absent)
            ∙ and-false (same_label l x)
        | inr f ↦ ap (λ b. b && ends_at w keys x) f
      ]

  pub read_is : get w (one_label l) (k ∷ []) ≡ w.state.property l k
  unfolding q keys
  read_is =
      let ls = labels_of w.program in
      let found = list_any (same_label l) ls in
      let present : get_present w (one_label l) keys ≡ q =
      joined_once _ l q present_at ls ∙ cond-true found q no_property there.is_of_program in
      let absent : get_absent w (one_label l) keys ≡ no_property =
      joined_once _ l no_property absent_at ls
      ∙ cond-true found no_property no_property there.is_of_program in
      ap (λ r. join_properties r (get_absent w (one_label l) keys)) present
      ∙ ap (join_properties q) absent ∙ with_nothing q

-- ---- two moments

pub none_made : (first second : Mask) → (composed_mask first second).none ≡ true
    ↔ (first.none ≡ true) × (second.none ≡ true)
none_made first second = (
  (λ e. let (b, a) = and_parts second.none first.none e in
      (a, b)),
  (λ h. and_from second.none first.none h.1 h.0),
)

pub some_made : (first second : Mask) → second.some ≡ true
    → (composed_mask first second).some ≡ true
some_made first second e = or_left second.some (first.some && second.none) e

pub made_before : (first second : Mask) → second.some ≡ false
    → (composed_mask first second).some ≡ true ↔ (first.some ≡ true) × (second.none ≡ true)
made_before first second e = (
  (λ h. and_parts first.some second.none (ap (λ b. b || (first.some && second.none)) (sym e) ∙ h)),
  (λ h. or_right second.some (first.some && second.none)
      (and_from first.some second.none h.0 h.1)),
)

-- where nothing was made, a label is what it was
label_stays : (set : Labels) (s : Site) (is_old : Bool) (m : Mask) → m ≡ exactly_none
    → (if is_old then set (old s) || (set (new s) && m.some) else set (new s) && m.none)
    ≡ set (record { site = s; old = is_old })
label_stays set s true m e =
    ap (λ b. set (old s) || (set (new s) && b)) (ap (λ (n : Mask). n.some) e)
    ∙ ap (λ b. set (old s) || b) (and-false (set (new s))) ∙ or-false (set (old s))
label_stays set s false m e =
    ap (λ b. set (new s) && b) (ap (λ (n : Mask). n.none) e) ∙ and-true (set (new s))

labels_stay : (mask : ℕ → Mask) → ((t : ℕ) → mask t ≡ exactly_none) → (set : Labels) (l : Label)
    → renamed_labels mask set l ≡ set l
labels_stay mask none set l = label_stays set l.site l.old (mask l.site.0) (none l.site.0)

property_stays : (mask : ℕ → Mask) → ((t : ℕ) → mask t ≡ exactly_none)
    → (q : AbstractProperty) → renamed mask q ≡ q
property_stays mask none q =
    λ i. record q {
      value = record q.value { label = λ l. labels_stay mask none q.value.label l i };
    }

pub nothing_renamed : (q : AbstractProperty) → renamed (λ t. exactly_none) q ≡ q
nothing_renamed q = property_stays (λ t. exactly_none) (λ t. refl) q

-- the one origin of a label where nothing was made
one_origin : (f : Label → AbstractProperty) (s : Site) (is_old : Bool) (m : Mask)
    → m ≡ exactly_none → join_all (map f (if is_old
    then old s ∷ (if m.some then new s ∷ [] else []) else (if m.none then new s ∷ [] else [])))
    ≡ f (record { site = s; old = is_old })
one_origin f s true m e =
    ap (λ b. join_all (map f (old s ∷ (if b then new s ∷ [] else []))))
    (ap (λ (n : Mask). n.some) e) ∙ with_nothing (f (old s))
one_origin f s false m e =
    ap (λ b. join_all (map f (if b then new s ∷ [] else []))) (ap (λ (n : Mask). n.none) e)
    ∙ with_nothing (f (new s))

module _ (p : Program) (a b : AbstractState) (none : ChangesNothing b) where
  property_is : (l : Label) (k : Key) → resolved b (all_of a) l k ≡ a.property l k
  property_is l k =
      ap (λ (q : AbstractProperty). if q.value.flags.entry then join_properties (known_part q)
      (from_entry b (all_of a) l k) else q) (none.property l k)
      ∙ one_origin (λ m. renamed b.mask (a.property m k)) l.site l.old (b.mask l.site.0)
      (none.mask l.site.0) ∙ property_stays b.mask none.mask (a.property l k)

  mask_is : (m n : Mask) → n ≡ exactly_none → composed_mask m n ≡ m
  mask_is m n e =
      ap (composed_mask m) e ∙ (λ i. record { none = m.none; some = and-true m.some i })

  pub unchanged : IsSameAtKeys p (composed p a b) a
  unchanged = record {
    register =
        λ r i. record (a.register r) {
          label =
              λ l. labels_stay b.mask none.mask (a.register r).label l i;
        };
    property =
        λ l k e. cond-true (is_key p k) (resolved b (all_of a) l k) entry_property e ∙ property_is l
        k;
    mask = λ t. mask_is (a.mask t) (b.mask t) (none.mask t);
  }

-- what is known of a property is in it
known_below : (q : AbstractProperty) → LeqProperty (known_part q) q
known_below q = record {
  value =
      record {
        flags = λ i. record ((value_same q.value).flags i) { entry = q.value.flags.entry };
        number = λ n h. h;
        text = λ t h. h;
        label = λ l h. h;
      };
  attrs = (property_same q).attrs;
}

pub known_stays : (p : Program) (a b : AbstractState) (l : Label) (k : Key) → IsTrue (is_key p k)
    → LeqProperty (known_part (b.property l k)) ((composed p a b).property l k)
known_stays p a b l k of_program =
    let q = b.property l k in
    let before = from_entry b (all_of a) l k in
    subst (LeqProperty (known_part q))
    (sym (cond-true (is_key p k) (resolved b (all_of a) l k) entry_property of_program))
    (cond_both q.value.flags.entry (join_properties (known_part q) before) q
    (LeqProperty (known_part q)) (λ _. property-join (known_part q) before)
    (λ _. known_below q))

pub none_is_new : (p : Program) (a b : AbstractState) (s : Site) (r : ℕ)
    → b.mask s.0 ≡ exactly_some → ((composed p a b).register r).label (new s) ≡ false
none_is_new p a b s r e =
    ap (λ (m : Mask). (a.register r).label (new s) && m.none) e
    ∙ and-false ((a.register r).label (new s))

-- ---- keys

kept_passes : (keep : Key → Bool) (keys : List Key) (k : Key)
    → IsTrue (is_among_keys (filter keep keys) k) → IsTrue (keep k)
kept_passes keep [] k h = absurd (false≢true h)
kept_passes keep (j ∷ js) k h = elim (cases_Bool (keep j)) [
  | inl e ↦
      elim (or_cases (same_key j k) (is_among_keys (filter keep js) k)
      (subst (λ ks. IsTrue (is_among_keys ks k))
      (cond-true (keep j) (j ∷ filter keep js) (filter keep js) e) h)) [
        | inl s ↦ subst (λ i. IsTrue (keep i)) (same_key-true j k s) e
        | inr r ↦ kept_passes keep js k r
      ]
  | inr f ↦
      kept_passes keep js k (subst (λ ks. IsTrue (is_among_keys ks k))
      (cond-false (keep j) (j ∷ filter keep js) (filter keep js) f) h)
]

-- what comes of the other parts of a text's value
only_left : (b : Bool) → IsTrue (b || (false || (false && false))) → IsTrue b
only_left true h = refl
only_left false h = absurd (false≢true h)

has_constant : (p : Program) (t : List ℕ) (k : Key) → IsWellFormed p → IsTrue (is_key p k)
    → IsTrue (has_key p (of_primitive (primitive.Text t)) k) → k ≡ text_key p t
has_constant p t (key.Name n) good of_program h =
    let is : t ≡ name_text p n =
    (bytes_decides t (name_text p n)).0 (only_left (pointwise nat_eq t (name_text p n)) h) in
    sym (ap (text_key p) is ∙ key_of-name p good n (ltb-true n.0 (length p.names) of_program))
has_constant p t key.OtherIndex good of_program h =
    sym (same_key-true (text_key p t) key.OtherIndex
    (only_left (same_key (text_key p t) key.OtherIndex) h))
has_constant p t key.OtherName good of_program h =
    sym (same_key-true (text_key p t) key.OtherName
    (only_left (same_key (text_key p t) key.OtherName) h))
has_constant p t (key.Slot s) good of_program h = absurd (false≢true h)

constant_has : (p : Program) (t : List ℕ) (k : Key) → text_key p t ≡ k
    → IsTrue (has_key p (of_primitive (primitive.Text t)) k)
constant_has p t (key.Name n) e =
    or_left _ _ ((bytes_decides t (name_text p n)).1 (sym (text_of_key p t n e)))
constant_has p t key.OtherIndex e = or_left _ _ (same_key_from (text_key p t) key.OtherIndex e)
constant_has p t key.OtherName e = or_left _ _ (same_key_from (text_key p t) key.OtherName e)
constant_has p t (key.Slot s) e = absurd (no_slot_of_text p t s e)

pub key_of_text : (p : Program) (t : List ℕ) (k : Key) → IsWellFormed p → IsTrue (is_key p k)
    → IsTrue (is_among_keys (keys_of_value p (of_primitive (primitive.Text t))) k)
    ↔ (k ≡ text_key p t)
key_of_text p t k good of_program =
    let v = of_primitive (primitive.Text t) in (
      (λ h. has_constant p t k good of_program (kept_passes (has_key p v) (keys_of p) k h)),
      (λ e. among-filter (has_key p v) (keys_of p) k
          (subst (λ j. IsTrue (is_among_keys (keys_of p) j)) (sym e) (text_among p t))
          (constant_has p t k (sym e))),
    )

-- each key of a program is among its keys
of_program_among : (p : Program) (k : Key) → IsTrue (is_key p k) → IsTrue (is_text_key k)
    → IsTrue (is_among_keys (keys_of p) k)
of_program_among p (key.Name n) of_program is_text =
    among-append_left (map name_key (range_with_len 0 (length p.names))) _ (key.Name n)
    (among-names 0 (length p.names) n.0 (omega arith)
    (let l : n.0 < length p.names = ltb-true n.0 (length p.names) of_program in
    omega arith))
of_program_among p key.OtherIndex of_program is_text =
    among-append_right (map name_key (range_with_len 0 (length p.names))) _ key.OtherIndex refl
of_program_among p key.OtherName of_program is_text =
    among-append_right (map name_key (range_with_len 0 (length p.names))) _ key.OtherName refl
of_program_among p (key.Slot s) of_program is_text = absurd (false≢true is_text)

any_text_has : (p : Program) (k : Key) → IsTrue (is_text_key k)
    → IsTrue (has_key p (of_text_part text_part.Text) k)
any_text_has p (key.Name n) h = refl
any_text_has p key.OtherIndex h = refl
any_text_has p key.OtherName h = refl
any_text_has p (key.Slot s) h = absurd (false≢true h)

pub keys_of_all : (p : Program) (k : Key) → IsTrue (is_key p k) → IsTrue (is_text_key k)
    → IsTrue (is_among_keys (keys_of_value p (of_text_part text_part.Text)) k)
keys_of_all p k of_program is_text =
    among-filter (has_key p (of_text_part text_part.Text)) (keys_of p) k
    (of_program_among p k of_program is_text) (any_text_has p k is_text)
