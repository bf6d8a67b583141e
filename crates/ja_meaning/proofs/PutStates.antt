-- The states that a put may leave: one of them holds of the heap behind it.
use Rattle.std.specs.Prelude.{◌≡◌, ◌&&◌, ◌++◌, not, ℕ, Bool, true, false, if◌then◌else◌, IsTrue, List, [], ◌∷◌, Option, Some, None, is_some, unwrap_or}
use Rattle.std.specs.List.{list_any, flat_map}
use Rattle.std.specs.Option.{option_map_or}
use Rattle.std.proofs.Common.{refl, sym, subst, ap, ◌∙◌, inl, inr}
use Rattle.std.proofs.lemmas.Bool.{false≢true, true≢false, cond-true, and_from, or_left, or_right, or_cases, not-true, not-false}
use Rattle.ja_base.specs.declared.ids.Label.{Label}
use Rattle.ja_base.specs.declared.ids.NameId.{NameId}
use Rattle.ja_graph.specs.declared.program.Program.{Program}
use Rattle.ja_graph.specs.WellFormed.{IsWellFormed}
use Rattle.ja_machine.specs.declared.machine.Addr.{Addr}
use Rattle.ja_machine.specs.declared.machine.Value.{Value}
use Rattle.ja_machine.specs.declared.machine.Property.{Property}
use Rattle.ja_machine.specs.declared.machine.Object.{Object}
use Rattle.ja_machine.specs.declared.machine.Heap.{Heap}
use Rattle.ja_machine.specs.declared.machine.Put.{Put}
use Rattle.ja_machine.specs.declared.machine.Put.TheVariants as put_ends
use Rattle.ja_machine.specs.Heap.{object_at, can_put, is_shared}
use Rattle.ja_machine.specs.Heap as heap
use Rattle.ja_machine.specs.Writes.{PutOutcome, written, put, put_own}
use Rattle.ja_machine.specs.State.{IsObjectOf}
use Rattle.ja_machine.proofs.Lists.{either_way, is_some_from}
use Rattle.ja_abstract.specs.declared.abstraction.Key.{Key}
use Rattle.ja_abstract.specs.declared.abstraction.Key.TheVariants as key
use Rattle.ja_abstract.specs.AbstractValue.{Labels, AbstractValue, AbstractProperty}
use Rattle.ja_abstract.specs.AbstractState.{AbstractState, labels_of, is_label, same_key}
use Rattle.ja_abstract.specs.Resolved.{demands_of, IsFilled, prototype}
use Rattle.ja_abstract.specs.Contents.{SpotContent, content, property_content, label_of}
use Rattle.ja_abstract.specs.Keys.{Spot, named, internal, key_of, is_among_keys, is_index_key}
use Rattle.ja_abstract.specs.Made.{length_key}
use Rattle.ja_abstract.specs.Reading.{View, one_label, demands_of_get, demands_of_own, prototype_walk, next_prototype, may_be_absent, both, demands_if, may_refuse, may_accept}
use Rattle.ja_abstract.specs.Writes.{Write, joined_at, strong_update, weak_update, strong_at, put_writes, accepted_writes, asked_at, puts_something, may_be_wrong_length, demands_of_put, if_there, strong_put, put_list, weak_put, put_states, put_may_throw, demands_of_puts, is_array_label}
use Rattle.ja_abstract.proofs.Keys.{text_of_key, same_key-true, same_key-self}
use Rattle.ja_abstract.proofs.Labels.{same_label-self}
use Rattle.ja_abstract.proofs.Lists.{Member, member-append_left, member-append_right}
use Rattle.ja_abstract.proofs.Rounds.{reached-start}
use Rattle.ja_abstract.proofs.Joins.{and_three, and_three_parts}
use Rattle.ja_abstract.proofs.Among.{some_key}
use Rattle.ja_meaning.specs.Meaning.{has_value, knows}
use Rattle.ja_meaning.proofs.Held.{HoldsOfAll, all_of}
use Rattle.ja_meaning.proofs.Parts.{allows_attrs-known}
use Rattle.ja_meaning.proofs.Moments.{Reads}
use Rattle.ja_meaning.proofs.Gets.{some_label-object, label-of_program, get_known}
use Rattle.ja_meaning.proofs.Puts.{joined-kept, IsWritten, IsWrong, Leaves, LeavesBy, own_leaves, wrote_nothing}
use Rattle.ja_meaning.proofs.Targets.{strong-is}
use Rattle.ja_meaning.proofs.Written.{Wrote, weak_update_holds, strong_update_holds}

-- ---- lists of writes at several keys

joined-append : (xs ys : List Write) (q : AbstractProperty) (k : Key)
    → joined_at (xs ++ ys) q k ≡ joined_at xs (joined_at ys q k) k
joined-append [] ys q k = refl
joined-append (x ∷ xs) ys q k =
    ap (λ z. if same_key x.key k then Rattle.ja_abstract.specs.AbstractValue.join_properties z
    x.property else z) (joined-append xs ys q k)

-- what the writes at one of some keys know, those at all of them do
pub joined-keys : (h : Heap) (u : SpotContent) (f : Key → List Write) (keys : List Key) (j k : Key)
    → IsTrue (is_among_keys keys j) → ((q : AbstractProperty)
    → IsTrue (knows h (joined_at (f j) q k) u)) → (q : AbstractProperty)
    → IsTrue (knows h (joined_at (flat_map f keys) q k) u)
joined-keys h u f [] j k a known q = absurd (false≢true a)
joined-keys h u f (i ∷ is) j k a known q =
    subst (λ z. IsTrue (knows h z u)) (sym (joined-append (f i) (flat_map f is) q k))
    (elim (or_cases (same_key i j) (list_any (λ m. same_key m j) is) a) [
      | inl s ↦
          subst (λ m. IsTrue (knows h (joined_at (f m) (joined_at (flat_map f is) q k) k) u))
          (sym (same_key-true i j s)) (known (joined_at (flat_map f is) q k))
      | inr r ↦
          joined-kept h u k (f i) (joined_at (flat_map f is) q k)
          (joined-keys h u f is j k r known q)
    ])

pub member-if_there : (b : Bool) (a : AbstractState) → IsTrue b → Member a (if_there b a)
member-if_there b a e = subst (Member a) (sym (cond-true b (a ∷ []) [] e)) (inl refl)

-- ---- what [[CanPut]] goes by

accepts_by : (c : Heap) (q : AbstractProperty) (g : Option Property)
    → IsTrue (knows c q (property_content g)) → option_map_or
    (λ (x : Property). not x.attrs.read_only) g true ≡ true → IsTrue (may_accept q)
accepts_by c q None known e = or_right q.attrs.read_only.unset _ known
accepts_by c q (Some g) known e =
    or_left _ _ (subst (λ b. IsTrue (Rattle.ja_abstract.specs.Parts.allows q.attrs.read_only b))
    (not-true g.attrs.read_only e) (and_three_parts _ _ _
    (allows_attrs-known c q g.content g.attrs known)).0)

refuses_by : (c : Heap) (q : AbstractProperty) (g : Option Property)
    → IsTrue (knows c q (property_content g)) → option_map_or
    (λ (x : Property). not x.attrs.read_only) g true ≡ false → IsTrue (may_refuse q)
refuses_by c q None known e = absurd (true≢false e)
refuses_by c q (Some g) known e =
    subst (λ b. IsTrue (Rattle.ja_abstract.specs.Parts.allows q.attrs.read_only b))
    (not-false g.attrs.read_only e) (and_three_parts _ _ _
    (allows_attrs-known c q g.content g.attrs known)).0

-- ---- demands

-- a walk demands its first objects' own properties
pub own_demanded : (e c : Heap) (w : View) (r : Reads e c w) (start : Labels) (keys : List Key)
    → IsFilled w.entries (demands_of_get w start keys) → (a : Addr) → IsObjectOf c a
    → IsTrue (start (label_of c a)) → IsFilled w.entries (demands_of_own w (label_of c a) keys)
own_demanded e c w r start keys filled a there started m j d =
    filled m j (some_label-object e c w r (λ l. prototype_walk w start keys l
    && both (demands_of_own w l keys) (demands_if (may_be_absent w l keys)
    (demands_of w.state l prototype)) m j) a there
    (and_from _ _ (reached-start (next_prototype w keys) (labels_of w.program) start
    (label_of c a) started) (or_left _ _ d)))

-- ---- a put

-- one of the states holds of a heap in which an object is written; the registers are the view's
pub record IsLeft (e c : Heap) (w : View) (a : Addr) (now : Heap)
    (states : List AbstractState) : Type 0 where
  pub state : AbstractState
  pub among : Member state states
  pub registers : state.register ≡ w.state.register
  pub heap : HoldsOfAll w.program e now state
  pub wrote : Wrote c now a

module _ (e c : Heap) (w : View) (r : Reads e c w) (good : IsWellFormed w.program) (target : Labels)
    (keys : List Key) (u : AbstractValue) (v : Value) (has : IsTrue (has_value c u v)) (a : Addr)
    (o : Object) (there : object_at c a ≡ Some o) (t : List ℕ)
    (among : IsTrue (target (label_of c a))) (key_in : IsTrue
    (is_among_keys keys (key_of w.program (named t))))
    (filled : IsFilled w.entries (demands_of_puts w target keys)) where
  abbrev p : Program
  p = w.program

  abbrev l : Label
  l = label_of c a

  abbrev k : Key
  k = key_of p (named t)

  is_object : IsObjectOf c a
  is_object = is_some_from (object_at c a) o there

  of_program : IsTrue (is_label p l)
  of_program = label-of_program e c w r a is_object

  holds : HoldsOfAll p e c w.state
  holds = all_of r.holds

  filled_put : IsFilled w.entries (demands_of_put w l k)
  filled_put m j d =
      filled m j (some_label-object e c w r (λ l. target l
      && list_any (λ (k : Key). demands_of_put w l k m j) keys) a is_object
      (and_from _ _ among (some_key (λ (k : Key). demands_of_put w l k m j) keys k key_in d)))

  filled_get : IsFilled w.entries (demands_of_get w (one_label l) (k ∷ []))
  filled_get m j d = filled_put m j (or_left _ _ d)

  filled_own : IsFilled w.entries (demands_of w.state l k)
  filled_own m j d =
      own_demanded e c w r (one_label l) (k ∷ []) filled_get a is_object (same_label-self l) m j
      (or_left _ _ d)

  asked_known : IsTrue (knows c (asked_at w l k) (property_content (heap.get c a t)))
  asked_known =
      get_known e c w r (one_label l) (k ∷ []) filled_get t
      (or_left _ _ (same_key-self k)) a is_object (same_label-self l)

  IsOnlyName : Type 0
  IsOnlyName = (y : Spot) → IsTrue (same_key k (key_of p y)) → y ≡ named t

  only_from : (n : NameId) → k ≡ key.Name n → (y : Spot) → IsTrue (same_key k (key_of p y))
      → y ≡ named t
  only_from n is (named x) s =
      ap named (sym (text_of_key p x n (sym (same_key-true k (key_of p (named x)) s) ∙ is))
      ∙ text_of_key p t n is)
  only_from n is (internal q) s =
      let z : key.Name n ≡ key.Slot q = sym is ∙ same_key-true k (key.Slot q) s in cc

  -- one of the states, strong or weak
  module _ (now : Heap) (wrote : Wrote c now a) (x : AbstractState)
      (x_among : Member x (strong_put w l k u)) (x_registers : x.register ≡ w.state.register)
      (x_holds : ((y : Spot) → IsTrue (same_key k (key_of p y)) → y ≡ named t) → l.old ≡ false
      → HoldsOfAll p e now x) (something : IsTrue (puts_something w l k u))
      (weak : HoldsOfAll p e now (weak_update p w.state target (put_list w keys u))) where
    left_by : (s : Option (Label × Key)) → strong_at w target keys ≡ s
        → IsLeft e c w a now (option_map_or (λ (s : Label × Key). strong_put w s.0 s.1 u) s
        (weak_put w target keys u))
    left_by (Some s) is =
        let k_is = strong-is e c w r target a is_object among keys k s key_in is in
        record {
          state = x;
          among =
              subst (λ m. Member x (strong_put w m s.1 u)) (sym k_is.label)
              (subst (λ j. Member x (strong_put w l j u)) (sym k_is.key_same) x_among);
          registers = x_registers;
          heap = x_holds (only_from k_is.name k_is.name_is) k_is.new;
          wrote = wrote;
        }
    left_by None is = record {
      state = weak_update p w.state target (put_list w keys u);
      among =
          member-if_there _ (weak_update p w.state target (put_list w keys u))
          (some_label-object e c w r (λ m. target m
          && list_any (λ (j : Key). puts_something w m j u) keys) a is_object
          (and_from _ _ among (some_key (λ (j : Key). puts_something w l j u) keys k key_in
          something)));
      registers = refl;
      heap = weak;
      wrote = wrote;
    }

    left : IsLeft e c w a now (put_states w target keys u)
    left = left_by (strong_at w target keys) refl

  -- what isn't put
  refused : can_put c a t ≡ false → IsLeft e c w a c (put_states w target keys u)
  refused e_is =
      let refuse : IsTrue (may_refuse (asked_at w l k)) =
      refuses_by c (asked_at w l k) (heap.get c a t) asked_known e_is in
      left c (wrote_nothing c a) w.state (member-append_left w.state
      (if_there (may_refuse (asked_at w l k)) w.state) _
      (member-if_there (may_refuse (asked_at w l k)) w.state refuse)) refl (λ only new. holds)
      (or_left _ _ refuse)
      (weak_update_holds p e c c a (wrote_nothing c a) w.state holds target
      (put_list w keys u) of_program among (λ y. inl refl))

  -- what is put by some writes
  module _ (accept : IsTrue (may_accept (asked_at w l k))) where
    filled_length : IsTrue (is_array_label p l) → IsTrue (is_index_key p k)
        → IsFilled w.entries (demands_of w.state l length_key)
    filled_length arr index m j d =
        filled_put m j (or_right (demands_of_get w (one_label l) (k ∷ []) m j) _
        (and_from _ _ (and_three _ _ _ arr index accept) d))

    accepted_is : accepted_writes w l k u ≡ put_writes w l k u
    accepted_is = cond-true (may_accept (asked_at w l k)) (put_writes w l k u) None accept

    done : (now : Heap) → IsWritten e c w r good a o there t u filled_own filled_length now
        → IsLeft e c w a now (put_states w target keys u)
    done now h =
        let writes_are : accepted_writes w l k u ≡ Some h.writes = accepted_is ∙ h.writes_are in
        let x : AbstractState = strong_update w.state l h.writes in
        let some : IsTrue (is_some (accepted_writes w l k u)) = ap is_some writes_are in
        left now h.suits.wrote x (member-append_right x
        (if_there (may_refuse (asked_at w l k)) w.state) _
        (subst (λ z. Member x (option_map_or (λ (ws : List Write). strong_update w.state l ws ∷ [])
        z [])) (sym writes_are) (inl refl))) refl
        (λ only new. strong_update_holds p e c now a h.suits.wrote w.state holds l refl new h.writes
        (λ y. h.suits.strong only y (w.state.property l (key_of p y))
        (r.holds.objects a y is_object)))
        (or_right (may_refuse (asked_at w l k)) _ some)
        (weak_update_holds p e c now a h.suits.wrote w.state holds target (put_list w keys u)
        of_program among (λ y. elim (h.suits.weak y) [
          | inl same ↦ inl same
          | inr known ↦
              inr (joined-keys now (content now a y)
              (λ (j : Key). unwrap_or (accepted_writes w l j u) []) keys k (key_of p y) key_in
              (λ q. subst (λ z. IsTrue (knows now (joined_at (unwrap_or z []) q (key_of p y))
              (content now a y))) (sym writes_are) (known q)))
        ]))

    wrong : IsWrong e c w r good a o there t u filled_own filled_length
        → IsTrue (put_may_throw w target keys u)
    wrong h =
        some_label-object e c w r (λ m. target m && list_any
        (λ (j : Key). may_be_wrong_length w m j u) keys) a is_object
        (and_from _ _ among (some_key (λ (j : Key). may_be_wrong_length w l j u) keys k key_in
        (and_four _ _ _ _ h.array h.length accept h.wrong)))
      where
        and_four : (x y z q : Bool) → IsTrue x → IsTrue y → IsTrue z → IsTrue q
            → IsTrue (x && y && z && q)
        and_four true y z q a b d f = and_three y z q b d f
        and_four false y z q a b d f = absurd (false≢true a)

  -- what a put leaves
  abbrev pub LeftBy : Put → Heap → Type 0
  LeftBy put_ends.Done h = IsLeft e c w a h (put_states w target keys u)
  LeftBy put_ends.Ignored h = IsLeft e c w a h (put_states w target keys u)
  LeftBy put_ends.RangeError h = (h ≡ c) × IsTrue (put_may_throw w target keys u)
  LeftBy put_ends.LengthObject h = Unit {0}
  LeftBy put_ends.SharedArgument h = Unit {0}

  abbrev LeftAfter : PutOutcome → Type 0
  LeftAfter x = LeftBy x.put x.heap

  from_own : (accept : IsTrue (may_accept (asked_at w l k))) (x : PutOutcome)
      → LeavesBy e c w r good a o there t u filled_own (filled_length accept) x → LeftAfter x
  from_own accept x h = by x.put x.heap h
    where
      by : (q : Put) (now : Heap) → Leaves e c w r good a o there t u filled_own
          (filled_length accept) q now → LeftBy q now
      by put_ends.Done now h = done accept now h
      by put_ends.RangeError now h = (h.0, wrong accept h.1)
      by put_ends.Ignored now h = elim h [ ]
      by put_ends.LengthObject now h = tt
      by put_ends.SharedArgument now h = tt

  pub put_left : LeftBy (put c a t v).put (put c a t v).heap
  put_left =
      either_way LeftAfter (not (can_put c a t)) (written c put_ends.Ignored)
      (if is_shared c a t then written c put_ends.SharedArgument else option_map_or
      (λ (x : Object). put_own c a x t v) (object_at c a) (written c put_ends.Done))
      (λ never. refused (not-true (can_put c a t) never))
      (λ may. either_way LeftAfter (is_shared c a t) (written c put_ends.SharedArgument)
      (option_map_or (λ (x : Object). put_own c a x t v) (object_at c a) (written c put_ends.Done))
      (λ s. tt)
      (λ s. let accept = accepts_by c (asked_at w l k) (heap.get c a t) asked_known
      (not-false (can_put c a t) may) in
      subst (λ z. LeftAfter (option_map_or (λ (x : Object). put_own c a x t v) z
      (written c put_ends.Done))) (sym there) (from_own accept (put_own c a o t v)
      (own_leaves e c w r good a o there t u filled_own (filled_length accept) v has))))
