-- Heaps by the places of their objects: made, with one property or all objects changed, compared
-- and joined.
use Rattle.std.proofs.Common.{◌≡◌, ◌≢◌, ◌==◌, ◌&&◌, ◌+◌, ◌*◌, ◌<◌, ◌≤◌, nat_lt, ℕ, zero, suc, List, [], ◌∷◌, Bool, true, false, Option, Some, None, if◌then◌else◌, length, replicate, get_or, refl, ap, sym, ◌∙◌, subst, arith, ⊎_elim}
use Rattle.std.specs.Prelude.{◌↔◌, IsTrue, slice_get, slice_set}
use Rattle.std.specs.Option.{option_map, option_map_or}
use Rattle.std.proofs.lemmas.Option.{slice_get_read, slice_get_past, slice_get_cases, slice_get-get_or}
use Rattle.std.proofs.lemmas.Bool.{true≢false}
use Rattle.std.proofs.lemmas.Bool.Decides.{nat_tests}
use Rattle.ja_machine.proofs.Lists.{slice_get-set_same, slice_get-set_other}
use Rattle.ja_base.specs.declared.ids.Label.{Label}
use Rattle.ja_base.specs.declared.ids.Site.{Site}
use Rattle.ja_abstract.specs.declared.abstraction.Key.{Key}
use Rattle.ja_abstract.specs.AbstractValue.{AbstractProperty, same_label, join_properties, absent_property, entry_property}
use Rattle.ja_abstract.specs.AbstractState.{label_number, same_key, new, old, aged_property, made_property}
use Rattle.ja_abstract.specs.Made.{Own}
use Rattle.ja_abstract.specs.Order.{LeqProperty}
use Rattle.ja_abstract.proofs.Order.{property_same}
use Rattle.ja_value.specs.Labels.{label_at}
use Rattle.ja_value.proofs.LabelLemmas.{number_label}
use Rattle.ja_trie.specs.Join.{Joined, kept_or}
use Rattle.ja_trie.specs.Nodes.{ArePaths}
use Rattle.ja_trie.specs.Run.{IsRun}
use Rattle.ja_trie.specs.Test.{SaysOfPlaces}
use Rattle.ja_trie.proofs.JoinLaws.{nothing_joined}
use Rattle.ja_trie.proofs.Sharing.{long_power}
use Rattle.ja_aheap.specs.declared.object.AObject.{AObject}
use Rattle.ja_aheap.specs.KeysBelow.{is_key_below, at_keys_below}
use Rattle.ja_aheap.specs.Heap.{HeapMap, property_at, half}
use Rattle.ja_aheap.specs.Objects.{object_of}
use Rattle.ja_aheap.proofs.LabelLemmas.{same_label_is}
use Rattle.ja_aheap.proofs.MapLemmas.{equal_from_test, some_is}
use Rattle.ja_aheap.proofs.UpdateLemmas.{test_of_other}
use Rattle.ja_aheap.specs.code.Own.{own_below, own_in_place, join_owns, LeqOwn, aged_own, moved_in}

-- two heaps that have the same at each label, key and site are one
pub heap_same : (g h : HeapMap) → g.sites ≡ h.sites → g.names ≡ h.names
    → ((l : Label) (k : Key) → g.property l k ≡ h.property l k)
    → ((s : ℕ) → g.mask s ≡ h.mask s) → g ≡ h
heap_same g h sites names property mask = λ i. record {
  sites = sites i;
  names = names i;
  property = λ l k. property l k i;
  mask = λ s. mask s i;
}

-- ---- objects at their places

-- at a place of the list, and behind it
pub shown_within : (names : ℕ) (objects : List AObject) (n : ℕ) (o : AObject) → n < length objects
    → o ≡ get_or objects n o → own_below names o ≡ own_in_place names objects n
shown_within names objects n o within is =
    sym (ap (λ (x : Option AObject). λ k. option_map_or (λ (o : AObject). own_below names o k) x
    entry_property) (slice_get_read objects (length objects) n o refl within is))

-- a run of one object is of labels that have its properties
pub shown_in_run : (names : ℕ) (objects : List AObject) (from to end k : ℕ)
    → IsRun objects from end → from ≤ k → k < to → to ≤ end
    → own_in_place names objects k ≡ own_in_place names objects from
shown_in_run names objects from to end k run above below most =
    ap (λ (x : Option AObject). λ j. option_map_or (λ (o : AObject). own_below names o j) x
    entry_property) (⊎_elim (λ h.
    slice_get-get_or objects k h.0 (omega (arith, run.within))
    ∙ ap Some (run.same k above (omega arith) h.0 ∙ h.3) ∙ sym h.2) (λ h.
    absurd (omega (arith, run.ahead, run.within, h.0)))
    (slice_get_cases objects from).1)

pub shown_beyond : (names : ℕ) (objects : List AObject) (n : ℕ) → length objects ≤ n
    → own_in_place names objects n ≡ (λ k. entry_property)
shown_beyond names objects n beyond =
    ap (λ (x : Option AObject). λ k. option_map_or (λ (o : AObject). own_below names o k) x
    entry_property) (slice_get_past objects n beyond)

-- one object put at a place
pub set_in_place : (names : ℕ) (objects : List AObject) (at : ℕ) (o : AObject) → at < length objects
    → (n : ℕ) → own_in_place names (slice_set objects at o) n
    ≡ (if at == n then own_below names o else own_in_place names objects n)
set_in_place names objects at o within n =
    pick (at == n) refl
  where
    shown : Option AObject → Own
    shown x k = option_map_or (λ (o : AObject). own_below names o k) x entry_property

    pick : (b : Bool) → (at == n) ≡ b → own_in_place names (slice_set objects at o) n
        ≡ (if b then own_below names o else own_in_place names objects n)
    pick true same =
        ap (λ m. own_in_place names (slice_set objects at o) m) (sym (equal_from_test at n same))
        ∙ ap shown (slice_get-set_same objects at o within)
    pick false apart =
        ap shown (slice_get-set_other objects at n o (test_of_other at n apart))

-- what stands at a place already
pub same_in_place : (f : ℕ → Own) (at n : ℕ) (own : Own) → f at ≡ own
    → f n ≡ (if at == n then own else f n)
same_in_place f at n own is = pick (at == n) refl
  where
    pick : (b : Bool) → (at == n) ≡ b → f n ≡ (if b then own else f n)
    pick true same = ap f (sym (equal_from_test at n same)) ∙ is
    pick false apart = refl

-- one object at each place
pub shown_everywhere : (names : ℕ) (o : AObject) → object_of o ≡ (λ k. entry_property)
    → (long n : ℕ) (k : Key) → own_in_place names (replicate long o) n k ≡ entry_property
shown_everywhere names o entry zero n k = refl
shown_everywhere names o entry (suc long) zero k =
    ap (λ (own : Own). at_keys_below names own k) entry ∙ pick (is_key_below names k)
  where
    pick : (b : Bool) → (if b then entry_property else entry_property) ≡ entry_property
    pick true = refl
    pick false = refl
shown_everywhere names o entry (suc long) (suc n) k = shown_everywhere names o entry long n k

-- ---- one property changed

pub both_tests : {X : Type 0} (b c : Bool) (x y : X)
    → (if b then (if c then x else y) else y) ≡ (if b && c then x else y)
both_tests true c x y = refl
both_tests false c x y = refl

-- a property at a key of the first names, as a heap shows it
pub placed_shown : (names : ℕ) (key : Key) (p : AbstractProperty) (own : Own)
    → ((k : Key) → is_key_below names k ≡ false → same_key key k ≡ false)
    → at_keys_below names (λ k. if same_key key k then p else own k)
    ≡ (λ k. if same_key key k then p else at_keys_below names own k)
placed_shown names key p own other = λ i k. pick k (is_key_below names k) refl i
  where
    pick : (k : Key) (b : Bool) → is_key_below names k ≡ b
        → (if b then (if same_key key k then p else own k) else entry_property)
        ≡ (if same_key key k then p else (if b then own k else entry_property))
    pick k true below = refl
    pick k false beyond =
        sym (ap (λ (c : Bool). if c then p else entry_property) (other k beyond))

-- ---- heaps compared

leq_beyond : (names : ℕ) (a b : List AObject) (n : ℕ) → length a ≤ n → length b ≤ n
    → LeqOwn (own_in_place names a n) (own_in_place names b n)
leq_beyond names a b n short short' k =
    subst (λ (own : Own). LeqProperty (own k) (own_in_place names b n k))
    (sym (shown_beyond names a n short))
    (subst (λ (own : Own). LeqProperty entry_property (own k)) (sym (shown_beyond names b n short'))
    (property_same entry_property))

-- what a test of the objects at each place says of the heaps
pub leq_in_place : (names : ℕ) (R : AObject → AObject → Bool → Type 0) (xs ys : List AObject)
    (all : Bool) → length ys ≡ length xs → SaysOfPlaces R xs ys all
    → ((x y : AObject) (b : Bool) → R x y b
    → IsTrue b ↔ LeqOwn (own_below names x) (own_below names y))
    → IsTrue all ↔ ((n : ℕ) → LeqOwn (own_in_place names xs n) (own_in_place names ys n))
leq_in_place names R xs ys all same says decides = (
  λ held n. ⊎_elim
      (λ at.
      let y = get_or ys n at.0 in
      let its = slice_get-get_or ys n at.0 (omega (arith, same, at.1)) in
      placed n at.0 y at.2 its
      ((decides at.0 y true (says.held held n at.0 y at.2 its)).0 refl))
      (λ past. leq_beyond names xs ys n past.0 (omega (arith, same, past.0)))
      (slice_get_cases xs n).1,
  λ each. pick all refl each,
)
  where
    shown : (objects : List AObject) (n : ℕ) (o : AObject) → slice_get objects n ≡ Some o
        → own_below names o ≡ own_in_place names objects n
    shown objects n o at = sym (ap (λ (x : Option AObject). λ k.
        option_map_or (λ (o : AObject). own_below names o k) x entry_property) at)

    placed : (n : ℕ) (x y : AObject) → slice_get xs n ≡ Some x → slice_get ys n ≡ Some y
        → LeqOwn (own_below names x) (own_below names y)
        → LeqOwn (own_in_place names xs n) (own_in_place names ys n)
    placed n x y at at' h =
        subst (λ (own : Own). LeqOwn own (own_in_place names ys n)) (shown xs n x at)
        (subst (LeqOwn (own_below names x)) (shown ys n y at') h)

    pick : (b : Bool) → all ≡ b
        → ((n : ℕ) → LeqOwn (own_in_place names xs n) (own_in_place names ys n)) → all ≡ true
    pick true is each = is
    pick false is each =
        let f = says.failed is in
        let here = subst (λ (own : Own). LeqOwn own (own_below names f.2))
        (sym (shown xs f.0 f.1 f.3)) (subst (LeqOwn (own_in_place names xs f.0))
        (sym (shown ys f.0 f.2 f.4)) (each f.0)) in
        absurd (true≢false (sym ((decides f.1 f.2 false f.5).1 here)))

-- at each place, so at each label, and the other way round
pub leq_by_label : (names names' : ℕ) (a b : List AObject) → names ≡ names'
    → ((n : ℕ) → LeqOwn (own_in_place names a n) (own_in_place names b n))
    ↔ ((l : Label) (k : Key) → LeqProperty (property_at a names l k) (property_at b names' l k))
leq_by_label names names' a b same = (
  λ each l k. subst (λ m. LeqProperty (property_at a names l k) (property_at b m l k)) same
      (each (label_number l) k),
  λ each n k. subst
      (λ m. LeqProperty (own_in_place names a m k) (own_in_place names b m k)) (number_label n)
      (subst (λ m. LeqProperty (property_at a names (label_at n) k)
      (property_at b m (label_at n) k)) (sym same) (each (label_at n) k)),
)

-- ---- heaps joined

pub joined_in_place : (names : ℕ) (R : AObject → AObject → Option AObject → Type 0)
    (xs ys zs : List AObject) (puts : ℕ) → Joined R xs ys zs puts
    → ((x y : AObject) (a : Option AObject) → R x y a → own_below names (kept_or x a)
    ≡ join_owns (own_below names x) (own_below names y)) → (n : ℕ)
    → own_in_place names zs n
    ≡ join_owns (own_in_place names xs n) (own_in_place names ys n)
joined_in_place names R [] [] [] puts h joins n = refl
joined_in_place names R [] [] (z ∷ zs) puts h joins n = absurd h
joined_in_place names R [] (y ∷ ys) zs puts h joins n = absurd h
joined_in_place names R (x ∷ xs) [] zs puts h joins n = absurd h
joined_in_place names R (x ∷ xs) (y ∷ ys) [] puts h joins n = absurd h
joined_in_place names R (x ∷ xs) (y ∷ ys) (z ∷ zs) puts h joins zero =
    ap (own_below names) h.3 ∙ joins x y h.0 h.2
joined_in_place names R (x ∷ xs) (y ∷ ys) (z ∷ zs) puts h joins (suc n) =
    joined_in_place names R xs ys zs h.1 h.5 joins n

pub changed_in_place : (names : ℕ) (R : AObject → AObject → Option AObject → Type 0)
    (xs ys zs : List AObject) (puts : ℕ) → Joined R xs ys zs puts
    → ((x y z : AObject) → R x y (Some z) → own_below names z ≢ own_below names x) → 0 < puts
    → (n : ℕ) × (own_in_place names zs n ≢ own_in_place names xs n)
changed_in_place names R [] [] [] puts h changes some = absurd (omega (arith, h))
changed_in_place names R [] [] (z ∷ zs) puts h changes some = absurd h
changed_in_place names R [] (y ∷ ys) zs puts h changes some = absurd h
changed_in_place names R (x ∷ xs) [] zs puts h changes some = absurd h
changed_in_place names R (x ∷ xs) (y ∷ ys) [] puts h changes some = absurd h
changed_in_place names R (x ∷ xs) (y ∷ ys) (z ∷ zs) puts (Some w, rest, r, same, count, more)
    changes some =
    (0, λ e. changes x y w r (sym (ap (own_below names) same) ∙ e))
changed_in_place names R (x ∷ xs) (y ∷ ys) (z ∷ zs) puts (None, rest, r, same, count, more)
    changes some =
    let later = changed_in_place names R xs ys zs rest more changes (omega (arith, count)) in
    (suc later.0, later.1)

pub kept_in_place : (R : AObject → AObject → Option AObject → Type 0) (xs ys zs : List AObject)
    (puts : ℕ) → Joined R xs ys zs puts → puts ≡ 0 → zs ≡ xs
kept_in_place R xs ys zs puts h nothing =
    nothing_joined R xs ys zs (subst (λ n. Joined R xs ys zs n) nothing h)

pub joined_by_label : (names names' : ℕ) (xs ys zs : List AObject) → names ≡ names'
    → ((n : ℕ) → own_in_place names zs n
    ≡ join_owns (own_in_place names xs n) (own_in_place names ys n))
    → (l : Label) (k : Key) → property_at zs names l k
    ≡ join_properties (property_at xs names l k) (property_at ys names' l k)
joined_by_label names names' xs ys zs same each l k =
    ap (λ (own : Own). own k) (each (label_number l))
    ∙ ap (λ m. join_properties (property_at xs names l k) (property_at ys m l k)) same

-- what differs at a place differs at its label
pub differs_at_label : (names : ℕ) (xs zs : List AObject) (n : ℕ)
    → own_in_place names zs n ≢ own_in_place names xs n
    → property_at zs names ≢ property_at xs names
differs_at_label names xs zs n apart same =
    apart (sym (ap (own_in_place names zs) (number_label n))
    ∙ ap (λ (f : Label → Own). f (label_at n)) same ∙ ap (own_in_place names xs) (number_label n))

-- ---- an object more

pub aged_in_place : (R : AObject → AObject → Option AObject → Type 0) (s : Site)
    (xs ys zs : List AObject) (puts : ℕ) → Joined R xs ys zs puts
    → ((x y : AObject) (a : Option AObject) → R x y a
    → object_of (kept_or x a) ≡ aged_own s (object_of x)) → (n : ℕ)
    → option_map object_of (slice_get zs n)
    ≡ option_map (λ (o : AObject). aged_own s (object_of o)) (slice_get xs n)
aged_in_place R s [] [] [] puts h ages n = refl
aged_in_place R s [] [] (z ∷ zs) puts h ages n = absurd h
aged_in_place R s [] (y ∷ ys) zs puts h ages n = absurd h
aged_in_place R s (x ∷ xs) [] zs puts h ages n = absurd h
aged_in_place R s (x ∷ xs) (y ∷ ys) [] puts h ages n = absurd h
aged_in_place R s (x ∷ xs) (y ∷ ys) (z ∷ zs) puts h ages zero =
    ap Some (ap object_of h.3 ∙ ages x y h.0 h.2)
aged_in_place R s (x ∷ xs) (y ∷ ys) (z ∷ zs) puts h ages (suc n) =
    aged_in_place R s xs ys zs h.1 h.5 ages n

-- what was new at a site joined into what is old, and an object put in its place
pub moved_by_label : (names : ℕ) (s : Site) (first mid last : List AObject) (o : AObject)
    (older newer : ℕ) → older ≡ label_number (old s) → newer ≡ label_number (new s)
    → newer < length mid
    → ((n : ℕ) → own_in_place names mid n ≡ (if older == n
    then join_owns (own_in_place names first older) (own_in_place names first newer)
    else own_in_place names first n))
    → last ≡ slice_set mid newer o → object_of o ≡ (λ k. absent_property)
    → (l : Label) (k : Key) → property_at last names l k
    ≡ moved_in names s (property_at first names) l k
moved_by_label names s first mid last o older newer is_old is_new within joined is absent l k =
    let n = label_number l in
    let both = λ (a b : ℕ). join_owns (own_in_place names first a) (own_in_place names first b) in
    ap (λ objects. own_in_place names objects n k) is
    ∙ ap (λ (own : Own). own k) (set_in_place names mid newer o within n)
    ∙ ap (λ (own : Own). (if newer == n then own_below names o else own) k) (joined n)
    ∙ (λ i. (if is_new i == n then at_keys_below names (absent i) else if is_old i == n
    then both (is_old i) (is_new i) else own_in_place names first n) k)
    ∙ sym (λ i. (if same_label_is (new s) l i then at_keys_below names (λ j. absent_property)
    else if same_label_is (old s) l i
    then both (label_number (old s)) (label_number (new s)) else own_in_place names first n) k)

-- what is as at entry mentions no object
pub aged_entry : (s : Site) → aged_property s entry_property ≡ entry_property
aged_entry s = λ i. record entry_property {
  value = record entry_property.value { label = λ l. pick (l.site.0 == s.0) l.old i };
}
  where
    pick : (here older : Bool) → (if here then older && false else false) ≡ false
    pick true true = refl
    pick true false = refl
    pick false older = refl

aged_shown : (names : ℕ) (s : Site) (own : Own) (k : Key)
    → at_keys_below names (aged_own s own) k ≡ aged_property s (at_keys_below names own k)
aged_shown names s own k = pick (is_key_below names k)
  where
    pick : (b : Bool) → (if b then aged_property s (own k) else entry_property)
        ≡ aged_property s (if b then own k else entry_property)
    pick true = refl
    pick false = sym (aged_entry s)

pub aged_by_label : (names : ℕ) (s : Site) (xs zs : List AObject)
    → ((n : ℕ) → option_map object_of (slice_get zs n)
    ≡ option_map (λ (o : AObject). aged_own s (object_of o)) (slice_get xs n))
    → (l : Label) (k : Key) → property_at zs names l k ≡ aged_property s (property_at xs names l k)
aged_by_label names s xs zs each l k =
    pick (slice_get zs (label_number l)) (slice_get xs (label_number l)) (each (label_number l))
  where
    shown : Option AObject → AbstractProperty
    shown x = option_map_or (λ (o : AObject). own_below names o k) x entry_property

    pick : (z x : Option AObject) → option_map object_of z
        ≡ option_map (λ (o : AObject). aged_own s (object_of o)) x → shown z
        ≡ aged_property s (shown x)
    pick None None same = sym (aged_entry s)
    pick None (Some x) same = absurd (cc)
    pick (Some z) None same = absurd (cc)
    pick (Some z) (Some x) same =
        ap (λ (own : Own). at_keys_below names own k) (some_is _ _ same)
        ∙ aged_shown names s (object_of x) k

-- what isn't a key of the first names is as at entry
pub beyond_by_label : (names : ℕ) (xs : List AObject) (l : Label) (k : Key)
    → is_key_below names k ≡ false → property_at xs names l k ≡ entry_property
beyond_by_label names xs l k beyond = pick (slice_get xs (label_number l))
  where
    pick : (x : Option AObject)
        → option_map_or (λ (o : AObject). own_below names o k) x entry_property ≡ entry_property
    pick None = refl
    pick (Some x) = ap (λ (b : Bool). if b then object_of x k else entry_property) beyond

-- an object more, in the words of the definitions
pub made_by_label : (h : HeapMap) (s : Site) (aged : Label → Own)
    → ((l : Label) (k : Key) → aged l k ≡ aged_property s (h.property l k))
    → ((l : Label) (k : Key) → is_key_below h.names k ≡ false → h.property l k ≡ entry_property)
    → (l : Label) (k : Key)
    → moved_in h.names s aged l k ≡ at_keys_below h.names (made_property (half h) s l) k
made_by_label h s aged is beyond l k =
    at_key (same_label (new s) l) (same_label (old s) l)
    (at_keys_below h.names (λ j. absent_property)) (join_owns (aged (old s)) (aged (new s)))
    (aged l)
    ∙ pick (is_key_below h.names k) refl
  where
    at_key : (b c : Bool) (f g h : Own) → (if b then f else if c then g else h) k
        ≡ (if b then f k else if c then g k else h k)
    at_key true c f g h = refl
    at_key false true f g h = refl
    at_key false false f g h = refl

    at_end : (b c : Bool) → (if b then entry_property else if c
        then join_properties entry_property entry_property else entry_property) ≡ entry_property
    at_end true c = refl
    at_end false true = refl
    at_end false false = refl

    pick : (below : Bool) → is_key_below h.names k ≡ below
        → (if same_label (new s) l then (if below then absent_property else entry_property)
        else if same_label (old s) l then join_properties (aged (old s) k) (aged (new s) k)
        else aged l k) ≡ (if below then made_property (half h) s l k else entry_property)
    pick true here =
        λ i. if same_label (new s) l then absent_property else if same_label (old s) l
        then join_properties (is (old s) k i) (is (new s) k i) else is l k i
    pick false there =
        let same = λ (m : Label). is m k ∙ ap (aged_property s) (beyond m k there) ∙ aged_entry s in
        (λ i. if same_label (new s) l then entry_property else if same_label (old s) l
        then join_properties (same (old s) i) (same (new s) i) else same l i)
        ∙ at_end (same_label (new s) l) (same_label (old s) l)

-- ---- what an answer says of how many places were put

pub some_put : (puts : ℕ) → true ≡ nat_lt 0 puts → 0 < puts
some_put puts said = grind (arith, nat_tests)

pub none_put : (puts : ℕ) → false ≡ nat_lt 0 puts → puts ≡ 0
none_put puts said = grind (arith, nat_tests)

-- ---- counts of nodes

-- none for no place
pub no_paths : (long puts from to : ℕ) → puts ≡ 0 → ArePaths long puts from to → to ≤ from
no_paths long puts from to nothing h =
    let none : (long + 1) * puts ≡ 0 = ap (λ n. (long + 1) * n) nothing ∙ omega arith in
    omega (arith, h long (long_power long))

-- those for some places and for others
pub more_paths : (long some more from mid to : ℕ) → ArePaths long some from mid
    → ArePaths long more mid to → ArePaths long (some + more) from to
more_paths long some more from mid to h k d room =
    let all : (d + 1) * (some + more) ≡ (d + 1) * some + (d + 1) * more = omega arith in
    omega (arith, h d room, k d room)
