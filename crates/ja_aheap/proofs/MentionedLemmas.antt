-- The labels that the properties of a heap may be, among a set.
use Rattle.std.proofs.Common.{◌≡◌, ◌≢◌, ◌==◌, ◌||◌, ◌&&◌, ◌<◌, ◌*◌, nat_lt, ℕ, Ok, Err, List, [], ◌∷◌, map, Bool, true, false, Option, Some, None, if◌then◌else◌, length, refl, ap, sym, ◌∙◌, subst, ⊎_elim}
use Rattle.std.specs.Prelude.{slice_set, Result, IfOk, OnErr, IsTrue}
use Rattle.std.specs.Ordering.{nat_cmp}
use Rattle.std.specs.Option.{option_map_or}
use Rattle.std.specs.declared.rc.Rc.{Rc}
use Rattle.std.specs.Global.{Global}
use Rattle.std.specs.BTreeMap.{BTreeMap, get}
use Rattle.std.specs.Map.Iter.{deref_pair, TakesFirst}
use Rattle.std.proofs.lemmas.Bool.{cases_eq, false≢true}
use Rattle.std.proofs.lemmas.Map.Iter.{rest_more}
use denote.Ref.{Bor}
use Rattle.ja_base.specs.declared.ids.Label.{Label}
use Rattle.ja_base.specs.declared.ids.Site.{Site}
use Rattle.ja_base.proofs.Options.{none_not_some}
use Rattle.ja_abstract.specs.declared.abstraction.Key.{Key}
use Rattle.ja_abstract.specs.declared.abstraction.Mask.{Mask}
use Rattle.ja_abstract.specs.AbstractValue.{Labels, AbstractProperty, same_label, join_properties, absent_property, entry_property}
use Rattle.ja_abstract.specs.AbstractState.{label_number, key_number, new, old, aged_property}
use Rattle.ja_abstract.specs.Made.{Own}
use Rattle.ja_abstract.specs.Resolved.{renamed, renamed_labels, known_part, join_all, origins}
use Rattle.ja_value.specs.declared.property.AProp.{AProp}
use Rattle.ja_value.specs.Labels.{label_at, aged_labels}
use Rattle.ja_value.specs.Value.{property_of}
use Rattle.ja_value.proofs.LabelLemmas.{number_label}
use Rattle.ja_aheap.specs.declared.object.AObject.{AObject}
use Rattle.ja_aheap.specs.KeysBelow.{is_key_below, at_keys_below}
use Rattle.ja_aheap.specs.Heap.{property_at}
use Rattle.ja_aheap.specs.Objects.{at, object_of, shared_property}
use Rattle.ja_aheap.specs.code.Mentioned.{AreAmong, AreMentioned}
use Rattle.ja_aheap.specs.code.Own.{own_below, own_in_place, join_owns, moved_in}
use Rattle.ja_aheap.proofs.HeapLemmas.{set_in_place}
use Rattle.ja_aheap.proofs.ComposingLemmas.{resolved_by}
use Rattle.ja_aheap.proofs.KeptLemmas.{or_nothing}
use Rattle.ja_aheap.proofs.UpdateLemmas.{label_within}
use Rattle.ja_aheap.proofs.MapLemmas.{found, later, equal_from_test, some_is, Passing, passing_turn}

-- ---- sets within others

-- a property may be no label but those of a set
abbrev pub MayBe : AbstractProperty → Labels → Type 0
MayBe q set = AreAmong q.value.label set

pub among_first : (some set more : Labels) → AreAmong some set
    → AreAmong some (λ l. set l || more l)
among_first some set more h l there = ap (λ b. b || more l) (h l there)

or_true : (a b : Bool) → b ≡ true → (a || b) ≡ true
or_true true b h = refl
or_true false b h = h

pub among_second : (some set more : Labels) → AreAmong some more
    → AreAmong some (λ l. set l || more l)
among_second some set more h l there = or_true (set l) (more l) (h l there)

one_of : (a b c : Bool) → (a ≡ true → c ≡ true) → (b ≡ true → c ≡ true) → (a || b) ≡ true
    → c ≡ true
one_of true b c first second h = first refl
one_of false b c first second h = second h

pub both_among : (a b : AbstractProperty) (set : Labels) → MayBe a set → MayBe b set
    → MayBe (join_properties a b) set
both_among a b set h k l there =
    one_of (a.value.label l) (b.value.label l) (set l) (h l) (k l) there

pub among_same : (some set next : Labels) → next ≡ set → AreAmong some set → AreAmong some next
among_same some set next same h = subst (AreAmong some) (sym same) h

nothing_among : (set : Labels) → AreAmong (λ l. false) set
nothing_among set l there = absurd (false≢true there)

-- ---- an object

-- The properties that are still ahead; the labels of the others are among the set.
pub record Mentioning (other start : Labels) (listed : BTreeMap ℕ (Rc AProp Global))
    (rest : List (ℕ × Rc AProp Global)) (set : Labels) : Type 0 where
  pub passing : Passing listed.entries rest
  pub kept : AreAmong start set
  pub common : AreAmong other set
  pub passed : (q : ℕ) (p : Rc AProp Global) → found listed.entries q ≡ Some p
      → found rest q ≡ None → MayBe (shared_property p) set

-- the common property is passed
pub mentioning_start : (other start set : Labels) (listed : BTreeMap ℕ (Rc AProp Global))
    → (rest : List (ℕ × Rc AProp Global)) → rest ≡ listed.entries → Passing listed.entries rest
    → set ≡ (λ l. start l || other l) → Mentioning other start listed rest set
mentioning_start other start set listed rest all passing joined = record {
  passing = passing;
  kept = among_same start (λ l. start l || other l) set joined
      (among_first start start other (λ l there. there));
  common = among_same other (λ l. start l || other l) set joined
      (among_second other start other (λ l there. there));
  passed = λ q p at over.
      absurd (none_not_some (sym over ∙ ap (λ es. found es q) all ∙ at));
}

-- one property more
pub mentioning_turn : (common start : Labels) (listed : BTreeMap ℕ (Rc AProp Global))
    (set more : Labels) (s t : List (ℕ × Rc AProp Global))
    (r : Option (Bor ℕ × Bor (Rc AProp Global))) (x : Bor ℕ × Bor (Rc AProp Global))
    → r ≡ Some x → TakesFirst (deref_pair {K = ℕ} {X = Rc AProp Global}) s r t
    → more ≡ (λ l. set l || (shared_property x.1.now).value.label l)
    → Mentioning common start listed s set → Mentioning common start listed t more
mentioning_turn common start listed set more s t r x is step joined h =
    let here : Labels = (shared_property x.1.now).value.label in
    let turn = passing_turn listed.entries s t r x is step h.passing in
    let still = λ (some : Labels) (among : AreAmong some set).
    among_same some (λ l. set l || here l) more joined (among_first some set here among) in
    record {
      passing = turn.1;
      kept = still start h.kept;
      common = still common h.common;
      passed =
          λ q p at over. ⊎_elim
          (λ (same : x.0.now ≡ q).
          subst (λ (p : Rc AProp Global). MayBe (shared_property p) more)
          (some_is _ _ (sym (subst (λ n. found listed.entries n ≡ Some x.1.now) same turn.0) ∙ at))
          (among_same here (λ l. set l || here l) more joined
          (among_second here set here (λ l there. there))))
          (λ (apart : x.0.now ≢ q). still (shared_property p).value.label
          (h.passed q p at (ap (λ rest. found rest q) (rest_more deref_pair s t r x is step)
          ∙ later (deref_pair x) t q apart ∙ over)))
          (cases_eq x.0.now q);
    }

-- all properties are passed
pub mentioning_end : (start : Labels) (o : AObject) (rest : List (ℕ × Rc AProp Global))
    (set : Labels) → rest ≡ []
    → Mentioning (property_of o.common).value.label start o.listed rest set → (q : ℕ)
    → MayBe (at o q) set
mentioning_end start o rest set over h q = pick (get nat_cmp o.listed q) refl
  where
    pick : (x : Option (Rc AProp Global)) → get nat_cmp o.listed q ≡ x
        → MayBe (option_map_or shared_property x (property_of o.common)) set
    pick None is = h.common
    pick (Some p) is = h.passed q p is (ap (λ left. found left q) over)

pub mentioned_at_key : (names : ℕ) (own : Own) (set : Labels) (k : Key) → MayBe (own k) set
    → MayBe (at_keys_below names own k) set
mentioned_at_key names own set k h = pick (is_key_below names k)
  where
    pick : (b : Bool) → MayBe (if b then own k else entry_property) set
    pick true = h
    pick false = nothing_among set

-- ---- objects at their places

pub mentioned_more : (names : ℕ) (objects : List AObject) (set more : Labels)
    → AreAmong set more → AreMentioned names objects set → AreMentioned names objects more
mentioned_more names objects set more kept h n k l there = kept l (h n k l there)

-- where each property is as at entry
pub mentioned_nowhere : (names : ℕ) (objects : List AObject) (set : Labels)
    → ((n : ℕ) (k : Key) → own_in_place names objects n k ≡ entry_property)
    → AreMentioned names objects set
mentioned_nowhere names objects set entry n k =
    subst (λ q. MayBe q set) (sym (entry n k)) (nothing_among set)

-- one object put at a place
pub mentioned_set : (names : ℕ) (objects next : List AObject) (set more : Labels) (n : ℕ)
    (o : AObject) → n < length objects → next ≡ slice_set objects n o
    → ((q : ℕ) → MayBe (at o q) more) → AreAmong set more → AreMentioned names objects set
    → AreMentioned names next more
mentioned_set names objects next set more n o within put its kept h m k =
    subst (λ (own : Own). MayBe (own k) more)
    (sym (ap (λ os. own_in_place names os m) put ∙ set_in_place names objects n o within m))
    (pick (n == m))
  where
    pick : (b : Bool) → MayBe ((if b then own_below names o else own_in_place names objects m) k)
        more
    pick true = mentioned_at_key names (object_of o) more k (its (key_number k))
    pick false = mentioned_more names objects set more kept h m k

-- one object put at a label, or none where memory is refused
pub mentioned_put : {E : Type 0} (r : Result (Unit {0}) E) (names sites : ℕ)
    (objects next : List AObject) (set more : Labels) (n : ℕ) (label : Label) (o : AObject)
    → n ≡ label_number label → IsTrue (nat_lt label.site.0 sites) → length objects ≡ 2 * sites
    → IfOk r (λ _. next ≡ slice_set objects n o) → OnErr r (next ≡ objects)
    → ((q : ℕ) → MayBe (at o q) more) → AreAmong set more → AreMentioned names objects set
    → AreMentioned names next more
mentioned_put (Ok a) names sites objects next set more n label o is has long put same its kept h =
    mentioned_set names objects next set more n o
    (subst (λ m. m < length objects) (sym is)
    (label_within label sites (length objects) has long)) put its kept h
mentioned_put (Err e) names sites objects next set more n label o is has long put same its kept h =
    subst (λ (os : List AObject). AreMentioned names os more) (sym same)
    (mentioned_more names objects set more kept h)

-- what was in a set stays, also where memory is refused
pub joined_kept : {A E : Type 0} (r : Result A E) (set more next : Labels)
    → IfOk r (λ _. next ≡ (λ l. set l || more l)) → OnErr r (next ≡ set) → AreAmong set next
joined_kept (Ok a) set more next joined same =
    among_same set (λ l. set l || more l) next joined
    (among_first set set more (λ l there. there))
joined_kept (Err e) set more next joined same =
    among_same set set next same (λ l there. there)

pub mentioned_joined : (names names' : ℕ) (a b both : List AObject) (set more all : Labels)
    → names ≡ names' → ((n : ℕ) → own_in_place names both n
    ≡ join_owns (own_in_place names a n) (own_in_place names b n))
    → all ≡ (λ l. set l || more l) → AreMentioned names a set → AreMentioned names' b more
    → AreMentioned names both all
mentioned_joined names names' a b both set more all same joined is h h' n k =
    among_same _ (λ l. set l || more l) all is
    (subst (λ (own : Own). MayBe (own k) (λ l. set l || more l)) (sym (joined n))
    (both_among (own_in_place names a n k) (own_in_place names b n k) (λ l. set l || more l)
    (among_first _ set more (h n k)) (among_second _ set more
    (subst (λ m. MayBe (own_in_place m b n k) more) (sym same) (h' n k)))))

-- what is mentioned at each label is at each place
pub mentioned_by_label : (names : ℕ) (objects : List AObject) (set : Labels)
    → ((l : Label) (k : Key) → MayBe (property_at objects names l k) set)
    → AreMentioned names objects set
mentioned_by_label names objects set each n k =
    subst (λ m. MayBe (own_in_place names objects m k) set) (number_label n) (each (label_at n) k)

-- ---- an object more

aged_among : (s : Site) (q : AbstractProperty) (set : Labels) → MayBe q set
    → MayBe (aged_property s q) (aged_labels s set)
aged_among s q set h l = pick (l.site.0 == s.0) l.old
  where
    pick : (here older : Bool)
        → (if here then older && (q.value.label (old s) || q.value.label (new s))
        else q.value.label l) ≡ true
        → (if here then older && (set (old s) || set (new s)) else set l) ≡ true
    pick true true there =
        one_of (q.value.label (old s)) (q.value.label (new s)) (set (old s) || set (new s))
        (λ is. ap (λ b. b || set (new s)) (h (old s) is))
        (λ is. or_true (set (old s)) (set (new s)) (h (new s) is)) there
    pick true false there = there
    pick false older there = h l there

-- what may not be the object that was new
pub aged_apart : (s : Site) (q : AbstractProperty) → q.value.label (new s) ≡ false
    → q ≡ aged_property s q
aged_apart s q apart = λ i. record q {
  value = record q.value { label = λ l. pick l (l.site.0 == s.0) refl l.old refl i };
}
  where
    pick : (l : Label) (here : Bool) → (l.site.0 == s.0) ≡ here → (older : Bool) → l.old ≡ older
        → q.value.label l ≡ (if here
        then older && (q.value.label (old s) || q.value.label (new s)) else q.value.label l)
    pick l true same true is =
        (λ i. q.value.label (record {
          site = record { 0 = equal_from_test l.site.0 s.0 same i };
          old = is i;
        }))
        ∙ sym (or_nothing (q.value.label (old s)) (q.value.label (new s)) apart)
    pick l true same false is =
        (λ i. q.value.label (record {
          site = record { 0 = equal_from_test l.site.0 s.0 same i };
          old = is i;
        }))
        ∙ apart
    pick l false same older is = refl

-- where no property may be the object that was new
pub unmentioned : (names : ℕ) (s : Site) (objects same : List AObject) (set : Labels)
    → AreMentioned names objects set → set (new s) ≡ false → same ≡ objects
    → (l : Label) (k : Key)
    → property_at same names l k ≡ aged_property s (property_at objects names l k)
unmentioned names s objects same set h apart is l k =
    ap (λ os. property_at os names l k) is
    ∙ aged_apart s (property_at objects names l k)
    (pick ((property_at objects names l k).value.label (new s)) refl)
  where
    pick : (b : Bool) → (property_at objects names l k).value.label (new s) ≡ b → b ≡ false
    pick true there =
        absurd (false≢true (sym apart ∙ h (label_number l) k (new s) there))
    pick false there = refl

-- the objects after an object more was made at a site
pub mentioned_made : (names : ℕ) (s : Site) (objects aged made : List AObject)
    (set more : Labels) → ((l : Label) (k : Key) → property_at aged names l k
    ≡ aged_property s (property_at objects names l k))
    → ((l : Label) (k : Key) → property_at made names l k
    ≡ moved_in names s (property_at aged names) l k) → more ≡ aged_labels s set
    → AreMentioned names objects set → AreMentioned names made more
mentioned_made names s objects aged made set more ages moves is h =
    mentioned_by_label names made more (λ l k. among_same _ (aged_labels s set) more is
    (subst (λ q. MayBe q (aged_labels s set)) (sym (moves l k))
    (pick l k (same_label (new s) l) (same_label (old s) l))))
  where
    here : (l : Label) (k : Key) → MayBe (property_at aged names l k) (aged_labels s set)
    here l k = subst (λ q. MayBe q (aged_labels s set)) (sym (ages l k))
        (aged_among s (property_at objects names l k) set (h (label_number l) k))

    pick : (l : Label) (k : Key) (b c : Bool)
        → MayBe ((if b then at_keys_below names (λ k. absent_property)
        else if c then join_owns (property_at aged names (old s)) (property_at aged names (new s))
        else property_at aged names l) k) (aged_labels s set)
    pick l k true c = mentioned_at_key names (λ k. absent_property) (aged_labels s set) k
        (nothing_among (aged_labels s set))
    pick l k false true = both_among (property_at aged names (old s) k)
        (property_at aged names (new s) k) (aged_labels s set) (here (old s) k) (here (new s) k)
    pick l k false false = here l k

-- ---- a heap read through a later one

renamed_among : (mask : ℕ → Mask) (q : AbstractProperty) (set : Labels) → MayBe q set
    → MayBe (renamed mask q) (renamed_labels mask set)
renamed_among mask q set h l = pick l.old
  where
    both : (a b c : Bool) → (a ≡ true → b ≡ true) → (a && c) ≡ true → (b && c) ≡ true
    both true b c le there = ap (λ x. x && c) (le refl) ∙ there
    both false b c le there = absurd (false≢true there)

    pick : (o : Bool)
        → (if o then q.value.label (old l.site)
        || (q.value.label (new l.site) && (mask l.site.0).some)
        else q.value.label (new l.site) && (mask l.site.0).none) ≡ true
        → (if o then set (old l.site) || (set (new l.site) && (mask l.site.0).some)
        else set (new l.site) && (mask l.site.0).none) ≡ true
    pick true there =
        one_of (q.value.label (old l.site)) (q.value.label (new l.site) && (mask l.site.0).some)
        (set (old l.site) || (set (new l.site) && (mask l.site.0).some))
        (λ is. ap (λ b. b || (set (new l.site) && (mask l.site.0).some)) (h (old l.site) is))
        (λ is. or_true (set (old l.site)) (set (new l.site) && (mask l.site.0).some)
        (both (q.value.label (new l.site)) (set (new l.site)) (mask l.site.0).some
        (h (new l.site)) is)) there
    pick false there =
        both (q.value.label (new l.site)) (set (new l.site)) (mask l.site.0).none
        (h (new l.site)) there

all_among : (f : Label → AbstractProperty) (set : Labels) → ((m : Label) → MayBe (f m) set)
    → (ms : List Label) → MayBe (join_all (map f ms)) set
all_among f set each [] = nothing_among set
all_among f set each (m ∷ ms) =
    both_among (f m) (join_all (map f ms)) set (each m) (all_among f set each ms)

resolved_among : (mask : ℕ → Mask) (q : AbstractProperty) (f : Label → AbstractProperty)
    (l : Label) (set : Labels) → MayBe q set → ((m : Label) → MayBe (renamed mask (f m)) set)
    → MayBe (resolved_by mask q f l) set
resolved_among mask q f l set h each = pick q.value.flags.entry
  where
    pick : (b : Bool) → MayBe (if b then join_properties (known_part q)
        (join_all (map (λ (m : Label). renamed mask (f m)) (origins mask l))) else q) set
    pick true = both_among (known_part q)
        (join_all (map (λ (m : Label). renamed mask (f m)) (origins mask l))) set h
        (all_among (λ m. renamed mask (f m)) set each (origins mask l))
    pick false = h

pub mentioned_composed : (names names' : ℕ) (mask : ℕ → Mask)
    (first later objects : List AObject) (set more all : Labels) → names ≡ names'
    → ((l : Label) (k : Key) → property_at objects names l k
    ≡ at_keys_below names (λ j. resolved_by mask (property_at later names l j)
    (λ m. property_at first names m j) l) k)
    → all ≡ (λ l. renamed_labels mask set l || more l) → AreMentioned names first set
    → AreMentioned names' later more → AreMentioned names objects all
mentioned_composed names names' mask first later objects set more all same each is h h' =
    mentioned_by_label names objects all (λ l k. among_same _ both all is
    (subst (λ q. MayBe q both) (sym (each l k))
    (mentioned_at_key names (λ j. resolved_by mask (property_at later names l j)
    (λ m. property_at first names m j) l) both k
    (resolved_among mask (property_at later names l k) (λ m. property_at first names m k) l both
    (among_second _ (renamed_labels mask set) more
    (subst (λ n. MayBe (property_at later n l k) more) (sym same) (h' (label_number l) k)))
    (λ m. among_first _ (renamed_labels mask set) more
    (renamed_among mask (property_at first names m k) set (h (label_number m) k)))))))
  where
    both : Labels
    both l = renamed_labels mask set l || more l
