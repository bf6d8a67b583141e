-- A heap read through a later one, object by object and mask by mask.
use Rattle.std.proofs.Common.{◌≡◌, ◌≢◌, ◌==◌, ◌+◌, ◌*◌, ◌<◌, ◌≤◌, ◌||◌, ⊎_elim, ℕ, List, [], ◌∷◌, Bool, true, false, Option, Some, None, is_some, if◌then◌else◌, map, length, refl, ap, sym, ◌∙◌, subst, arith, slice_get, slice_set, unwrap_or}
use Rattle.std.proofs.lemmas.Bool.{cases_eq, cases_lt}
use Rattle.std.proofs.Math.Nat.{mul-le-mul_left}
use Rattle.std.proofs.lemmas.Option.{slice_get_past}
use Rattle.std.specs.Option.{option_map_or}
use Rattle.std.specs.Ordering.{nat_cmp}
use Rattle.std.specs.BTreeMap.{BTreeMap, get}
use Rattle.ja_base.specs.declared.ids.Label.{Label}
use Rattle.ja_base.proofs.Lists.{map_after, element_within}
use Rattle.ja_base.proofs.Options.{none_not_some}
use Rattle.ja_base.proofs.Tests.{or_left_false, or_right_false}
use Rattle.ja_machine.proofs.Lists.{slice_get-set_same, slice_get-set_other}
use Rattle.ja_abstract.specs.declared.abstraction.Key.{Key}
use Rattle.ja_abstract.specs.declared.abstraction.Mask.{Mask}
use Rattle.ja_abstract.specs.AbstractValue.{AbstractProperty, join_properties, no_property, entry_property}
use Rattle.ja_abstract.specs.AbstractState.{label_number, new, old, exactly_none}
use Rattle.ja_abstract.specs.Composed.{composed_mask}
use Rattle.ja_abstract.specs.Resolved.{renamed, known_part, join_all, origins}
use Rattle.ja_value.specs.Labels.{label_at, mask_in}
use Rattle.ja_aheap.specs.declared.object.AObject.{AObject}
use Rattle.ja_aheap.specs.KeysBelow.{is_key_below, at_keys_below}
use Rattle.ja_aheap.specs.Heap.{property_at}
use Rattle.ja_aheap.specs.Objects.{object_of}
use Rattle.ja_aheap.specs.code.Composed.{composed_property, read_at, composed_of, IsComposed, at_place, Composing}
use Rattle.ja_aheap.specs.code.Masks.{AreMasks, NothingBeyond, both_masks}
use Rattle.ja_trie.specs.Nodes.{ArePaths}
use Rattle.ja_aheap.proofs.UpdateLemmas.{number_within, number_beyond}
use Rattle.ja_aheap.proofs.HeapLaws.{shown_other}
use Rattle.ja_aheap.proofs.MapLemmas.{found, some_is, equal_from_test}
use Rattle.ja_aheap.proofs.LabelLemmas.{label_number_at}
use Rattle.ja_value.proofs.LabelLemmas.{number_label}
use Rattle.std.proofs.Math.ListN.{length-set}

-- ---- the loop over all labels

-- one turn, where the object of a label stays, and where it is put
pub composing_kept : (names : ℕ) (first later objects : List AObject) (mask : ℕ → Mask) (n : ℕ)
    (label : Label) (x : Option AObject)
    → label ≡ label_at n → Composing names first later mask objects n
    → IsComposed names first later mask label x → x ≡ None
    → Composing names first later mask objects (n + 1)
composing_kept names first later objects mask n label x is h composed none =
    let kept = subst (IsComposed names first later mask label) none composed in record {
      passed =
          λ m below k key. ⊎_elim
          (λ (e : n ≡ m). subst (λ (p : ℕ).
          at_place objects p k ≡ composed_of first later mask (label_at p) k) e
          (ap (λ (x : Option AObject). option_map_or (λ (o : AObject). object_of o k) x no_property)
          (h.ahead n (omega arith) ∙ ap (slice_get first) (sym (number_label n)))
          ∙ subst (λ (l : Label). read_at (λ (o : AObject). object_of o k) first l
          ≡ composed_of first later mask l k) is (kept k key)))
          (λ (apart : n ≢ m). h.passed m (omega arith) k key)
          (cases_eq n m);
      ahead = λ m above. h.ahead m (omega arith);
      long = h.long;
    }

pub composing_put : (names : ℕ) (first later objects next : List AObject) (mask : ℕ → Mask)
    (n : ℕ) (label : Label) (o : AObject) (x : Option AObject)
    → label ≡ label_at n → n < length first → next ≡ slice_set objects n o
    → Composing names first later mask objects n → IsComposed names first later mask label x
    → x ≡ Some o → Composing names first later mask next (n + 1)
composing_put names first later objects next mask n label o x is within put h composed some =
    let here = subst (IsComposed names first later mask label) some composed in
    let here_is : slice_get next n ≡ Some o = ap (λ (os : List AObject). slice_get os n) put
    ∙ slice_get-set_same objects n o (omega (arith, h.long)) in
    let there : (m : ℕ) → m ≢ n → slice_get next m ≡ slice_get objects m = λ m apart.
    ap (λ (os : List AObject). slice_get os m) put ∙ slice_get-set_other objects n m o apart in
    record {
      passed =
          λ m below k key. ⊎_elim
          (λ (e : n ≡ m). subst (λ (p : ℕ).
          at_place next p k ≡ composed_of first later mask (label_at p) k) e
          (ap (λ (x : Option AObject). option_map_or (λ (o : AObject). object_of o k) x no_property)
          here_is ∙ here k key
          ∙ ap (λ (l : Label). composed_of first later mask l k) is))
          (λ (apart : n ≢ m).
          ap (λ (x : Option AObject). option_map_or (λ (o : AObject). object_of o k) x no_property)
          (there m (λ same. apart (sym same))) ∙ h.passed m (omega arith) k key)
          (cases_eq n m);
      ahead = λ m above. there m (omega arith) ∙ h.ahead m (omega arith);
      long = ap length put ∙ length-set objects n o ∙ h.long;
    }

-- some turns, where the objects of the labels are known to stay
pub composing_until : (names : ℕ) (first later objects : List AObject) (mask : ℕ → Mask) (n p : ℕ)
    → n ≤ p → Composing names first later mask objects n
    → ((m : ℕ) → n ≤ m → m < p → IsComposed names first later mask (label_at m) None)
    → Composing names first later mask objects p
composing_until names first later objects mask n p rises h stay = record {
  passed =
      λ m below k key. ⊎_elim (λ (before : m < n). h.passed m before k key)
      (λ (from : n ≤ m).
      ap (λ (x : Option AObject). option_map_or (λ (o : AObject). object_of o k) x no_property)
      (h.ahead m from ∙ ap (slice_get first) (sym (number_label m))) ∙ stay m from below k key)
      (cases_lt m n);
  ahead = λ m above. h.ahead m (omega (arith, above, rises));
  long = h.long;
}

-- ---- what the heaps show

-- .. of an object of the program at a key of it, and of no object
pub shown_here : (objects : List AObject) (names : ℕ) (l : Label) (k : Key)
    → is_key_below names k ≡ true → label_number l < length objects
    → property_at objects names l k ≡ read_at (λ (o : AObject). object_of o k) objects l
shown_here objects names l k key within =
    let there = element_within objects (label_number l) within in
    ap (λ (x : Option AObject). option_map_or (λ (o : AObject). at_keys_below names (object_of o) k)
    x entry_property) there.1
    ∙ ap (λ (b : Bool). if b then object_of there.0 k else entry_property) key
    ∙ sym (ap (λ (x : Option AObject). option_map_or (λ (o : AObject). object_of o k) x
    no_property) there.1)

pub shown_beyond : (objects : List AObject) (names : ℕ) (l : Label) (k : Key)
    → length objects ≤ label_number l → property_at objects names l k ≡ entry_property
shown_beyond objects names l k beyond =
    ap (λ (x : Option AObject). option_map_or (λ (o : AObject). at_keys_below names (object_of o) k)
    x entry_property) (slice_get_past objects (label_number l) beyond)

-- ---- the resolved reading of a label

abbrev pub resolved_by : (ℕ → Mask) → AbstractProperty → (Label → AbstractProperty) → Label
    → AbstractProperty
resolved_by mask q f l =
    if q.value.flags.entry then join_properties (known_part q)
    (join_all (map (λ (m : Label). renamed mask (f m)) (origins mask l))) else q

-- origins are labels of the site
pub origins_same : (f g : Label → AbstractProperty) (mask : ℕ → Mask) (l : Label)
    → f (new l.site) ≡ g (new l.site) → f (old l.site) ≡ g (old l.site)
    → map f (origins mask l) ≡ map g (origins mask l)
origins_same f g mask l news olds = pick l.old (mask l.site.0).some (mask l.site.0).none
  where
    pick : (o some none : Bool)
        → map f (if o then old l.site ∷ (if some then new l.site ∷ [] else [])
        else (if none then new l.site ∷ [] else []))
        ≡ map g (if o then old l.site ∷ (if some then new l.site ∷ [] else [])
        else (if none then new l.site ∷ [] else []))
    pick true true none = λ i. olds i ∷ news i ∷ []
    pick true false none = λ i. olds i ∷ []
    pick false some true = λ i. news i ∷ []
    pick false some false = refl

-- where nothing was made and all is as at entry, it stays so
pub nothing_resolved : (mask : ℕ → Mask) (f : Label → AbstractProperty) (l : Label)
    → mask l.site.0 ≡ exactly_none → f (new l.site) ≡ entry_property
    → f (old l.site) ≡ entry_property
    → resolved_by mask entry_property f l ≡ entry_property
nothing_resolved mask f l none news olds =
    ap (λ (qs : List AbstractProperty). join_properties (known_part entry_property) (join_all qs))
    (origins_same (λ m. renamed mask (f m)) (λ m. entry_property) mask l
    (ap (renamed mask) news ∙ entry_renamed mask) (ap (renamed mask) olds ∙ entry_renamed mask))
    ∙ pick l.old (mask l.site.0) none
  where
    entry_renamed : (mask : ℕ → Mask) → renamed mask entry_property ≡ entry_property
    entry_renamed mask = λ i. record entry_property {
      value = record entry_property.value { label = λ l. (none_renamed l.old) i };
    }
      where
        none_renamed : (o : Bool) → (if o then false else false) ≡ false
        none_renamed true = refl
        none_renamed false = refl

    pick : (o : Bool) (m : Mask) → m ≡ exactly_none
        → join_properties (known_part entry_property) (join_all (map
        (λ (m : Label). entry_property)
        (if o then old l.site ∷ (if m.some then new l.site ∷ [] else [])
        else (if m.none then new l.site ∷ [] else [])))) ≡ entry_property
    pick true m none = ap (λ (m : Mask). join_properties (known_part entry_property) (join_all (map
        (λ (m : Label). entry_property)
        (old l.site ∷ (if m.some then new l.site ∷ [] else []))))) none
    pick false m none = ap (λ (m : Mask). join_properties (known_part entry_property) (join_all (map
        (λ (m : Label). entry_property)
        (if m.none then new l.site ∷ [] else [])))) none

-- the composed object of a label that is as at entry in both, of a site at which nothing is made,
-- is the one that is there
pub untouched_composed : (names : ℕ) (first later : List AObject) (mask : ℕ → Mask) (l : Label)
    → label_number (old l.site) < length first → label_number (old l.site) < length later
    → mask l.site.0 ≡ exactly_none
    → ((m : Label) (k : Key) → l.site.0 ≤ m.site.0 → m.site.0 < l.site.0 + 1
    → property_at first names m k ≡ entry_property)
    → ((m : Label) (k : Key) → l.site.0 ≤ m.site.0 → m.site.0 < l.site.0 + 1
    → property_at later names m k ≡ entry_property)
    → IsComposed names first later mask l None
untouched_composed names first later mask l among among_later none firsts laters k key =
    seen first among firsts l.old
    ∙ sym (ap (λ (qs : List AbstractProperty). join_properties (known_part entry_property)
    (join_all qs)) (map_after g (renamed mask) (λ (m : Label). renamed mask (g m)) (λ m. refl)
    (origins mask l))
    ∙ nothing_resolved mask g l none (seen first among firsts false) (seen first among firsts true))
    ∙ ap (λ (q : AbstractProperty). composed_property mask q (map g (origins mask l)))
    (sym (seen later among_later laters l.old))
  where
    g : Label → AbstractProperty
    g m = read_at (λ (o : AObject). object_of o k) first m

    at_most : (b : Bool) → (if b then 1 else 0) ≤ 1
    at_most true = omega arith
    at_most false = omega arith

    seen : (objects : List AObject) → label_number (old l.site) < length objects
        → ((m : Label) (k : Key) → l.site.0 ≤ m.site.0 → m.site.0 < l.site.0 + 1
        → property_at objects names m k ≡ entry_property) → (b : Bool)
        → read_at (λ (o : AObject). object_of o k) objects (record { site = l.site; old = b })
        ≡ entry_property
    seen objects within all b =
        sym (shown_here objects names (record { site = l.site; old = b }) k key
        (omega (arith, within, at_most b)))
        ∙ all (record { site = l.site; old = b }) k (omega arith) (omega arith)

-- ---- masks

pub masks_all : (first later composed empty : BTreeMap ℕ Mask)
    → AreMasks (both_masks first later) composed
    → ((q : ℕ) → is_some (get nat_cmp composed q) ≡ (is_some (get nat_cmp later q)
    || (is_some (get nat_cmp first q) || is_some (get nat_cmp empty q)))) → (s : ℕ)
    → mask_in composed s ≡ both_masks first later s
masks_all first later composed empty right kept s = pick (get nat_cmp composed s) refl
  where
    none_kept : (x : Option Mask) → is_some x ≡ false → unwrap_or x exactly_none ≡ exactly_none
    none_kept None none = refl
    none_kept (Some m) none = absurd (cc)

    pick : (x : Option Mask) → get nat_cmp composed s ≡ x
        → unwrap_or x exactly_none ≡ both_masks first later s
    pick (Some m) is = right s m is
    pick None is =
        let all = sym (kept s) ∙ ap is_some is in
        let rest = or_right_false (is_some (get nat_cmp later s)) _ all in
        sym (λ i. composed_mask (none_kept (get nat_cmp first s) (or_left_false _ _ rest) i)
        (none_kept (get nat_cmp later s) (or_left_false _ _ all) i))

pub no_masks : (m : BTreeMap ℕ Mask) (f : ℕ → Mask) → m.entries ≡ [] → AreMasks f m
no_masks m f empty q mask is =
    absurd (none_not_some (sym (ap (λ (es : List (ℕ × Mask)). found es q) empty) ∙ is))

pub mask_put : (f : ℕ → Mask) (old new : BTreeMap ℕ Mask) (site : ℕ) (mask : Mask)
    → ((q : ℕ) → get nat_cmp new q ≡ (if site == q then Some mask else get nat_cmp old q))
    → mask ≡ f site → AreMasks f old → AreMasks f new
mask_put f old new site mask put is right q m at =
    pick (site == q) refl (sym (put q) ∙ at)
  where
    pick : (b : Bool) → (site == q) ≡ b → (if b then Some mask else get nat_cmp old q) ≡ Some m
        → m ≡ f q
    pick true same at = sym (some_is mask m at) ∙ is ∙ ap f (equal_from_test site q same)
    pick false same at = right q m at

-- ---- the whole heap

pub heap_composed : (first later objects : List AObject) (names sites : ℕ) (mask : ℕ → Mask)
    → length first ≡ 2 * sites → length later ≡ 2 * sites → NothingBeyond sites mask
    → Composing names first later mask objects (2 * sites) → (l : Label) (k : Key)
    → property_at objects names l k
    ≡ at_keys_below names (λ j. resolved_by mask (property_at later names l j)
    (λ m. property_at first names m j) l) k
heap_composed first later objects names sites mask long_first long_later beyond h l k =
    pick (is_key_below names k) refl
  where
    g : Label → AbstractProperty
    g m = property_at first names m k

    f : Label → AbstractProperty
    f m = read_at (λ (o : AObject). object_of o k) first m

    whole : AbstractProperty
    whole = resolved_by mask (property_at later names l k) g l

    here : is_key_below names k ≡ true → l.site.0 < sites → property_at objects names l k ≡ whole
    here key below =
        let seen = λ (m : Label) (b : m.site.0 < sites). shown_here first names m k key
        (number_within m sites (length first) b long_first) in
        let past = origins_same f g mask l (sym (seen (new l.site) below))
        (sym (seen (old l.site) below)) in
        shown_here objects names l k key
        (number_within l sites (length objects) below (h.long ∙ long_first))
        ∙ h.passed (label_number l) (number_within l sites (2 * sites) below refl) k key
        ∙ ap (λ (m : Label). composed_of first later mask m k) (label_number_at l)
        ∙ (λ i. composed_property mask (sym (shown_here later names l k key
        (number_within l sites (length later) below long_later)) i) (past i))
        ∙ ap (λ (qs : List AbstractProperty). let q = property_at later names l k in
        if q.value.flags.entry then join_properties (known_part q) (join_all qs) else q)
        (map_after g (renamed mask) (λ (m : Label). renamed mask (g m)) (λ m. refl)
        (origins mask l))

    far : sites ≤ l.site.0 → property_at objects names l k ≡ whole
    far above =
        shown_beyond objects names l k
        (number_beyond l sites (length objects) above (h.long ∙ long_first))
        ∙ sym (nothing_resolved mask g l (beyond l.site.0 above)
        (shown_beyond first names (new l.site) k
        (number_beyond (new l.site) sites (length first) above long_first))
        (shown_beyond first names (old l.site) k
        (number_beyond (old l.site) sites (length first) above long_first)))
        ∙ ap (λ (q : AbstractProperty). resolved_by mask q g l) (sym (shown_beyond later names l k
        (number_beyond l sites (length later) above long_later)))

    pick : (b : Bool) → is_key_below names k ≡ b
        → property_at objects names l k ≡ (if b then whole else entry_property)
    pick false key = shown_other objects names l k key
    pick true key =
        ⊎_elim (λ (below : l.site.0 < sites). here key below)
        (λ (above : sites ≤ l.site.0). far above) (cases_lt l.site.0 sites)

-- nodes of a turn
pub paths_more : (long n a b c : ℕ) → ArePaths long n a b → ArePaths long 1 b c
    → ArePaths long (n + 1) a c
paths_more long n a b c some one depth room = omega (arith, some depth room, one depth room)

pub paths_within : (long n m a b : ℕ) → n ≤ m → ArePaths long n a b → ArePaths long m a b
paths_within long n m a b less some depth room =
    omega (arith, some depth room, mul-le-mul_left (depth + 1) less)
