-- Objects that stay as they are where a heap is read through a later one, without a look at them.
use Rattle.std.proofs.Common.{◌≡◌, ◌+◌, ◌*◌, ◌/◌, ◌<◌, ◌≤◌, inl, inr, ⊎_elim, ℕ, List, [], ◌∷◌, Bool, true, false, true≢false, Option, Some, None, if◌then◌else◌, length, map, refl, ap, sym, ◌∙◌, subst, arith}
use Rattle.ja_base.specs.declared.ids.Label.{Label}
use Rattle.ja_base.specs.declared.ids.Site.{Site}
use Rattle.ja_abstract.specs.declared.abstraction.Key.{Key}
use Rattle.ja_abstract.specs.declared.abstraction.Mask.{Mask}
use Rattle.ja_abstract.specs.AbstractValue.{Labels, AbstractProperty, entry_property}
use Rattle.ja_abstract.specs.AbstractState.{label_number, new, old, exactly_none}
use Rattle.ja_abstract.specs.Resolved.{renamed, origins}
use Rattle.ja_value.specs.Labels.{label_at, mask_in, IsNext}
use Rattle.ja_value.specs.Value.{labels_in}
use Rattle.ja_aheap.specs.declared.heap.AHeap.{AHeap}
use Rattle.ja_aheap.specs.declared.object.AObject.{AObject}
use Rattle.ja_aheap.specs.KeysBelow.{is_key_below}
use Rattle.ja_aheap.specs.Heap.{heap_of, property_at, AreAlike, AreUntouched}
use Rattle.ja_aheap.specs.Objects.{object_of}
use Rattle.ja_aheap.specs.code.Composed.{composed_property, read_at, HasMoved, AreUnmoved, IsComposed}
use Rattle.ja_aheap.specs.code.Mentioned.{AreMentioned}
use Rattle.ja_aheap.proofs.ComposedLemmas.{all_entry}
use Rattle.ja_aheap.proofs.ComposingLemmas.{shown_here, untouched_composed}
use Rattle.ja_aheap.proofs.KeptLemmas.{unmoved}
use Rattle.ja_aheap.proofs.LabelLemmas.{label_number_at}
use Rattle.ja_aheap.proofs.UpdateLemmas.{number_within}

-- a label of a site at which nothing is made is its own origin
own_origin : (mask : ℕ → Mask) (l : Label) → mask l.site.0 ≡ exactly_none
    → origins mask l ≡ l ∷ []
own_origin mask l none = pick l.old (mask l.site.0) none
  where
    pick : (o : Bool) (m : Mask) → m ≡ exactly_none
        → (if o then old l.site ∷ (if m.some then new l.site ∷ [] else [])
        else (if m.none then new l.site ∷ [] else [])) ≡ record { site = l.site; old = o } ∷ []
    pick true m none = ap (λ (m : Mask). old l.site ∷ (if m.some then new l.site ∷ [] else [])) none
    pick false m none = ap (λ (m : Mask). if m.none then new l.site ∷ [] else []) none

-- the properties of a heap's objects stay, where no label that they mention is another one
unmoved_property : (names : ℕ) (objects : List AObject) (mask : ℕ → Mask) (set : Labels)
    → AreMentioned names objects set → AreUnmoved mask set → (l : Label) (k : Key)
    → is_key_below names k ≡ true → label_number l < length objects
    → renamed mask (read_at (λ (o : AObject). object_of o k) objects l)
    ≡ read_at (λ (o : AObject). object_of o k) objects l
unmoved_property names objects mask set mentioned still l k key within =
    subst (λ (q : AbstractProperty). renamed mask q ≡ q) (shown_here objects names l k key within)
    (unmoved mask (property_at objects names l k) (λ s. ⊎_elim
    (λ (none : mask s.0 ≡ exactly_none). inl none)
    (λ (none : set (new s) ≡ false).
    inr (apart ((property_at objects names l k).value.label (new s)) _
    (mentioned (label_number l) k (new s)) none))
    (still s)))
  where
    apart : (a b : Bool) → (a ≡ true → b ≡ true) → b ≡ false → a ≡ false
    apart false b in_set none = refl
    apart true b in_set none = absurd (true≢false (sym (in_set refl) ∙ none))

-- the composed object of a label that is as at entry in the later heap, of a site at which nothing
-- is made, is the one that is there, where no label that the heap mentions is another one
unmoved_composed : (names : ℕ) (first later : List AObject) (mask : ℕ → Mask) (set : Labels)
    (l : Label) → label_number (old l.site) < length first
    → label_number (old l.site) < length later → mask l.site.0 ≡ exactly_none
    → AreMentioned names first set → AreUnmoved mask set
    → ((m : Label) (k : Key) → l.site.0 ≤ m.site.0 → m.site.0 < l.site.0 + 1
    → property_at later names m k ≡ entry_property)
    → IsComposed names first later mask l None
unmoved_composed names first later mask set l among among_later none mentioned still laters k key =
    let f = λ (m : Label). read_at (λ (o : AObject). object_of o k) first m in
    let entry : read_at (λ (o : AObject). object_of o k) later l ≡ entry_property =
    sym (shown_here later names l k key (lower among_later l.old))
    ∙ laters l k (omega arith) (omega arith) in
    sym ((λ i. composed_property mask (entry i) (map f (own_origin mask l none i)))
    ∙ all_entry mask (f l)
    (unmoved_property names first mask set mentioned still l k key (lower among l.old)))
  where
    lower : {n : ℕ} → 2 * l.site.0 + 1 < n → (b : Bool) → 2 * l.site.0 + (if b then 1 else 0) < n
    lower within true = omega (arith, within)
    lower within false = omega (arith, within)

-- the new label of a site, by its number
new_at : (s : Site) → label_at (2 * s.0) ≡ new s
new_at s = ap label_at (zero_more (2 * s.0)) ∙ label_number_at (new s)
  where
    zero_more : (n : ℕ) → n ≡ n + 0
    zero_more n = omega arith

-- no label of a site is among a set up to the first number that is there
none_before : (set : Labels) (from at : ℕ) (next : Option ℕ) → at ≡ 2 * from + 0
    → IsNext (λ q. set (label_at q)) at next → (s : Site) → from ≤ s.0
    → ((r : ℕ) → next ≡ Some r → s.0 < r / 2) → set (new s) ≡ false
none_before set from at None number is s low high =
    ap set (sym (new_at s)) ∙ is.before (2 * s.0) (omega (arith, low, number)) tt
none_before set from at (Some r) number is s low high =
    ap set (sym (new_at s))
    ∙ is.before (2 * s.0) (omega (arith, low, number)) (omega (arith, high r refl))

-- The objects of the sites up to an end stay, where nothing is made at these sites, the later heap
-- has them as at entry and so has the first, or else no label that the first mentions is another
-- one.
pub stays : (first later : AHeap) (moved : Labels) (named : Bool) (from end to at : ℕ)
    (next : Option ℕ) → AreAlike (heap_of first) (heap_of later)
    → HasMoved later.sites (mask_in later.masks.value) moved
    → (named ≡ false → AreUnmoved (mask_in later.masks.value) (labels_in first.mentioned))
    → (named ≡ true → AreUntouched (heap_of first) from end)
    → AreUntouched (heap_of later) from end → at ≡ 2 * from + 0
    → IsNext (λ q. moved (label_at q)) at next → to ≤ end → to ≤ first.sites
    → ((r : ℕ) → next ≡ Some r → to ≤ r / 2) → (n : ℕ) → 2 * from ≤ n → n < 2 * to
    → IsComposed first.names first.objects later.objects (mask_in later.masks.value) (label_at n)
    None
stays first later moved named from end to at next alike has still firsts laters number is before
    within passed n above below =
    pick named refl
  where
    mask : ℕ → Mask
    mask = mask_in later.masks.value

    l : Label
    l = label_at n

    low : from ≤ n / 2
    low = omega (arith, above)

    high : n / 2 < to
    high = omega (arith, below)

    none : mask l.site.0 ≡ exactly_none
    none = ⊎_elim (λ (none : mask l.site.0 ≡ exactly_none). none)
        (λ (among : moved (new l.site) ≡ true). absurd (true≢false (sym among
        ∙ none_before moved from at next number is l.site low
        (λ r e. omega (arith, high, passed r e)))))
        (has l.site (omega (arith, high, within, alike.sites)))

    in_first : label_number (old l.site) < length first.objects
    in_first = number_within (old l.site) first.sites _ (omega (arith, high, within)) first.placed

    in_later : label_number (old l.site) < length later.objects
    in_later =
        number_within (old l.site) later.sites _ (omega (arith, high, within, alike.sites))
        later.placed

    entry : (m : Label) (k : Key) → l.site.0 ≤ m.site.0 → m.site.0 < l.site.0 + 1
        → property_at later.objects first.names m k ≡ entry_property
    entry m k more less =
        ap (λ (names : ℕ). property_at later.objects names m k) alike.names
        ∙ laters m k (omega (arith, more, low)) (omega (arith, less, high, before))

    pick : (b : Bool) → named ≡ b
        → IsComposed first.names first.objects later.objects mask l None
    pick true e =
        untouched_composed first.names first.objects later.objects mask l in_first in_later none
        (λ m k more less.
        firsts e m k (omega (arith, more, low)) (omega (arith, less, high, before)))
        entry
    pick false e =
        unmoved_composed first.names first.objects later.objects mask (labels_in first.mentioned) l
        in_first in_later none first.mentions (still e) entry
