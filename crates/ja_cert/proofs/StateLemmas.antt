-- What the loops over a state have written: the objects of the first labels, the registers, the
-- objects that were made.
use Rattle.std.proofs.Common.{◌≡◌, ℕ, zero, suc, false, not, ◌&&◌, ◌+◌, ◌-◌, ◌<◌, ◌≤◌, List, [], ◌∷◌, ◌++◌, filter, take, length, get_or, refl, ap, sym, ◌∙◌, append-nil, arith}
use Rattle.std.specs.List.{flat_map, range_with_len}
use Rattle.std.specs.Prelude.{Result}
use Rattle.std.specs.Result.{OnOk}
use Rattle.std.proofs.lemmas.List.{get_or_default}
use Rattle.std.proofs.lemmas.List.Concat.{flat_map-append}
use Rattle.serde_json.specs.Data.{Data}
use Rattle.serde_json.specs.Written.{has_float}
use Rattle.ja_base.specs.declared.ids.FnId.{FnId}
use Rattle.ja_base.specs.declared.ids.Label.{Label}
use Rattle.ja_base.specs.declared.ids.Site.{Site}
use Rattle.ja_graph.specs.declared.program.Program.{Program}
use Rattle.ja_machine.specs.Frames.{parameters_of, registers_of}
use Rattle.ja_abstract.specs.declared.abstraction.Key.{Key}
use Rattle.ja_abstract.specs.declared.abstraction.Mask.{Mask}
use Rattle.ja_abstract.specs.AbstractValue.{AbstractProperty, AbstractValue, entry_property}
use Rattle.ja_abstract.specs.AbstractState.{keys_of, labels_below, sites_below, site_of, new, old}
use Rattle.ja_aheap.specs.Heap.{HeapMap, heap_of, is_masked, AreUntouched}
use Rattle.ja_astate.specs.declared.state.AState.{AState}
use Rattle.ja_astate.specs.State.{state_of}
use Rattle.ja_texts.proofs.Lists.{added_more}
use Rattle.ja_report.specs.Lines.{Line, alloc as made, entry, is_entry, is_undefined, property, register, mask_line, mask_lines, object_lines, property_line, property_lines, register_line, register_lines}
use Rattle.ja_report.proofs.ObjectLemmas.{entry_none, flat_map_filter, labels_more, object_none, unmasked}
use Rattle.ja_cert.specs.Certificate.{line_data, listed, value_data, whole}
use Rattle.ja_cert.specs.code.Writing.{lines_text, with_commas}
use Rattle.ja_cert.proofs.Floats.{line_none, none_of}
use Rattle.ja_cert.proofs.Commas.{added_number, line_written, lines_each, lines_listed, lines_more, lines_none, lines_same}

-- ---- one line

-- a value that stands for a line has no float
pub line_float : (p : Program) (x : Line) (d : Data) → d ≡ line_data p x → has_float d ≡ false
line_float p x d is = none_of d (line_data p x) is (line_none p x)

pub property_written : {T E : Type 0} (p : Program) (l : Label) (k : Key) (q : AbstractProperty)
    (old next : List ℕ) (d : Data) (r : Result T E) → is_entry p q ≡ false
    → d ≡ line_data p (entry l k q) → OnOk r (next ≡ old ++ with_commas (d ∷ []))
    → OnOk r (next ≡ old ++ lines_text p (property_line p l k q))
unfolding property_line line_data
property_written p l k q old next d r other is step =
    rw other (line_written p old next (property l k q) d r is step)

pub register_written : {T E : Type 0} (p : Program) (parameters n : ℕ) (v : AbstractValue)
    (old next : List ℕ) (d : Data) (r : Result T E) → is_undefined p v ≡ false
    → d ≡ line_data p (register parameters n v) → OnOk r (next ≡ old ++ with_commas (d ∷ []))
    → OnOk r (next ≡ old ++ lines_text p (register_line p parameters n v))
unfolding register_line
register_written p parameters n v old next d r other is step =
    rw other (line_written p old next (register parameters n v) d r is step)

pub mask_written : {T E : Type 0} (p : Program) (s : Site) (m : Mask) (old next : List ℕ)
    (d : Data) (r : Result T E) → (m.none && not m.some) ≡ false → d ≡ line_data p (made s m)
    → OnOk r (next ≡ old ++ with_commas (d ∷ []))
    → OnOk r (next ≡ old ++ lines_text p (mask_line s m))
unfolding mask_line
mask_written p s m old next d r other is step =
    rw other (line_written p old next (made s m) d r is step)

pub register_is : (p : Program) (parameters n : ℕ) (v : AbstractValue)
    → listed (whole n ∷ value_data p v ∷ []) ≡ line_data p (register parameters n v)
unfolding line_data
register_is p parameters n v = refl

-- ---- properties

-- the lines of an object at some keys
abbrev pub key_lines : Program → Label → (Key → AbstractProperty) → List Key → List Line
key_lines p l f keys = flat_map (λ (k : Key). property_line p l k (f k)) keys

keys_all : (p : Program) (l : Label) (f : Key → AbstractProperty) (keys : List Key)
    → keys ≡ keys_of p → key_lines p l f keys ≡ object_lines p l f
unfolding object_lines
keys_all p l f keys all = ap (key_lines p l f) all

pub object_written : (p : Program) (l : Label) (f : Key → AbstractProperty) (base now : List ℕ)
    (keys : List Key) → now ≡ base ++ lines_text p (key_lines p l f keys) → keys ≡ keys_of p
    → now ≡ base ++ lines_text p (object_lines p l f)
object_written p l f base now keys was all = lines_same p base now _ _ (keys_all p l f keys all) was

pub property_kept : (p : Program) (l : Label) (k : Key) (q r : AbstractProperty)
    (base now : List ℕ) → q ≡ r → now ≡ base ++ lines_text p (property_line p l k q)
    → now ≡ base ++ lines_text p (property_line p l k r)
property_kept p l k q r base now same was =
    lines_same p base now _ _ (ap (property_line p l k) same) was

pub property_unkept : (p : Program) (l : Label) (k : Key) (q : AbstractProperty) (base : List ℕ)
    → q ≡ entry_property → base ≡ base ++ lines_text p (property_line p l k q)
property_unkept p l k q base e =
    lines_same p base base [] _ (sym (entry_none p l k q e)) (lines_none p base)

pub object_unkept : (p : Program) (l : Label) (f : Key → AbstractProperty) (base : List ℕ)
    → ((k : Key) → f k ≡ entry_property) → base ≡ base ++ lines_text p (object_lines p l f)
object_unkept p l f base h = lines_same p base base [] _ (object_none p l f h) (lines_none p base)

-- the lines of some labels
abbrev pub label_lines : Program → (Label → Key → AbstractProperty) → List Label → List Line
label_lines p f ls = flat_map (λ (l : Label). object_lines p l (f l)) ls

pub both_labels : (p : Program) (f : Label → Key → AbstractProperty) (l m : Label)
    (base now next : List ℕ) → now ≡ base ++ lines_text p (object_lines p l (f l))
    → next ≡ now ++ lines_text p (object_lines p m (f m))
    → next ≡ base ++ lines_text p (label_lines p f (l ∷ m ∷ []))
both_labels p f l m base now next first second =
    lines_more p base now next (object_lines p l (f l)) (object_lines p m (f m) ++ []) first
    (lines_same p now next _ _ (sym (append-nil (object_lines p m (f m)))) second)

pub labels_none : (p : Program) (f : Label → Key → AbstractProperty) (base : List ℕ)
    → base ≡ base ++ lines_text p (label_lines p f (labels_below 0))
labels_none p f base = lines_none p base

front_more : (p : Program) (f : Label → Key → AbstractProperty) (i : ℕ)
    → label_lines p f (labels_below (i + 1))
    ≡ label_lines p f (labels_below i) ++ label_lines p f (new (site_of i) ∷ old (site_of i) ∷ [])
front_more p f i =
    ap (label_lines p f) (labels_more i)
    ∙ flat_map-append (λ (l : Label). object_lines p l (f l)) (labels_below i)
    (new (site_of i) ∷ old (site_of i) ∷ [])

pub labels_step : (p : Program) (f : Label → Key → AbstractProperty) (i : ℕ)
    (base now next : List ℕ) → now ≡ base ++ lines_text p (label_lines p f (labels_below i))
    → next ≡ now ++ lines_text p (label_lines p f (new (site_of i) ∷ old (site_of i) ∷ []))
    → next ≡ base ++ lines_text p (label_lines p f (labels_below (i + 1)))
labels_step p f i base now next was step =
    lines_same p base next _ _ (sym (front_more p f i)) (lines_more p base now next _ _ was step)

-- sites whose labels are as at entry have no lines
labels_over : (p : Program) (f : Label → Key → AbstractProperty) (i n : ℕ)
    → ((l : Label) (k : Key) → i ≤ l.site.0 → l.site.0 < i + n → f l k ≡ entry_property)
    → label_lines p f (labels_below (i + n)) ≡ label_lines p f (labels_below i)
labels_over p f i zero untouched =
    let same : i + 0 ≡ i = omega arith in
    ap (λ (m : ℕ). label_lines p f (labels_below m)) same
labels_over p f i (suc n) untouched =
    let more : i + suc n ≡ i + n + 1 = omega arith in
    let none : (l : Label) → l.site.0 ≡ i + n → object_lines p l (f l) ≡ [] =
    λ l here. sym (object_none p l (f l) (λ k. untouched l k (omega arith) (omega arith))) in
    let l : Label = new (site_of (i + n)) in
    let m : Label = old (site_of (i + n)) in
    let both : label_lines p f (l ∷ m ∷ []) ≡ [] =
    ap (λ (xs : List Line). xs ++ (object_lines p m (f m) ++ [])) (none l refl)
    ∙ ap (λ (xs : List Line). xs ++ []) (none m refl) in
    ap (λ (m : ℕ). label_lines p f (labels_below m)) more ∙ front_more p f (i + n)
    ∙ ap (λ (xs : List Line). label_lines p f (labels_below (i + n)) ++ xs) both
    ∙ append-nil (label_lines p f (labels_below (i + n)))
    ∙ labels_over p f i n (λ l k from to. untouched l k from (omega arith))

pub labels_to : (p : Program) (s : AState) (i j end : ℕ) (base now : List ℕ)
    → now ≡ base ++ lines_text p (label_lines p (state_of s).property (labels_below i)) → i ≤ j
    → j ≤ end → AreUntouched (heap_of s.heap) i end
    → now ≡ base ++ lines_text p (label_lines p (state_of s).property (labels_below j))
labels_to p s i j end base now was from to untouched =
    let there : i + (j - i) ≡ j = omega arith in
    let over : label_lines p (state_of s).property (labels_below (i + (j - i)))
    ≡ label_lines p (state_of s).property (labels_below i) =
    labels_over p (state_of s).property i (j - i)
    (λ l k above below. untouched l k above (omega arith)) in
    lines_same p base now _ _ (sym over
    ∙ ap (λ (m : ℕ). label_lines p (state_of s).property (labels_below m)) there) was

pub labels_all : (p : Program) (s : AState) (n : ℕ) (base now : List ℕ)
    → now ≡ base ++ lines_text p (label_lines p (state_of s).property (labels_below n))
    → n ≡ length p.sites → now ≡ base ++ lines_text p (property_lines p (state_of s))
unfolding property_lines
labels_all p s n base now was all =
    lines_same p base now _ _
    (ap (λ (m : ℕ). label_lines p (state_of s).property (labels_below m)) all) was

-- ---- registers

-- the texts of the first registers
abbrev pub register_texts : Program → FnId → (ℕ → AbstractValue) → ℕ → List ℕ
register_texts p f values n =
    flat_map (λ (r : ℕ). lines_text p (register_line p (parameters_of p f) r (values r)))
    (range_with_len 0 n)

pub registers_more : (p : Program) (f : FnId) (values : ℕ → AbstractValue) (i : ℕ)
    (v : AbstractValue) (base now next : List ℕ) → now ≡ base ++ register_texts p f values i
    → v ≡ values i → next ≡ now ++ lines_text p (register_line p (parameters_of p f) i v)
    → next ≡ base ++ register_texts p f values (i + 1)
registers_more p f values i v base now next was read step =
    added_number (λ (r : ℕ). lines_text p (register_line p (parameters_of p f) r (values r))) base
    now next i was
    (lines_same p now next _ _ (ap (register_line p (parameters_of p f) i) read) step)

pub registers_all : (p : Program) (f : FnId) (a : AState) (n : ℕ) (base now : List ℕ)
    → now ≡ base ++ register_texts p f (state_of a).register n
    → n ≡ registers_of p f → now ≡ base ++ lines_text p (register_lines p f (state_of a))
unfolding register_lines
registers_all p f a n base now was all =
    let lines : ℕ → List Line =
    λ r. register_line p (parameters_of p f) r ((state_of a).register r) in
    was ∙ ap (λ (l : List ℕ). base ++ l) (lines_each p lines (range_with_len 0 n)
    ∙ ap (λ (m : ℕ). lines_text p (flat_map lines (range_with_len 0 m))) all)

-- ---- masks

-- the texts of some sites
abbrev pub site_texts : Program → HeapMap → List Site → List ℕ
site_texts p h sites =
    flat_map (λ (s : Site). lines_text p (mask_line s (h.mask s.0))) sites

pub masks_more : (p : Program) (h : HeapMap) (sites : List Site) (i : ℕ) (d : Site) (m : Mask)
    (base now next : List ℕ) → now ≡ base ++ site_texts p h (take i sites) → i < length sites
    → m ≡ h.mask (get_or sites i d).0
    → next ≡ now ++ lines_text p (mask_line (get_or sites i d) m)
    → next ≡ base ++ site_texts p h (take (i + 1) sites)
masks_more p h sites i d m base now next was inside read step =
    let s : Site = get_or sites i d in
    added_more (λ (s : Site). lines_text p (mask_line s (h.mask s.0))) base now next sites i s was
    inside (get_or_default sites i d s inside)
    (lines_same p now next _ _ (ap (mask_line s) read) step)

pub masks_all : (p : Program) (a : AState) (sites : List Site) (i : ℕ) (base now : List ℕ)
    → now ≡ base ++ site_texts p (heap_of a.heap) (take i sites) → length sites ≤ i
    → sites ≡ filter (is_masked (heap_of a.heap)) (sites_below (heap_of a.heap).sites)
    → (heap_of a.heap).sites ≡ length p.sites
    → now ≡ base ++ lines_text p (mask_lines p (state_of a))
unfolding mask_lines
masks_all p a sites i base now was past all count =
    let h : HeapMap = heap_of a.heap in
    let lines : Site → List Line = λ s. mask_line s (h.mask s.0) in
    lines_same p base now _ _ (ap (flat_map lines) (all
    ∙ ap (λ (m : ℕ). filter (is_masked h) (sites_below m)) count)
    ∙ flat_map_filter lines (is_masked h) (unmasked h) (sites_below (length p.sites)))
    (lines_listed p lines base now sites i was past)
