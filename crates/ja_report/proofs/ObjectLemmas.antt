-- The lines of a state: what is as at entry has none, and the writers' loops add the others.
use Rattle.std.proofs.Common.{◌≡◌, ℕ, zero, suc, Bool, true, false, not, ◌&&◌, ◌+◌, ◌-◌, ◌<◌, ◌≤◌, List, [], ◌∷◌, ◌++◌, filter, take, length, get_or, refl, ap, sym, ◌∙◌, append-nil, arith}
use Rattle.std.specs.List.{flat_map, list_any, range_with_len}
use Rattle.std.proofs.lemmas.Bool.{true≢false}
use Rattle.std.proofs.lemmas.List.{take_all}
use Rattle.std.proofs.lemmas.List.Concat.{flat_map-append}
use Rattle.ja_base.specs.declared.ids.FnId.{FnId}
use Rattle.ja_base.specs.declared.ids.Label.{Label}
use Rattle.ja_base.specs.declared.ids.Site.{Site}
use Rattle.ja_graph.specs.declared.program.Program.{Program}
use Rattle.ja_machine.specs.Frames.{parameters_of, registers_of}
use Rattle.ja_abstract.specs.declared.abstraction.Key.{Key}
use Rattle.ja_abstract.specs.declared.abstraction.Mask.{Mask}
use Rattle.ja_abstract.specs.AbstractValue.{AbstractValue, AbstractProperty, entry_property, no_labels}
use Rattle.ja_abstract.specs.AbstractState.{labels_of, labels_below, keys_of, sites_below, site_of, new, old}
use Rattle.ja_aheap.specs.Heap.{HeapMap, heap_of, is_masked, AreUntouched}
use Rattle.ja_astate.specs.declared.state.AState.{AState}
use Rattle.ja_astate.specs.State.{state_of}
use Rattle.ja_report.specs.declared.output.Output.{Output}
use Rattle.ja_report.specs.Lines.{Line, is_entry, property_line, object_lines, property_lines, mask_line, mask_lines, register_line, register_lines}
use Rattle.ja_report.specs.code.Output.{Adds}
use Rattle.ja_report.proofs.OutputLemmas.{adds_none, adds_append, adds_more, adds_same, adds_number, range_more}
use Rattle.ja_astate.proofs.Searches.{no_label_there}

filter_step : {X A : Type 0} (f : X → List A) (test : X → Bool) (x : X) (xs : List X) (b : Bool)
    → test x ≡ b → (test x ≡ false → f x ≡ []) → flat_map f (filter test xs) ≡ flat_map f xs
    → flat_map f (filter test (x ∷ xs)) ≡ flat_map f (x ∷ xs)
filter_step {X} {A} f test x xs true e none rest = rw e (ap (λ (l : List A). f x ++ l) rest)
filter_step {X} {A} f test x xs false e none rest =
    rw e (rest ∙ ap (λ (l : List A). l ++ flat_map f xs) (sym (none e)))

-- elements that give nothing may be left out
pub flat_map_filter : {X A : Type 0} (f : X → List A) (test : X → Bool)
    → ((x : X) → test x ≡ false → f x ≡ []) → (xs : List X)
    → flat_map f (filter test xs) ≡ flat_map f xs
flat_map_filter f test none [] = refl
flat_map_filter f test none (x ∷ xs) =
    filter_step f test x xs (test x) refl (none x) (flat_map_filter f test none xs)

flat_map_none : {X A : Type 0} (f : X → List A) → ((x : X) → f x ≡ []) → (xs : List X)
    → flat_map f xs ≡ []
flat_map_none f none [] = refl
flat_map_none {X} {A} f none (x ∷ xs) =
    ap (λ (l : List A). l ++ flat_map f xs) (none x) ∙ flat_map_none f none xs

pub entry_is_entry : (p : Program) → is_entry p entry_property ≡ true
unfolding is_entry
entry_is_entry p = rw (no_label_there (labels_of p)) refl

-- ---- properties

pub entry_none : (p : Program) (l : Label) (k : Key) (q : AbstractProperty) → q ≡ entry_property
    → property_line p l k q ≡ []
unfolding property_line
entry_none p l k q e = rw (ap (is_entry p) e ∙ entry_is_entry p) refl

pub object_none : (p : Program) (l : Label) (f : Key → AbstractProperty)
    → ((k : Key) → f k ≡ entry_property) → [] ≡ object_lines p l f
unfolding object_lines
object_none p l f h =
    sym (flat_map_none (λ (k : Key). property_line p l k (f k)) (λ k. entry_none p l k (f k) (h k))
    (keys_of p))

-- a property that is kept, and one that isn't
pub property_kept : (p : Program) (l : Label) (k : Key) (q r : AbstractProperty) (a b : Output)
    → q ≡ r → Adds p (property_line p l k q) a b → Adds p (property_line p l k r) a b
property_kept p l k q r a b same adds = adds_same p _ _ a b (ap (property_line p l k) same) adds

pub property_unkept : (p : Program) (l : Label) (k : Key) (q : AbstractProperty) (a : Output)
    → q ≡ entry_property → Adds p (property_line p l k q) a a
property_unkept p l k q a e = adds_same p _ _ a a (sym (entry_none p l k q e)) (adds_none p a)

-- the lines of an object at the first keys
pub key_lines : Program → Label → (Key → AbstractProperty) → List Key → List Line
key_lines p l f keys = flat_map (λ (k : Key). property_line p l k (f k)) keys

pub keys_none : (p : Program) (l : Label) (f : Key → AbstractProperty) (a : Output)
    → Adds p (key_lines p l f []) a a
unfolding key_lines
keys_none p l f a = adds_none p a

pub keys_more : (p : Program) (l : Label) (f : Key → AbstractProperty) (keys : List Key) (i : ℕ)
    (d : Key) (a b c : Output) → Adds p (key_lines p l f (take i keys)) a b → i < length keys
    → Adds p (property_line p l (get_or keys i d) (f (get_or keys i d))) b c
    → Adds p (key_lines p l f (take (i + 1) keys)) a c
unfolding key_lines
keys_more p l f keys i d a b c was inside step =
    adds_more p (λ (k : Key). property_line p l k (f k)) a b c keys i d was inside step

pub keys_all : (p : Program) (l : Label) (f : Key → AbstractProperty) (keys : List Key) (i : ℕ)
    (a b : Output) → Adds p (key_lines p l f (take i keys)) a b → length keys ≤ i
    → keys ≡ keys_of p → Adds p (object_lines p l f) a b
unfolding key_lines object_lines
keys_all p l f keys i a b was past all =
    adds_same p _ _ a b (ap (λ (ks : List Key).
    flat_map (λ (k : Key). property_line p l k (f k)) ks) (take_all i keys past ∙ all)) was

-- a label that is as at entry has no line
pub object_unkept : (p : Program) (l : Label) (f : Key → AbstractProperty) (a : Output)
    → ((k : Key) → f k ≡ entry_property) → Adds p (object_lines p l f) a a
object_unkept p l f a h = adds_same p _ _ a a (object_none p l f h) (adds_none p a)

-- the lines of both labels of a site, and of the first sites
pub both_labels : (p : Program) (f : Label → Key → AbstractProperty) (l m : Label) (a b c : Output)
    → Adds p (object_lines p l (f l)) a b → Adds p (object_lines p m (f m)) b c
    → Adds p (flat_map (λ (l : Label). object_lines p l (f l)) (l ∷ m ∷ [])) a c
both_labels p f l m a b c first second =
    adds_append p _ _ a b c first
    (adds_same p _ _ b c (sym (append-nil (object_lines p m (f m)))) second)

pub label_front : Program → (Label → Key → AbstractProperty) → ℕ → List Line
label_front p f n = flat_map (λ (l : Label). object_lines p l (f l)) (labels_below n)

pub labels_more : (i : ℕ)
    → labels_below (i + 1) ≡ labels_below i ++ new (site_of i) ∷ old (site_of i) ∷ []
labels_more i =
    let both : ℕ → List Label = λ s. new (site_of s) ∷ old (site_of s) ∷ [] in
    ap (flat_map both) (range_more i) ∙ flat_map-append both (range_with_len 0 i) (i ∷ [])

pub labels_none : (p : Program) (f : Label → Key → AbstractProperty) (a : Output)
    → Adds p (label_front p f 0) a a
unfolding label_front
labels_none p f a = adds_none p a

pub labels_step : (p : Program) (f : Label → Key → AbstractProperty) (i : ℕ) (a b c : Output)
    → Adds p (label_front p f i) a b
    → Adds p (flat_map (λ (l : Label). object_lines p l (f l))
    (new (site_of i) ∷ old (site_of i) ∷ [])) b c
    → Adds p (label_front p f (i + 1)) a c
unfolding label_front
labels_step p f i a b c was step =
    let lines : Label → List Line = λ l. object_lines p l (f l) in
    adds_same p _ _ a c (sym (ap (flat_map lines) (labels_more i)
    ∙ flat_map-append lines (labels_below i) (new (site_of i) ∷ old (site_of i) ∷ [])))
    (adds_append p _ _ a b c was step)

-- sites whose labels are as at entry have no lines
labels_over : (p : Program) (f : Label → Key → AbstractProperty) (i n : ℕ) (a b : Output)
    → Adds p (label_front p f i) a b
    → ((l : Label) (k : Key) → i ≤ l.site.0 → l.site.0 < i + n → f l k ≡ entry_property)
    → Adds p (label_front p f (i + n)) a b
labels_over p f i zero a b was untouched =
    let same : i ≡ i + 0 = omega arith in
    adds_same p _ _ a b (ap (label_front p f) same) was
labels_over p f i (suc n) a b was untouched =
    let more : i + n + 1 ≡ i + suc n = omega arith in
    let none : (l : Label) → l.site.0 ≡ i + n → Adds p (object_lines p l (f l)) b b =
    λ l here. object_unkept p l (f l) b (λ k. untouched l k (omega arith) (omega arith)) in
    adds_same p _ _ a b (ap (label_front p f) more) (labels_step p f (i + n) a b b
    (labels_over p f i n a b was (λ l k from to. untouched l k from (omega arith)))
    (both_labels p f (new (site_of (i + n))) (old (site_of (i + n))) b b b
    (none (new (site_of (i + n))) refl) (none (old (site_of (i + n))) refl)))

pub labels_to : (p : Program) (s : AState) (i j end : ℕ) (a b : Output)
    → Adds p (label_front p (state_of s).property i) a b → i ≤ j → j ≤ end
    → AreUntouched (heap_of s.heap) i end → Adds p (label_front p (state_of s).property j) a b
labels_to p s i j end a b was from to untouched =
    let there : i + (j - i) ≡ j = omega arith in
    adds_same p _ _ a b (ap (label_front p (state_of s).property) there)
    (labels_over p (state_of s).property i (j - i) a b was
    (λ l k above below. untouched l k above (omega arith)))

pub labels_all : (p : Program) (s : AState) (n : ℕ) (a b : Output)
    → Adds p (label_front p (state_of s).property n) a b → n ≡ length p.sites
    → Adds p (property_lines p (state_of s)) a b
unfolding label_front property_lines
labels_all p s n a b was all =
    adds_same p _ _ a b (ap (label_front p (state_of s).property) all) was

-- ---- masks

no_line : (s : Site) (m : Mask) (b : Bool) → m.none && not m.some ≡ b → not b ≡ false
    → mask_line s m ≡ []
unfolding mask_line
no_line s m true e n = rw e refl
no_line s m false e n = absurd (true≢false n)

pub unmasked : (h : HeapMap) (s : Site) → is_masked h s ≡ false → mask_line s (h.mask s.0) ≡ []
unmasked h s e = no_line s (h.mask s.0) _ refl e

-- the lines of the first sites
pub site_lines : HeapMap → List Site → List Line
site_lines h ss = flat_map (λ (s : Site). mask_line s (h.mask s.0)) ss

pub site_lines_none : (p : Program) (h : HeapMap) (x : Output) → Adds p (site_lines h []) x x
unfolding site_lines
site_lines_none p h x = adds_none p x

pub site_lines_more : (p : Program) (h : HeapMap) (ss : List Site) (i : ℕ) (d : Site) (m : Mask)
    (x y z : Output) → Adds p (site_lines h (take i ss)) x y → i < length ss
    → m ≡ h.mask (get_or ss i d).0 → Adds p (mask_line (get_or ss i d) m) y z
    → Adds p (site_lines h (take (i + 1) ss)) x z
unfolding site_lines
site_lines_more p h ss i d m x y z was inside read step =
    adds_more p (λ (s : Site). mask_line s (h.mask s.0)) x y z ss i d was inside
    (adds_same p _ _ y z (ap (mask_line (get_or ss i d)) read) step)

pub site_lines_all : (p : Program) (a : AState) (ss : List Site) (i : ℕ) (x y : Output)
    → Adds p (site_lines (heap_of a.heap) (take i ss)) x y → length ss ≤ i
    → ss ≡ filter (is_masked (heap_of a.heap)) (sites_below (heap_of a.heap).sites)
    → (heap_of a.heap).sites ≡ length p.sites → Adds p (mask_lines p (state_of a)) x y
unfolding site_lines mask_lines
site_lines_all p a ss i x y was past all count =
    let h : HeapMap = heap_of a.heap in
    adds_same p _ _ x y (ap (site_lines h) (take_all i ss past ∙ all
    ∙ ap (λ (m : ℕ). filter (is_masked h) (sites_below m)) count)
    ∙ flat_map_filter (λ (s : Site). mask_line s (h.mask s.0)) (is_masked h) (unmasked h)
    (sites_below (length p.sites))) was

-- ---- registers

-- the lines of the first registers, of a function with so many parameters
pub register_front : Program → ℕ → (ℕ → AbstractValue) → ℕ → List Line
register_front p parameters f n =
    flat_map (λ (r : ℕ). register_line p parameters r (f r)) (range_with_len 0 n)

pub registers_none : (p : Program) (parameters : ℕ) (f : ℕ → AbstractValue) (x : Output)
    → Adds p (register_front p parameters f 0) x x
unfolding register_front
registers_none p parameters f x = adds_none p x

pub registers_more : (p : Program) (parameters : ℕ) (f : ℕ → AbstractValue) (i : ℕ)
    (v : AbstractValue) (x y z : Output) → Adds p (register_front p parameters f i) x y → v ≡ f i
    → Adds p (register_line p parameters i v) y z
    → Adds p (register_front p parameters f (i + 1)) x z
unfolding register_front
registers_more p parameters f i v x y z was read step =
    adds_number p (λ (r : ℕ). register_line p parameters r (f r)) x y z i was
    (adds_same p _ _ y z (ap (register_line p parameters i) read) step)

pub registers_all : (p : Program) (f : FnId) (a : AState) (parameters n : ℕ) (x y : Output)
    → Adds p (register_front p parameters (state_of a).register n) x y
    → parameters ≡ parameters_of p f → n ≡ registers_of p f
    → Adds p (register_lines p f (state_of a)) x y
unfolding register_front register_lines
registers_all p f a parameters n x y was named all =
    adds_same p _ _ x y
    (ap (λ (m : ℕ). register_front p m (state_of a).register n) named
    ∙ ap (register_front p (parameters_of p f) (state_of a).register) all) was
