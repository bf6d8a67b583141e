-- Objects made, at the keys of the program and at all others.
use Rattle.std.proofs.Common.{◌≡◌, ◌≢◌, ◌==◌, ℕ, Bool, true, false, if◌then◌else◌, length, nat_lt, refl, ap, sym, ◌∙◌}
use Rattle.ja_base.specs.declared.ids.Label.{Label}
use Rattle.ja_base.specs.declared.ids.Site.{Site}
use Rattle.ja_graph.specs.declared.program.Program.{Program}
use Rattle.ja_abstract.specs.declared.abstraction.Key.{Key}
use Rattle.ja_abstract.specs.declared.abstraction.Key.TheVariants as key
use Rattle.ja_abstract.specs.AbstractValue.{same_label, join_properties, absent_property, entry_property}
use Rattle.ja_abstract.specs.AbstractState.{AbstractState, new, old, is_key, aged_property, made_property, with_made}
use Rattle.ja_abstract.specs.Made.{Own, at_keys_of}
use Rattle.ja_abstract.proofs.Labels.{new_not_old, other_site}
use Rattle.ja_abstract.proofs.Least.{property_twice}
use Rattle.ja_aheap.specs.declared.heap.AHeap.{AHeap}
use Rattle.ja_aheap.specs.KeysBelow.{is_key_below, at_keys_below}
use Rattle.ja_aheap.specs.Heap.{heap_of, half, made_in, with_own_in}
use Rattle.ja_aheap.proofs.HeapLaws.{other_key_entry}
use Rattle.ja_astate.proofs.RegisterLemmas.{none_aged}
use Rattle.ja_aheap.proofs.HeapLemmas.{aged_entry}

-- ---- the keys of a program

pub same_keys : (p : Program) (names : ℕ) → names ≡ length p.names → (k : Key)
    → is_key_below names k ≡ is_key p k
same_keys p names is (key.Name n) = ap (nat_lt n.0) is
same_keys p names is key.OtherIndex = refl
same_keys p names is key.OtherName = refl
same_keys p names is (key.Slot s) = refl

pub own_same : (p : Program) (names : ℕ) → names ≡ length p.names → (own : Own) (k : Key)
    → at_keys_below names own k ≡ at_keys_of p own k
own_same p names is own k =
    ap (λ (b : Bool). if b then own k else entry_property) (same_keys p names is k)

-- ---- an object more

-- what is as at entry at a key stays so, but for the new object
pub made_entry : (a : AbstractState) (s : Site) (l : Label) (k : Key)
    → a.property (old s) k ≡ entry_property → a.property (new s) k ≡ entry_property
    → a.property l k ≡ entry_property → same_label (new s) l ≡ false
    → made_property a s l k ≡ entry_property
made_entry a s l k olds news here other =
    ap (λ (b : Bool). if b then absent_property else if same_label (old s) l
    then join_properties (aged_property s (a.property (old s) k))
    (aged_property s (a.property (new s) k)) else aged_property s (a.property l k)) other
    ∙ pick (same_label (old s) l)
  where
    pick : (b : Bool) → (if b then join_properties (aged_property s (a.property (old s) k))
        (aged_property s (a.property (new s) k)) else aged_property s (a.property l k))
        ≡ entry_property
    pick true =
        (λ i. join_properties (aged_property s (olds i)) (aged_property s (news i)))
        ∙ (λ i. join_properties (aged_entry s i) (aged_entry s i))
        ∙ property_twice entry_property
    pick false = ap (aged_property s) here ∙ aged_entry s

-- it goes by the properties at one key
pub made_alike : (a b : AbstractState) (s : Site) (l : Label) (k : Key)
    → ((m : Label) → a.property m k ≡ b.property m k)
    → made_property a s l k ≡ made_property b s l k
made_alike a b s l k same = λ i.
    if same_label (new s) l then absent_property else if same_label (old s) l
    then join_properties (aged_property s (same (old s) i)) (aged_property s (same (new s) i))
    else aged_property s (same l i)

-- the new object aside, a heap with an object more has what the state has
pub made_shown : (h : AHeap) (s : Site) (l : Label) (k : Key) → same_label (new s) l ≡ false
    → at_keys_below h.names (made_property (half (heap_of h)) s l) k
    ≡ made_property (half (heap_of h)) s l k
made_shown h s l k other = pick (is_key_below h.names k) refl
  where
    a : AbstractState
    a = half (heap_of h)

    pick : (b : Bool) → is_key_below h.names k ≡ b
        → (if b then made_property a s l k else entry_property) ≡ made_property a s l k
    pick true is = refl
    pick false is =
        sym (made_entry a s l k (other_key_entry h (old s) k is) (other_key_entry h (new s) k is)
        (other_key_entry h l k is) other)

pub object_made : (p : Program) (h : AHeap) (s : Site) (own : Own) → h.names ≡ length p.names
    → (l : Label) (k : Key)
    → (with_own_in (made_in (heap_of h) s) (new s) own).property l k
    ≡ (if same_label (new s) l then at_keys_of p own k
    else made_property (half (heap_of h)) s l k)
object_made p h s own is l k = pick (same_label (new s) l) refl
  where
    pick : (b : Bool) → same_label (new s) l ≡ b
        → (if b then at_keys_below h.names own k
        else at_keys_below h.names (made_property (half (heap_of h)) s l) k)
        ≡ (if b then at_keys_of p own k else made_property (half (heap_of h)) s l k)
    pick true same = own_same p h.names is own k
    pick false other = made_shown h s l k other

-- ---- two objects more, at two sites

pub both_shown : (h : AHeap) (s t : Site) → s.0 ≢ t.0 → (l : Label) (k : Key)
    → same_label (new s) l ≡ false → same_label (new t) l ≡ false
    → at_keys_below h.names (made_property (half (made_in (heap_of h) s)) t l) k
    ≡ made_property (with_made (half (heap_of h)) s) t l k
both_shown h s t apart l k not_first not_second = pick (is_key_below h.names k) refl
  where
    a : AbstractState
    a = half (heap_of h)

    pick : (b : Bool) → is_key_below h.names k ≡ b
        → (if b then made_property (half (made_in (heap_of h) s)) t l k else entry_property)
        ≡ made_property (with_made a s) t l k
    pick true is =
        made_alike (half (made_in (heap_of h) s)) (with_made a s) t l k
        (λ m. ap (λ (b : Bool). if b then made_property a s m k else entry_property) is)
    pick false is =
        let first = λ (m : Label) (other : same_label (new s) m ≡ false).
        made_entry a s m k (other_key_entry h (old s) k is) (other_key_entry h (new s) k is)
        (other_key_entry h m k is) other in
        sym (made_entry (with_made a s) t l k (first (old t) (new_not_old s t))
        (first (new t) (other_site (new s) (new t) apart)) (first l not_first) not_second)

pub objects_made : (p : Program) (h : AHeap) (s t : Site) (own other : Own) → s.0 ≢ t.0
    → h.names ≡ length p.names → (l : Label) (k : Key)
    → (with_own_in (with_own_in (made_in (made_in (heap_of h) s) t) (new s) own) (new t)
    other).property l k
    ≡ (if same_label (new t) l then at_keys_of p other k
    else if same_label (new s) l then at_keys_of p own k
    else made_property (with_made (half (heap_of h)) s) t l k)
objects_made p h s t own other apart is l k =
    pick (same_label (new t) l) (same_label (new s) l) refl refl
  where
    pick : (b c : Bool) → same_label (new t) l ≡ b → same_label (new s) l ≡ c
        → (if b then at_keys_below h.names other k else if c then at_keys_below h.names own k
        else at_keys_below h.names (made_property (half (made_in (heap_of h) s)) t l) k)
        ≡ (if b then at_keys_of p other k else if c then at_keys_of p own k
        else made_property (with_made (half (heap_of h)) s) t l k)
    pick true c second first = own_same p h.names is other k
    pick false true second first = own_same p h.names is own k
    pick false false second first = both_shown h s t apart l k first second
