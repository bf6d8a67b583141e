-- The resolved reading of an abstract state knows what each object has now.
use Rattle.std.specs.Prelude.{◌≡◌, ◌⊎◌, ◌<◌, ◌≤◌, ◌+◌, ◌&&◌, ◌==◌, ℕ, Bool, true, false, not, if◌then◌else◌, IsTrue, [], ◌∷◌, Option, Some, None, IsSome}
use Rattle.std.specs.Option.{option_map_or}
use Rattle.std.proofs.Common.{refl, sym, subst, ap, arith, inl, inr, ◌∙◌}
use Rattle.std.proofs.lemmas.Bool.{or_left, or_right, and_parts, and_from, false≢true, cond_both, cases_order}
use Rattle.std.proofs.lemmas.Bool.Decides.{nat_tests}
use Rattle.ja_base.specs.declared.ids.Label.{Label}
use Rattle.ja_base.specs.declared.ids.Site.{Site}
use Rattle.ja_graph.specs.declared.program.Program.{Program}
use Rattle.ja_machine.specs.declared.machine.Addr.{Addr}
use Rattle.ja_machine.specs.declared.machine.Value.{Value}
use Rattle.ja_machine.specs.declared.machine.Value.TheVariants as value
use Rattle.ja_machine.specs.declared.machine.Heap.{Heap}
use Rattle.ja_machine.specs.Heap.{count}
use Rattle.ja_machine.specs.State.{IsObjectOf, IsValueOf}
use Rattle.ja_machine.proofs.Heaps.{ordinal-below}
use Rattle.ja_abstract.specs.declared.abstraction.Mask.{Mask}
use Rattle.ja_abstract.specs.declared.abstraction.Key.{Key}
use Rattle.ja_abstract.specs.AbstractValue.{Labels, AbstractValue, AbstractProperty, same_label, join_properties, no_property}
use Rattle.ja_abstract.specs.AbstractState.{new, old, same_key}
use Rattle.ja_abstract.specs.Contents.{label_of, SpotContent, missing, held, present, present_row, content}
use Rattle.ja_abstract.specs.Keys.{Spot, key_of}
use Rattle.ja_abstract.specs.Resolved.{origins, renamed_labels, renamed, known_part, from_entry, resolved, demands_of, IsFilled}
use Rattle.ja_abstract.specs.Reading.{View}
use Rattle.ja_abstract.proofs.Keys.{same_key-true, same_key-self}
use Rattle.ja_abstract.proofs.Labels.{IsAmong, same_label-self, some_among}
use Rattle.ja_abstract.proofs.Parts.{has_primitive-labels}
use Rattle.ja_abstract.proofs.Joins.{and_three}
use Rattle.ja_meaning.specs.Meaning.{has_value, knows, Tells, IsOfHeap}
pub use Rattle.ja_meaning.specs.RenamingLaws.{IsAged}
use Rattle.ja_meaning.proofs.Moments.{Reads}
use Rattle.ja_meaning.proofs.Inside.{inside}
use Rattle.ja_meaning.proofs.Parts.{knows-known_part, knows-join_all}
use Rattle.ja_meaning.proofs.Values.{knows-join_left, knows-join_right}

-- ---- labels at the entry and now

-- the masks of a state that is read hold
pub aged_from_read : (e c : Heap) (w : View) → Reads e c w → IsAged e c w.state.mask
aged_from_read e c w read =
    record { grows = read.grows; some = read.holds.some; none = read.holds.none }

-- an object's label at the entry and now: the same one where none was made, and old now where some
-- was
abbrev IsRelabelled : (ℕ → Mask) → Site → Bool → Bool → Type 0
IsRelabelled mask s before now =
    ((before ≡ now) × IsTrue (mask s.0).none) ⊎ ((now ≡ true) × IsTrue (mask s.0).some)

-- an ordinal below an earlier count is not the last one
last_below : (i m n : ℕ) → i < m → m < n → not (i + 1 == n) ≡ true
last_below i m n h l = grind (arith, h, l, nat_tests)

-- the masks tell how the label of an object changed
relabelled : (e c : Heap) (mask : ℕ → Mask) → IsAged e c mask → (a : Addr) → IsObjectOf e a
    → IsRelabelled mask a.site (label_of e a).old (label_of c a).old
relabelled e c mask aged a o =
    let below : a.ordinal < count e a.site = ordinal-below e a o in
    let more : count e a.site ≤ count c a.site = aged.grows a.site in
    elim (cases_order (count e a.site) (count c a.site)) [
      | inl same ↦ inl (ap (λ n. not (a.ordinal + 1 == n)) same, aged.none a.site same)
      | inr other ↦ elim other [
        | inl less ↦ inr (
          last_below a.ordinal (count e a.site) (count c a.site) below less,
          aged.some a.site less,
        )
        | inr greater ↦ absurd (omega arith)
      ]
    ]

-- a label by its parts
abbrev label_at : Site → Bool → Label
label_at s o = record { site = s; old = o }

-- a renamed set has the label now of what it had
renamed_at : (mask : ℕ → Mask) (set : Labels) (s : Site) (before now : Bool)
    → IsRelabelled mask s before now → IsTrue (set (label_at s before))
    → IsTrue (renamed_labels mask set (label_at s now))
renamed_at mask set s true true r e = or_left (set (old s)) (set (new s) && (mask s.0).some) e
renamed_at mask set s true false (inl r) e = absurd (false≢true (sym r.0))
renamed_at mask set s true false (inr r) e = absurd (false≢true r.0)
renamed_at mask set s false true (inl r) e = absurd (false≢true r.0)
renamed_at mask set s false true (inr r) e =
    or_right (set (old s)) (set (new s) && (mask s.0).some)
    (and_from (set (new s)) (mask s.0).some e r.1)
renamed_at mask set s false false (inl r) e = and_from (set (new s)) (mask s.0).none e r.1
renamed_at mask set s false false (inr r) e = absurd (false≢true r.0)

-- a label that is there is among that one
if_there : (b : Bool) (l : Label) → IsTrue b → IsAmong l (if b then l ∷ [] else [])
if_there true l e = or_left (same_label l l) false (same_label-self l)
if_there false l e = absurd (false≢true e)

-- .. and its label at the entry is an origin of that
origin_at : (mask : ℕ → Mask) (s : Site) (before now : Bool) → IsRelabelled mask s before now
    → IsAmong (label_at s before) (origins mask (label_at s now))
origin_at mask s true true r = or_left (same_label (old s) (old s)) _ (same_label-self (old s))
origin_at mask s true false (inl r) = absurd (false≢true (sym r.0))
origin_at mask s true false (inr r) = absurd (false≢true r.0)
origin_at mask s false true (inl r) = absurd (false≢true r.0)
origin_at mask s false true (inr r) =
    or_right (same_label (new s) (old s)) _ (if_there (mask s.0).some (new s) r.1)
origin_at mask s false false (inl r) = if_there (mask s.0).none (new s) r.1
origin_at mask s false false (inr r) = absurd (false≢true r.0)

-- the label now of an object of the entry's heap is in the renamed set of each set that has its
-- label there
pub renamed_labels-has : (e c : Heap) (mask : ℕ → Mask) → IsAged e c mask → (a : Addr)
    → IsObjectOf e a → (set : Labels) → IsTrue (set (label_of e a))
    → IsTrue (renamed_labels mask set (label_of c a))
renamed_labels-has e c mask aged a o set h =
    renamed_at mask set a.site (label_of e a).old (label_of c a).old (relabelled e c mask aged a o)
    h

-- the label at the entry of an object of the entry's heap is an origin of its label now
pub origins-has : (e c : Heap) (mask : ℕ → Mask) → IsAged e c mask → (a : Addr) → IsObjectOf e a
    → IsAmong (label_of e a) (origins mask (label_of c a))
origins-has e c mask aged a o =
    origin_at mask a.site (label_of e a).old (label_of c a).old (relabelled e c mask aged a o)

-- ---- contents at the entry, now

-- a value of the entry is one of the renamed value now
has_value-renamed : (e c : Heap) (mask : ℕ → Mask) → IsAged e c mask
    → (v : AbstractValue) (u : Value) → IsValueOf e u → IsTrue (has_value e v u)
    → IsTrue (has_value c (record v { label = renamed_labels mask v.label }) u)
has_value-renamed e c mask aged v (value.Primitive q) o h =
    has_primitive-labels v (renamed_labels mask v.label) q h
has_value-renamed e c mask aged v (value.Object a) o h =
    renamed_labels-has e c mask aged a o v.label h

-- a content of the entry's heap that was known there is known now to the renamed property
pub knows-renamed : (e c : Heap) (mask : ℕ → Mask) → IsAged e c mask
    → (q : AbstractProperty) (x : SpotContent) → IsOfHeap e x → IsTrue (knows e q x)
    → IsTrue (knows c (renamed mask q) x)
knows-renamed e c mask aged q missing o h = h
knows-renamed e c mask aged q (held u) o h = has_value-renamed e c mask aged q.value u o h
knows-renamed e c mask aged q (present u attrs) o h =
    let (v, a) = and_parts _ _ h in
    and_from _ _ (has_value-renamed e c mask aged q.value u o v) a
knows-renamed e c mask aged q (present_row attrs) o h = h

-- ---- the resolved reading

-- where each origin that is demanded has a value, what an object had at the entry is known to the
-- join of them
entry_known : (c : Heap) (mask : ℕ → Mask) (x : SpotContent) (o : Option AbstractProperty)
    → IsSome o → ((q : AbstractProperty) → o ≡ Some q → IsTrue (knows c (renamed mask q) x))
    → IsTrue (knows c (option_map_or (renamed mask) o no_property) x)
entry_known c mask x None s f = absurd (false≢true s)
entry_known c mask x (Some q) s f = f q refl

module _ (e c : Heap) (w : View) (read : Reads e c w) where
  abbrev p : Program
  p = w.program

  -- what the objects of a label had at entry is known
  from_entry-knows : (a : Addr) (x : Spot) (k : Key) → IsTrue (same_key (key_of p x) k)
      → IsFilled w.entries (demands_of w.state (label_of c a) k)
      → IsTrue (w.state.property (label_of c a) k).value.flags.entry → IsObjectOf e a
      → IsTrue (knows c (from_entry w.state w.entries (label_of c a) k) (content e a x))
  from_entry-knows a x k same filled entry o =
      let aged = aged_from_read e c w read in
      let mask = w.state.mask in
      let l : Label = label_of c a in
      let m : Label = label_of e a in
      let origin : IsAmong m (origins mask l) = origins-has e c mask aged a o in
      let demanded : IsTrue (demands_of w.state l k m k) = and_three _ _ _ entry (same_key-self k)
      (some_among (λ (n : Label). same_label n m) (origins mask l) m origin
      (same_label-self m)) in
      knows-join_all c (λ (n : Label). option_map_or (renamed mask) (w.entries n k) no_property)
      (origins mask l) m (content e a x) origin
      (entry_known c mask (content e a x) (w.entries m k) (filled m k demanded) (λ q found.
      knows-renamed e c mask aged q (content e a x) (inside p e read.heap_at_entry a x)
      (read.entries m k q found a x o (same_label-self m) same)))

  -- either way that the state holds of an object
  own-at : (a : Addr) (x : Spot) (k : Key) → IsTrue (same_key (key_of p x) k)
      → IsFilled w.entries (demands_of w.state (label_of c a) k)
      → Tells e c a x (w.state.property (label_of c a) k)
      → IsTrue (knows c (resolved w.state w.entries (label_of c a) k) (content c a x))
  own-at a x k same filled (inl known) =
      let q = w.state.property (label_of c a) k in
      cond_both q.value.flags.entry (join_properties (known_part q)
      (from_entry w.state w.entries (label_of c a) k)) q
      (λ r. IsTrue (knows c r (content c a x)))
      (λ _. knows-join_left c (known_part q) (from_entry w.state w.entries (label_of c a) k)
      (content c a x) (knows-known_part c q (content c a x) known))
      (λ _. known)
  own-at a x k same filled (inr (entry, as_was)) =
      let q = w.state.property (label_of c a) k in
      let r = from_entry w.state w.entries (label_of c a) k in
      let known : IsTrue (knows c r (content c a x)) = subst (λ y. IsTrue (knows c r y))
      (sym as_was.same) (from_entry-knows a x k same filled entry as_was.there) in
      cond_both q.value.flags.entry (join_properties (known_part q) r) q
      (λ s. IsTrue (knows c s (content c a x)))
      (λ _. knows-join_right c (known_part q) r (content c a x) known)
      (λ no. absurd (false≢true (sym no ∙ entry)))

  -- the resolved reading at an object's label knows what the object has at each place of the key
  pub own-knows : (a : Addr) (x : Spot) (k : Key) → IsTrue (same_key (key_of p x) k)
      → IsObjectOf c a → IsFilled w.entries (demands_of w.state (label_of c a) k)
      → IsTrue (knows c (resolved w.state w.entries (label_of c a) k) (content c a x))
  own-knows a x k same o filled =
      own-at a x k same filled
      (subst (λ (j : Key). Tells e c a x (w.state.property (label_of c a) j))
      (same_key-true (key_of p x) k same) (read.holds.objects a x o))
