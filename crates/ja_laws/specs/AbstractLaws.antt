-- What joins, writes, reads, objects that are made, keys and returns say, in other words than
-- those of their definitions.
use Rattle.std.specs.Prelude.{◌≡◌, ◌≢◌, ◌⊎◌, ℕ, false, ◌||◌, IsTrue, List, [], ◌∷◌}
use Rattle.std.specs.List.{AllByRecursion, list_any}
use Rattle.ja_base.specs.declared.ids.Label.{Label}
use Rattle.ja_base.specs.declared.ids.NameId.{NameId}
use Rattle.ja_base.specs.declared.ids.Site.{Site}
use Rattle.ja_graph.specs.declared.program.Program.{Program}
use Rattle.ja_abstract.specs.declared.abstraction.Key.{Key}
use Rattle.ja_abstract.specs.declared.abstraction.Key.TheVariants as key
use Rattle.ja_abstract.specs.AbstractValue.{Labels, AbstractValue, AbstractProperty, same_label, entry_property}
use Rattle.ja_abstract.specs.AbstractState.{AbstractState, new, old, labels_of, is_key, same_key, exactly_none, exactly_some}
use Rattle.ja_abstract.specs.Order.{LeqValue, LeqProperty, LeqState}
use Rattle.ja_abstract.specs.Reading.{View, has_present, may_refuse}
use Rattle.ja_abstract.specs.Writes.{asked_at, is_array_label, put_property}

-- ---- joins: the least that is above two

pub record IsLeastValue (a b c : AbstractValue) : Type 0 where
  pub left : LeqValue a c
  pub right : LeqValue b c
  pub least : (d : AbstractValue) → LeqValue a d → LeqValue b d → LeqValue c d

pub record IsLeastProperty (a b c : AbstractProperty) : Type 0 where
  pub left : LeqProperty a c
  pub right : LeqProperty b c
  pub least : (d : AbstractProperty) → LeqProperty a d → LeqProperty b d → LeqProperty c d

pub record IsLeastState (a b c : AbstractState) : Type 0 where
  pub left : LeqState a c
  pub right : LeqState b c
  pub least : (d : AbstractState) → LeqState a d → LeqState b d → LeqState c d

-- ---- writes

-- a label of the program is in the target
pub record IsTarget (w : View) (target : Labels) (l : Label) : Type 0 where
  pub is_of_program : IsTrue (list_any (same_label l) (labels_of w.program))
  pub is_in : IsTrue (target l)

-- a strong write has one object: that of a new label, which is the whole target; and one name
pub record IsOfOneObject (w : View) (target : Labels) (keys : List Key) (l : Label) (k : Key)
    : Type 0 where
  pub is_new : l.old ≡ false
  pub alone : (m : Label) → IsTarget w target m → m ≡ l
  pub key_alone : keys ≡ k ∷ []
  pub name : NameId
  pub is_name : k ≡ key.Name name

-- behind a state the property of a label at a key is this one, and all else is as it was
pub record Replaces (before after : AbstractState) (l : Label) (k : Key) (q : AbstractProperty)
    : Type 0 where
  pub property : after.property l k ≡ q
  pub others : (m : Label) (j : Key) → (m ≢ l) ⊎ (j ≢ k)
      → after.property m j ≡ before.property m j
  pub registers : after.register ≡ before.register
  pub masks : after.mask ≡ before.mask

-- a put that isn't refused, and whose property is no length or element of an array
pub record IsPlainPut (w : View) (l : Label) (k : Key) : Type 0 where
  pub no_array : is_array_label w.program l ≡ false
  pub not_refused : may_refuse (asked_at w l k) ≡ false

-- each of some states has the value there, and all else as it was
abbrev pub PutInto : View → Label → Key → AbstractValue → List AbstractState → Type 0
PutInto w l k v after =
    AllByRecursion (λ b. Replaces w.state b l k (put_property w l k v)) after

-- each of some states has all that was there
abbrev pub Keep : AbstractState → List AbstractState → Type 0
Keep before after = AllByRecursion (LeqState before) after

-- ---- reads

-- a property that is surely there, and known
pub record IsThere (w : View) (q : AbstractProperty) : Type 0 where
  pub present : IsTrue (has_present w q.value)
  pub not_absent : q.value.flags.absent ≡ false
  pub not_entry : q.value.flags.entry ≡ false

-- ---- walks

-- the set has what a walk starts with, and with each label of the list those to which it leads
pub record HasWalk (next : Label → Labels) (labels : List Label) (start set : Labels) : Type 0 where
  pub starts : (l : Label) → IsTrue (start l) → IsTrue (set l)
  pub follows : (l m : Label) → IsTrue (list_any (same_label l) labels) → IsTrue (set l)
      → IsTrue (next l m) → IsTrue (set m)

-- .. and no label that another such set lacks
pub record IsLeastWalk (next : Label → Labels) (labels : List Label) (start set : Labels)
    : Type 0 where
  pub has : HasWalk next labels start set
  pub least : (other : Labels) → HasWalk next labels start other → (l : Label) → IsTrue (set l)
      → IsTrue (other l)

-- ---- an object more

-- a value after an object was made at a site: what was new there is old, and all else as it was
pub record IsAged (s : Site) (before after : AbstractValue) : Type 0 where
  pub none_is_new : after.label (new s) ≡ false
  pub old_ones : after.label (old s) ≡ (before.label (old s) || before.label (new s))
  pub others : (l : Label) → l.site.0 ≢ s.0 → after.label l ≡ before.label l
  pub same_flags : after.flags ≡ before.flags
  pub same_number : after.number ≡ before.number
  pub same_text : after.text ≡ before.text

-- the state after an object was made at a site, but for the object itself
pub record IsMade (s : Site) (before after : AbstractState) : Type 0 where
  pub registers : (r : ℕ) → IsAged s (before.register r) (after.register r)
  pub properties : (l : Label) (k : Key) → l.site.0 ≢ s.0
      → IsAged s (before.property l k).value (after.property l k).value
  pub attributes : (l : Label) (k : Key) → l.site.0 ≢ s.0
      → (after.property l k).attrs ≡ (before.property l k).attrs
  pub mask : after.mask s.0 ≡ exactly_some
  pub masks : (t : ℕ) → t ≢ s.0 → after.mask t ≡ before.mask t

-- no key of the list is this one
abbrev pub HasNone : List (Key × AbstractProperty) → Key → Type 0
HasNone list k = AllByRecursion (λ (q : Key × AbstractProperty). same_key q.0 k ≡ false) list

-- ---- two moments

-- nothing was made and nothing changed since the entry
pub record ChangesNothing (a : AbstractState) : Type 0 where
  pub property : (l : Label) (k : Key) → a.property l k ≡ entry_property
  pub mask : (t : ℕ) → a.mask t ≡ exactly_none

-- a state is another one, at the keys of the program
pub record IsSameAtKeys (p : Program) (a b : AbstractState) : Type 0 where
  pub register : (r : ℕ) → a.register r ≡ b.register r
  pub property : (l : Label) (k : Key) → IsTrue (is_key p k) → a.property l k ≡ b.property l k
  pub mask : (t : ℕ) → a.mask t ≡ b.mask t
