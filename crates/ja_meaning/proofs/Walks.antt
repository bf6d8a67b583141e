-- What walks along prototypes and scopes end with in a heap.
use Rattle.std.specs.Prelude.{◌≡◌, ◌<◌, ℕ, zero, suc, Bool, true, false, cond, IsTrue, List, Option, Some, None, IsSome, find}
use Rattle.std.specs.Option.{option_map_or, option_and_then}
use Rattle.std.proofs.Common.{refl, subst, ap, arith, ◌∙◌}
use Rattle.std.proofs.lemmas.Bool.{false≢true}
use Rattle.std.proofs.lemmas.Option.{none-some}
use Rattle.ja_graph.specs.declared.program.Program.{Program}
use Rattle.ja_machine.specs.declared.machine.Addr.{Addr}
use Rattle.ja_machine.specs.declared.machine.Property.{Property}
use Rattle.ja_machine.specs.declared.machine.Object.{Object}
use Rattle.ja_machine.specs.declared.machine.Heap.{Heap}
use Rattle.ja_machine.specs.Heap as heap
use Rattle.ja_machine.specs.State.{IsObjectOf, IsHeap}
use Rattle.ja_abstract.specs.declared.abstraction.Slot.TheVariants as slot
use Rattle.ja_abstract.specs.AbstractValue.{Labels}
use Rattle.ja_abstract.specs.Contents.{label_of, missing, content, content_of, held_address, property_content}
use Rattle.ja_abstract.specs.Keys.{named, internal}
use Rattle.ja_meaning.specs.Meaning.{IsOfHeap}
use Rattle.ja_meaning.proofs.Inside.{inside}

-- ---- objects of a heap

-- the value of an option that has one
some_value : {X : Type 0} (o : Option X) → IsSome o → (x : X) × (o ≡ Some x)
some_value None h = absurd (false≢true h)
some_value (Some x) h = (x, refl)

-- by the object that is there
named_of : (o : Option Object) (t : List ℕ)
    → option_map_or (λ (x : Object). property_content (heap.property_of x t)) o missing
    ≡ property_content (option_and_then (λ (x : Object). heap.property_of x t) o)
named_of None t = refl
named_of (Some x) t = refl

-- what an object has at a text is its own property
pub content-named : (h : Heap) (a : Addr) (t : List ℕ)
    → content h a (named t) ≡ property_content (heap.own h a t)
content-named h a t = named_of (heap.object_at h a) t

-- the object that a link leads to
abbrev pub link_of : (Object → Option Addr) → Heap → Addr → Option Addr
link_of link h a = option_and_then link (heap.object_at h a)

-- by the object that is there
prototype_slot : (o : Option Object) → option_map_or
    (λ (x : Object). held_address x.slots.prototype) o missing
    ≡ held_address (option_and_then heap.prototype_of o)
prototype_slot None = refl
prototype_slot (Some x) = refl

-- by the object that is there
outer_slot : (o : Option Object) → option_map_or (λ (x : Object). held_address x.slots.outer) o
    missing ≡ held_address (option_and_then heap.outer_of o)
outer_slot None = refl
outer_slot (Some x) = refl

-- what an object has at the slot of its prototype
pub content-prototype : (h : Heap) (a : Addr)
    → content h a (internal slot.Prototype) ≡ held_address (link_of heap.prototype_of h a)
content-prototype h a = prototype_slot (heap.object_at h a)

-- .. and at the slot of its outer object
pub content-outer : (h : Heap) (a : Addr)
    → content h a (internal slot.Outer) ≡ held_address (link_of heap.outer_of h a)
content-outer h a = outer_slot (heap.object_at h a)

-- a link is that of the object that is there
linked : (link : Object → Option Addr) (o : Option Object) (b : Addr)
    → option_and_then link o ≡ Some b → (x : Object) × (o ≡ Some x) × (link x ≡ Some b)
linked link None b e = absurd (none-some b e)
linked link (Some x) b e = (x, refl, e)

-- the prototype of an object is an object of lower rank
pub prototype_before : (p : Program) (h : Heap) (good : IsHeap p h) (a b : Addr)
    → link_of heap.prototype_of h a ≡ Some b → IsObjectOf h b × (good.rank b < good.rank a)
prototype_before p h good a b e =
    let (o, at, is) = linked heap.prototype_of (heap.object_at h a) b e in
    good.prototype_before a b o at is

-- .. and so is its outer object
pub outer_before : (p : Program) (h : Heap) (good : IsHeap p h) (a b : Addr)
    → link_of heap.outer_of h a ≡ Some b → IsObjectOf h b × (good.rank b < good.rank a)
outer_before p h good a b e =
    let (o, at, is) = linked heap.outer_of (heap.object_at h a) b e in
    good.outer_before a b o at is

-- what an own property holds is of the heap
pub own-content : (p : Program) (h : Heap) → IsHeap p h → (a : Addr) (t : List ℕ) (q : Property)
    → heap.own h a t ≡ Some q → IsOfHeap h (content_of q.content q.attrs)
own-content p h good a t q e =
    subst (IsOfHeap h) (content-named h a t ∙ ap property_content e) (inside p h good a (named t))

-- ---- what the walk along prototypes ends with

-- an object that is reached has the property of its own
pub record IsHolder (h : Heap) (set : Labels) (t : List ℕ) (q : Property) (d : Addr) : Type 0 where
  pub is_object : IsObjectOf h d
  pub is_reached : IsTrue (set (label_of h d))
  pub has_own : heap.own h d t ≡ Some q

-- an object that is reached has no property of the name, and no prototype
pub record IsLast (h : Heap) (set : Labels) (t : List ℕ) (d : Addr) : Type 0 where
  pub is_object : IsObjectOf h d
  pub is_reached : IsTrue (set (label_of h d))
  pub has_none : heap.own h d t ≡ None
  pub ends : link_of heap.prototype_of h d ≡ None

-- what the walk along prototypes ends with
abbrev pub Walked : Heap → Labels → List ℕ → Option Property → Type 0
Walked h set t None = (d : Addr) × IsLast h set t d
Walked h set t (Some q) = (d : Addr) × IsHolder h set t q d

-- from an object that lacks the name a set leads to its prototype
abbrev pub LeadsOn : Heap → Labels → List ℕ → Type 0
LeadsOn h set t =
    (a b : Addr) → IsObjectOf h a → IsTrue (set (label_of h a)) → heap.own h a t ≡ None
    → link_of heap.prototype_of h a ≡ Some b → IsTrue (set (label_of h b))

module _ (p : Program) (h : Heap) (good : IsHeap p h) (set : Labels) (t : List ℕ)
    (leads : LeadsOn h set t) where
  -- no prototype: the walk ends behind this object
  walk_end : (n : ℕ) (a : Addr) → IsObjectOf h a → IsTrue (set (label_of h a))
      → heap.own h a t ≡ None → link_of heap.prototype_of h a ≡ None
      → Walked h set t (heap.first_own h t (heap.chain heap.prototype_of h n None))
  walk_end zero a o s none end =
      (a, record { is_object = o; is_reached = s; has_none = none; ends = end })
  walk_end (suc n) a o s none end =
      (a, record { is_object = o; is_reached = s; has_none = none; ends = end })

  -- what the walk ends with, from each object whose rank is below the fuel
  abbrev Walks : ℕ → Type 0
  Walks n =
      (a : Addr) → IsObjectOf h a → IsTrue (set (label_of h a)) → good.rank a < n
      → Walked h set t (heap.first_own h t (heap.chain heap.prototype_of h n (Some a)))

  -- a prototype: the walk goes on from it
  walk_on : (n : ℕ) → Walks n → (a : Addr) → IsObjectOf h a → IsTrue (set (label_of h a))
      → good.rank a < suc n → heap.own h a t ≡ None → (r : Option Addr)
      → link_of heap.prototype_of h a ≡ r → Walked h set t
      (heap.first_own h t (heap.chain heap.prototype_of h n r))
  walk_on n further a o s below none None e = walk_end n a o s none e
  walk_on n further a o s below none (Some b) e =
      let (object, lower) = prototype_before p h good a b e in
      further b object (leads a b o s none e) (omega arith)

  -- a property of its own: the walk ends with it
  walk_own : (n : ℕ) → Walks n → (a : Addr) → IsObjectOf h a → IsTrue (set (label_of h a))
      → good.rank a < suc n → (r : Option Property) → heap.own h a t ≡ r
      → Walked h set t (heap.or_else r (heap.first_own h t
      (heap.chain heap.prototype_of h n (link_of heap.prototype_of h a))))
  walk_own n further a o s below (Some q) e =
      (a, record { is_object = o; is_reached = s; has_own = e })
  walk_own n further a o s below None e =
      walk_on n further a o s below e (link_of heap.prototype_of h a) refl

  -- at each fuel
  walk : (n : ℕ) → Walks n
  walk zero a o s below = absurd (omega arith)
  walk (suc n) a o s below = walk_own n (walk n) a o s below (heap.own h a t) refl

  -- the walk from an object that is reached ends with a property, or behind an object that has
  -- neither
  pub get_walked : (a : Addr) → IsObjectOf h a → IsTrue (set (label_of h a))
      → Walked h set t (heap.get h a t)
  get_walked a o s = walk (heap.size h) a o s (good.ranked a o)

-- ---- what the walk along scopes ends with

-- an object that is reached has no property of the name, and no outer object
pub record IsOutermost (h : Heap) (set : Labels) (t : List ℕ) (d : Addr) : Type 0 where
  pub is_object : IsObjectOf h d
  pub is_reached : IsTrue (set (label_of h d))
  pub has_none : heap.has h d t ≡ false
  pub ends : link_of heap.outer_of h d ≡ None

-- an object that is reached has the property, of its own or by its prototypes
pub record IsScope (h : Heap) (set : Labels) (t : List ℕ) (d : Addr) : Type 0 where
  pub is_object : IsObjectOf h d
  pub is_reached : IsTrue (set (label_of h d))
  pub has_one : heap.has h d t ≡ true

-- what the search of a scope chain ends with
abbrev pub Searched : Heap → Labels → List ℕ → Option Addr → Type 0
Searched h set t None = (d : Addr) × IsOutermost h set t d
Searched h set t (Some d) = IsScope h set t d

-- from an object that lacks the name a set leads to its outer object
abbrev pub LeadsOut : Heap → Labels → List ℕ → Type 0
LeadsOut h set t =
    (a b : Addr) → IsObjectOf h a → IsTrue (set (label_of h a)) → heap.has h a t ≡ false
    → link_of heap.outer_of h a ≡ Some b → IsTrue (set (label_of h b))

module _ (p : Program) (h : Heap) (good : IsHeap p h) (set : Labels) (t : List ℕ)
    (leads : LeadsOut h set t) where
  -- the first object of a chain that has the name
  abbrev searched_from : ℕ → Option Addr → Option Addr
  searched_from n r = find (λ (b : Addr). heap.has h b t) (heap.chain heap.outer_of h n r)

  -- no outer object: the search ends behind this one
  search_end : (n : ℕ) (a : Addr) → IsObjectOf h a → IsTrue (set (label_of h a))
      → heap.has h a t ≡ false → link_of heap.outer_of h a ≡ None
      → Searched h set t (searched_from n None)
  search_end zero a o s none end =
      (a, record { is_object = o; is_reached = s; has_none = none; ends = end })
  search_end (suc n) a o s none end =
      (a, record { is_object = o; is_reached = s; has_none = none; ends = end })

  -- what the search ends with, from each object whose rank is below the fuel
  abbrev Searches : ℕ → Type 0
  Searches n =
      (a : Addr) → IsObjectOf h a → IsTrue (set (label_of h a)) → good.rank a < n
      → Searched h set t (searched_from n (Some a))

  -- an outer object: the search goes on from it
  search_on : (n : ℕ) → Searches n → (a : Addr) → IsObjectOf h a → IsTrue (set (label_of h a))
      → good.rank a < suc n → heap.has h a t ≡ false → (r : Option Addr)
      → link_of heap.outer_of h a ≡ r → Searched h set t (searched_from n r)
  search_on n further a o s below none None e = search_end n a o s none e
  search_on n further a o s below none (Some b) e =
      let (object, lower) = outer_before p h good a b e in
      further b object (leads a b o s none e) (omega arith)

  -- an object with the name: the search ends with it
  search_own : (n : ℕ) → Searches n → (a : Addr) → IsObjectOf h a → IsTrue (set (label_of h a))
      → good.rank a < suc n → (b : Bool) → heap.has h a t ≡ b
      → Searched h set t (cond b (Some a) (searched_from n (link_of heap.outer_of h a)))
  search_own n further a o s below true e = record { is_object = o; is_reached = s; has_one = e }
  search_own n further a o s below false e =
      search_on n further a o s below e (link_of heap.outer_of h a) refl

  -- at each fuel
  scope_search : (n : ℕ) → Searches n
  scope_search zero a o s below = absurd (omega arith)
  scope_search (suc n) a o s below = search_own n (scope_search n) a o s below (heap.has h a t) refl

  -- the search from an object that is reached ends with one that has the name, or behind one that
  -- lacks it
  pub find_searched : (a : Addr) → IsObjectOf h a → IsTrue (set (label_of h a))
      → Searched h set t (find (λ (b : Addr). heap.has h b t) (heap.scopes h a))
  find_searched a o s = scope_search (heap.size h) a o s (good.ranked a o)
