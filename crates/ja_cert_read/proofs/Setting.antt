-- What loops that take the last of a list out and set it come to.
use Rattle.std.proofs.Common.{◌≡◌, ◌==◌, ◌<◌, ℕ, suc, zero, Bool, true, false, ◌&&◌, if◌then◌else◌, List, [], ◌∷◌, ◌++◌, map, length, refl, ap, sym, subst, ◌∙◌, append-nil, append_assoc, arith}
use Rattle.std.specs.Prelude.{All, IsTrue, reverse}
use Rattle.std.specs.List.{AllByRecursion}
use Rattle.std.proofs.lemmas.List.{length-append, map-append, reverse-append}
use Rattle.std.proofs.lemmas.List.Elements.{All-from_recursion}
use Rattle.ja_base.proofs.Lists.{all_append, all_left, all_right, all_weaker}
use Rattle.ja_base.specs.declared.ids.Label.{Label}
use Rattle.ja_base.specs.declared.ids.Site.{Site}
use Rattle.ja_graph.specs.declared.program.Program.{Program}
use Rattle.ja_abstract.specs.declared.abstraction.Key.{Key}
use Rattle.ja_abstract.specs.declared.abstraction.Mask.{Mask}
use Rattle.ja_abstract.specs.AbstractValue.{AbstractProperty, same_label, undefined_value}
use Rattle.ja_abstract.specs.AbstractState.{AbstractState, same_key, with_register}
use Rattle.ja_abstract.specs.Resolved.{Entries}
use Rattle.ja_abstract.specs.Writes as abstract
use Rattle.ja_abstract.specs.Writes.{replaced_at, strong_update}
use Rattle.ja_value.specs.declared.value.AValue.{AValue}
use Rattle.ja_value.specs.Value.{value_of}
use Rattle.ja_aheap.specs.declared.writes.Write.{Write}
use Rattle.ja_aheap.specs.KeysBelow.{is_key_below}
use Rattle.ja_aheap.specs.Heap.{heap_of, masks_with, with_masks_in, HeapMap}
use Rattle.ja_astate.proofs.StateLemmas.{state_with}
use Rattle.ja_aheap.specs.Objects.{write_of}
use Rattle.ja_astate.specs.declared.state.AState.{AState}
use Rattle.ja_astate.specs.State.{register_in, HaveOneShape, IsStateOf}
use Rattle.ja_cert_parts.specs.declared.listed.EntryAt.{EntryAt}
use Rattle.ja_cert_parts.specs.declared.listed.MaskAt.{MaskAt}
use Rattle.ja_cert_parts.specs.declared.listed.PropertyAt.{PropertyAt}
use Rattle.ja_cert_parts.specs.declared.listed.RegisterAt.{RegisterAt}
use Rattle.ja_cert_read.specs.code.Building.{entries_with, entry_value, first_at, is_entry_at, is_mask, is_property, is_register, mask_pair, mask_value, property_in, register_value, setting, with_masks, with_properties, with_registers, AreTaken, IsPlaced}
use Rattle.ja_cert_read.proofs.Listing.{first_at-append, first_at-last}

-- ---- registers

pub undefined_more : (xs : List AValue) (x : AValue) → value_of x ≡ undefined_value
    → ((r : ℕ) → register_in xs r ≡ undefined_value) → (r : ℕ)
    → register_in (xs ++ x ∷ []) r ≡ undefined_value
undefined_more [] x here each zero = here
undefined_more [] x here each (suc r) = refl
undefined_more (y ∷ ys) x here each zero = each zero
undefined_more (y ∷ ys) x here each (suc r) = undefined_more ys x here (λ s. each (suc s)) r

pub registers_turn : (all rest : List RegisterAt) (x : RegisterAt) (now next : AbstractState)
    → all ≡ rest ++ x ∷ []
    → next ≡ with_register now (record { 0 = x.register }) (register_value x)
    → with_registers rest next ≡ with_registers all now
registers_turn all rest x now next last step =
    ap (with_registers rest) step
    ∙ (λ i. record now {
      register = λ r. (sym (first_at-last is_register register_value now.register rest x r)) i;
    })
    ∙ ap (λ (xs : List RegisterAt). with_registers xs now) (sym last)

-- ---- shapes

pub one_shape : (a b c : AState) → HaveOneShape a b → HaveOneShape b c → HaveOneShape a c
one_shape a b c h k = record {
  sites = h.sites ∙ k.sites;
  names = h.names ∙ k.names;
  registers = h.registers ∙ k.registers;
}

pub state_along : (p : Program) (n : ℕ) (a b : AState) → IsStateOf p n a → HaveOneShape a b
    → IsStateOf p n b
state_along p n a b is shape = record {
  heap = record {
    sites = sym shape.sites ∙ is.heap.sites;
    names = sym shape.names ∙ is.heap.names;
  };
  registers = sym shape.registers ∙ is.registers;
}

pub placed_along : (p : Program) (n : ℕ) (a : AState) (heap : List PropertyAt) → IsStateOf p n a
    → AllByRecursion (IsPlaced (length p.sites) (length p.names)) heap
    → AllByRecursion (IsPlaced (heap_of a.heap).sites (heap_of a.heap).names) heap
placed_along p n a heap is all =
    subst (λ (m : ℕ). AllByRecursion (IsPlaced m (heap_of a.heap).names) heap) (sym is.heap.sites)
    (subst (λ (m : ℕ). AllByRecursion (IsPlaced (length p.sites) m) heap) (sym is.heap.names) all)

-- ---- lists without their last

pub but_last : {X : Type 0} (P : X → Type 0) (all rest : List X) (x : X) → all ≡ rest ++ x ∷ []
    → AllByRecursion P all → AllByRecursion P rest × P x
but_last P all rest x last each =
    let both = subst (AllByRecursion P) last each in
    (all_left P rest (x ∷ []) both, (all_right P rest (x ∷ []) both).0)

-- ---- properties

-- those of one label, as writes
two_tests : {X : Type 0} (b c : Bool) (x y z : X)
    → (if b then (if c then x else y) else z) ≡ (if b && c then x else (if b then y else z))
two_tests true true x y z = refl
two_tests true false x y z = refl
two_tests false c x y z = refl

no_test : {X : Type 0} (b : Bool) (x : X) → (if b then x else x) ≡ x
no_test true x = refl
no_test false x = refl

set_at : (xs : List PropertyAt) (l : Label)
    → AllByRecursion (λ (x : PropertyAt). x.label ≡ l) xs
    → (f : Label → Key → AbstractProperty) (m : Label) (j : Key)
    → (if same_label l m then replaced_at (map setting xs) (f m j) j else f m j)
    ≡ first_at is_property property_in (λ (pair : Label × Key). f pair.0 pair.1) xs (m, j)
set_at [] l all f m j = no_test (same_label l m) (f m j)
set_at (x ∷ xs) l all f m j =
    let before : AbstractProperty = replaced_at (map setting xs) (f m j) j in
    let others : AbstractProperty = first_at is_property property_in
    (λ (pair : Label × Key). f pair.0 pair.1) xs (m, j) in
    two_tests (same_label l m) (same_key x.key j) (property_in x) before (f m j)
    ∙ ap (λ (q : AbstractProperty). if same_label l m && same_key x.key j then property_in x else q)
    (set_at xs l all.1 f m j)
    ∙ ap (λ (k : Label). if same_label k m && same_key x.key j then property_in x else others)
    (sym all.0)

pub properties_turn : (old new : List PropertyAt) (l : Label) (writes : List Write)
    (now next : AbstractState) → AreTaken old new l writes
    → next ≡ strong_update now l (map write_of writes)
    → with_properties new next ≡ with_properties old now
properties_turn old new l writes now next are step =
    let taken : List PropertyAt = are.taken in
    ap (with_properties new) (step
    ∙ ap (strong_update now l) are.writes_are
    ∙ (λ i. record now { property = λ m j. (set_at taken l are.labels now.property m j) i }))
    ∙ (λ i. record now {
      property = λ m j. (sym (first_at-append is_property property_in
          (λ (pair : Label × Key). now.property pair.0 pair.1) new taken (m, j))) i;
    })
    ∙ ap (λ (xs : List PropertyAt). with_properties xs now) (sym are.split)

-- those that are left, and the writes, are of the program
pub left_placed : (sites names : ℕ) (old new : List PropertyAt) (l : Label) (writes : List Write)
    → AreTaken old new l writes → AllByRecursion (IsPlaced sites names) old
    → AllByRecursion (IsPlaced sites names) new
left_placed sites names old new l writes are all =
    all_left (IsPlaced sites names) new are.taken
    (subst (AllByRecursion (IsPlaced sites names)) are.split all)

all_from_map : {X Y : Type 0} (P : Y → Type 0) (f : X → Y) (xs : List X)
    → AllByRecursion P (map f xs) → AllByRecursion (λ (x : X). P (f x)) xs
all_from_map P f [] all = tt
all_from_map P f (x ∷ xs) all = (all.0, all_from_map P f xs all.1)

all_to_map : {X Y : Type 0} (P : Y → Type 0) (f : X → Y) (xs : List X)
    → AllByRecursion (λ (x : X). P (f x)) xs → AllByRecursion P (map f xs)
all_to_map P f [] all = tt
all_to_map P f (x ∷ xs) all = (all.0, all_to_map P f xs all.1)

pub keys_placed : (sites names : ℕ) (old new : List PropertyAt) (l : Label) (writes : List Write)
    → AreTaken old new l writes → AllByRecursion (IsPlaced sites names) old
    → AllByRecursion (λ (w : Write). IsTrue (is_key_below names w.key)) writes
keys_placed sites names old new l writes are all =
    let HasKey : abstract.Write → Type 0 = λ w. IsTrue (is_key_below names w.key) in
    let taken : AllByRecursion (IsPlaced sites names) are.taken =
    all_right (IsPlaced sites names) new are.taken
    (subst (AllByRecursion (IsPlaced sites names)) are.split all) in
    all_from_map HasKey write_of writes (subst (AllByRecursion HasKey) (sym are.writes_are)
    (all_to_map HasKey setting are.taken
    (all_weaker (IsPlaced sites names) (λ (x : PropertyAt). HasKey (setting x)) (λ x h. h.key)
    are.taken taken)))

-- ---- properties of one label that are taken out one after another

pub record Taking (old new : List PropertyAt) (l : Label) (first now : List Write) : Type 0 where
  pub taken : List PropertyAt
  pub split : old ≡ new ++ taken
  pub labels : AllByRecursion (λ (x : PropertyAt). x.label ≡ l) taken
  pub writes_are : map write_of (reverse now) ≡ map setting taken ++ map write_of (reverse first)

pub taking_none : (heap : List PropertyAt) (l : Label) (first : List Write)
    → Taking heap heap l first first
taking_none heap l first = record {
  taken = [];
  split = sym (append-nil heap);
  labels = tt;
  writes_are = refl;
}

pub taking_more : (old before after : List PropertyAt) (l : Label) (first now next : List Write)
    (x : PropertyAt) (w : Write) → Taking old before l first now → before ≡ after ++ x ∷ []
    → x.label ≡ l → next ≡ now ++ w ∷ [] → write_of w ≡ setting x → Taking old after l first next
taking_more old before after l first now next x w are last label pushed is = record {
  taken = x ∷ are.taken;
  split = are.split ∙ ap (λ (xs : List PropertyAt). xs ++ are.taken) last
      ∙ append_assoc after (x ∷ []) are.taken;
  labels = (label, are.labels);
  writes_are = ap (λ (ws : List Write). map write_of (reverse ws)) pushed
      ∙ ap (map write_of) (reverse-append now (w ∷ []))
      ∙ (λ i. is i ∷ are.writes_are i);
}

pub taking_all : (old new : List PropertyAt) (last : PropertyAt) (first now : List Write)
    (w : Write) → Taking old new last.label first now → first ≡ w ∷ [] → write_of w ≡ setting last
    → AreTaken (old ++ last ∷ []) new last.label (reverse now)
taking_all old new last first now w are begins is =
    let split : old ++ last ∷ [] ≡ new ++ (are.taken ++ last ∷ []) =
    ap (λ (xs : List PropertyAt). xs ++ last ∷ []) are.split
    ∙ append_assoc new are.taken (last ∷ []) in
    record {
      taken = are.taken ++ last ∷ [];
      split = split;
      labels =
          all_append (λ (x : PropertyAt). x.label ≡ last.label) are.taken (last ∷ []) are.labels
          (refl, tt);
      writes_are =
          are.writes_are
          ∙ ap (λ (ws : List Write). map setting are.taken ++ map write_of (reverse ws)) begins
          ∙ ap (λ (v : abstract.Write). map setting are.taken ++ v ∷ []) is
          ∙ sym (map-append setting are.taken (last ∷ []));
      shorter =
          omega (
            arith,
            ap length split,
            length-append new (are.taken ++ last ∷ []),
            length-append are.taken (last ∷ []),
          );
    }

-- ---- masks

pub masks_are : (xs : List MaskAt) (mask : ℕ → Mask) (s : ℕ)
    → masks_with (map mask_pair xs) mask s
    ≡ first_at is_mask mask_value mask xs s
masks_are [] mask s = refl
masks_are (x ∷ xs) mask s =
    ap (λ (m : Mask). if x.site.0 == s then x.mask else m) (masks_are xs mask s)

pub masks_set : (xs : List MaskAt) (pairs : List (Site × Mask)) (registers : List AValue)
    (old new : HeapMap) → pairs ≡ map mask_pair xs → new ≡ with_masks_in old pairs
    → state_with registers new ≡ with_masks xs (state_with registers old)
masks_set xs pairs registers old new are set =
    ap (state_with registers) (set ∙ ap (with_masks_in old) are)
    ∙ (λ i. record (state_with registers old) { mask = λ s. (masks_are xs old.mask s) i })

pub masks_within : (n : ℕ) (xs : List MaskAt) (pairs : List (Site × Mask))
    → pairs ≡ map mask_pair xs → AllByRecursion (λ (x : MaskAt). x.site.0 < n) xs
    → All (λ (m : Site × Mask). m.0.0 < n) pairs
masks_within n xs pairs are all =
    let IsWithin : Site × Mask → Type 0 = λ m. m.0.0 < n in
    All-from_recursion IsWithin pairs
    (subst (AllByRecursion IsWithin) (sym are) (all_to_map IsWithin mask_pair xs all))

-- ---- values at entry

pub entries_turn : (all rest : List EntryAt) (x : EntryAt) (now next : Entries)
    → all ≡ rest ++ x ∷ []
    → next ≡ (λ l k. if same_label x.label l && same_key x.key k then entry_value x else now l k)
    → entries_with rest next ≡ entries_with all now
entries_turn all rest x now next last step =
    ap (entries_with rest) step
    ∙ (λ i l k. (sym (first_at-last is_entry_at entry_value
    (λ (pair : Label × Key). now pair.0 pair.1) rest x (l, k))) i)
    ∙ ap (λ (xs : List EntryAt). entries_with xs now) (sym last)
