-- What is found, changed, added and deleted among slots, as among the properties that are in them.
use Rattle.std.proofs.Common.{◌≡◌, ℕ, zero, suc, ◌+◌, ◌<◌, Bool, true, false, cond, List, [], ◌∷◌, ◌++◌}
use Rattle.std.proofs.Common.{Some, None, Option, length, take, drop, get_or, append_assoc, inl, inr, refl, sym, ap, ◌∙◌, subst, arith}
use Rattle.std.specs.Prelude.{find, filter, map, nat_eq, is_some, ◌||◌, slice_set}
use Rattle.std.specs.Option.{option_map}
use Rattle.std.specs.Cmp.Lexicographic.{pointwise, bytes_decides}
use Rattle.std.proofs.lemmas.Bool.{cases_Bool}
use Rattle.std.proofs.lemmas.List.{get_or_read, take_more, take_all, drop_more, length-take-le}
use Rattle.std.specs.HashMap.{HashMap, get}
use Rattle.std.specs.Global.{Global}
use Rattle.std.specs.Prelude.{Box, IfSome, ◌-◌}
use Rattle.ja_graph.specs.declared.attrs.Attrs.{Attrs}
use Rattle.ja_graph.specs.declared.attrs.TheConstants.{NO_ATTRS}
use Rattle.ja_machine.specs.declared.machine.Content.{Content}
use Rattle.ja_machine.specs.declared.machine.Content.TheVariants as contents
use Rattle.ja_machine.specs.declared.machine.Property.{Property}
use Rattle.ja_machine.specs.declared.machine.Value.{Value}
use Rattle.ja_prim.specs.Texts.{same_text}
use Rattle.ja_machine.specs.Objects.{with_property}
use Rattle.ja_machine.specs.Writes.{new_property, with_value, with_definition, without}
use Rattle.ja_machine.specs.code.Writes.{shared_from_now}
use Rattle.ja_heap.specs.code.Slots.{live, has_name, slot_of, slot_at, IsApart, IsPlaced, IsWithout, HasPlaces, HasSlot, changed_at, shown}

-- texts are equal that the test calls the same
text_same : (t u : List ℕ) → same_text t u ≡ true → t ≡ u
text_same t u e = (bytes_decides t u).0 e

-- a table asks of two texts what the machine asks of them the other way round
same : (name key : List ℕ) (b : Bool) → same_text name key ≡ b → pointwise nat_eq name key ≡ b
same name key b e = e

-- ---- numbers one more

none_suc : (r : Option ℕ) → option_map suc r ≡ None → r ≡ None
none_suc None h = refl
none_suc (Some i) h = cc

some_suc : (r : Option ℕ) (i : ℕ) → option_map suc r ≡ Some (suc i) → r ≡ Some i
some_suc None i h = cc
some_suc (Some j) i h = cc

some_zero : {X : Type 0} (r : Option ℕ) → option_map suc r ≡ Some zero → X
some_zero None h = cc
some_zero (Some j) h = cc

-- ---- a slot of a name

module _ (name : List ℕ) where
  -- what isn't the name's is looked past
  pub slot_past : (slot : Option Property) (slots : List (Option Property))
      → has_name name slot ≡ false → slot_of name (slot ∷ slots)
      ≡ option_map suc (slot_of name slots)
  slot_past slot slots f = simp f

  pub none_past : (slot : Option Property) (slots : List (Option Property))
      → slot_of name (slot ∷ slots) ≡ None → (has_name name slot ≡ false)
      × (slot_of name slots ≡ None)
  none_past slot slots h =
      elim (cases_Bool (has_name name slot)) [
        | inl t ↦ absurd (let k : Some 0 ≡ None = simp t at h in cc)
        | inr f ↦ (f, none_suc (slot_of name slots) (simp f at h))
      ]

  -- the first slot of the name among those that were looked through
  pub first_at : (slots : List (Option Property)) (i : ℕ) (d : Option Property) → i < length slots
      → slot_of name (take i slots) ≡ None → has_name name (get_or slots i d) ≡ true
      → slot_of name slots ≡ Some i
  first_at [] i d l h t = absurd (omega arith)
  first_at (slot ∷ slots) zero d l h t = simp t
  first_at (slot ∷ slots) (suc i) d l h t =
      let past = none_past slot (take i slots) h in
      simp (past.0, first_at slots i d (omega arith) past.1 t)

  -- one slot more
  pub pushed_past : (slots : List (Option Property)) (slot : Option Property)
      → has_name name slot ≡ false → slot_of name (slots ++ slot ∷ []) ≡ slot_of name slots
  pushed_past [] slot f = simp f
  pushed_past (s ∷ slots) slot f =
      ap (λ r. cond (has_name name s) (Some 0) (option_map suc r)) (pushed_past slots slot f)

  pub pushed_there : (slots : List (Option Property)) (slot : Option Property)
      → has_name name slot ≡ true → slot_of name slots ≡ None
      → slot_of name (slots ++ slot ∷ []) ≡ Some (length slots)
  pushed_there [] slot t h = simp t
  pushed_there (s ∷ slots) slot t h =
      let past = none_past s slots h in simp (past.0, pushed_there slots slot t past.1)

  -- ---- the properties that are there

  abbrev pub is_named : Property → Bool
  is_named q = same_text q.name name

  pub found : (slots : List (Option Property)) (i : ℕ) → slot_of name slots ≡ Some i
      → find is_named (live slots) ≡ slot_at slots i
  found [] i h = cc
  found (None ∷ slots) zero h = some_zero (slot_of name slots) h
  found (None ∷ slots) (suc i) h = found slots i (some_suc (slot_of name slots) i h)
  found (Some q ∷ slots) zero h =
      elim (cases_Bool (same_text q.name name))
      [ inl t ↦ simp t | inr f ↦ some_zero (slot_of name slots) (simp f at h) ]
  found (Some q ∷ slots) (suc i) h =
      elim (cases_Bool (same_text q.name name)) [
        | inl t ↦ absurd (let k : Some 0 ≡ Some (suc i) = simp t at h in cc)
        | inr f ↦ simp f (found slots i (some_suc (slot_of name slots) i (simp f at h)))
      ]

  pub not_found : (slots : List (Option Property)) → slot_of name slots ≡ None
      → find is_named (live slots) ≡ None
  not_found [] h = refl
  not_found (None ∷ slots) h = not_found slots (none_past None slots h).1
  not_found (Some q ∷ slots) h =
      let past = none_past (Some q) slots h in simp past.0 (not_found slots past.1)

  -- the first property of the name changed, or a new one behind the others
  abbrev pub with_first : (Property → Property) → Property → List Property → List Property
  with_first change new [] = new ∷ []
  with_first change new (q ∷ qs) =
      cond (same_text q.name name) (change q ∷ qs) (q ∷ with_first change new qs)

  pub replaced : (change : Property → Property) (new : Property) (slots : List (Option Property))
      (i : ℕ) → slot_of name slots ≡ Some i → live (changed_at slots i change)
      ≡ with_first change new (live slots)
  replaced change new [] i h = cc
  replaced change new (None ∷ slots) zero h = some_zero (slot_of name slots) h
  replaced change new (None ∷ slots) (suc i) h =
      replaced change new slots i (some_suc (slot_of name slots) i h)
  replaced change new (Some q ∷ slots) zero h =
      elim (cases_Bool (same_text q.name name))
      [ inl t ↦ simp t | inr f ↦ some_zero (slot_of name slots) (simp f at h) ]
  replaced change new (Some q ∷ slots) (suc i) h =
      elim (cases_Bool (same_text q.name name)) [
        | inl t ↦ absurd (let k : Some 0 ≡ Some (suc i) = simp t at h in cc)
        | inr f ↦ simp f (ap (λ qs. q ∷ qs) (replaced change new slots i
            (some_suc (slot_of name slots) i (simp f at h))))
      ]

  pub added : (change : Property → Property) (new : Property) (slots : List (Option Property))
      → slot_of name slots ≡ None → live slots ++ new ∷ [] ≡ with_first change new (live slots)
  added change new [] h = refl
  added change new (None ∷ slots) h = added change new slots (none_past None slots h).1
  added change new (Some q ∷ slots) h =
      let past = none_past (Some q) slots h in
      simp past.0 (ap (λ qs. q ∷ qs) (added change new slots past.1))

  pub is_found : (slots : List (Option Property)) (i : ℕ) → slot_of name slots ≡ Some i
      → is_some (find is_named (live slots)) ≡ true
  is_found [] i h = cc
  is_found (None ∷ slots) zero h = some_zero (slot_of name slots) h
  is_found (None ∷ slots) (suc i) h = is_found slots i (some_suc (slot_of name slots) i h)
  is_found (Some q ∷ slots) zero h =
      elim (cases_Bool (same_text q.name name))
      [ inl t ↦ simp t | inr f ↦ some_zero (slot_of name slots) (simp f at h) ]
  is_found (Some q ∷ slots) (suc i) h =
      elim (cases_Bool (same_text q.name name)) [
        | inl t ↦ simp t
        | inr f ↦ simp f (is_found slots i (some_suc (slot_of name slots) i (simp f at h)))
      ]

  pub none_slot : (slots : List (Option Property)) → find is_named (live slots) ≡ None
      → slot_of name slots ≡ None
  none_slot [] h = refl
  none_slot (None ∷ slots) h = simp (none_slot slots h)
  none_slot (Some q ∷ slots) h =
      elim (cases_Bool (same_text q.name name)) [
        | inl t ↦ absurd (let k : Some q ≡ None = simp t at h in cc)
        | inr f ↦ simp (f, none_slot slots (simp f at h))
      ]

  -- .. as the machine says it
  pub value_first : (v : Value) (qs : List Property)
      → with_first (λ q. record q { content = contents.Value v })
      (new_property name (contents.Value v) NO_ATTRS) qs ≡ with_value qs name v
  value_first v [] = refl
  value_first v (q ∷ qs) =
      elim (cases_Bool (same_text q.name name))
      [ inl t ↦ simp t | inr f ↦ simp f (ap (λ rs. q ∷ rs) (value_first v qs)) ]

  pub definition_first : (content : Content) (attrs : Attrs) (qs : List Property)
      → with_first (λ q. record q { content = content; attrs = attrs })
      (new_property name content attrs) qs ≡ with_definition qs name content attrs
  definition_first content attrs [] = refl
  definition_first content attrs (q ∷ qs) =
      elim (cases_Bool (same_text q.name name)) [
        | inl t ↦ simp t
        | inr f ↦ simp f (ap (λ rs. q ∷ rs) (definition_first content attrs qs))
      ]

  pub property_first : (content : Content) (attrs : Attrs) (shared : Bool) (qs : List Property)
      → with_first (λ q. record q { content = content; attrs = attrs; shared = shared })
      (record { name = name; content = content; attrs = attrs; shared = shared }) qs
      ≡ with_property qs (record { name = name; content = content; attrs = attrs; shared = shared })
  property_first content attrs shared [] = refl
  property_first content attrs shared (q ∷ qs) =
      elim (cases_Bool (same_text q.name name)) [
        | inl t ↦ simp t (ap (λ (n : List ℕ).
            let r : Property = record {
              name = n;
              content = content;
              attrs = attrs;
              shared = shared;
            } in r ∷ qs) (text_same q.name name t))
        | inr f ↦ simp f (ap (λ rs. q ∷ rs) (property_first content attrs shared qs))
      ]

  -- ---- among slots of which no two have one name

  pub none_shared : (slots : List (Option Property)) → slot_of name slots ≡ None
      → map (shared_from_now name) (live slots) ≡ live slots
  none_shared [] h = refl
  none_shared (None ∷ slots) h = none_shared slots (none_past None slots h).1
  none_shared (Some q ∷ slots) h =
      let past = none_past (Some q) slots h in
      simp past.0 (ap (λ qs. q ∷ qs) (none_shared slots past.1))

  pub shared : (slots : List (Option Property)) (i : ℕ) → IsApart slots
      → slot_of name slots ≡ Some i → live (changed_at slots i (λ q. record q { shared = true }))
      ≡ map (shared_from_now name) (live slots)
  shared [] i a h = cc
  shared (None ∷ slots) zero a h = some_zero (slot_of name slots) h
  shared (None ∷ slots) (suc i) a h = shared slots i a.1 (some_suc (slot_of name slots) i h)
  shared (Some q ∷ slots) zero a h =
      elim (cases_Bool (same_text q.name name)) [
        | inl t ↦ let now : Property = record q { shared = true } in
            simp t (ap (λ qs. now ∷ qs) (sym (none_shared slots (a.0 name t))))
        | inr f ↦ some_zero (slot_of name slots) (simp f at h)
      ]
  shared (Some q ∷ slots) (suc i) a h =
      elim (cases_Bool (same_text q.name name)) [
        | inl t ↦ absurd (let k : Some 0 ≡ Some (suc i) = simp t at h in cc)
        | inr f ↦ simp f (ap (λ qs. q ∷ qs) (shared slots i a.1
            (some_suc (slot_of name slots) i (simp f at h))))
      ]

  pub none_removed : (slots : List (Option Property)) → slot_of name slots ≡ None
      → without (live slots) name ≡ live slots
  none_removed [] h = refl
  none_removed (None ∷ slots) h = none_removed slots (none_past None slots h).1
  none_removed (Some q ∷ slots) h =
      let past = none_past (Some q) slots h in
      simp past.0 (ap (λ qs. q ∷ qs) (none_removed slots past.1))

  pub removed : (slots : List (Option Property)) (i : ℕ) → IsApart slots
      → slot_of name slots ≡ Some i → live (slice_set slots i None) ≡ without (live slots) name
  removed [] i a h = cc
  removed (None ∷ slots) zero a h = some_zero (slot_of name slots) h
  removed (None ∷ slots) (suc i) a h = removed slots i a.1 (some_suc (slot_of name slots) i h)
  removed (Some q ∷ slots) zero a h =
      elim (cases_Bool (same_text q.name name)) [
        | inl t ↦ simp t (sym (none_removed slots (a.0 name t)))
        | inr f ↦ some_zero (slot_of name slots) (simp f at h)
      ]
  removed (Some q ∷ slots) (suc i) a h =
      elim (cases_Bool (same_text q.name name)) [
        | inl t ↦ absurd (let k : Some 0 ≡ Some (suc i) = simp t at h in cc)
        | inr f ↦ simp f (ap (λ qs. q ∷ qs) (removed slots i a.1
            (some_suc (slot_of name slots) i (simp f at h))))
      ]

-- ---- slots that stay apart, and where a name is in them

-- a property changed under its name
module _ (change : Property → Property) (named : (q : Property) → (change q).name ≡ q.name) where
  pub kept_slots : (key : List ℕ) (slots : List (Option Property)) (i : ℕ)
      → slot_of key (changed_at slots i change) ≡ slot_of key slots
  kept_slots key [] i = refl
  kept_slots key (None ∷ slots) zero = refl
  kept_slots key (Some q ∷ slots) zero =
      ap (λ n. cond (same_text n key) (Some 0) (option_map suc (slot_of key slots))) (named q)
  kept_slots key (slot ∷ slots) (suc i) =
      ap (λ r. cond (has_name key slot) (Some 0) (option_map suc r)) (kept_slots key slots i)

  pub kept_apart : (slots : List (Option Property)) (i : ℕ) → IsApart slots
      → IsApart (changed_at slots i change)
  kept_apart [] i a = a
  kept_apart (None ∷ slots) zero a = a
  kept_apart (Some q ∷ slots) zero a =
      (λ key h. a.0 key (ap (λ n. same_text n key) (sym (named q)) ∙ h), a.1)
  kept_apart (slot ∷ slots) (suc i) a =
      (λ key h. kept_slots key slots i ∙ a.0 key h, kept_apart slots i a.1)

-- a property more
module _ (q : Property) where
  pub pushed_slots : (slots : List (Option Property)) → slot_of q.name slots ≡ None → (key : List ℕ)
      → slot_of key (slots ++ Some q ∷ []) ≡ cond (pointwise nat_eq q.name key)
      (Some (length slots)) (slot_of key slots)
  pushed_slots slots h key =
      elim (cases_Bool (same_text q.name key)) [
        | inl t ↦
            let e : slot_of key slots ≡ None = ap (λ k. slot_of k slots)
            (sym (text_same q.name key t)) ∙ h in
            pushed_there key slots (Some q) t e ∙ sym (simp (same q.name key true t))
        | inr f ↦ pushed_past key slots (Some q) f ∙ sym (simp (same q.name key false f))
      ]

  pub pushed_apart : (slots : List (Option Property)) → slot_of q.name slots ≡ None → IsApart slots
      → IsApart (slots ++ Some q ∷ [])
  pushed_apart [] h a = (λ key t. refl, a)
  pushed_apart (slot ∷ slots) h a =
      let past = none_past q.name slot slots h in (
        λ key t. pushed_slots slots past.1 key ∙ apart key t past.0 (a.0 key t),
        pushed_apart slots past.1 a.1,
      )
    where
      apart : (key : List ℕ) → has_name key slot ≡ true → has_name q.name slot ≡ false
          → slot_of key slots ≡ None → cond (pointwise nat_eq q.name key) (Some (length slots))
          (slot_of key slots) ≡ None
      apart key t f e =
          elim (cases_Bool (same_text q.name key)) [
            | inl u ↦ absurd (let k : has_name q.name slot
                ≡ true = ap (λ n. has_name n slot) (text_same q.name key u) ∙ t in cc)
            | inr u ↦ simp (same q.name key false u) e
          ]

-- a slot emptied
cleared_none : (key : List ℕ) (slots : List (Option Property)) (i : ℕ) → slot_of key slots ≡ None
    → slot_of key (slice_set slots i None) ≡ None
cleared_none key [] i h = h
cleared_none key (slot ∷ slots) zero h = let past = none_past key slot slots h in simp past.1
cleared_none key (slot ∷ slots) (suc i) h = let past = none_past key slot slots h in
    simp (past.0, cleared_none key slots i past.1)

pub cleared_apart : (slots : List (Option Property)) (i : ℕ) → IsApart slots
    → IsApart (slice_set slots i None)
cleared_apart [] i a = a
cleared_apart (slot ∷ slots) zero a = (λ key h. cc, a.1)
cleared_apart (slot ∷ slots) (suc i) a =
    (λ key h. cleared_none key slots i (a.0 key h), cleared_apart slots i a.1)

-- .. of which no other name was in
module _ (name : List ℕ) where
  other : (key : List ℕ) (slot : Option Property) → has_name name slot ≡ true
      → same_text name key ≡ false → has_name key slot ≡ false
  other key None h f = refl
  other key (Some q) h f = ap (λ n. same_text n key) (text_same q.name name h) ∙ f

  pub cleared_slots : (slots : List (Option Property)) (i : ℕ) → IsApart slots
      → slot_of name slots ≡ Some i → (key : List ℕ)
      → slot_of key (slice_set slots i None)
      ≡ cond (pointwise nat_eq name key) None (slot_of key slots)
  cleared_slots [] i a h key = cc
  cleared_slots (slot ∷ slots) zero a h key =
      elim (cases_Bool (has_name name slot)) [
        | inl t ↦
            elim (cases_Bool (same_text name key)) [
              | inl u ↦
                  let e : slot_of key slots ≡ None = ap (λ k. slot_of k slots)
                  (sym (text_same name key u)) ∙ a.0 name t in
                  simp (same name key true u, e)
              | inr u ↦ simp (same name key false u, other key slot t u)
            ]
        | inr f ↦ some_zero (slot_of name slots) (simp f at h)
      ]
  cleared_slots (slot ∷ slots) (suc i) a h key =
      elim (cases_Bool (has_name name slot)) [
        | inl t ↦ absurd (let k : Some 0 ≡ Some (suc i) = simp t at h in cc)
        | inr f ↦
            let rest = cleared_slots slots i a.1 (some_suc (slot_of name slots) i (simp f at h))
            key in
            elim (cases_Bool (same_text name key)) [
              | inl u ↦
                  let g : has_name key slot ≡ false = ap (λ k. has_name k slot)
                  (sym (text_same name key u)) ∙ f in
                  simp (same name key true u, g, rest)
              | inr u ↦ simp (same name key false u, rest)
            ]
      ]

-- slots left out
module _ (keep : Option Property → Bool) where
  filtered_none : (key : List ℕ) (slots : List (Option Property)) → slot_of key slots ≡ None
      → slot_of key (filter keep slots) ≡ None
  filtered_none key [] h = h
  filtered_none key (slot ∷ slots) h =
      let past = none_past key slot slots h in
      let rest = filtered_none key slots past.1 in
      elim (cases_Bool (keep slot)) [ inl t ↦ simp (t, past.0, rest) | inr f ↦ simp (f, rest) ]

  pub filtered_apart : (slots : List (Option Property)) → IsApart slots
      → IsApart (filter keep slots)
  filtered_apart [] a = a
  filtered_apart (slot ∷ slots) a =
      elim (cases_Bool (keep slot)) [
        | inl t ↦ simp t (λ key h. filtered_none key slots (a.0 key h), filtered_apart slots a.1)
        | inr f ↦ simp f (filtered_apart slots a.1)
      ]

  -- .. but for those whose property is kept
  pub filtered_live : (test : Property → Bool) → keep None ≡ false
      → ((q : Property) → keep (Some q) ≡ test q) → (slots : List (Option Property))
      → live (filter keep slots) ≡ filter test (live slots)
  filtered_live test none some [] = refl
  filtered_live test none some (None ∷ slots) = simp none (filtered_live test none some slots)
  filtered_live test none some (Some q ∷ slots) =
      let rest = filtered_live test none some slots in
      elim (cases_Bool (test q)) [
        | inl t ↦ let k = some q ∙ t in
            simp (t, k, rest)
        | inr f ↦ let k = some q ∙ f in simp (f, k, rest)
      ]

pub all_kept : (qs : List Property) → filter (λ q. true) qs ≡ qs
all_kept [] = refl
all_kept (q ∷ qs) = ap (λ rs. q ∷ rs) (all_kept qs)

-- a name that is in a slot is in none before it
there : (key : List ℕ) (slots : List (Option Property)) (i : ℕ) (d : Option Property)
    → i < length slots → has_name key (get_or slots i d) ≡ true → slot_of key slots ≡ None → ⊥
there key [] i d l t h = omega arith
there key (slot ∷ slots) zero d l t h = let past = none_past key slot slots h in let f = past.0 in
    cc
there key (slot ∷ slots) (suc i) d l t h =
    there key slots i d (omega arith) t (none_past key slot slots h).1

pub none_before : (key : List ℕ) (slots : List (Option Property)) (i : ℕ) (d : Option Property)
    → IsApart slots → i < length slots → has_name key (get_or slots i d) ≡ true
    → slot_of key (take i slots) ≡ None
none_before key [] i d a l t = absurd (omega arith)
none_before key (slot ∷ slots) zero d a l t = refl
none_before key (slot ∷ slots) (suc i) d a l t =
    elim (cases_Bool (has_name key slot)) [
      | inl u ↦ absurd (there key slots i d (omega arith) t (a.0 key u))
      | inr f ↦ simp (f, none_before key slots i d a.1 (omega arith) t)
    ]

-- a table of the slots before one, and of that one
module _ {S : Type 0} (old new : HashMap (List ℕ) ℕ S) where
  pub more_places : (slots : List (Option Property)) (i : ℕ) (x : Option Property)
      → i < length slots → x ≡ get_or slots i x → IsApart slots → HasPlaces old (take i slots)
      → HasSlot old new x i → HasPlaces new (take (i + 1) slots)
  more_places slots i x l e a had has key =
      let long : length (take i slots) ≡ i = length-take-le i slots (omega arith) in
      let there_is : has_name key (get_or slots i x) ≡ has_name key x = ap (has_name key) (sym e) in
      elim (cases_Bool (has_name key x)) [
        | inl t ↦
            let before = none_before key slots i x a l (there_is ∙ t) in
            let is : cond (has_name key x) (Some i) (get (pointwise nat_eq) old key)
            ≡ Some i = simp t in
            let more : slot_of key (take (i + 1) slots)
            ≡ Some (length (take i slots)) = ap (slot_of key) (take_more slots i x l)
            ∙ pushed_there key (take i slots) (get_or slots i x) (there_is ∙ t) before in
            (has key ∙ is) ∙ (ap Some (sym long) ∙ sym more)
        | inr f ↦
            let is : cond (has_name key x) (Some i) (get (pointwise nat_eq) old key)
            ≡ get (pointwise nat_eq) old key = simp f in
            let more : slot_of key (take (i + 1) slots)
            ≡ slot_of key (take i slots) = ap (slot_of key) (take_more slots i x l)
            ∙ pushed_past key (take i slots) (get_or slots i x) (there_is ∙ f) in
            (has key ∙ is) ∙ (had key ∙ sym more)
      ]

-- .. of the last one
pub last_placed : {S : Type 0} (old : HashMap (List ℕ) ℕ S)
    (r : Option (Box (HashMap (List ℕ) ℕ S) Global)) (slots : List (Option Property))
    (x : Option Property) → 0 < length slots → x ≡ get_or slots (length slots - 1) x → IsApart slots
    → HasPlaces old (take (length slots - 1) slots)
    → IfSome r (λ t. HasSlot old t.value x (length slots - 1)) → IsPlaced r slots
last_placed old None slots x l e a had has = tt
last_placed old (Some t) slots x l e a had has =
    λ key. more_places old t.value slots (length slots - 1) x (omega arith) e a had has key
    ∙ ap (slot_of key) (take_all (length slots - 1 + 1) slots (omega arith))

-- a name's slot is one of them
pub within : (name : List ℕ) (slots : List (Option Property)) (i : ℕ) → slot_of name slots ≡ Some i
    → i < length slots
within name [] i h = cc
within name (slot ∷ slots) zero h = omega arith
within name (slot ∷ slots) (suc i) h =
    elim (cases_Bool (has_name name slot)) [
      | inl t ↦ absurd (let k : Some 0 ≡ Some (suc i) = simp t at h in cc)
      | inr f ↦ let k = within name slots i (some_suc (slot_of name slots) i (simp f at h)) in
          omega arith
    ]

-- what is shown of the slots from one on
pub shown_more : (test : List ℕ → Bool) (slots : List (Option Property)) (i : ℕ)
    (x : Option Property) (old new all : List (List ℕ)) → i < length slots → x ≡ get_or slots i x
    → new ≡ old ++ shown test (x ∷ []) → old ++ shown test (drop i slots) ≡ all
    → new ++ shown test (drop (i + 1) slots) ≡ all
shown_more test slots i x old new all l e n had =
    ap (λ ys. ys ++ shown test (drop (i + 1) slots)) n
    ∙ (append_assoc old (shown test (x ∷ [])) (shown test (drop (i + 1) slots))
    ∙ (ap (λ ys. old ++ ys) (sym (split x (drop (i + 1) slots))
    ∙ (ap (λ y. shown test (y ∷ drop (i + 1) slots)) e
    ∙ ap (shown test) (sym (drop_more slots i x l)))) ∙ had))
  where
    split : (slot : Option Property) (rest : List (Option Property))
        → shown test (slot ∷ rest) ≡ shown test (slot ∷ []) ++ shown test rest
    split None rest = refl
    split (Some q) rest =
        elim (cases_Bool q.attrs.dont_enum) [
          | inl t ↦ simp t
          | inr f ↦ elim (cases_Bool (test q.name)) [ inl t ↦ simp (f, t) | inr u ↦ simp (f, u) ]
        ]

-- whether a name is among those of the slots from one on
pub named_more : (name : List ℕ) (slots : List (Option Property)) (i : ℕ) (x : Option Property)
    (old new all : Bool) → i < length slots → x ≡ get_or slots i x → new ≡ (old || has_name name x)
    → (old || is_some (find (is_named name) (live (drop i slots)))) ≡ all
    → (new || is_some (find (is_named name) (live (drop (i + 1) slots)))) ≡ all
named_more name slots i x old new all l e n had =
    ap (λ b. b || is_some (find (is_named name) (live (drop (i + 1) slots)))) n
    ∙ (split x (drop (i + 1) slots) old ∙ (ap
    (λ y. old || is_some (find (is_named name) (live (y ∷ drop (i + 1) slots)))) e
    ∙ (ap (λ ys. old || is_some (find (is_named name) (live ys))) (sym (drop_more slots i x l))
    ∙ had)))
  where
    split : (slot : Option Property) (rest : List (Option Property)) (b : Bool)
        → ((b || has_name name slot) || is_some (find (is_named name) (live rest)))
        ≡ (b || is_some (find (is_named name) (live (slot ∷ rest))))
    split slot rest true = refl
    split None rest false = refl
    split (Some q) rest false =
        elim (cases_Bool (same_text q.name name)) [ inl t ↦ simp t | inr f ↦ simp f ]

-- .. where there is one
pub within_all : (name : List ℕ) (slots : List (Option Property)) (r : Option ℕ)
    → r ≡ slot_of name slots → IfSome r (λ i. i < length slots)
within_all name slots None e = tt
within_all name slots (Some i) e = within name slots i (sym e)

pub live_pushed : (slots : List (Option Property)) (q : Property)
    → live (slots ++ Some q ∷ []) ≡ live slots ++ q ∷ []
live_pushed [] q = refl
live_pushed (None ∷ slots) q = live_pushed slots q
live_pushed (Some r ∷ slots) q = ap (λ qs. r ∷ qs) (live_pushed slots q)

-- a slot that was lent is changed
pub changed_is : (change : Property → Property) (slots : List (Option Property)) (i : ℕ)
    (x new : Option Property) → i < length slots → x ≡ get_or slots i x → new ≡ option_map change x
    → slice_set slots i new ≡ changed_at slots i change
changed_is change slots i x new l e n =
    ap (slice_set slots i) (n ∙ ap (option_map change) (get_or_read slots i x l e None))

-- a table stays one where names stay in their slots
pub still_placed : {S : Type 0} (places : Option (Box (HashMap (List ℕ) ℕ S) Global))
    (xs ys : List (Option Property)) → ((key : List ℕ) → slot_of key ys ≡ slot_of key xs)
    → IsPlaced places xs → IsPlaced places ys
still_placed None xs ys e p = tt
still_placed (Some t) xs ys e p = λ key. p key ∙ sym (e key)

pub changed_kept : {S : Type 0} (change : Property → Property)
    (named : (q : Property) → (change q).name ≡ q.name)
    (places : Option (Box (HashMap (List ℕ) ℕ S) Global)) (slots : List (Option Property)) (i : ℕ)
    (x new : Option Property) → i < length slots → x ≡ get_or slots i x → new ≡ option_map change x
    → IsApart slots × IsPlaced places slots
    → IsApart (slice_set slots i new) × IsPlaced places (slice_set slots i new)
changed_kept change named places slots i x new l e n kept =
    let is = changed_is change slots i x new l e n in (
      subst IsApart (sym is) (kept_apart change named slots i kept.0),
      still_placed places slots (slice_set slots i new)
          (λ key. ap (slot_of key) is ∙ kept_slots change named key slots i) kept.1,
    )

-- .. and one without a name where that name's slot is empty
pub cleared_placed : {S : Type 0} (name : List ℕ)
    (places after : Option (Box (HashMap (List ℕ) ℕ S) Global)) (slots : List (Option Property))
    (i : ℕ) → IsApart slots → slot_of name slots ≡ Some i → IsWithout places name after
    → IsPlaced places slots → IsPlaced after (slice_set slots i None)
cleared_placed name places None slots i a h w p = tt
cleared_placed name None (Some t) slots i a h w p = absurd w
cleared_placed name (Some s) (Some t) slots i a h w p =
    λ key. w key ∙ (ap (λ r. cond (pointwise nat_eq name key) None r) (p key)
    ∙ sym (cleared_slots name slots i a h key))
