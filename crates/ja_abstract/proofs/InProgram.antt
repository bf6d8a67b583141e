-- What is done with the states of a program keeps them within it: joins, registers, writes at its
-- labels and keys, objects at its sites, and two moments in one.
use Rattle.std.specs.Prelude.{◌≡◌, ◌≢◌, ◌<◌, ◌≤◌, ◌&&◌, ◌||◌, ◌==◌, ℕ, Bool, true, false, if◌then◌else◌, nat_lt, length, map, List, [], ◌∷◌, IsTrue}
use Rattle.std.proofs.Common.{refl, sym, subst, ap, ◌∙◌, inl, inr, arith}
use Rattle.std.proofs.Math.Bool.{and-true}
use Rattle.std.proofs.lemmas.Bool.{cases_Bool, cond_both, cond-true, cond-false, lt-ltb, ltb-false, and_parts, false≢true, eqb-true}
use Rattle.ja_base.specs.declared.ids.Label.{Label}
use Rattle.ja_base.specs.declared.ids.Reg.{Reg}
use Rattle.ja_base.specs.declared.ids.Site.{Site}
use Rattle.ja_graph.specs.declared.program.Program.{Program}
use Rattle.ja_abstract.specs.declared.abstraction.Key.{Key}
use Rattle.ja_abstract.specs.declared.abstraction.Mask.{Mask}
use Rattle.ja_abstract.specs.AbstractValue.{Labels, AbstractValue, AbstractProperty, same_label, no_labels, join_properties, absent_property, no_property, entry_property, entry_value}
use Rattle.ja_abstract.specs.AbstractState.{AbstractState, new, old, is_label, is_key, same_key, exactly_none, exactly_some, join_masks, join_states, with_register, with_property, aged_property, with_made}
use Rattle.ja_abstract.specs.Composed.{all_of, composed, composed_mask}
use Rattle.ja_abstract.specs.InProgram.{IsInProgram, AreAtKeys}
use Rattle.ja_abstract.specs.Made.{Own, at_keys_of, with_own, with_object, with_objects}
use Rattle.ja_abstract.specs.Resolved.{known_part, renamed, renamed_labels, origins, join_all, from_entry, resolved}
use Rattle.ja_abstract.specs.Writes.{Write, joined_at, replaced_at, strong_update, weak_update}
use Rattle.ja_abstract.proofs.Keys.{same_key-true}
use Rattle.ja_abstract.proofs.Labels.{same_label-true, other_site}

-- ---- entries, joins, registers

module _ (p : Program) where
  -- a label or a key that is none of the program's
  abbrev IsOutside : Label → Key → Type 0
  IsOutside l k = (is_label p l && is_key p k) ≡ false

  -- at a function's entry
  pub entered_in : (register : ℕ → AbstractValue) → IsInProgram p (record {
    register = register;
    property = λ l k. entry_property;
    mask = λ s. exactly_none;
  })
  entered_in register = record { properties = λ l k e. refl; masks = λ s out. refl }

  pub joined_in : (a b : AbstractState) → IsInProgram p a → IsInProgram p b
      → IsInProgram p (join_states a b)
  joined_in a b f g = record {
    properties = λ l k e. ap (λ q. join_properties q (b.property l k)) (f.properties l k e)
        ∙ ap (join_properties entry_property) (g.properties l k e);
    masks = λ s out. ap (λ m. join_masks m (b.mask s)) (f.masks s out)
        ∙ ap (join_masks exactly_none) (g.masks s out);
  }

  pub register_in : (a : AbstractState) (dst : Reg) (v : AbstractValue) → IsInProgram p a
      → IsInProgram p (with_register a dst v)
  register_in a dst v f = record { properties = f.properties; masks = f.masks }

  -- ---- writes

  -- of a key of the program and one that isn't
  other_key : (j k : Key) → IsTrue (is_key p j) → is_key p k ≡ false → same_key j k ≡ false
  other_key j k of_program out = elim (cases_Bool (same_key j k)) [
    | inl same ↦ absurd (false≢true (sym out
        ∙ subst (λ i. IsTrue (is_key p i)) (same_key-true j k same) of_program))
    | inr apart ↦ apart
  ]

  -- of a label of the program each key outside is none
  key_outside : (l : Label) (k : Key) → IsTrue (is_label p l) → IsOutside l k → is_key p k ≡ false
  key_outside l k of_program e = ap (λ b. b && is_key p k) (sym of_program) ∙ e

  same_outside : (l m : Label) (k : Key) → IsTrue (is_label p l) → IsTrue (same_label l m)
      → IsOutside m k → is_key p k ≡ false
  same_outside l m k of_program same e =
      key_outside m k (subst (λ n. IsTrue (is_label p n)) (same_label-true l m same) of_program) e

  unjoined : (writes : List Write) (q : AbstractProperty) (k : Key) → AreAtKeys p writes
      → is_key p k ≡ false → joined_at writes q k ≡ q
  unjoined [] q k all out = refl
  unjoined (x ∷ xs) q k all out =
      cond-false (same_key x.key k) (join_properties (joined_at xs q k) x.property)
      (joined_at xs q k) (other_key x.key k all.0 out) ∙ unjoined xs q k all.1 out

  unreplaced : (writes : List Write) (q : AbstractProperty) (k : Key) → AreAtKeys p writes
      → is_key p k ≡ false → replaced_at writes q k ≡ q
  unreplaced [] q k all out = refl
  unreplaced (x ∷ xs) q k all out =
      let before = replaced_at xs q k in
      cond-false (same_key x.key k)
      (if x.joins then join_properties before x.property else x.property) before
      (other_key x.key k all.0 out) ∙ unreplaced xs q k all.1 out

  pub property_in : (a : AbstractState) (l : Label) (k : Key) (q : AbstractProperty)
      → IsTrue (is_label p l) → IsTrue (is_key p k) → IsInProgram p a
      → IsInProgram p (with_property a l k q)
  property_in a l k q of_program at_key f = record {
    properties = λ m j e. elim (cases_Bool (same_label l m)) [
      | inl same ↦
          ap (λ b. if b && same_key k j then q else a.property m j) same
          ∙ cond-false (same_key k j) q (a.property m j)
          (other_key k j at_key (same_outside l m j of_program same e)) ∙ f.properties m j e
      | inr apart ↦
          ap (λ b. if b && same_key k j then q else a.property m j) apart ∙ f.properties m j e
    ];
    masks = f.masks;
  }

  pub strong_update_in : (a : AbstractState) (l : Label) (writes : List Write)
      → IsTrue (is_label p l) → AreAtKeys p writes → IsInProgram p a
      → IsInProgram p (strong_update a l writes)
  strong_update_in a l writes of_program at_keys f = record {
    properties =
        λ m j e. cond_both (same_label l m) (replaced_at writes (a.property m j) j)
        (a.property m j) (λ q. q ≡ entry_property)
        (λ same. unreplaced writes (a.property m j) j at_keys
        (same_outside l m j of_program same e) ∙ f.properties m j e)
        (λ apart. f.properties m j e);
    masks = f.masks;
  }

  pub weak_update_in : (a : AbstractState) (target : Labels) (writes : Label → List Write)
      → ((l : Label) → IsTrue (is_label p l) → IsTrue (target l) → AreAtKeys p (writes l))
      → IsInProgram p a → IsInProgram p (weak_update p a target writes)
  weak_update_in a target writes at_keys f = record {
    properties =
        λ m j e. cond_both (is_label p m && target m) (joined_at (writes m) (a.property m j) j)
        (a.property m j) (λ q. q ≡ entry_property)
        (λ among. let (of_program, there) = and_parts (is_label p m) (target m) among in
        unjoined (writes m) (a.property m j) j (at_keys m of_program there)
        (key_outside m j of_program e) ∙ f.properties m j e)
        (λ apart. f.properties m j e);
    masks = f.masks;
  }

-- ---- objects more

no_label : (s : Site) (l : Label)
    → (if l.site.0 == s.0 then l.old && (false || false) else false) ≡ false
no_label s l = by (l.site.0 == s.0) l.old
  where
    by : (b c : Bool) → (if b then c && (false || false) else false) ≡ false
    by true true = refl
    by true false = refl
    by false c = refl

aged_entry : (s : Site) → aged_property s entry_property ≡ entry_property
aged_entry s =
    λ i. record entry_property { value = record entry_value { label = λ l. no_label s l i } }

abbrev IsAsEntered : AbstractState → Label → Key → Type 0
IsAsEntered a l k = a.property l k ≡ entry_property

-- but for the object that is made
made_entered : (a : AbstractState) (s : Site) (l : Label) (k : Key) → IsAsEntered a l k
    → (old s ≡ l → IsAsEntered a (old s) k × IsAsEntered a (new s) k) → same_label (new s) l ≡ false
    → IsAsEntered (with_made a s) l k
made_entered a s l k here both other =
    let joined =
    join_properties (aged_property s (a.property (old s) k))
    (aged_property s (a.property (new s) k)) in
    let as_entered : (m : Label) → IsAsEntered a m k
    → aged_property s (a.property m k) ≡ entry_property = λ m e. ap (aged_property s) e
    ∙ aged_entry s in
    cond-false (same_label (new s) l) absent_property
    (if same_label (old s) l then joined else aged_property s (a.property l k)) other
    ∙ cond_both (same_label (old s) l) joined (aged_property s (a.property l k))
    (λ q. q ≡ entry_property) (λ same. let (at_old, at_new) = both (same_label-true (old s) l same)
    in ap (λ q. join_properties q (aged_property s (a.property (new s) k)))
    (as_entered (old s) at_old) ∙ ap (join_properties entry_property) (as_entered (new s) at_new))
    (λ apart. as_entered l here)

module _ (p : Program) where
  abbrev IsSite : Site → Type 0
  IsSite s = s.0 < length p.sites

  of_site : (l : Label) → IsSite l.site → IsTrue (is_label p l)
  of_site l there = lt-ltb l.site.0 (length p.sites) there

  -- own properties of an object of the program leave outside what was there
  own_entered : (a : AbstractState) (s : Site) (own : Own) (l : Label) (k : Key) → IsSite s
      → IsOutside p l k → (same_label (new s) l ≡ false → IsAsEntered a l k)
      → IsAsEntered (with_own p a (new s) own) l k
  own_entered a s own l k there e before =
      cond_both (same_label (new s) l) (at_keys_of p own k) (a.property l k)
      (λ q. q ≡ entry_property) (λ same. cond-false (is_key p k) (own k) entry_property
      (same_outside p (new s) l k (of_site (new s) there) same e)) before

  made_masks : (a : AbstractState) (s : Site) → IsSite s
      → ((t : ℕ) → length p.sites ≤ t → a.mask t ≡ exactly_none) → (t : ℕ) → length p.sites ≤ t
      → (with_made a s).mask t ≡ exactly_none
  made_masks a s there before t out =
      cond_both (s.0 == t) exactly_some (a.mask t) (λ m. m ≡ exactly_none)
      (λ same. let is : s.0 ≡ t = eqb-true s.0 t same in absurd (omega arith))
      (λ apart. before t out)

  -- .. and so does what is made there, but for the object itself
  made_outside : (a : AbstractState) (s : Site) (l : Label) (k : Key) → IsAsEntered a l k
      → ((m : Label) → IsOutside p m k → m.site.0 ≡ s.0 → IsAsEntered a m k) → IsOutside p l k
      → same_label (new s) l ≡ false → IsAsEntered (with_made a s) l k
  made_outside a s l k here there e apart =
      made_entered a s l k here (λ is. let out : IsOutside p (old s) k =
      subst (λ m. IsOutside p m k) (sym is) e in
      (there (old s) out refl, there (new s) out refl)) apart

  pub object_in : (a : AbstractState) (s : Site) (own : AbstractState → Own) → IsSite s
      → IsInProgram p a → IsInProgram p (with_object p a s own)
  object_in a s own there f = record {
    properties = λ l k e. own_entered (with_made a s) s (own (with_made a s)) l k there e
        (made_outside a s l k (f.properties l k e) (λ m out at. f.properties m k out) e);
    masks = made_masks a s there f.masks;
  }

  pub objects_in : (a : AbstractState) (s : Site) (own : AbstractState → Own) (t : Site)
      (other : AbstractState → Own) → IsSite s → IsSite t → s.0 ≢ t.0 → IsInProgram p a
      → IsInProgram p (with_objects p a s own t other)
  objects_in a s own t other s_there t_there apart f = record {
    properties = λ l k e.
        let b = with_made (with_made a s) t in
        let first : (m : Label) → IsOutside p m k → same_label (new s) m ≡ false
        → IsAsEntered (with_made a s) m k = λ m out. made_outside a s m k (f.properties m k out)
        (λ n n_out at. f.properties n k n_out) out in
        own_entered (with_own p b (new s) (own b)) t (other b) l k t_there e (λ not_second.
        own_entered b s (own b) l k s_there e (λ not_first.
        made_outside (with_made a s) t l k (first l e not_first) (λ m out at.
        first m out (other_site (new s) m (λ is. apart (is ∙ at)))) e not_second));
    masks = made_masks (with_made a s) t t_there (made_masks a s s_there f.masks);
  }

-- ---- two moments in one

-- where nothing was made a label had itself as its label
one_origin : (mask : ℕ → Mask) (l : Label) → mask l.site.0 ≡ exactly_none
    → (m : Label) × (origins mask l ≡ m ∷ []) × (m.site.0 ≡ l.site.0)
one_origin mask l none = elim (cases_Bool l.old) [
  | inl is ↦ (
    old l.site,
    cond-true l.old _ _ is ∙ ap (λ (x : Mask). old l.site
        ∷ (if x.some then new l.site ∷ [] else [])) none,
    refl,
  )
  | inr is ↦ (
    new l.site,
    cond-false l.old _ _ is ∙ ap (λ (x : Mask). if x.none then new l.site ∷ [] else []) none,
    refl,
  )
]

renamed_entry : (mask : ℕ → Mask) → renamed mask entry_property ≡ entry_property
renamed_entry mask =
    λ i. record entry_property { value = record entry_value { label = λ l. none l i } }
  where
    by : (o x y : Bool) → (if o then false || (false && x) else false && y) ≡ false
    by true x y = refl
    by false x y = refl

    none : (l : Label) → renamed_labels mask no_labels l ≡ false
    none l = by l.old (mask l.site.0).some (mask l.site.0).none

module _ (p : Program) (a b : AbstractState) (f : IsInProgram p a) (g : IsInProgram p b) where
  -- what was there at the entry of the second moment
  from_first : (l : Label) (k : Key) → is_label p l ≡ false
      → from_entry b (all_of a) l k ≡ entry_property
  from_first l k out =
      let (m, is, same) = one_origin b.mask l (g.masks l.site.0 (ltb-false _ _ out)) in
      let m_out : is_label p m ≡ false = ap (λ n. nat_lt n (length p.sites)) same ∙ out in
      ap (λ ms. join_all (map (λ (n : Label). renamed b.mask (a.property n k)) ms)) is
      ∙ ap (λ q. join_properties (renamed b.mask q) no_property)
      (f.properties m k (ap (λ c. c && is_key p k) m_out))
      ∙ ap (λ q. join_properties q no_property) (renamed_entry b.mask)

  pub composed_in : IsInProgram p (composed p a b)
  composed_in = record {
    properties = λ l k e. cond_both (is_key p k) (resolved b (all_of a) l k) entry_property
        (λ q. q ≡ entry_property) (λ at_key.
        let out : is_label p l ≡ false = sym (and-true (is_label p l))
        ∙ (ap (λ c. is_label p l && c) (sym at_key) ∙ e) in
        ap (λ q. if q.value.flags.entry then join_properties (known_part q)
        (from_entry b (all_of a) l k) else q) (g.properties l k e)
        ∙ ap (λ q. join_properties (known_part entry_property) q) (from_first l k out))
        (λ apart. refl);
    masks = λ s out. ap (λ m. composed_mask m (b.mask s)) (f.masks s out)
        ∙ ap (composed_mask exactly_none) (g.masks s out);
  }
