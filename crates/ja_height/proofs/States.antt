-- The ranks of values, properties and states: they rise with what they have, and are bounded.
use Rattle.std.specs.Prelude.{◌≡◌, ◌≤◌, ◌<◌, ◌+◌, ◌*◌, ◌&&◌, ◌||◌, ℕ, Bool, true, false, IsTrue, length, Option, Some, None}
use Rattle.std.specs.List.{list_any}
use Rattle.std.proofs.Common.{refl, sym, subst, ap, ◌∙◌, arith, inl, inr}
use Rattle.std.proofs.Math.Bool.{and-true}
use Rattle.std.proofs.lemmas.Bool.{cases_lt, true≢false, ltb-true}
use Rattle.ja_base.specs.declared.ids.Label.{Label}
use Rattle.ja_graph.specs.declared.program.Program.{Program}
use Rattle.ja_abstract.specs.declared.abstraction.AAttrs.{AAttrs}
use Rattle.ja_abstract.specs.declared.abstraction.Key.{Key}
use Rattle.ja_abstract.specs.declared.abstraction.Mask.{Mask}
use Rattle.ja_abstract.specs.declared.abstraction.May.{May}
use Rattle.ja_abstract.specs.declared.abstraction.NumberPart.{NumberPart}
use Rattle.ja_abstract.specs.declared.abstraction.NumberPart.TheVariants as number_part
use Rattle.ja_abstract.specs.declared.abstraction.TextPart.{TextPart}
use Rattle.ja_abstract.specs.declared.abstraction.TextPart.TheVariants as text_part
use Rattle.ja_abstract.specs.AbstractValue.{AbstractValue, AbstractProperty, same_label, join_may, join_attrs, undefined_value}
use Rattle.ja_abstract.specs.AbstractState.{AbstractState, is_label, is_key, labels_of, exactly_none, join_masks}
use Rattle.ja_abstract.specs.InProgram.{IsInProgram}
use Rattle.ja_abstract.specs.Order.{LeqValue, LeqProperty, LeqState}
use Rattle.ja_abstract.specs.Rank.{flag_rank, number_rank, text_rank, rank, among}
use Rattle.ja_abstract.proofs.Labels.{labels_of-has}
use Rattle.ja_abstract.proofs.Order.{value_same, property_same, LeqOptionProperty}
use Rattle.ja_abstract.proofs.Ranks.{rank_le}
use Rattle.ja_height.specs.Height.{label_count, key_count, value_height, property_height}
use Rattle.ja_height.proofs.More.{IsMore, more_both, more_then, sum_below, more_below, few_below}
use Rattle.ja_height.proofs.Ranks.{back}
use Rattle.ja_height.proofs.Sums.{sum_labels, AtLabels, more_labels, few_labels, sum_keys, AtKeys, more_keys, few_keys, two_of_each, fewer_pass}

-- ---- what values, properties and states of a program have

module _ (p : Program) where
  -- labels of the program
  pub record IsOf (v : AbstractValue) : Type 0 where
    pub label : (l : Label) → IsTrue (v.label l) → IsTrue (is_label p l)

  -- so many registers, and undefined at all others; values of the program
  pub record IsWithin (count : ℕ) (a : AbstractState) : Type 0 where
    pub registers : (r : ℕ) → count ≤ r → a.register r ≡ undefined_value
    pub values : (r : ℕ) → IsOf (a.register r)
    pub contents : (l : Label) (k : Key) → IsOf (a.property l k).value
    pub in_program : IsInProgram p a

-- ---- ranks

abbrev pub may_rank : May → ℕ
may_rank m = flag_rank m.set + flag_rank m.unset

abbrev pub attrs_rank : AAttrs → ℕ
attrs_rank m = may_rank m.read_only + (may_rank m.dont_enum + may_rank m.dont_delete)

abbrev pub mask_rank : Mask → ℕ
mask_rank m = flag_rank m.none + flag_rank m.some

module _ (p : Program) where
  abbrev pub value_rank : AbstractValue → ℕ
  value_rank = rank (labels_of p)

  abbrev pub property_rank : AbstractProperty → ℕ
  property_rank q = value_rank q.value + attrs_rank q.attrs

  abbrev pub state_rank : ℕ → AbstractState → ℕ
  state_rank count a =
      sum_below count (λ r. value_rank (a.register r))
      + (sum_labels p (λ l. sum_keys p (λ k. property_rank (a.property l k)))
      + sum_below (length p.sites) (λ s. mask_rank (a.mask s)))

-- what may not be there adds one
abbrev pub option_rank : {A : Type 0} → (A → ℕ) → Option A → ℕ
option_rank f None = 0
option_rank f (Some a) = 1 + f a

-- ---- tests

more_test : (x y : Bool) → x || y ≡ y → IsMore (flag_rank x) (flag_rank y) (y || x ≡ x)
more_test true true h = record { le = omega arith; same = λ back. refl }
more_test true false h = absurd (true≢false h)
more_test false true h = record { le = omega arith; same = λ back. absurd (omega arith) }
more_test false false h = record { le = omega arith; same = λ back. refl }

few_test : (x : Bool) → flag_rank x ≤ 1
few_test true = omega arith
few_test false = omega arith

more_may : (a b : May) → join_may a b ≡ b → IsMore (may_rank a) (may_rank b) (join_may b a ≡ a)
more_may a b h =
    more_then _ _ (λ both i. record { set = both.0 i; unset = both.1 i })
    (more_both _ _ _ _ (more_test a.set b.set (ap (λ (m : May). m.set) h))
    (more_test a.unset b.unset (ap (λ (m : May). m.unset) h)))

few_may : (a : May) → may_rank a ≤ 2
few_may a = let s = few_test a.set in let u = few_test a.unset in omega arith

more_attrs : (a b : AAttrs) → join_attrs a b ≡ b
    → IsMore (attrs_rank a) (attrs_rank b) (join_attrs b a ≡ a)
more_attrs a b h =
    more_then _ _ (λ all i. record {
      read_only = all.0 i;
      dont_enum = all.1.0 i;
      dont_delete = all.1.1 i;
    }) (more_both _ _ _ _
    (more_may a.read_only b.read_only (ap (λ (m : AAttrs). m.read_only) h))
    (more_both _ _ _ _ (more_may a.dont_enum b.dont_enum (ap (λ (m : AAttrs). m.dont_enum) h))
    (more_may a.dont_delete b.dont_delete (ap (λ (m : AAttrs). m.dont_delete) h))))

few_attrs : (a : AAttrs) → attrs_rank a ≤ 6
few_attrs a =
    let r = few_may a.read_only in let e = few_may a.dont_enum in let d = few_may a.dont_delete in
    omega arith

more_mask : (a b : Mask) → join_masks a b ≡ b
    → IsMore (mask_rank a) (mask_rank b) (join_masks b a ≡ a)
more_mask a b h =
    more_then _ _ (λ both i. record { none = both.0 i; some = both.1 i })
    (more_both _ _ _ _ (more_test a.none b.none (ap (λ (m : Mask). m.none) h))
    (more_test a.some b.some (ap (λ (m : Mask). m.some) h)))

few_mask : (a : Mask) → mask_rank a ≤ 2
few_mask a = let s = few_test a.none in let u = few_test a.some in omega arith

-- ---- values

number_few : (a : NumberPart) → number_rank a ≤ 3
number_few number_part.Nothing = omega arith
number_few (number_part.One n) = omega arith
number_few number_part.Index = omega arith
number_few number_part.OtherWhole = omega arith
number_few number_part.Whole = omega arith

text_few : (a : TextPart) → text_rank a ≤ 3
text_few text_part.Nothing = omega arith
text_few (text_part.One t) = omega arith
text_few text_part.IndexText = omega arith
text_few text_part.OtherText = omega arith
text_few text_part.Text = omega arith

module _ (p : Program) where
  among_itself : (v : AbstractValue) → IsOf p v → among (labels_of p) v ≡ v
  among_itself v of = λ i. record v { label = λ l. same l (v.label l) refl i }
    where
      same : (l : Label) (b : Bool) → v.label l ≡ b
          → v.label l && list_any (same_label l) (labels_of p) ≡ v.label l
      same l true e =
          ap (λ c. v.label l && c)
          (labels_of-has p l (ltb-true l.site.0 (length p.sites) (of.label l e)))
          ∙ and-true (v.label l)
      same l false e = ap (λ c. c && list_any (same_label l) (labels_of p)) e ∙ sym e

  pub more_value : (a b : AbstractValue) → LeqValue a b → IsOf p b
      → IsMore (value_rank p a) (value_rank p b) (LeqValue b a)
  more_value a b h of = record {
    le = rank_le (labels_of p) a b h;
    same =
        λ less. subst (λ v. LeqValue v a) (among_itself b of) (back (labels_of p) a b h less);
  }

  pub few_value : (v : AbstractValue) → value_rank p v ≤ value_height p
  few_value v =
      let labels = fewer_pass v.label (labels_of p) in
      let count = two_of_each p in
      let n = number_few v.number in
      let t = text_few v.text in
      let a = few_test v.flags.absent in
      let e = few_test v.flags.entry in
      let r = few_test v.flags.row in
      let u = few_test v.flags.undefined in
      let z = few_test v.flags.null in
      let y = few_test v.flags.is_true in
      let f = few_test v.flags.is_false in
      let x = few_test v.flags.nan in
      omega arith

  -- ---- properties

  pub more_property : (a b : AbstractProperty) → LeqProperty a b → IsOf p b.value
      → IsMore (property_rank p a) (property_rank p b) (LeqProperty b a)
  more_property a b h of =
      more_then _ _ (λ both. record { value = both.0; attrs = both.1 })
      (more_both _ _ _ _ (more_value a.value b.value h.value of)
      (more_attrs a.attrs b.attrs h.attrs))

  pub few_property : (q : AbstractProperty) → property_rank p q ≤ property_height p
  few_property q =
      let v = few_value q.value in let a = few_attrs q.attrs in omega arith

  pub more_option_property : (a b : Option AbstractProperty) → LeqOptionProperty a b
      → ((q : AbstractProperty) → b ≡ Some q → IsOf p q.value)
      → IsMore (option_rank (property_rank p) a) (option_rank (property_rank p) b)
      (LeqOptionProperty b a)
  more_option_property None None h of = record { le = omega arith; same = λ back. tt }
  more_option_property None (Some b) h of =
      record { le = omega arith; same = λ back. absurd (omega arith) }
  more_option_property (Some a) None h of = absurd h
  more_option_property (Some a) (Some b) h of =
      let more = more_property a b h (of b refl) in
      record { le = let x = more.le in omega arith; same = λ back. more.same (omega arith) }

  pub few_option_property : (o : Option AbstractProperty)
      → option_rank (property_rank p) o ≤ 1 + property_height p
  few_option_property None = omega arith
  few_option_property (Some q) = let few = few_property q in omega arith

  -- ---- states

  module _ (count : ℕ) (a b : AbstractState) (h : LeqState a b) (f : IsWithin p count a)
      (g : IsWithin p count b) where
    abbrev LeqRegister : ℕ → Type 0
    LeqRegister r = LeqValue (b.register r) (a.register r)

    abbrev LeqAt : Label → Key → Type 0
    LeqAt l k = LeqProperty (b.property l k) (a.property l k)

    abbrev LeqMask : ℕ → Type 0
    LeqMask s = join_masks (b.mask s) (a.mask s) ≡ a.mask s

    -- registers past the last, labels and keys of no program, sites of none
    all_registers : ((r : ℕ) → r < count → LeqRegister r) → (r : ℕ) → LeqRegister r
    all_registers each r =
        elim (cases_lt r count) [
          | inl less ↦ each r less
          | inr more ↦ subst (λ v. LeqValue v (a.register r))
              (f.registers r more ∙ sym (g.registers r more)) (value_same (a.register r))
        ]

    all_properties : AtLabels p (λ l. AtKeys p (λ k. LeqAt l k)) → (l : Label) (k : Key) → LeqAt l k
    all_properties each l k = by (is_label p l) (is_key p k) refl refl
      where
        outside : (is_label p l && is_key p k) ≡ false → LeqAt l k
        outside e =
            subst (λ q. LeqProperty q (a.property l k))
            (f.in_program.properties l k e ∙ sym (g.in_program.properties l k e))
            (property_same (a.property l k))

        by : (x y : Bool) → is_label p l ≡ x → is_key p k ≡ y → LeqAt l k
        by true true e i = each l e k i
        by true false e i = outside (ap (λ c. c && is_key p k) e ∙ i)
        by false y e i = outside (ap (λ c. c && is_key p k) e)

    all_masks : ((s : ℕ) → s < length p.sites → LeqMask s) → (s : ℕ) → LeqMask s
    all_masks each s =
        elim (cases_lt s (length p.sites)) [
          | inl less ↦ each s less
          | inr more ↦ ap (λ m. join_masks m (a.mask s)) (g.in_program.masks s more)
              ∙ (ap (join_masks exactly_none) (f.in_program.masks s more)
              ∙ sym (f.in_program.masks s more))
        ]

    pub more_state : IsMore (state_rank p count a) (state_rank p count b) (LeqState b a)
    more_state =
        more_then _ _ (λ all. record {
          register = all_registers all.0;
          property = all_properties all.1.0;
          mask = all_masks all.1.1;
        }) (more_both _ _ _ _ (more_below count _ _ LeqRegister (λ r less.
        more_value (a.register r) (b.register r) (h.register r) (g.values r)))
        (more_both _ _ _ _ (more_labels p _ _ (λ l. AtKeys p (λ k. LeqAt l k)) (λ l of.
        more_keys p _ _ (λ k. LeqAt l k) (λ k at. more_property (a.property l k) (b.property l k)
        (h.property l k) (g.contents l k)))) (more_below (length p.sites) _ _ LeqMask
        (λ s less. more_mask (a.mask s) (b.mask s) (h.mask s)))))

  pub few_state : (count : ℕ) (a : AbstractState) → state_rank p count a
      ≤ count * value_height p + label_count p * key_count p * property_height p + label_count p
  few_state count a =
      let registers = few_below count (λ r. value_rank p (a.register r)) (value_height p)
      (λ r less. few_value (a.register r)) in
      let properties = few_labels p (λ l. sum_keys p (λ k. property_rank p (a.property l k)))
      (key_count p * property_height p) (λ l of. few_keys p _ (property_height p)
      (λ k at. few_property (a.property l k))) in
      let masks = few_below (length p.sites) (λ s. mask_rank (a.mask s)) 2
      (λ s less. few_mask (a.mask s)) in
      omega arith
