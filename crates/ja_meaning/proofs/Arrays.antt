-- What an object has after a put: a plain one, an array's element and an array's `length`.
use Rattle.std.specs.Prelude.{◌≡◌, ◌+◌, ◌&&◌, not, ℕ, ℤ, pos, int_lt, nat_le, Bool, true, false, if◌then◌else◌, IsTrue, List, [], ◌∷◌, filter, find, Option, Some, None}
use Rattle.std.specs.Option.{option_map_or}
use Rattle.std.proofs.Common.{refl, sym, subst, ap, ◌∙◌, inl, inr}
use Rattle.std.proofs.lemmas.Bool.{false≢true, cases_Bool, cond-true, cond-false, cond_both, and_parts}
use Rattle.ja_prim.specs.Conversions.{index_of}
use Rattle.ja_prim.specs.Texts.{same_text}
use Rattle.ja_prim.specs.declared.primitive.Num.TheVariants.{NaN, Whole}
use Rattle.ja_prim.specs.declared.primitive.Primitive.TheVariants as primitive
use Rattle.ja_graph.specs.declared.attrs.Attrs.{Attrs}
use Rattle.ja_graph.specs.declared.attrs.TheConstants.{NO_ATTRS}
use Rattle.ja_machine.specs.declared.machine.Value.{Value}
use Rattle.ja_machine.specs.declared.machine.Value.TheVariants as value
use Rattle.ja_machine.specs.declared.machine.Content.{Content}
use Rattle.ja_machine.specs.declared.machine.Content.TheVariants as contents
use Rattle.ja_machine.specs.declared.machine.Property.{Property}
use Rattle.ja_machine.specs.declared.machine.Object.{Object}
use Rattle.ja_machine.specs.Heap.{property_of}
use Rattle.ja_machine.specs.Writes.{object_with_value, length_name, whole_number, number_held, property_number, length_of, grown, with_length, is_cut}
use Rattle.ja_abstract.specs.declared.abstraction.Slot.TheVariants as slot
use Rattle.ja_abstract.specs.Contents.{SpotContent, missing, held, present, present_row, object_content, property_content, content_of}
use Rattle.ja_abstract.specs.Keys.{Spot, named, internal}
use Rattle.ja_abstract.proofs.Texts.{text_same}
use Rattle.ja_meaning.proofs.Contents.{attrs_after, with_value_same, with_value_other}
use Rattle.ja_meaning.proofs.Grown.{after_element}

-- ---- a value is set

pub value_same : (o : Object) (t : List ℕ) (v : Value)
    → object_content (object_with_value o t v) (named t) ≡ present v (attrs_after (property_of o t))
value_same o t v = with_value_same o.properties t v

pub value_other : (o : Object) (t : List ℕ) (v : Value) (x : Spot) → (x ≡ named t → ⊥)
    → object_content (object_with_value o t v) x ≡ object_content o x
value_other o t v (named u) ne =
    elim (cases_Bool (same_text t u)) [
      | inl e ↦
          absurd (ne (ap named (sym (text_same t u e))))
      | inr e ↦ with_value_other o.properties t u v e
    ]
value_other o t v (internal slot.Prototype) ne = refl
value_other o t v (internal slot.Outer) ne = refl
value_other o t v (internal slot.Scope) ne = refl
value_other o t v (internal slot.Value) ne = refl

-- the attributes of a content
abbrev attrs_in : SpotContent → Attrs
attrs_in missing = NO_ATTRS
attrs_in (held v) = NO_ATTRS
attrs_in (present v attrs) = attrs
attrs_in (present_row attrs) = attrs

attrs_by : (x : Content) (attrs : Attrs) → attrs ≡ attrs_in (content_of x attrs)
attrs_by (contents.Value v) attrs = refl
attrs_by contents.Row attrs = refl

attrs_from : (g : Option Property) → attrs_after g ≡ attrs_in (property_content g)
attrs_from None = refl
attrs_from (Some q) = attrs_by q.content q.attrs

attrs_same : (g h : Option Property) → property_content g ≡ property_content h
    → attrs_after g ≡ attrs_after h
attrs_same g h is = attrs_from g ∙ (ap attrs_in is ∙ sym (attrs_from h))

-- of two objects by one test
by_test : (b : Bool) (x : Spot) (o q : Object) (m n : SpotContent) → object_content o x ≡ m
    → object_content q x ≡ n → object_content (if b then o else q) x ≡ (if b then m else n)
by_test true x o q m n f g = f
by_test false x o q m n f g = g

-- ---- an element is set

abbrev grown_by : ℕ → Option ℤ → SpotContent → SpotContent → SpotContent
grown_by i None unchanged more = unchanged
grown_by i (Some n) unchanged more = if int_lt (pos i) n then unchanged else more

grown_is : (i : ℕ) (name : List ℕ) (x : Content) (attrs : Attrs) (shared : Bool)
    → grown_by i (number_held x) (content_of x attrs) (present (whole_number (i + 1)) attrs)
    ≡ after_element (Some (record { name = name; content = x; attrs = attrs; shared = shared })) i
grown_is i name contents.Row attrs shared = refl
grown_is i name (contents.Value (value.Object a)) attrs shared = refl
grown_is i name (contents.Value (value.Primitive primitive.Undefined)) attrs shared = refl
grown_is i name (contents.Value (value.Primitive primitive.Null)) attrs shared = refl
grown_is i name (contents.Value (value.Primitive (primitive.Bool b))) attrs shared = refl
grown_is i name (contents.Value (value.Primitive (primitive.Number NaN))) attrs shared = refl
grown_is i name (contents.Value (value.Primitive (primitive.Number (Whole n)))) attrs shared = refl
grown_is i name (contents.Value (value.Primitive (primitive.Text t))) attrs shared = refl

module _ (o : Object) (t : List ℕ) (v : Value) (i : ℕ) where
  abbrev one : Object
  one = object_with_value o t v

  -- what isn't the length is as the value that was set leaves it
  pub element_other : (n : Option ℤ) (x : Spot) → (x ≡ named length_name → ⊥)
      → object_content (grown i n one) x ≡ object_content one x
  element_other None x ne = refl
  element_other (Some n) x ne =
      cond_both (int_lt (pos i) n) one (object_with_value one length_name (whole_number (i + 1)))
      (λ q. object_content q x ≡ object_content one x) (λ a. refl)
      (λ b. value_other one length_name (whole_number (i + 1)) x ne)

  module _ (other : named length_name ≡ named t → ⊥) where
    kept : object_content one (named length_name) ≡ object_content o (named length_name)
    kept = value_other o t v (named length_name) other

    by_number : (q : Property) → property_of o length_name ≡ Some q → (n : Option ℤ)
        → number_held q.content ≡ n → object_content (grown i n one) (named length_name)
        ≡ grown_by i n (content_of q.content q.attrs) (present (whole_number (i + 1)) q.attrs)
    by_number q is None num = kept ∙ ap property_content is
    by_number q is (Some n) num =
        by_test (int_lt (pos i) n) (named length_name) one
        (object_with_value one length_name (whole_number (i + 1))) (content_of q.content q.attrs)
        (present (whole_number (i + 1)) q.attrs) (kept ∙ ap property_content is)
        (value_same one length_name (whole_number (i + 1))
        ∙ ap (present (whole_number (i + 1))) (attrs_same (property_of one length_name) (Some q)
        (kept ∙ ap property_content is)))

    by_property : (g : Option Property) → property_of o length_name ≡ g
        → object_content (grown i (property_number g) one) (named length_name) ≡ after_element g i
    by_property None is = kept ∙ ap property_content is
    by_property (Some q) is =
        by_number q is (number_held q.content) refl ∙ grown_is i q.name q.content q.attrs q.shared

    pub element_length : object_content (grown i (length_of o) one) (named length_name)
        ≡ after_element (property_of o length_name) i
    element_length = by_property (property_of o length_name) refl

-- ---- the length is set

-- what a filter keeps of a name's properties, and what it drops
pub find-kept : (keep : Property → Bool) (qs : List Property) (t : List ℕ)
    → ((q : Property) → same_text q.name t ≡ true → keep q ≡ true)
    → find (λ (q : Property). same_text q.name t) (filter keep qs)
    ≡ find (λ (q : Property). same_text q.name t) qs
find-kept keep [] t all = refl
find-kept keep (q ∷ qs) t all =
    elim (cases_Bool (same_text q.name t)) [
      | inl s ↦
          subst (λ xs. find (λ (r : Property). same_text r.name t) xs
          ≡ find (λ (r : Property). same_text r.name t) (q ∷ qs))
          (sym (cond-true (keep q) (q ∷ filter keep qs) (filter keep qs) (all q s)))
          (cond-true (same_text q.name t) (Some q) _ s
          ∙ sym (cond-true (same_text q.name t) (Some q) _ s))
      | inr s ↦
          cond_both (keep q) (q ∷ filter keep qs) (filter keep qs)
          (λ xs. find (λ (r : Property). same_text r.name t) xs
          ≡ find (λ (r : Property). same_text r.name t) (q ∷ qs))
          (λ k. ap (λ z. if same_text q.name t then Some q else z) (find-kept keep qs t all))
          (λ k. find-kept keep qs t all ∙ sym (cond-false (same_text q.name t) (Some q)
          (find (λ (r : Property). same_text r.name t) qs) s))
    ]

pub find-cut : (keep : Property → Bool) (qs : List Property) (t : List ℕ)
    → ((q : Property) → same_text q.name t ≡ true → keep q ≡ false)
    → find (λ (q : Property). same_text q.name t) (filter keep qs) ≡ None
find-cut keep [] t all = refl
find-cut keep (q ∷ qs) t all =
    cond_both (keep q) (q ∷ filter keep qs) (filter keep qs)
    (λ xs. find (λ (r : Property). same_text r.name t) xs ≡ None)
    (λ k. elim (cases_Bool (same_text q.name t)) [
      | inl s ↦ absurd (false≢true (sym (all q s) ∙ k))
      | inr s ↦
          cond-false (same_text q.name t) (Some q)
          (find (λ (r : Property). same_text r.name t) (filter keep qs)) s ∙ find-cut keep qs t all
    ])
    (λ k. find-cut keep qs t all)

-- whether the elements of a name are cut
abbrev pub cut_at : ℕ → Option ℤ → List ℕ → Bool
cut_at n None t = false
cut_at n (Some old) t =
    option_map_or (λ index. nat_le n index && int_lt (pos index) old) (index_of t) false

cut_by : (n : ℕ) (old : Option ℤ) (q : Property) (t : List ℕ) → same_text q.name t ≡ true
    → is_cut n old q ≡ cut_at n old t
cut_by n None q t s = refl
cut_by n (Some old) q t s =
    ap (λ u. option_map_or (λ index. nat_le n index && int_lt (pos index) old) (index_of u) false)
    (text_same q.name t s)

-- what is cut is the text of an index from the new length on
pub cut_index : (n : ℕ) (old : Option ℤ) (t : List ℕ) → cut_at n old t ≡ true
    → (i : ℕ) × (index_of t ≡ Some i) × IsTrue (nat_le n i)
cut_index n None t cut = absurd (false≢true cut)
cut_index n (Some old) t cut = by (index_of t) refl cut
  where
    by : (o : Option ℕ) → index_of t ≡ o → option_map_or
        (λ index. nat_le n index && int_lt (pos index) old) o false ≡ true
        → (i : ℕ) × (index_of t ≡ Some i) × IsTrue (nat_le n i)
    by None is e = absurd (false≢true e)
    by (Some i) is e = (i, is, (and_parts (nat_le n i) _ e).0)

module _ (o : Object) (n : ℕ) where
  abbrev keep : Property → Bool
  keep q = not (is_cut n (length_of o) q)

  abbrev shorter : Object
  shorter = record o { properties = filter keep o.properties }

  not_cut : (t : List ℕ) → cut_at n (length_of o) t ≡ false
      → property_of shorter t ≡ property_of o t
  not_cut t whole =
      find-kept keep o.properties t (λ q s. ap not (cut_by n (length_of o) q t s ∙ whole))

  length_stays : (old : Option ℤ) → cut_at n old length_name ≡ false
  length_stays None = refl
  length_stays (Some old) = refl

  pub length_same : object_content (with_length o n) (named length_name)
      ≡ present (whole_number n) (attrs_after (property_of o length_name))
  length_same =
      value_same shorter length_name (whole_number n)
      ∙ ap (λ g. present (whole_number n) (attrs_after g))
      (not_cut length_name (length_stays (length_of o)))

  pub length_cut : (t : List ℕ) → (named t ≡ named length_name → ⊥)
      → cut_at n (length_of o) t ≡ true → object_content (with_length o n) (named t) ≡ missing
  length_cut t ne cut =
      value_other shorter length_name (whole_number n) (named t) ne
      ∙ ap property_content (find-cut keep o.properties t
      (λ q s. ap not (cut_by n (length_of o) q t s ∙ cut)))

  pub length_kept : (t : List ℕ) → (named t ≡ named length_name → ⊥)
      → cut_at n (length_of o) t ≡ false → object_content (with_length o n) (named t)
      ≡ object_content o (named t)
  length_kept t ne whole =
      value_other shorter length_name (whole_number n) (named t) ne
      ∙ ap property_content (not_cut t whole)

  pub length_slot : (x : Rattle.ja_abstract.specs.declared.abstraction.Slot.Slot)
      → object_content (with_length o n) (internal x) ≡ object_content o (internal x)
  length_slot slot.Prototype = refl
  length_slot slot.Outer = refl
  length_slot slot.Scope = refl
  length_slot slot.Value = refl
