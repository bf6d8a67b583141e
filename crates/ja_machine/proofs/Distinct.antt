-- No object has two properties of one name, whatever is written, so it shows no name twice.
use Rattle.std.proofs.Common.{◌≡◌, ℕ, suc, ◌+◌, Bool, true, false, List, [], ◌∷◌, ◌++◌, map}
use Rattle.std.proofs.Common.{Some, None, Option, inl, inr, refl, sym, ap, ◌∙◌, subst, arith}
use Rattle.std.specs.Prelude.{not, is_some, drop, filter, find, slice_get}
use Rattle.std.specs.List.{AllByRecursion, IsDistinct}
use Rattle.std.specs.Option.{option_and_then, option_map_or}
use Rattle.std.proofs.lemmas.Bool.{false≢true, cases_Bool}
use lib.Pointwise.{bytes_decides}
use Rattle.ja_base.proofs.Lists.{all_weaker}
use Rattle.ja_graph.specs.declared.attrs.Attrs.{Attrs}
use Rattle.ja_graph.specs.declared.attrs.TheConstants.{DONT_DELETE}
use Rattle.ja_prim.specs.Texts.{same_text}
use Rattle.ja_machine.specs.declared.machine.Addr.{Addr}
use Rattle.ja_machine.specs.declared.machine.Value.{Value}
use Rattle.ja_machine.specs.declared.machine.Content.{Content}
use Rattle.ja_machine.specs.declared.machine.Content.TheVariants as contents
use Rattle.ja_machine.specs.declared.machine.Property.{Property}
use Rattle.ja_machine.specs.declared.machine.Object.{Object}
use Rattle.ja_machine.specs.declared.machine.Heap.{Heap}
use Rattle.ja_machine.specs.Heap.{object_at, property_of, own, prototypes}
use Rattle.ja_machine.specs.Writes.{with_value, with_definition}
use Rattle.ja_machine.specs.Frames.{argument}
use Rattle.ja_machine.specs.Objects.{property_with, with_flag, first_flag}
use Rattle.ja_machine.specs.Objects.{with_property, with_parameters}
use Rattle.ja_machine.specs.Objects.{argument_element, with_elements}
use Rattle.ja_machine.specs.Enumeration.{is_enumerable, own_names, names_along, names}
use Rattle.ja_machine.specs.State.{HaveDistinctNames}
use Rattle.ja_machine.proofs.Lists.{either_way, all_append, all_filter, all_map}

-- ---- texts

abbrev pub IsOther : List ℕ → List ℕ → Type 0
IsOther t u = same_text t u ≡ false

pub texts_apart : (t u : List ℕ) → (t ≡ u → ⊥) → IsOther t u
texts_apart t u apart =
    elim (cases_Bool (same_text t u)) [
      | inl e ↦ absurd (apart ((bytes_decides t u).0 e))
      | inr e ↦ e
    ]

-- ---- one name and those of properties

-- a name is none of the properties'
abbrev pub IsNew : List ℕ → List Property → Type 0
IsNew t qs = AllByRecursion (IsOther t) (map (λ (q : Property). q.name) qs)

new-with_value : (t : List ℕ) (qs : List Property) (name : List ℕ) (v : Value) →
    IsOther t name → IsNew t qs → IsNew t (with_value qs name v)
new-with_value t [] name v other all = (other, tt)
new-with_value t (q ∷ qs) name v other all =
    either_way
    (IsNew t)
    (same_text q.name name)
    (record q { content = contents.Value v } ∷ qs)
    (q ∷ with_value qs name v)
    (λ e. all)
    (λ e. (all.0, new-with_value t qs name v other all.1))

new-with_definition : (t : List ℕ) (qs : List Property) (name : List ℕ) (c : Content) (x : Attrs) →
    IsOther t name → IsNew t qs → IsNew t (with_definition qs name c x)
new-with_definition t [] name c x other all = (other, tt)
new-with_definition t (q ∷ qs) name c x other all =
    either_way
    (IsNew t)
    (same_text q.name name)
    (record q { content = c; attrs = x } ∷ qs)
    (q ∷ with_definition qs name c x)
    (λ e. all)
    (λ e. (all.0, new-with_definition t qs name c x other all.1))

new-with_property : (t : List ℕ) (qs : List Property) (q : Property) →
    IsOther t q.name → IsNew t qs → IsNew t (with_property qs q)
new-with_property t [] q other all = (other, tt)
new-with_property t (r ∷ rs) q other all =
    either_way
    (IsNew t)
    (same_text r.name q.name)
    (q ∷ rs)
    (r ∷ with_property rs q)
    (λ e. (other, all.1))
    (λ e. (all.0, new-with_property t rs q other all.1))

new-filter : (t : List ℕ) (test : Property → Bool) (qs : List Property) →
    IsNew t qs → IsNew t (filter test qs)
new-filter t test [] all = tt
new-filter t test (q ∷ qs) all =
    either_way
    (IsNew t)
    (test q)
    (q ∷ filter test qs)
    (filter test qs)
    (λ e. (all.0, new-filter t test qs all.1))
    (λ e. new-filter t test qs all.1)

-- ---- properties of distinct names stay so

pub distinct-none : HaveDistinctNames []
unfolding IsDistinct
distinct-none = tt

pub distinct-one : (t : List ℕ) → IsDistinct same_text (t ∷ [])
unfolding IsDistinct
distinct-one t = (tt, tt)

pub distinct-two : (t u : List ℕ) → IsOther t u → IsDistinct same_text (t ∷ u ∷ [])
unfolding IsDistinct
distinct-two t u other = ((other, tt), (tt, tt))

pub distinct-with_value : (qs : List Property) (name : List ℕ) (v : Value) →
    HaveDistinctNames qs → HaveDistinctNames (with_value qs name v)
unfolding IsDistinct
distinct-with_value [] name v all = (tt, tt)
distinct-with_value (q ∷ qs) name v all =
    either_way
    HaveDistinctNames
    (same_text q.name name)
    (record q { content = contents.Value v } ∷ qs)
    (q ∷ with_value qs name v)
    (λ e. all)
    (λ e. (new-with_value q.name qs name v e all.0, distinct-with_value qs name v all.1))

pub distinct-with_definition : (qs : List Property) (name : List ℕ) (c : Content) (x : Attrs) →
    HaveDistinctNames qs → HaveDistinctNames (with_definition qs name c x)
unfolding IsDistinct
distinct-with_definition [] name c x all = (tt, tt)
distinct-with_definition (q ∷ qs) name c x all =
    either_way
    HaveDistinctNames
    (same_text q.name name)
    (record q { content = c; attrs = x } ∷ qs)
    (q ∷ with_definition qs name c x)
    (λ e. all)
    (λ e.
    (new-with_definition q.name qs name c x e all.0, distinct-with_definition qs name c x all.1))

pub distinct-with_property : (qs : List Property) (q : Property) →
    HaveDistinctNames qs → HaveDistinctNames (with_property qs q)
unfolding IsDistinct
distinct-with_property [] q all = (tt, tt)
distinct-with_property (r ∷ rs) q all =
    either_way
    HaveDistinctNames
    (same_text r.name q.name)
    (q ∷ rs)
    (r ∷ with_property rs q)
    (λ e. (subst (λ t. IsNew t rs) ((bytes_decides r.name q.name).0 e) all.0, all.1))
    (λ e. (new-with_property r.name rs q e all.0, distinct-with_property rs q all.1))

pub distinct-filter : (test : Property → Bool) (qs : List Property) →
    HaveDistinctNames qs → HaveDistinctNames (filter test qs)
unfolding IsDistinct
distinct-filter test [] all = tt
distinct-filter test (q ∷ qs) all =
    either_way
    HaveDistinctNames
    (test q)
    (q ∷ filter test qs)
    (filter test qs)
    (λ e. (new-filter q.name test qs all.0, distinct-filter test qs all.1))
    (λ e. distinct-filter test qs all.1)

pub distinct-with_parameters :
    (names : List (List ℕ)) (qs : List Property) (arguments : List Value) (flags : List Bool) →
    HaveDistinctNames qs → HaveDistinctNames (with_parameters qs names arguments flags)
distinct-with_parameters [] qs arguments flags all = all
distinct-with_parameters (name ∷ names) qs arguments flags all =
    let value : Value = argument arguments 0 in
    let q : Property = with_flag (property_with name value DONT_DELETE) (first_flag flags) in
    let further : HaveDistinctNames (with_property qs q) = distinct-with_property qs q all in
    distinct-with_parameters names (with_property qs q) (drop 1 arguments) (drop 1 flags) further

pub distinct-with_elements :
    (qs : List Property) (i : ℕ) (arguments : List Value) (flags : List Bool) →
    HaveDistinctNames qs → HaveDistinctNames (with_elements qs i arguments flags)
distinct-with_elements qs i [] flags all = all
distinct-with_elements qs i (v ∷ arguments) flags all =
    let q : Property = argument_element i v flags in
    let further : HaveDistinctNames (with_property qs q) = distinct-with_property qs q all in
    distinct-with_elements (with_property qs q) (i + 1) arguments (drop 1 flags) further

-- ---- properties made from a list

module _ {X : Type 0} (make : X → Property) where
  new_from : (t : List ℕ) (xs : List X) →
      ((j : ℕ) (y : X) → slice_get xs j ≡ Some y → t ≡ (make y).name → ⊥) →
      IsNew t (map make xs)
  new_from t [] each = tt
  new_from t (x ∷ xs) each = (
    texts_apart t (make x).name (each 0 x refl),
    new_from t xs (λ j y e. each (suc j) y e),
  )

  pub distinct_from : (xs : List X) →
      ((i j : ℕ) (x y : X) →
      slice_get xs i ≡ Some x →
      slice_get xs j ≡ Some y →
      (make x).name ≡ (make y).name →
      i ≡ j) →
      HaveDistinctNames (map make xs)
  unfolding IsDistinct
  distinct_from [] once = tt
  distinct_from (x ∷ xs) once = (
    new_from (make x).name xs (λ j y e same.
        let both : 0 ≡ suc j = once 0 (suc j) x y refl e same in absurd (omega arith)),
    distinct_from xs (λ i j y z e f same.
        let both : suc i ≡ suc j = once (suc i) (suc j) y z e f same in omega arith),
  )

-- ---- the names that are shown

distinct_append : (ts us : List (List ℕ)) →
    IsDistinct same_text ts →
    IsDistinct same_text us →
    AllByRecursion (λ t. AllByRecursion (IsOther t) us) ts →
    IsDistinct same_text (ts ++ us)
unfolding IsDistinct
distinct_append [] us left right apart = right
distinct_append (t ∷ ts) us left right apart =
    (all_append (IsOther t) ts us left.0 apart.0, distinct_append ts us left.1 right apart.1)

distinct_kept : (test : List ℕ → Bool) (ts : List (List ℕ)) →
    IsDistinct same_text ts → IsDistinct same_text (filter test ts)
unfolding IsDistinct
distinct_kept test [] all = tt
distinct_kept test (t ∷ ts) all =
    either_way
    (IsDistinct same_text)
    (test t)
    (t ∷ filter test ts)
    (filter test ts)
    (λ e. (all_filter (IsOther t) test ts all.0, distinct_kept test ts all.1))
    (λ e. distinct_kept test ts all.1)

-- what is left passes the test
passing : (test : List ℕ → Bool) (ts : List (List ℕ)) →
    AllByRecursion (λ t. test t ≡ true) (filter test ts)
passing test [] = tt
passing test (t ∷ ts) =
    either_way
    (AllByRecursion (λ u. test u ≡ true))
    (test t)
    (t ∷ filter test ts)
    (filter test ts)
    (λ e. (e, passing test ts))
    (λ e. passing test ts)

abbrev IsFoundIn : List Property → List ℕ → Type 0
IsFoundIn qs t = is_some (find (λ (r : Property). same_text r.name t) qs) ≡ true

found_behind : (q : Property) (qs : List Property) (t : List ℕ) →
    IsFoundIn qs t → IsFoundIn (q ∷ qs) t
found_behind q qs t found =
    either_way
    (λ o. is_some o ≡ true)
    (same_text q.name t)
    (Some q)
    (find (λ (r : Property). same_text r.name t) qs)
    (λ e. refl)
    (λ e. found)

found_first : (q : Property) (qs : List Property) → IsFoundIn (q ∷ qs) q.name
found_first q qs =
    either_way
    (λ o. is_some o ≡ true)
    (same_text q.name q.name)
    (Some q)
    (find (λ (r : Property). same_text r.name q.name) qs)
    (λ e. refl)
    (λ e. absurd (false≢true (sym e ∙ (bytes_decides q.name q.name).1 refl)))

each_found : (qs : List Property) → AllByRecursion (λ (q : Property). IsFoundIn qs q.name) qs
each_found [] = tt
each_found (q ∷ qs) = (
  found_first q qs,
  all_weaker
      (λ (r : Property). IsFoundIn qs r.name)
      (λ (r : Property). IsFoundIn (q ∷ qs) r.name)
      (λ r found. found_behind q qs r.name found)
      qs
      (each_found qs),
)

-- the names of its own that an object shows
abbrev shown_of : Object → List (List ℕ)
shown_of o = map (λ (q : Property). q.name) (filter is_enumerable o.properties)

module _ (h : Heap) where
  -- each name that an object shows of its own is that of a property
  own_found : (a : Addr) → AllByRecursion (λ t. is_some (own h a t) ≡ true) (own_names h a)
  own_found a = at (object_at h a)
    where
      at : (r : Option Object) →
          AllByRecursion
          (λ t. is_some (option_and_then (λ (o : Object). property_of o t) r) ≡ true)
          (option_map_or (shown_of) r [])
      at None = tt
      at (Some o) =
          all_map
          (λ (q : Property). IsFoundIn o.properties q.name)
          (IsFoundIn o.properties)
          (λ (q : Property). q.name)
          (λ q found. found)
          (filter is_enumerable o.properties)
          (all_filter
          (λ (q : Property). IsFoundIn o.properties q.name)
          is_enumerable
          o.properties
          (each_found o.properties))

  abbrev AreNamed : Addr → Type 0
  AreNamed a = (o : Object) → object_at h a ≡ Some o → HaveDistinctNames o.properties

  module _ (each : (a : Addr) → AreNamed a) where
    own_distinct : (a : Addr) → IsDistinct same_text (own_names h a)
    own_distinct a = at (object_at h a) (each a)
      where
        at : (r : Option Object) →
            ((o : Object) → r ≡ Some o → HaveDistinctNames o.properties) →
            IsDistinct same_text (option_map_or (shown_of) r [])
        at None known = distinct-none
        at (Some o) known = distinct-filter is_enumerable o.properties (known o refl)

    along_distinct : (chain : List Addr) → IsDistinct same_text (names_along h chain)
    along_distinct [] = distinct-none
    along_distinct (a ∷ rest) =
        let behind : List ℕ → Bool = λ t. not (is_some (own h a t)) in
        let inherited : List (List ℕ) = filter behind (names_along h rest) in
        distinct_append
        (own_names h a)
        inherited
        (own_distinct a)
        (distinct_kept behind (names_along h rest) (along_distinct rest))
        (all_weaker
        (λ t. is_some (own h a t) ≡ true)
        (λ t. AllByRecursion (IsOther t) inherited)
        (λ t there.
        all_weaker
        (λ u. behind u ≡ true)
        (IsOther t)
        (λ u none.
        texts_apart t u (λ same.
        let here : is_some (own h a u) ≡ true =
        subst (λ v. is_some (own h a v) ≡ true) same there in
        false≢true (sym (ap not here) ∙ none)))
        inherited
        (passing behind (names_along h rest)))
        (own_names h a)
        (own_found a))

    -- so no name is shown twice
    pub shown_distinct : (a : Addr) → IsDistinct same_text (names h a)
    shown_distinct a = along_distinct (prototypes h a)
