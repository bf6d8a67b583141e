-- The parameters that an activation binds: of equal names the last one wins, in the machine and in
-- the abstract.
use Rattle.std.specs.Prelude.{◌≡◌, ◌+◌, ◌<◌, ◌++◌, ℕ, Bool, true, false, if◌then◌else◌, IsTrue, List, [], ◌∷◌, map, find, drop, length, Some, None}
use Rattle.std.proofs.Common.{sym, subst, ap, ◌∙◌, inl, inr, append_assoc}
use Rattle.std.proofs.lemmas.Bool.{false≢true, cases_Bool, cond-true, cond-false, and_from, false_from_ne_true}
use Rattle.ja_base.specs.declared.ids.NameId.{NameId}
use Rattle.ja_prim.specs.Texts.{same_text}
use Rattle.ja_graph.specs.declared.attrs.TheConstants.{DONT_DELETE}
use Rattle.ja_graph.specs.declared.program.Program.{Program}
use Rattle.ja_graph.specs.WellFormed.{IsWellFormed}
use Rattle.ja_machine.specs.declared.machine.Value.{Value}
use Rattle.ja_machine.specs.declared.machine.Property.{Property}
use Rattle.ja_machine.specs.declared.machine.Heap.{Heap}
use Rattle.ja_machine.specs.Frames.{argument}
use Rattle.ja_machine.specs.Nodes.{name_text}
use Rattle.ja_machine.specs.Objects.{property_with, with_property, with_flag, with_parameters, first_flag}
use Rattle.ja_abstract.specs.declared.abstraction.Key.{Key}
use Rattle.ja_abstract.specs.declared.abstraction.Key.TheVariants as key
use Rattle.ja_abstract.specs.AbstractValue.{AbstractValue, AbstractProperty, of_attrs}
use Rattle.ja_abstract.specs.AbstractState.{AbstractState, same_key}
use Rattle.ja_abstract.specs.Keys.{named, key_of}
use Rattle.ja_abstract.specs.Contents.{property_content}
use Rattle.ja_abstract.specs.Made.{own_of, property_of, parameter_register, parameter_properties}
use Rattle.ja_abstract.proofs.Texts.{text_same, same_text_refl}
use Rattle.ja_abstract.proofs.Parts.{of_attrs_allows}
use Rattle.ja_abstract.proofs.Keys.{text_of_key, same_key-true, same_key_from, key_of-name}
use Rattle.ja_meaning.specs.Meaning.{has_value, knows}

-- ---- a property in place of the one of its name

pub with_property-same : (qs : List Property) (q : Property) (t : List ℕ)
    → same_text q.name t ≡ true → find (λ (r : Property). same_text r.name t) (with_property qs q)
    ≡ Some q
with_property-same [] q t e = cond-true (same_text q.name t) (Some q) None e
with_property-same (r ∷ rs) q t e =
    elim (cases_Bool (same_text r.name q.name)) [
      | inl s ↦
          subst (λ xs. find (λ (r : Property). same_text r.name t) xs ≡ Some q)
          (sym (cond-true (same_text r.name q.name) (q ∷ rs) (r ∷ with_property rs q) s))
          (cond-true (same_text q.name t) (Some q)
          (find (λ (r : Property). same_text r.name t) rs) e)
      | inr s ↦
          let other : same_text r.name t ≡ false =
          subst (λ u. same_text r.name u ≡ false) (text_same q.name t e) s in
          subst (λ xs. find (λ (r : Property). same_text r.name t) xs ≡ Some q)
          (sym (cond-false (same_text r.name q.name) (q ∷ rs) (r ∷ with_property rs q) s))
          (cond-false (same_text r.name t) (Some r)
          (find (λ (r : Property). same_text r.name t) (with_property rs q)) other
          ∙ with_property-same rs q t e)
    ]

pub with_property-other : (qs : List Property) (q : Property) (t : List ℕ)
    → same_text q.name t ≡ false → find (λ (r : Property). same_text r.name t) (with_property qs q)
    ≡ find (λ (r : Property). same_text r.name t) qs
with_property-other [] q t e = cond-false (same_text q.name t) (Some q) None e
with_property-other (r ∷ rs) q t e =
    elim (cases_Bool (same_text r.name q.name)) [
      | inl s ↦
          let other : same_text r.name t ≡ false =
          subst (λ u. same_text u t ≡ false) (sym (text_same r.name q.name s)) e in
          subst (λ xs. find (λ (r : Property). same_text r.name t) xs
          ≡ find (λ (r : Property). same_text r.name t) (r ∷ rs))
          (sym (cond-true (same_text r.name q.name) (q ∷ rs) (r ∷ with_property rs q) s))
          (cond-false (same_text q.name t) (Some q)
          (find (λ (r : Property). same_text r.name t) rs) e
          ∙ sym (cond-false (same_text r.name t) (Some r)
          (find (λ (r : Property). same_text r.name t) rs) other))
      | inr s ↦
          subst (λ xs. find (λ (r : Property). same_text r.name t) xs
          ≡ find (λ (r : Property). same_text r.name t) (r ∷ rs))
          (sym (cond-false (same_text r.name q.name) (q ∷ rs) (r ∷ with_property rs q) s))
          (ap (λ o. if same_text r.name t then Some r else o) (with_property-other rs q t e))
    ]

-- ---- one more that is bound

module _ (p : Program) (good : IsWellFormed p) (now : Heap) (a : AbstractState) (t : List ℕ) where
  -- what some keys with properties know of some properties at the text
  abbrev pub Tell : List (Key × AbstractProperty) → List Property → Type 0
  Tell ks qs =
      IsTrue (knows now (own_of ks (key_of p (named t)))
      (property_content (find (λ (r : Property). same_text r.name t) qs)))

  pub bound_one : (n : NameId) → n.0 < length p.names
      → (v : AbstractValue) (u : Value) (flag : Bool) → IsTrue (has_value now v u)
      → (ks : List (Key × AbstractProperty)) (qs : List Property) → Tell ks qs
      → Tell (property_of (key.Name n) v DONT_DELETE ∷ ks)
      (with_property qs (with_flag (property_with (name_text p n) u DONT_DELETE) flag))
  bound_one n l v u flag has ks qs told =
      let k = key_of p (named t) in
      let q : Property = with_flag (property_with (name_text p n) u DONT_DELETE) flag in
      let x : AbstractProperty = record { value = v; attrs = of_attrs DONT_DELETE } in
      let name_key : key_of p (named (name_text p n)) ≡ key.Name n = key_of-name p good n l in
      elim (cases_Bool (same_text (name_text p n) t)) [
        | inl s ↦
            let here : IsTrue (same_key (key.Name n) k) =
            same_key_from (key.Name n) k (sym name_key
            ∙ ap (λ y. key_of p (named y)) (text_same (name_text p n) t s)) in
            subst (λ r. IsTrue (knows now r (property_content
            (find (λ (r : Property). same_text r.name t) (with_property qs q)))))
            (sym (cond-true (same_key (key.Name n) k) x (own_of ks k) here))
            (subst (λ o. IsTrue (knows now x (property_content o)))
            (sym (with_property-same qs q t s)) (and_from _ _ has (of_attrs_allows DONT_DELETE)))
        | inr s ↦
            let apart : same_key (key.Name n) k ≡ false =
            false_from_ne_true (same_key (key.Name n) k)
            (λ e. false≢true (sym s ∙ subst (λ y. same_text (name_text p n) y ≡ true)
            (text_of_key p t n (sym (same_key-true (key.Name n) k e)))
            (same_text_refl (name_text p n)))) in
            subst (λ r. IsTrue (knows now r (property_content
            (find (λ (r : Property). same_text r.name t) (with_property qs q)))))
            (sym (cond-false (same_key (key.Name n) k) x (own_of ks k) apart))
            (subst (λ o. IsTrue (knows now (own_of ks k) (property_content o)))
            (sym (with_property-other qs q t s)) told)
      ]

  -- ---- all of them

  abbrev pub AreNames : List NameId → Type 0
  AreNames [] = Unit {0}
  AreNames (n ∷ ns) = (n.0 < length p.names) × AreNames ns

  -- the registers have the arguments
  abbrev pub AreHeld : ℕ → List NameId → List Value → Type 0
  AreHeld j [] arguments = Unit {0}
  AreHeld j (n ∷ ns) arguments =
      IsTrue (has_value now (a.register (parameter_register j)) (argument arguments 0))
      × AreHeld (j + 1) ns (drop 1 arguments)

  pub bound_all : (ns : List NameId) (j : ℕ) (arguments : List Value) (flags : List Bool)
      → AreNames ns → AreHeld j ns arguments → (ks : List (Key × AbstractProperty))
      (qs : List Property) → Tell ks qs → Tell (parameter_properties a j ns ++ ks)
      (with_parameters qs (map (name_text p) ns) arguments flags)
  bound_all [] j arguments flags names held_ ks qs told = told
  bound_all (n ∷ ns) j arguments flags names held_ ks qs told =
      let x : Key × AbstractProperty =
      property_of (key.Name n) (a.register (parameter_register j)) DONT_DELETE in
      let q : Property =
      with_flag (property_with (name_text p n) (argument arguments 0) DONT_DELETE)
      (first_flag flags) in
      subst (λ ys. Tell ys (with_parameters (with_property qs q) (map (name_text p) ns)
      (drop 1 arguments) (drop 1 flags))) (sym (append_assoc (parameter_properties a (j + 1) ns)
      (x ∷ []) ks))
      (bound_all ns (j + 1) (drop 1 arguments) (drop 1 flags) names.1 held_.1 (x ∷ ks)
      (with_property qs q) (bound_one n names.0 (a.register (parameter_register j))
      (argument arguments 0) (first_flag flags) held_.0 ks qs told))
