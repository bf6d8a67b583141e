-- Where a write may be strong: the one new label of a target, and the one name of a list of keys.
use Rattle.std.specs.Prelude.{◌≡◌, false, IsTrue, List, [], ◌∷◌, filter, Option, Some, None}
use Rattle.std.specs.List.{list_any}
use Rattle.std.specs.Option.{option_map, option_and_then}
use Rattle.std.proofs.Common.{refl, sym, subst, ap, ◌∙◌, inl, inr}
use Rattle.std.proofs.lemmas.Bool.{false≢true, cases_Bool, cond-true, cond-false, or_left, or_right, or_cases}
use Rattle.std.proofs.lemmas.Option.{none-some, same_Some}
use Rattle.ja_base.specs.declared.ids.Label.{Label}
use Rattle.ja_base.specs.declared.ids.NameId.{NameId}
use Rattle.ja_machine.specs.declared.machine.Addr.{Addr}
use Rattle.ja_machine.specs.declared.machine.Heap.{Heap}
use Rattle.ja_machine.specs.State.{IsObjectOf}
use Rattle.ja_abstract.specs.declared.abstraction.Key.{Key}
use Rattle.ja_abstract.specs.declared.abstraction.Key.TheVariants as key
use Rattle.ja_abstract.specs.AbstractValue.{Labels, same_label}
use Rattle.ja_abstract.specs.AbstractState.{labels_of, same_key}
use Rattle.ja_abstract.specs.Contents.{label_of}
use Rattle.ja_abstract.specs.Keys.{is_among_keys}
use Rattle.ja_abstract.specs.Reading.{View}
use Rattle.ja_abstract.specs.Writes.{new_alone, one_target, one_name, strong_at}
use Rattle.ja_abstract.proofs.Keys.{same_key-true}
use Rattle.ja_abstract.proofs.Labels.{IsAmong, same_label-true}
use Rattle.ja_meaning.proofs.Moments.{Reads}
use Rattle.ja_meaning.proofs.Gets.{label-among}

filter-among : (keep : Labels) (ls : List Label) (l : Label) → IsAmong l ls → IsTrue (keep l)
    → IsAmong l (filter keep ls)
filter-among keep [] l a k = absurd (false≢true a)
filter-among keep (m ∷ ms) l a k =
    elim (cases_Bool (keep m)) [
      | inl in_ ↦
          subst (IsAmong l) (sym (cond-true (keep m) (m ∷ filter keep ms) (filter keep ms) in_))
          (elim (or_cases (same_label l m) (list_any (same_label l) ms) a) [
            | inl s ↦ or_left (same_label l m) _ s
            | inr r ↦
                or_right (same_label l m) _ (filter-among keep ms l r k)
          ])
      | inr out_ ↦
          subst (IsAmong l) (sym (cond-false (keep m) (m ∷ filter keep ms) (filter keep ms) out_))
          (elim (or_cases (same_label l m) (list_any (same_label l) ms) a) [
            | inl s ↦
                absurd (false≢true (sym out_
                ∙ subst (λ z. IsTrue (keep z)) (same_label-true l m s) k))
            | inr r ↦ filter-among keep ms l r k
          ])
    ]

alone-is : (ls : List Label) (l m : Label) → new_alone ls ≡ Some l → IsAmong m ls
    → (l ≡ m) × (m.old ≡ false)
alone-is [] l m e a = absurd (none-some l e)
alone-is (j ∷ []) l m e a =
    elim (or_cases (same_label m j) false a) [
      | inl s ↦ elim (cases_Bool j.old) [
        | inl old_ ↦ absurd (none-some l (sym (cond-true j.old None (Some j) old_) ∙ e))
        | inr new_ ↦
            let is : j ≡ l = same_Some j l (sym (cond-false j.old None (Some j) new_) ∙ e) in
            let at : m ≡ j = same_label-true m j s in
            (sym is ∙ sym at, ap (λ (z : Label). z.old) at ∙ new_)
      ]
      | inr none ↦ absurd (false≢true none)
    ]
alone-is (j ∷ k ∷ ks) l m e a = absurd (none-some l e)

name-is : (keys : List Key) (j k : Key) → one_name keys ≡ Some j → IsTrue (is_among_keys keys k)
    → (n : NameId) × (j ≡ k) × (k ≡ key.Name n)
name-is [] j k e a = absurd (none-some j e)
name-is (key.Name n ∷ []) j k e a = elim (or_cases (same_key (key.Name n) k) false a) [
  | inl s ↦
      let is : key.Name n ≡ k = same_key-true (key.Name n) k s in
      (n, sym (same_Some (key.Name n) j e) ∙ is, sym is)
  | inr none ↦ absurd (false≢true none)
]
name-is (key.Name n ∷ i ∷ is) j k e a = absurd (none-some j e)
name-is (key.OtherIndex ∷ is) j k e a = absurd (none-some j e)
name-is (key.OtherName ∷ is) j k e a = absurd (none-some j e)
name-is (key.Slot s ∷ is) j k e a = absurd (none-some j e)

module _ (e c : Heap) (w : View) (r : Reads e c w) (target : Labels) (a : Addr)
    (there : IsObjectOf c a) (among : IsTrue (target (label_of c a))) where
  -- a target's one label is that of each object that it has
  pub target-is : (l : Label) → one_target w target ≡ Some l
      → (l ≡ label_of c a) × ((label_of c a).old ≡ false)
  target-is l e_is =
      alone-is (filter target (labels_of w.program)) l (label_of c a) e_is
      (filter-among target (labels_of w.program) (label_of c a) (label-among e c w r a there) among)

  pub record IsStrong (k : Key) (s : Label × Key) : Type 0 where
    pub label : s.0 ≡ label_of c a
    pub new : (label_of c a).old ≡ false
    pub key_same : s.1 ≡ k
    pub name : NameId
    pub name_is : k ≡ key.Name name

  by_name : (keys : List Key) (k : Key) (s : Label × Key) (l : Label) → one_target w target ≡ Some l
      → IsTrue (is_among_keys keys k) → (o : Option Key) → one_name keys ≡ o
      → option_map (λ (j : Key). (l, j)) o ≡ Some s → IsStrong k s
  by_name keys k s l t_is in_ None n_is e_is = absurd (none-some s e_is)
  by_name keys k s l t_is in_ (Some j) n_is e_is =
      let (n, same, is) = name-is keys j k n_is in_ in
      let t = target-is l t_is in
      let pair : (l, j) ≡ s = same_Some (l, j) s e_is in
      record {
        label = sym (ap (λ (z : Label × Key). z.0) pair)
            ∙ t.0;
        new = t.1;
        key_same = sym (ap (λ (z : Label × Key). z.1) pair)
            ∙ same;
        name = n;
        name_is = is;
      }

  by_target : (keys : List Key) (k : Key) (s : Label × Key) → IsTrue (is_among_keys keys k)
      → (o : Option Label) → one_target w target ≡ o
      → option_and_then (λ (l : Label). option_map (λ (j : Key). (l, j)) (one_name keys)) o ≡ Some s
      → IsStrong k s
  by_target keys k s in_ None t_is e_is = absurd (none-some s e_is)
  by_target keys k s in_ (Some l) t_is e_is = by_name keys k s l t_is in_ (one_name keys) refl e_is

  -- .. and a target's one name is each key that is among the keys
  pub strong-is : (keys : List Key) (k : Key) (s : Label × Key) → IsTrue (is_among_keys keys k)
      → strong_at w target keys ≡ Some s → IsStrong k s
  strong-is keys k s in_ e_is = by_target keys k s in_ (one_target w target) refl e_is
