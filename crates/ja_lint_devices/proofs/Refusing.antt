-- Why values declare no devices, from why the words of one aren't those of kinds, and from why
-- their devices can't be a program's.
use Rattle.std.proofs.Common.{Bor, ◌≡◌, ℕ, zero, suc, ◌+◌, ◌<◌, ◌&&◌, ◌||◌, not, Bool, true, false, List, [], ◌∷◌, ◌++◌, map, take, length, get_or, Some, refl, ap, sym, ◌∙◌, subst, arith, inl, inr}
use Rattle.std.specs.Prelude.{cond, if◌then◌else◌, slice_get}
use Rattle.std.specs.List.{list_any, list_all, slice_split, onto_first, after_first}
use Rattle.std.specs.Option.{option_map, is_some}
use Rattle.std.specs.Str.{bytes_eq}
use lib.Chars.{codes}
use Rattle.std.proofs.lemmas.Bool.{and_parts, or_cases, or_left, or_right, false≢true}
use Rattle.std.proofs.lemmas.Cmp.{nat_list_eq_equiv}
use Rattle.std.proofs.lemmas.List.{length-map, map-append}
use Rattle.std.proofs.lemmas.List.Folds.{list_all-append}
use Rattle.std.proofs.lemmas.Option.{same_Some, slice_get_within, slice_get-map}
use Rattle.ja_base.proofs.Lists.{element_within, map_after}
use Rattle.ja_prim.specs.declared.signature.Signature.{Signature}
use Rattle.ja_device.specs.Devices.{Seen, signature_of}
use Rattle.ja_device.specs.Signatures as device
use Rattle.ja_device.specs.Signatures.{has_kind}
use Rattle.ja_device.specs.declared.fault.DevicesFault.TheVariants as devices
use Rattle.ja_lint_devices.specs.Devices.{kind_words, is_among, is_bar, is_equals, are_distinct, are_kinds, kinds_of, words_in, name_in, all_kinds, signature_in, declared_only, units, IsFirstFault, IsNamed, IsRefused}
use Rattle.ja_lint_devices.specs.code.Reading.{IsRefusedAt}
use Rattle.ja_lint_devices.specs.declared.refused.Refused.{Refused}
use Rattle.ja_lint_devices.specs.declared.refused.Refused.TheVariants.{Kinds as BadKinds, TooMany, BadName, Twice, Memory}
use Rattle.ja_lint_devices.proofs.Words.{front_with, texts_of, text_at}

-- ---- what holds of a list holds of its fronts

neither : (a b : Bool) → (a || b) ≡ false → (a ≡ false) × (b ≡ false)
neither true b none = absurd (false≢true (sym none))
neither false b none = (refl, none)

pub isnt : (a : Bool) → not a ≡ true → a ≡ false
isnt true is = absurd (false≢true is)
isnt false is = refl

pub all_front : {X : Type 0} (p : X → Bool) (xs : List X) (n : ℕ) → list_all p xs ≡ true
    → list_all p (take n xs) ≡ true
all_front p xs zero all = refl
all_front p [] (suc n) all = refl
all_front p (x ∷ xs) (suc n) all =
    let parts = and_parts (p x) (list_all p xs) all in
    (λ j. parts.0 j && all_front p xs n parts.1 j)

any_front : {X : Type 0} (p : X → Bool) (xs : List X) (n : ℕ) → list_any p xs ≡ false
    → list_any p (take n xs) ≡ false
any_front p xs zero none = refl
any_front p [] (suc n) none = refl
any_front p (x ∷ xs) (suc n) none =
    let parts = neither (p x) (list_any p xs) none in
    (λ j. parts.0 j || any_front p xs n parts.1 j)

distinct_front : (words : List (List ℕ)) (n : ℕ) → are_distinct words ≡ true
    → are_distinct (take n words) ≡ true
distinct_front words zero all = refl
distinct_front [] (suc n) all = refl
distinct_front (word ∷ words) (suc n) all =
    let parts = and_parts (not (is_among words word)) (are_distinct words) all in
    let fresh = any_front (bytes_eq word) words n (isnt (is_among words word) parts.0) in
    (λ j. not (fresh j) && distinct_front words n parts.1 j)

pub kinds_front : (words : List (List ℕ)) (n : ℕ) → are_kinds words ≡ true
    → are_kinds (take n words) ≡ true
kinds_front words n are =
    let parts = and_parts (list_all (is_among kind_words) words) (are_distinct words) are in
    (λ j. all_front (is_among kind_words) words n parts.0 j && distinct_front words n parts.1 j)

-- words with a fault aren't those of kinds
no_kinds : (words : List (List ℕ)) (b : Bool) → are_kinds words ≡ b → (n : ℕ)
    → are_kinds (take n words) ≡ false → b ≡ false
no_kinds words true are n isnt = absurd (false≢true (sym isnt ∙ kinds_front words n are))
no_kinds words false are n isnt = refl

-- ---- words of a value

-- there is a word in each value
abbrev IsSome : List (List ℕ) → Type 0
IsSome words = (word : List ℕ) × (others : List (List ℕ)) × (words ≡ word ∷ others)

some_onto : (c : ℕ) (parts : List (List ℕ)) → IsSome (onto_first c parts)
some_onto c [] = (c ∷ [], [], refl)
some_onto c (part ∷ parts) = (c ∷ part, parts, refl)

some_parts : (p : ℕ → Bool) (text : List ℕ) → IsSome (slice_split p text)
some_parts p [] = ([], [], refl)
some_parts p (c ∷ cs) = of (p c)
  where
    of : (b : Bool) → IsSome (cond b ([] ∷ slice_split p cs) (onto_first c (slice_split p cs)))
    of true = ([], slice_split p cs, refl)
    of false = some_onto c (slice_split p cs)

some_words : (value : List ℕ) → IsSome (words_in value)
some_words value = of (list_any is_equals value)
  where
    of : (b : Bool) → IsSome (if b then slice_split is_bar (after_first is_equals value)
        else codes "undefined" ∷ [])
    of true = some_parts is_bar (after_first is_equals value)
    of false = (codes "undefined", [], refl)

-- a word of a kind makes a kind
module _ (word : List ℕ) (words : List (List ℕ)) where
  abbrev has : List ℕ → Bool
  has kind = is_among (word ∷ words) kind

  named : (kind : List ℕ) → bytes_eq word kind ≡ true → has kind ≡ true
  named kind is =
      or_left (bytes_eq kind word) (is_among words kind)
      (nat_list_eq_equiv.symm kind word ∙ is)

  -- with `undefined`, `null`, `boolean`, `number` and `string`, one after another
  abbrev u : Bool
  u = has (codes "undefined")

  abbrev n : Bool
  n = has (codes "null")

  abbrev b : Bool
  b = has (codes "boolean")

  abbrev d : Bool
  d = has (codes "number")

  abbrev t : Bool
  t = has (codes "string")

  from_second : (u || n) ≡ true → has_kind (kinds_of (word ∷ words)) ≡ true
  from_second is =
      or_left (u || n || b || d) t (or_left (u || n || b) d (or_left (u || n) b is))

  from_third : b ≡ true → has_kind (kinds_of (word ∷ words)) ≡ true
  from_third is = or_left (u || n || b || d) t (or_left (u || n || b) d (or_right (u || n) b is))

  from_fourth : d ≡ true → has_kind (kinds_of (word ∷ words)) ≡ true
  from_fourth is = or_left (u || n || b || d) t (or_right (u || n || b) d is)

  from_last : (bytes_eq word (codes "string") || false) ≡ true
      → has_kind (kinds_of (word ∷ words)) ≡ true
  from_last known =
      elim (or_cases (bytes_eq word (codes "string")) false known) [
        | inl is ↦ or_right (u || n || b || d) t (named (codes "string") is)
        | inr none ↦ absurd (false≢true none)
      ]

  kind_there : is_among kind_words word ≡ true → has_kind (kinds_of (word ∷ words)) ≡ true
  kind_there known =
      elim (or_cases (bytes_eq word (codes "undefined")) _ known) [
        | inl is ↦ from_second (or_left u n (named (codes "undefined") is))
        | inr rest ↦ elim (or_cases (bytes_eq word (codes "null")) _ rest) [
          | inl is ↦ from_second (or_right u n (named (codes "null") is))
          | inr rest ↦ elim (or_cases (bytes_eq word (codes "boolean")) _ rest) [
            | inl is ↦ from_third (named (codes "boolean") is)
            | inr rest ↦ elim (or_cases (bytes_eq word (codes "number")) _ rest) [
              | inl is ↦ from_fourth (named (codes "number") is)
              | inr rest ↦ from_last rest
            ]
          ]
        ]
      ]

kinds_there : (words : List (List ℕ)) → IsSome words → are_kinds words ≡ true
    → has_kind (kinds_of words) ≡ true
kinds_there words (word, others, is) are =
    let parts = and_parts (list_all (is_among kind_words) (word ∷ others))
    (are_distinct (word ∷ others)) (sym (ap are_kinds is) ∙ are) in
    let first = and_parts (is_among kind_words word) (list_all (is_among kind_words) others)
    parts.0 in
    ap (λ ws. has_kind (kinds_of ws)) is ∙ kind_there word others first.0

-- ---- values

-- what stands in a list made of another
made_of : {X Y : Type 0} (f : X → Y) (xs : List X) (i : ℕ) (y : Y)
    → slice_get (map f xs) i ≡ Some y → (x : X) × (slice_get xs i ≡ Some x) × (f x ≡ y)
made_of f xs i y at =
    let within : i < length (map f xs) = slice_get_within (map f xs) i y at in
    let there : (x : _) × (slice_get xs i ≡ Some x)
    = element_within xs i (omega (arith, within, length-map xs f)) in (
      there.0,
      there.1,
      same_Some (f there.0) y
          (sym (slice_get-map f xs i ∙ ap (option_map f) there.1) ∙ at),
    )

all_there : {X : Type 0} (p : X → Bool) (xs : List X) (i : ℕ) (x : X) → list_all p xs ≡ true
    → slice_get xs i ≡ Some x → p x ≡ true
all_there p [] i x all at = absurd (false≢true (ap is_some at))
all_there p (y ∷ ys) zero x all at =
    ap p (sym (same_Some y x at)) ∙ (and_parts (p y) (list_all p ys) all).0
all_there p (y ∷ ys) (suc i) x all at =
    all_there p ys i x (and_parts (p y) (list_all p ys) all).1 at

-- no value lacks a kind
pub not_kindless : (values : List (List ℕ)) → all_kinds values ≡ true → (i : ℕ)
    → device.IsRefused (map signature_in values) (devices.NoKinds i) → ⊥
not_kindless values all i (s, first, named, kindless) =
    let there = made_of signature_in values i s first.at in
    let are = all_there (λ v. are_kinds (words_in v)) values i there.0 all there.1 in
    false≢true (sym kindless ∙ ap (λ (t : Signature). has_kind t.kinds) (sym there.2)
    ∙ kinds_there (words_in there.0) (some_words there.0) are)

-- the signatures are those of what is seen
pub signatures_seen : (values : List (List ℕ))
    → map signature_of (map declared_only values) ≡ map signature_in values
signatures_seen values = map_after declared_only signature_of signature_in (λ v. refl) values

-- ---- one value more

module _ (values : List (List ℕ)) (i : ℕ) (value : List ℕ)
    (at : slice_get values i ≡ Some value) (before : all_kinds (take i values) ≡ true) where
  with_next : (b : Bool) → are_kinds (words_in value) ≡ b → all_kinds (take (i + 1) values) ≡ b
  with_next b is =
      ap all_kinds (front_with values i value at)
      ∙ list_all-append (λ v. are_kinds (words_in v)) (take i values) (value ∷ [])
      ∙ (λ j. before j && (is j && true)) ∙ kept b
    where
      kept : (b : Bool) → (b && true) ≡ b
      kept true = refl
      kept false = refl

  pub all_more : are_kinds (words_in value) ≡ true → all_kinds (take (i + 1) values) ≡ true
  all_more are = with_next true are

  -- a value whose words aren't those of kinds is why all are refused
  pub refused_here : (fault : Refused) → IsRefusedAt i value fault → IsRefused values fault
  refused_here (BadKinds index name fault) (is, named, (j, word, first, caused)) = (
    value,
    subst (λ n. IsFirstFault all_kinds values n value) (sym is) record {
      at = at;
      before = before;
      here =
          with_next false (no_kinds (words_in value) (are_kinds (words_in value)) refl (j + 1)
          first.here);
    },
    named,
    (j, word, first, caused),
  )
  refused_here TooMany refused = absurd refused
  refused_here (BadName index name) refused = absurd refused
  refused_here (Twice first second name) refused = absurd refused
  refused_here Memory refused = tt

-- .. and one whose words are adds its device
pub seen_more : (values : List (List ℕ)) (i : ℕ) (value : List ℕ) → slice_get values i ≡ Some value
    → {D : Type 0} (seen : D → Seen) (so_far next : List D) (d : D)
    → map seen so_far ≡ map declared_only (take i values) → next ≡ so_far ++ d ∷ []
    → seen d ≡ declared_only value
    → map seen next ≡ map declared_only (take (i + 1) values)
seen_more values i value at seen so_far next d before is_next is =
    ap (map seen) is_next ∙ map-append seen so_far (d ∷ [])
    ∙ (λ j. before j ++ is j ∷ [])
    ∙ sym (map-append declared_only (take i values) (value ∷ []))
    ∙ ap (map declared_only) (sym (front_with values i value at))

-- ---- values as they are kept

module _ (values : List (Bor (List ℕ))) (i : ℕ) (d : Bor (List ℕ)) (s : Signature)
    (at : slice_get (map signature_in (texts_of values)) i ≡ Some s) where
  within_values : i < length values
  within_values =
      let within : i < length (map signature_in (texts_of values))
      = slice_get_within (map signature_in (texts_of values)) i s at in
      omega (
        arith,
        within,
        length-map (texts_of values) signature_in,
        length-map values (λ (w : Bor (List ℕ)). w.now),
      )

  -- the value there has its name
  pub named_there : (name : List ℕ) → name ≡ units (name_in (get_or values i d).now)
      → IsNamed (texts_of values) i name
  named_there name is = ((get_or values i d).now, text_at values i d within_values, is)
