-- The names that texts are looked up as.
use Rattle.std.specs.Prelude.{◌≡◌, ◌<◌, ◌≤◌, ◌+◌, ℕ, Bool, true, false, cond, nat_eq, nat_lt, length, List, [], Option, Some, None, get_or, IsTrue, slice_get, unwrap_or}
use Rattle.std.specs.List.{position_or_len}
use Rattle.std.specs.Option.{option_map, option_map_or, option_and_then}
use Rattle.std.specs.Cmp.Lexicographic.{pointwise, bytes_decides}
use Rattle.std.specs.HashMap.{HashMap}
use Rattle.std.proofs.Common.{refl, sym, subst, ap, ◌∙◌, arith, inl, inr, length-take}
use Rattle.std.proofs.lemmas.Bool.{lt-ltb, le-ltb, ltb-true, cases_lt, cond-true, both_ways, false_from_ne_true}
use Rattle.std.proofs.lemmas.Option.{unwrap_or-slice_get, slice_get-get_or}
use Rattle.std.proofs.lemmas.List.Sums.{position_or_len_is}
use Rattle.std.proofs.lemmas.List.Quantifiers.{position-Some}
use Rattle.ja_base.specs.declared.ids.NameId.{NameId}
use Rattle.ja_prim.specs.Texts.{same_text}
use Rattle.ja_graph.specs.declared.program.Program.{Program}
use Rattle.ja_graph.specs.declared.builtins.TheConstants.{LENGTH}
use Rattle.ja_graph.specs.WellFormed.{IsWellFormed, builtin_names}
use Rattle.ja_machine.specs.Nodes.{name_text}
use Rattle.ja_abstract.specs.declared.abstraction.Key.{Key}
use Rattle.ja_abstract.specs.declared.abstraction.Key.TheVariants as key
use Rattle.ja_abstract.specs.AbstractState.{name_key, is_key}
use Rattle.ja_abstract.specs.Made.{length_key}
use Rattle.ja_abstract.specs.Keys.{name_of, rest_key, text_key}
use Rattle.ja_abstract.proofs.Keys.{text_of_key}
use Rattle.ja_astate.specs.Keys.{name_id, HasNames, AreApart}
use Rattle.ja_astate.specs.code.Names.{name_if, HasFirst}

-- ---- all names

module _ (p : Program) where
  name_within : (t : List ℕ) (n : ℕ) → name_of p t ≡ Some n → n < length p.names
  name_within t n is = (position-Some (λ name. same_text name t) p.names n [] is).0

  all_by : (o : Option ℕ) → ((n : ℕ) → o ≡ Some n → n < length p.names)
      → option_and_then (name_if (length p.names)) o ≡ option_map name_id o
  all_by None within = refl
  all_by (Some n) within =
      cond-true (nat_lt n (length p.names)) (Some (name_id n)) None
      (lt-ltb n (length p.names) (within n refl))

  -- the first names that are as many as there are are all of them
  pub all_names : {S : Type 0} (names : HashMap (List ℕ) NameId S)
      → HasFirst p (length p.names) names → HasNames p names
  all_names names has t = has t ∙ all_by (name_of p t) (name_within t)

-- ---- one name more

less_same : (m n : ℕ) → (m ≡ n → ⊥) → nat_lt m (n + 1) ≡ nat_lt m n
less_same m n other =
    elim (cases_lt m n) [
      | inl below ↦ lt-ltb m (n + 1) (omega arith) ∙ sym (lt-ltb m n below)
      | inr above ↦ le-ltb m (n + 1) (omega (arith, other)) ∙ sym (le-ltb m n above)
    ]

one_more : (o : Option ℕ) (b : Bool) (n : ℕ) → (b ≡ true → o ≡ Some n)
    → ((m : ℕ) → b ≡ false → o ≡ Some m → m ≡ n → ⊥)
    → option_and_then (name_if (n + 1)) o
    ≡ cond b (Some (name_id n)) (option_and_then (name_if n) o)
one_more o true n here elsewhere =
    ap (option_and_then (name_if (n + 1))) (here refl)
    ∙ cond-true (nat_lt n (n + 1)) (Some (name_id n)) None (lt-ltb n (n + 1) (omega arith))
one_more None false n here elsewhere = refl
one_more (Some m) false n here elsewhere =
    ap (λ b. cond b (Some (name_id m)) None) (less_same m n (elsewhere m refl refl))

-- no name is one of the first zero
pub none_first : (o : Option ℕ) → option_and_then (name_if 0) o ≡ None
none_first None = refl
none_first (Some m) = ap (λ b. cond b (Some (name_id m)) None) (le-ltb m 0 (omega arith))

module _ (p : Program) (apart : AreApart p) where
  same_at : (t : List ℕ) (k : ℕ) → k < length p.names
      → pointwise nat_eq (get_or p.names k []) t ≡ true → slice_get p.names k ≡ Some t
  same_at t k h e =
      slice_get-get_or p.names k [] h ∙ ap Some ((bytes_decides (get_or p.names k []) t).0 e)

  place_of : (t : List ℕ) (n : ℕ) → n < length p.names
      → pointwise nat_eq (get_or p.names n []) t ≡ true
      → position_or_len (λ name. pointwise nat_eq name t) p.names ≡ n
  place_of t n h is =
      position_or_len_is (λ name. pointwise nat_eq name t) p.names n [] (omega arith)
      (λ k below. false_from_ne_true (pointwise nat_eq (get_or p.names k []) t) (λ e.
      let within : k < length p.names = omega arith in
      let places : k ≡ n = apart k n t (same_at t k within e) (same_at t n h is) in
      absurd (omega arith)))
      (λ _. is)

  name_at : (t : List ℕ) (n : ℕ) → n < length p.names
      → pointwise nat_eq (name_text p (name_id n)) t ≡ true → name_of p t ≡ Some n
  name_at t n h is =
      let here : pointwise nat_eq (get_or p.names n []) t ≡ true = subst
      (λ u. pointwise nat_eq u t ≡ true) (unwrap_or-slice_get p.names n []) is in
      subst (λ i. cond (nat_lt i (length p.names)) (Some i) None ≡ Some n)
      (sym (place_of t n h here))
      (cond-true (nat_lt n (length p.names)) (Some n) None (lt-ltb n (length p.names) h))

  -- the key of a name's text is the name's
  pub key_at : (n : ℕ) → n < length p.names → text_key p (name_text p (name_id n)) ≡ name_key n
  key_at n h =
      let t = name_text p (name_id n) in
      ap (λ o. option_map_or name_key o (rest_key t)) (name_at t n h ((bytes_decides t t).1 refl))

  name_elsewhere : (t : List ℕ) (n m : ℕ) → pointwise nat_eq (name_text p (name_id n)) t ≡ false
      → name_of p t ≡ Some m → m ≡ n → ⊥
  name_elsewhere t n m is_not is same =
      let there : name_text p (name_id m)
      ≡ t = text_of_key p t (name_id m) (ap (λ o. option_map_or name_key o (rest_key t)) is) in
      let here : name_text p (name_id n)
      ≡ t = subst (λ i. name_text p (name_id i) ≡ t) same there in
      both_ways (pointwise nat_eq (name_text p (name_id n)) t) is_not
      ((bytes_decides (name_text p (name_id n)) t).1 here)

  -- the first names and the next one are the first ones and one more
  first_more : (t : List ℕ) (n : ℕ) → n < length p.names
      → option_and_then (name_if (n + 1)) (name_of p t)
      ≡ cond (pointwise nat_eq (name_text p (name_id n)) t) (Some (name_id n))
      (option_and_then (name_if n) (name_of p t))
  first_more t n h =
      one_more (name_of p t) (pointwise nat_eq (name_text p (name_id n)) t) n (name_at t n h)
      (λ m. name_elsewhere t n m)

  -- .. where a table has the name too
  pub name_added : (t text : List ℕ) (n : ℕ) (old new : Option NameId) → n < length p.names
      → slice_get p.names n ≡ Some text
      → new ≡ cond (pointwise nat_eq text t) (Some (name_id n)) old
      → old ≡ option_and_then (name_if n) (name_of p t)
      → new ≡ option_and_then (name_if (n + 1)) (name_of p t)
  name_added t text n old new h is new_is old_is =
      let name : text ≡ name_text p (name_id n) = sym (ap (λ o. unwrap_or o []) is) in
      new_is ∙ ap (λ o. cond (pointwise nat_eq text t) (Some (name_id n)) o) old_is
      ∙ ap (λ u. cond (pointwise nat_eq u t) (Some (name_id n))
      (option_and_then (name_if n) (name_of p t))) name
      ∙ sym (first_more t n h)

module _ (p : Program) (good : IsWellFormed p) where
  -- `length` is one of the names
  many_names : length builtin_names ≤ length p.names
  many_names =
      omega (arith, ap length good.names, length-take (length builtin_names) p.names)

  pub has_length : IsTrue (is_key p length_key)
  has_length =
      lt-ltb LENGTH.0 (length p.names)
      (omega (arith, many_names, ltb-true LENGTH.0 (length builtin_names) refl))

-- ---- what a look-up gives

pub key_of_some : (o : Option ℕ) (n : NameId) (rest : Key) → option_map name_id o ≡ Some n
    → key.Name n ≡ option_map_or name_key o rest
key_of_some None n rest is = cc
key_of_some (Some m) n rest is = cc

pub key_of_none : (o : Option ℕ) (rest : Key) → option_map name_id o ≡ None
    → rest ≡ option_map_or name_key o rest
key_of_none None rest is = refl
key_of_none (Some m) rest is = cc
