-- The names along a chain, without those that the objects before it hide.
use Rattle.std.proofs.Common.{◌≡◌, ℕ, ◌+◌, ◌<◌, length, take, drop, get_or, append_assoc, Bool, true, false, not, List, [], ◌∷◌, ◌++◌, refl, sym, ap, ◌∙◌, inl, inr}
use Rattle.std.specs.Prelude.{filter, is_some, ◌||◌}
use Rattle.std.specs.List.{list_any}
use Rattle.std.proofs.lemmas.Bool.{cases_Bool}
use Rattle.std.proofs.lemmas.List.{take_more, drop_more}
use Rattle.std.proofs.lemmas.List.Elements.{filter-append}
use Rattle.std.proofs.lemmas.List.Folds.{list_any-append}
use Rattle.ja_machine.specs.declared.machine.Addr.{Addr}
use Rattle.ja_machine.specs.declared.machine.Heap.{Heap}
use Rattle.ja_machine.specs.Heap.{own}
use Rattle.ja_machine.specs.Enumeration.{own_names, names_along}

module _ (h : Heap) where
  -- no object of some has an own property of the name
  abbrev pub in_sight : List Addr → List ℕ → Bool
  in_sight nearer name = not (list_any (λ b. is_some (own h b name)) nearer)

  both : (nearer : List Addr) (a : Addr) (xs : List (List ℕ))
      → filter (in_sight nearer) (filter (λ name. not (is_some (own h a name))) xs)
      ≡ filter (in_sight (nearer ++ a ∷ [])) xs
  both nearer a [] = refl
  both nearer a (x ∷ xs) =
      let e = list_any-append (λ (b : Addr). is_some (own h b x)) nearer (a ∷ []) in
      elim (cases_Bool (is_some (own h a x))) [
        | inl t ↦ elim (cases_Bool (list_any (λ b. is_some (own h b x)) nearer))
            [ inl u ↦ simp (t, u, e, both nearer a xs) | inr u ↦ simp (t, u, e, both nearer a xs) ]
        | inr f ↦ elim (cases_Bool (list_any (λ b. is_some (own h b x)) nearer))
            [ inl u ↦ simp (f, u, e, both nearer a xs) | inr u ↦ simp (f, u, e, both nearer a xs) ]
      ]

  -- those of one object, and then those behind it
  pub names_behind : (nearer : List Addr) (a : Addr) (rest : List Addr)
      → filter (in_sight nearer) (names_along h (a ∷ rest))
      ≡ filter (in_sight nearer) (own_names h a)
      ++ filter (in_sight (nearer ++ a ∷ [])) (names_along h rest)
  names_behind nearer a rest =
      filter-append (in_sight nearer) (own_names h a)
      (filter (λ name. not (is_some (own h a name))) (names_along h rest))
      ∙ ap (λ xs. filter (in_sight nearer) (own_names h a) ++ xs)
      (both nearer a (names_along h rest))

  -- nothing hides a name behind no object
  pub all_in_sight : (xs : List (List ℕ)) → filter (in_sight []) xs ≡ xs
  all_in_sight [] = refl
  all_in_sight (x ∷ xs) = ap (λ ys. x ∷ ys) (all_in_sight xs)

  -- .. after each object of a chain those of the next
  pub names_more : (xs : List Addr) (d : ℕ) (x : Addr) (old new all : List (List ℕ)) → d < length xs
      → new ≡ old ++ filter (in_sight (take d xs)) (own_names h (get_or xs d x))
      → old ++ filter (in_sight (take d xs)) (names_along h (drop d xs)) ≡ all
      → new ++ filter (in_sight (take (d + 1) xs)) (names_along h (drop (d + 1) xs)) ≡ all
  names_more xs d x old new all l e known =
      let nearer = take d xs in
      let a = get_or xs d x in
      let rest = drop (d + 1) xs in
      let own = filter (in_sight nearer) (own_names h a) in
      (λ k. e k ++ filter (in_sight (take_more xs d x l k)) (names_along h rest))
      ∙ (append_assoc old own (filter (in_sight (nearer ++ a ∷ [])) (names_along h rest))
      ∙ (ap (λ ys. old ++ ys) (sym (names_behind nearer a rest)
      ∙ ap (λ ys. filter (in_sight nearer) (names_along h ys)) (sym (drop_more xs d x l)))
      ∙ known))

  -- .. and the names that they hide are those of one object more
  pub hidden_more : (xs : List Addr) (d : ℕ) (b : Addr) (name : List ℕ) → d < length xs
      → b ≡ get_or xs d b → (list_any (λ a. is_some (own h a name)) (take d xs)
      || is_some (own h b name)) ≡ list_any (λ a. is_some (own h a name)) (take (d + 1) xs)
  hidden_more xs d b name l e =
      let test : Addr → Bool = λ a. is_some (own h a name) in
      sym (ap (list_any test) (take_more xs d b l)
      ∙ (list_any-append test (take d xs) (get_or xs d b ∷ [])
      ∙ (or_false (list_any test (take d xs)) (test (get_or xs d b))
      ∙ ap (λ a. list_any test (take d xs) || test a) (sym e))))
    where
      or_false : (s t : Bool) → (s || (t || false)) ≡ (s || t)
      or_false true t = refl
      or_false false true = refl
      or_false false false = refl

-- the same names pass tests that agree
pub same_filtered : {X : Type 0} (p q : X → Bool) → ((x : X) → p x ≡ q x) → (xs : List X)
    → filter p xs ≡ filter q xs
same_filtered p q e [] = refl
same_filtered p q e (x ∷ xs) =
    elim (cases_Bool (q x)) [
      | inl t ↦ simp (e x, t, same_filtered p q e xs)
      | inr f ↦ simp (e x, f, same_filtered p q e xs)
    ]
