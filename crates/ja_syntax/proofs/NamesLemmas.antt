-- Names, each once: where one is found, and what one more does.
use Rattle.std.proofs.Common.{◌≡◌, ℕ, ◌+◌, Bool, true, false, cond, nat_lt, not, ◌||◌, if◌then◌else◌, List, [], ◌∷◌, ◌++◌, length, map, Bor, Some, None, refl, sym, ap, ◌∙◌, append_assoc, append-nil, arith}
use Rattle.std.specs.List.{filter, flat_map, fold, list_any, position, position_or_len}
use Rattle.std.specs.Str.{bytes_eq}
use Rattle.std.specs.Cmp.Lexicographic.{bytes_decides, nat_list_eq_equiv}
use Rattle.std.proofs.lemmas.Bool.{ltb-false}
use Rattle.std.proofs.lemmas.List.{map_push}
use Rattle.std.proofs.lemmas.List.Sums.{prefix_len-le-length}
use Rattle.indexmap.specs.IndexSet.{insert_key}
use Rattle.ja_syntax.specs.Hoisted.{hoisted_variables, once, variables_of}
use Rattle.ja_syntax.specs.code.Hoisted.{with_name}
use Rattle.ja_syntax.specs.declared.tree.Statement.{Statement}

abbrev Texts : Type 0
Texts = List (Bor (List ℕ))

-- the texts that references lead to
abbrev pub nows : Texts → List (List ℕ)
nows ts = map (λ t. t.now) ts

any_now : (t : List ℕ) (ks : Texts) → list_any (λ k. bytes_eq t k.now) ks
    ≡ list_any (bytes_eq t) (nows ks)
any_now t [] = refl
any_now t (k ∷ ks) = ap (λ b. bytes_eq t k.now || b) (any_now t ks)

pub position_now : (t : List ℕ) (ks : Texts)
    → position_or_len (λ k. bytes_eq t k.now) ks ≡ position_or_len (bytes_eq t) (nows ks)
position_now t [] = refl
position_now t (k ∷ ks) = ap (λ n. cond (not (bytes_eq t k.now)) (1 + n) 0) (position_now t ks)

module _ {X : Type 0} (p : X → Bool) (xs : List X) where
  -- a place that is found is the first one, and where none is found that is the length
  pub found_at : (i : ℕ) → Some i ≡ position p xs → i ≡ position_or_len p xs
  found_at i is = at (nat_lt (position_or_len p xs) (length xs)) is
    where
      at : (b : Bool) → Some i ≡ cond b (Some (position_or_len p xs)) None
          → i ≡ position_or_len p xs
      at true e = cc
      at false e = absurd (cc)

  pub found_nowhere : None ≡ position p xs → length xs ≡ position_or_len p xs
  found_nowhere is = at (nat_lt (position_or_len p xs) (length xs)) refl is
    where
      at : (b : Bool) → nat_lt (position_or_len p xs) (length xs) ≡ b
          → None ≡ cond b (Some (position_or_len p xs)) None → length xs ≡ position_or_len p xs
      at true low e = absurd (cc)
      at false low e =
          omega (
            arith,
            ltb-false (position_or_len p xs) (length xs) low,
            prefix_len-le-length (λ x. not (p x)) xs,
          )

-- a text that is put into the set is a name that is added
pub inserted_now : (ks : Texts) (k : Bor (List ℕ))
    → nows (insert_key (λ a b. bytes_eq a.now b.now) ks k) ≡ with_name (nows ks) k.now
inserted_now ks k = either (list_any (λ t. bytes_eq k.now t.now) ks) (any_now k.now ks)
  where
    either : (b : Bool) → b ≡ list_any (bytes_eq k.now) (nows ks)
        → nows (if b then ks else ks ++ k ∷ []) ≡ with_name (nows ks) k.now
    either true is = rw (← is) refl
    either false is = rw (← is) (map_push (λ t. t.now) ks k)

-- a text is among those that aren't another where it is among all
any-filter : (t x : List ℕ) (ys : List (List ℕ)) → bytes_eq x t ≡ false
    → list_any (bytes_eq t) (filter (λ u. not (bytes_eq x u)) ys) ≡ list_any (bytes_eq t) ys
any-filter t x [] differs = refl
any-filter t x (y ∷ ys) differs = at (bytes_eq x y) refl (any-filter t x ys differs)
  where
    at : (b : Bool) → bytes_eq x y ≡ b → list_any (bytes_eq t) (filter (λ u. not (bytes_eq x u)) ys)
        ≡ list_any (bytes_eq t) ys → list_any (bytes_eq t)
        (cond (not (bytes_eq x y)) (y ∷ filter (λ u. not (bytes_eq x u)) ys)
        (filter (λ u. not (bytes_eq x u)) ys)) ≡ (bytes_eq t y || list_any (bytes_eq t) ys)
    at true e rest =
        let same : x ≡ y = (bytes_decides x y).0 e in
        let apart : bytes_eq t y ≡ false = ap (bytes_eq t) (sym same) ∙ nat_list_eq_equiv.symm t x
        ∙ differs in
        rw (e, apart) rest
    at false e rest = rw e (ap (λ b. bytes_eq t y || b) rest)

-- a filter of a list with one more element
filter-push-kept : {X : Type 0} (p : X → Bool) (xs : List X) (x : X) → p x ≡ true
    → filter p (xs ++ x ∷ []) ≡ filter p xs ++ x ∷ []
filter-push-kept p [] x kept = rw kept refl
filter-push-kept p (y ∷ ys) x kept = at (p y) (filter-push-kept p ys x kept)
  where
    at : (b : Bool) → filter p (ys ++ x ∷ []) ≡ filter p ys ++ x ∷ []
        → cond b (y ∷ filter p (ys ++ x ∷ [])) (filter p (ys ++ x ∷ []))
        ≡ cond b (y ∷ filter p ys) (filter p ys) ++ x ∷ []
    at true rest = ap (λ zs. y ∷ zs) rest
    at false rest = rest

filter-push-dropped : {X : Type 0} (p : X → Bool) (xs : List X) (x : X) → p x ≡ false
    → filter p (xs ++ x ∷ []) ≡ filter p xs
filter-push-dropped p [] x dropped = rw dropped refl
filter-push-dropped p (y ∷ ys) x dropped =
    ap (λ zs. cond (p y) (y ∷ zs) zs) (filter-push-dropped p ys x dropped)

-- what is left of the texts without x, and t behind them where it is new
filter-with_name : (x t : List ℕ) (ys : List (List ℕ))
    → x ∷ filter (λ u. not (bytes_eq x u)) (with_name ys t)
    ≡ with_name (x ∷ filter (λ u. not (bytes_eq x u)) ys) t
filter-with_name x t ys = at (bytes_eq x t) refl (list_any (bytes_eq t) ys) refl
  where
    at : (b : Bool) → bytes_eq x t ≡ b → (a : Bool) → list_any (bytes_eq t) ys ≡ a
        → x ∷ filter (λ u. not (bytes_eq x u)) (with_name ys t)
        ≡ with_name (x ∷ filter (λ u. not (bytes_eq x u)) ys) t
    at true e true known =
        let here : bytes_eq t x ≡ true = nat_list_eq_equiv.symm t x ∙ e in
        rw (known, here) refl
    at true e false fresh =
        let here : bytes_eq t x ≡ true = nat_list_eq_equiv.symm t x ∙ e in
        let dropped : not (bytes_eq x t) ≡ false = ap not e in
        rw (fresh, here) (ap (λ zs. x ∷ zs) (filter-push-dropped (λ u. not (bytes_eq x u)) ys t
        dropped))
    at false e true known =
        let apart : bytes_eq t x ≡ false = nat_list_eq_equiv.symm t x ∙ e in
        let kept : list_any (bytes_eq t) (filter (λ u. not (bytes_eq x u)) ys)
        ≡ true = any-filter t x ys e ∙ known in
        rw (known, apart, kept) refl
    at false e false fresh =
        let apart : bytes_eq t x ≡ false = nat_list_eq_equiv.symm t x ∙ e in
        let still : list_any (bytes_eq t) (filter (λ u. not (bytes_eq x u)) ys)
        ≡ false = any-filter t x ys e ∙ fresh in
        let kept : not (bytes_eq x t) ≡ true = ap not e in
        rw (fresh, apart, still) (ap (λ zs. x ∷ zs)
        (filter-push-kept (λ u. not (bytes_eq x u)) ys t kept))

once-push : (ts : List (List ℕ)) (t : List ℕ) → once (ts ++ t ∷ []) ≡ with_name (once ts) t
unfolding once
once-push [] t = refl
once-push (x ∷ ts) t =
    ap (λ ys. x ∷ filter (λ u. not (bytes_eq x u)) ys) (once-push ts t)
    ∙ filter-with_name x t (once ts)

-- the texts one after another, each added where it is new, are each text once
pub fold-with_name : (ts us : List (List ℕ)) → fold with_name (once ts) us ≡ once (ts ++ us)
fold-with_name ts [] = ap once (sym (append-nil ts))
fold-with_name ts (u ∷ us) =
    ap (λ names. fold with_name names us) (sym (once-push ts u)) ∙ fold-with_name (ts ++ u ∷ []) us
    ∙ ap once (append_assoc ts (u ∷ []) us)

-- the variables of statements, each added where it is new
pub hoisted_once : (ss : List Statement)
    → fold with_name [] (flat_map variables_of ss) ≡ hoisted_variables ss
unfolding once hoisted_variables
hoisted_once ss = fold-with_name [] (flat_map variables_of ss)
