-- The longest mark is one of the marks, which are short, and none that stands there is longer.
use Rattle.std.proofs.Common.{◌≡◌, ◌≢◌, ◌≤◌, ◌<◌, ◌⊎◌, inl, inr, ℕ, zero, suc, ◌+◌, Bool, true, ◌&&◌, nat_le, List, [], ◌∷◌, ◌++◌, length, slice_index_or, arith, refl, sym, ap, ◌∙◌, subst}
use Rattle.std.specs.List.{list_all, Contains}
use Rattle.std.proofs.lemmas.Bool.Decides.{nat_tests}
use Rattle.ja_prim.specs.Texts.{max_units}
use Rattle.ja_lex.specs.declared.element.Element.TheVariants as element
use Rattle.ja_lex.specs.declared.token.TokenFault.{TokenFault}
use Rattle.ja_lex.specs.declared.token.TokenKind.TheVariants as kind
use Rattle.ja_lex.specs.Laws.{IsLongestMark}
use Rattle.ja_lex.specs.Marks.{begins_with, longer, longest, marks, mark_or, mark, bad}

-- ---- short marks

abbrev is_short : List ℕ → Bool
is_short m = nat_le (length m) max_units && nat_le 1 (length m)

longer_short : (best m cs : List ℕ) → length best ≤ max_units → is_short m ≡ true
    → length (longer best m cs) ≤ max_units
longer_short best m cs h k = grind (arith, nat_tests)

longest_short : (best : List ℕ) (ms : List (List ℕ)) (cs : List ℕ) → length best ≤ max_units
    → list_all is_short ms ≡ true → length (longest best ms cs) ≤ max_units
longest_short best [] cs h k = h
longest_short best (m ∷ ms) cs h k =
    let f : is_short m ≡ true = grind (arith, nat_tests) in
    let g : list_all is_short ms ≡ true = grind (arith, nat_tests) in
    longest_short (longer best m cs) ms cs (longer_short best m cs h f) g

marks_short : list_all is_short marks ≡ true
unfolding marks
marks_short = refl

pub short : (cs : List ℕ) → length (longest [] marks cs) ≤ max_units
short cs = longest_short [] marks cs (omega arith) marks_short

-- ---- elements

here : (x : List ℕ) (xs : List (List ℕ)) → Contains (x ∷ xs) x
here x xs = (0, omega arith, refl)

there : (y x : List ℕ) (xs : List (List ℕ)) → Contains xs x → Contains (y ∷ xs) x
there y x xs h = let lt = h.1 in (suc h.0, omega arith, h.2)

first_or_later : (y x : List ℕ) (xs : List (List ℕ)) → Contains (y ∷ xs) x → (y ≡ x) ⊎ Contains xs x
first_or_later y x xs h = at h.0 h.1 h.2
  where
    at : (k : ℕ) → k < length (y ∷ xs) → slice_index_or (y ∷ xs) k x ≡ x → (y ≡ x) ⊎ Contains xs x
    at zero lt e = inl e
    at (suc k) lt e = inr (k, omega arith, e)

one_not_empty : (m : List ℕ) → is_short m ≡ true → 1 ≤ length m
one_not_empty m h = grind (arith, nat_tests)

not_empty : (ms : List (List ℕ)) (m : List ℕ) → list_all is_short ms ≡ true → Contains ms m
    → 1 ≤ length m
not_empty [] m k h = let lt = h.1 in absurd (omega arith)
not_empty (x ∷ xs) m k h =
    let f : is_short x ≡ true = grind (arith, nat_tests) in
    let g : list_all is_short xs ≡ true = grind (arith, nat_tests) in
    at (first_or_later x m xs h) (one_not_empty x f) (not_empty xs m g)
  where
    at : (x ≡ m) ⊎ Contains xs m → 1 ≤ length x → (Contains xs m → 1 ≤ length m) → 1 ≤ length m
    at (inl e) s g = subst (λ (t : List ℕ). 1 ≤ length t) e s
    at (inr later) s g = g later

-- ---- beginnings

split : (m cs : List ℕ) → begins_with m cs ≡ true → (rest : List ℕ) × (cs ≡ m ++ rest)
unfolding begins_with
split [] cs h = (cs, refl)
split (m ∷ ms) [] h = absurd (grind (arith, nat_tests))
split (m ∷ ms) (c ∷ cs) h =
    let e : m ≡ c = grind (arith, nat_tests) in
    let g : begins_with ms cs ≡ true = grind (arith, nat_tests) in
    let r = split ms cs g in
    (r.0, ap (λ t. c ∷ t) r.1 ∙ ap (λ d. d ∷ (ms ++ r.0)) (sym e))

begins : (m rest : List ℕ) → begins_with m (m ++ rest) ≡ true
unfolding begins_with
begins [] rest = refl
begins (m ∷ ms) rest = let e : begins_with ms (ms ++ rest) ≡ true = begins ms rest in
    grind (arith, nat_tests)

-- ---- the longest one

abbrev IsFound : List ℕ → List (List ℕ) → List ℕ → List ℕ → Type 0
IsFound best ms cs w = (w ≡ best) ⊎ (Contains ms w × (begins_with w cs ≡ true))

longer_found : (best m cs : List ℕ) → (longer best m cs ≡ best)
    ⊎ ((longer best m cs ≡ m) × (begins_with m cs ≡ true))
longer_found best m cs = grind (arith, nat_tests)

found : (best : List ℕ) (ms : List (List ℕ)) (cs : List ℕ) → IsFound best ms cs (longest best ms cs)
found best [] cs = inl refl
found best (m ∷ ms) cs = at (found (longer best m cs) ms cs) (longer_found best m cs)
  where
    at : IsFound (longer best m cs) ms cs (longest (longer best m cs) ms cs)
        → (longer best m cs ≡ best) ⊎ ((longer best m cs ≡ m) × (begins_with m cs ≡ true))
        → IsFound best (m ∷ ms) cs (longest (longer best m cs) ms cs)
    at (inr h) _ = inr (there m _ ms h.0, h.1)
    at (inl e) (inl f) = inl (e ∙ f)
    at (inl e) (inr f) =
        inr (subst (λ w. Contains (m ∷ ms) w × (begins_with w cs ≡ true)) (sym (e ∙ f.0))
        (here m ms, f.1))

longer_grows : (best m cs : List ℕ) → length best ≤ length (longer best m cs)
longer_grows best m cs = grind (arith, nat_tests)

longer_of : (best m cs : List ℕ) → begins_with m cs ≡ true → length m ≤ length (longer best m cs)
longer_of best m cs h = grind (arith, nat_tests)

longest_grows : (best : List ℕ) (ms : List (List ℕ)) (cs : List ℕ)
    → length best ≤ length (longest best ms cs)
longest_grows best [] cs = omega arith
longest_grows best (m ∷ ms) cs =
    let e : length (longer best m cs) ≤ length (longest (longer best m cs) ms cs) = longest_grows
    (longer best m cs) ms cs in
    let f : length best ≤ length (longer best m cs) = longer_grows best m cs in
    omega (e, f, arith)

none_longer : (best : List ℕ) (ms : List (List ℕ)) (cs m : List ℕ) → Contains ms m
    → begins_with m cs ≡ true → length m ≤ length (longest best ms cs)
none_longer best [] cs m h b = let lt = h.1 in absurd (omega arith)
none_longer best (x ∷ xs) cs m h b =
    at (first_or_later x m xs h) (λ later. none_longer (longer best x cs) xs cs m later b)
  where
    at : (x ≡ m) ⊎ Contains xs m → (Contains xs m
        → length m ≤ length (longest (longer best x cs) xs cs))
        → length m ≤ length (longest (longer best x cs) xs cs)
    at (inl e) _ =
        let f : length (longer best x cs) ≤ length
        (longest (longer best x cs) xs cs) = longest_grows (longer best x cs) xs cs in
        let g : length x ≤ length (longer best x cs) = longer_of best x cs
        (ap (λ t. begins_with t cs) e ∙ b) in
        subst (λ (t : List ℕ). length t ≤ length (longest (longer best x cs) xs cs)) e
        (omega (f, g, arith))
    at (inr later) k = k later

-- ---- the element

mark_of : (fault : TokenFault) (w m : List ℕ) (n : ℕ)
    → mark_or (bad fault) w ≡ element.Token (kind.Mark m) n
    → (1 ≤ length w) × (w ≡ m) × (n ≡ length w)
mark_of fault [] m n h = absurd (cc)
mark_of fault (x ∷ xs) m n h = let e : x ∷ xs ≡ m = cc in let f : n ≡ length (x ∷ xs) = cc in
    (omega arith, e, f)

none_of : (fault other : TokenFault) (w : List ℕ) → mark_or (bad fault) w ≡ bad other → w ≡ []
none_of fault other [] h = refl
none_of fault other (x ∷ xs) h = absurd (cc)

pub mark_taken : (text m : List ℕ) (n : ℕ) → mark text ≡ element.Token (kind.Mark m) n
    → IsLongestMark text m × (n ≡ length m)
unfolding mark
mark_taken text m n h = at (found [] marks text)
  where
    w : List ℕ
    w = longest [] marks text

    is : (1 ≤ length w) × (w ≡ m) × (n ≡ length w)
    is = mark_of _ w m n h

    longest_one : Contains marks w × (begins_with w text ≡ true) → IsLongestMark text w
    longest_one f = let r = split w text f.1 in record {
      among = f.0;
      rest = r.0;
      begins = r.1;
      longest =
          λ other behind among e. none_longer [] marks text other among
          (ap (begins_with other) e ∙ begins other behind);
    }

    at : IsFound [] marks text w → IsLongestMark text m × (n ≡ length m)
    at (inl e) = let one = is.0 in absurd (omega (arith, ap length e))
    at (inr f) = (subst (IsLongestMark text) is.1 (longest_one f), is.2 ∙ ap length is.1)

pub mark_none : (text m rest : List ℕ) (fault : TokenFault) → mark text ≡ bad fault
    → Contains marks m → text ≢ m ++ rest
unfolding mark
mark_none text m rest fault h among e =
    let none : longest [] marks text ≡ [] = none_of _ fault _ h in
    let one : 1 ≤ length m = not_empty marks m marks_short among in
    let most : length m ≤ length (longest [] marks text) = none_longer [] marks text m among
    (ap (begins_with m) e ∙ begins m rest) in
    let zero_long : length (longest [] marks text) ≡ 0 = ap length none in
    omega (arith, one, most, zero_long)
