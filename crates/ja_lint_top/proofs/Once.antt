-- Names that are taken where they stand first, one by one.
use Rattle.std.proofs.Common.{◌≡◌, ◌<◌, ◌≤◌, ◌+◌, ℕ, Bor, true, false, List, [], ◌∷◌, ◌++◌}
use Rattle.std.proofs.Common.{drop, get_or, length, map, refl, sym, ◌∙◌, ap, append-nil, append_assoc}
use Rattle.std.proofs.lemmas.Bool.{cond-false, cond-true}
use Rattle.std.proofs.lemmas.List.{drop_all, drop_more, map-append}
use Rattle.ja_lint_devices.specs.Devices.{is_among}
use Rattle.ja_lint_top.specs.Refusals.{unseen}

abbrev pub texts_of : List (Bor (List ℕ)) → List (List ℕ)
texts_of names = map (λ name. name.now) names

-- those that are kept, and those that are still to keep of the names from a number on
abbrev pub whole_of : List (Bor (List ℕ)) → List (Bor (List ℕ)) → ℕ → List (List ℕ)
whole_of kept names i = texts_of kept ++ unseen (texts_of kept) (texts_of (drop i names))

again : (seen : List (List ℕ)) (name : List ℕ) (names : List (List ℕ))
    → is_among seen name ≡ true → unseen seen (name ∷ names) ≡ unseen seen names
unfolding unseen
again seen name names is = cond-true (is_among seen name) (unseen seen names) _ is

first : (seen : List (List ℕ)) (name : List ℕ) (names : List (List ℕ))
    → is_among seen name ≡ false
    → unseen seen (name ∷ names) ≡ name ∷ unseen (seen ++ name ∷ []) names
unfolding unseen
first seen name names is =
    cond-false (is_among seen name) _ (name ∷ unseen (seen ++ name ∷ []) names) is

none_left : (seen : List (List ℕ)) → unseen seen [] ≡ []
unfolding unseen
none_left seen = refl

-- those that are still to keep from a name on
to_keep : (seen : List (List ℕ)) (names : List (Bor (List ℕ))) (i : ℕ) (d : Bor (List ℕ))
    → i < length names
    → unseen seen (texts_of (drop i names))
    ≡ unseen seen ((get_or names i d).now ∷ texts_of (drop (i + 1) names))
to_keep seen names i d within =
    ap (λ (ns : List (Bor (List ℕ))). unseen seen (texts_of ns)) (drop_more names i d within)

-- a name that is kept already is passed over
pub passed : (kept names : List (Bor (List ℕ))) (i : ℕ) (d : Bor (List ℕ))
    (whole : List (List ℕ)) → i < length names
    → is_among (texts_of kept) (get_or names i d).now ≡ true
    → whole_of kept names i ≡ whole → whole_of kept names (i + 1) ≡ whole
passed kept names i d whole within among so_far =
    let seen : List (List ℕ) = texts_of kept in
    ap (λ (l : List (List ℕ)). seen ++ l)
    (sym (to_keep seen names i d within
    ∙ again seen (get_or names i d).now (texts_of (drop (i + 1) names)) among))
    ∙ so_far

-- any other one is kept
pub taken : (kept names : List (Bor (List ℕ))) (i : ℕ) (d : Bor (List ℕ))
    (whole : List (List ℕ)) → i < length names
    → is_among (texts_of kept) (get_or names i d).now ≡ false
    → whole_of kept names i ≡ whole
    → whole_of (kept ++ get_or names i d ∷ []) names (i + 1) ≡ whole
taken kept names i d whole within among so_far =
    let x : Bor (List ℕ) = get_or names i d in
    let seen : List (List ℕ) = texts_of kept in
    let rest : List (List ℕ) = texts_of (drop (i + 1) names) in
    ap (λ (s : List (List ℕ)). s ++ unseen s rest)
    (map-append (λ (n : Bor (List ℕ)). n.now) kept (x ∷ []))
    ∙ append_assoc seen (x.now ∷ []) (unseen (seen ++ x.now ∷ []) rest)
    ∙ ap (λ (l : List (List ℕ)). seen ++ l)
    (sym (to_keep seen names i d within ∙ first seen x.now rest among))
    ∙ so_far

-- when none is left, those that are kept are the whole
pub all_taken : (kept names : List (Bor (List ℕ))) (i : ℕ) (whole : List (List ℕ))
    → length names ≤ i → whole_of kept names i ≡ whole → texts_of kept ≡ whole
all_taken kept names i whole past is =
    sym (append-nil (texts_of kept))
    ∙ ap (λ (l : List (List ℕ)). texts_of kept ++ l)
    (sym (ap (λ (ns : List (Bor (List ℕ))). unseen (texts_of kept) (texts_of ns))
    (drop_all i names past) ∙ none_left (texts_of kept)))
    ∙ is
