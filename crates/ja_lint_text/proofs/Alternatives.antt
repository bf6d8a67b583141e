-- Words that are listed one by one, and the first of them.
use Rattle.std.specs.Prelude.{◌≡◌, ◌<◌, ◌≤◌, ◌+◌, ◌-◌, ℕ, zero, suc, List, [], ◌∷◌, ◌++◌, drop, get_or, length, map, take}
use Rattle.std.proofs.Common.{refl, sym, ◌∙◌, ap, append-nil, append_assoc, arith}
use Rattle.std.proofs.lemmas.List.{drop_all, drop_more, length-drop, map-append, take_all, take_more}
use Rattle.ja_lint_text.specs.Values.{alternatives, between, listed, most_told, others}
use Rattle.ja_lint_text.specs.code.Lists.{alternatives_of}

-- ---- a word more is listed

listed_first : (x : List ℕ) (xs : List (List ℕ))
    → listed (x ∷ xs) ≡ x ++ between (length xs) ++ listed xs
unfolding listed
listed_first x xs = refl

listed_none : listed [] ≡ []
unfolding listed
listed_none = refl

-- what is listed of the words from a number on, and behind it that of the rest, is the whole
pub listed_more : (whole before mid after : List ℕ) (words : List (List ℕ)) (i : ℕ) (x : List ℕ)
    → i < length words → x ≡ get_or words i x → before ++ listed (drop i words) ≡ whole
    → mid ≡ before ++ x → after ≡ mid ++ between (length words - i - 1)
    → after ++ listed (drop (i + 1) words) ≡ whole
listed_more whole before mid after words i x within is so_far put separated =
    let rest : List (List ℕ) = drop (i + 1) words in
    let count : length rest ≡ length words - i - 1 =
    length-drop (i + 1) words ∙ omega arith in
    let front : listed (drop i words) ≡ x ++ between (length words - i - 1) ++ listed rest =
    ap listed (drop_more words i x within ∙ ap (λ (y : List ℕ). y ∷ rest) (sym is))
    ∙ listed_first x rest ∙ ap (λ n. x ++ between n ++ listed rest) count in
    ap (λ (l : List ℕ). l ++ listed rest)
    (separated ∙ ap (λ (l : List ℕ). l ++ between (length words - i - 1)) put)
    ∙ append_assoc (before ++ x) (between (length words - i - 1)) (listed rest)
    ∙ append_assoc before x (between (length words - i - 1) ++ listed rest)
    ∙ ap (λ (l : List ℕ). before ++ l)
    (sym (append_assoc x (between (length words - i - 1)) (listed rest)) ∙ sym front)
    ∙ so_far

-- .. and when none is left
pub listed_all : (whole text : List ℕ) (words : List (List ℕ)) (i : ℕ) → length words ≤ i
    → text ++ listed (drop i words) ≡ whole → text ≡ whole
listed_all whole text words i past is =
    sym (append-nil text)
    ∙ ap (λ (l : List ℕ). text ++ l) (sym (ap listed (drop_all i words past) ∙ listed_none)) ∙ is

-- ---- the first of some lists

pub take_front : {X : Type 0} (n m : ℕ) (a b c : List X) → n ≤ m
    → take n (a ++ take m b ++ c) ≡ take n (a ++ b ++ c)
take_front zero m a b c up_to = refl
take_front (suc n) m (x ∷ a) b c up_to =
    ap (λ l. x ∷ l) (take_front n m a b c (omega (arith, up_to)))
take_front (suc n) zero [] b c up_to = absurd (omega (arith, up_to))
take_front (suc n) (suc m) [] [] c up_to = refl
take_front (suc n) (suc m) [] (x ∷ b) c up_to =
    ap (λ l. x ∷ l) (take_front n m [] b c (omega (arith, up_to)))

-- alternatives are told by the first of the words
pub alternatives_first : (count : ℕ) (xs ys : List (List ℕ)) → count ≡ length ys
    → take most_told xs ≡ take most_told ys → alternatives_of count xs ≡ alternatives ys
unfolding alternatives
alternatives_first count [] [] count_is same = refl
alternatives_first count [] (y ∷ ys) count_is same = absurd (cc)
alternatives_first count (x ∷ xs) [] count_is same = absurd (cc)
alternatives_first count (x ∷ xs) (y ∷ ys) count_is same =
    λ i. listed (same i ++ others (count_is i - most_told))

-- ---- words of some sites, one by one

pub mapped_none : {X A : Type 0} (f : X → A) (base : List A) (xs : List X)
    → base ≡ base ++ map f (take 0 xs)
mapped_none f base xs = sym (append-nil base)

pub mapped_more : {X A : Type 0} (f : X → A) (base now next : List A) (xs : List X) (i : ℕ)
    (x : X) → now ≡ base ++ map f (take i xs) → i < length xs → x ≡ get_or xs i x
    → next ≡ now ++ f x ∷ [] → next ≡ base ++ map f (take (i + 1) xs)
mapped_more f base now next xs i x was within read step =
    step ∙ ap (λ (l : List _). l ++ f x ∷ []) was
    ∙ append_assoc base (map f (take i xs)) (f x ∷ [])
    ∙ ap (λ (l : List _). base ++ l) (sym (map-append f (take i xs) (x ∷ [])))
    ∙ ap (λ (l : List _). base ++ map f l)
    (ap (λ (y : _). take i xs ++ y ∷ []) read ∙ sym (take_more xs i x within))

pub mapped_all : {X A : Type 0} (f : X → A) (base now : List A) (xs : List X) (i : ℕ)
    → now ≡ base ++ map f (take i xs) → length xs ≤ i → now ≡ base ++ map f xs
mapped_all f base now xs i was past =
    was ∙ ap (λ (l : List _). base ++ map f l) (take_all i xs past)
