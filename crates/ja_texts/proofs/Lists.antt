-- What a loop over a list has added at the end of another.
use Rattle.std.proofs.Common.{◌≡◌, ℕ, ◌+◌, ◌<◌, ◌≤◌, List, [], ◌∷◌, ◌++◌, take, length, get_or, ap, sym, ◌∙◌, append-nil}
use Rattle.std.specs.List.{flat_map}
use Rattle.std.proofs.lemmas.List.{take_more, take_all, flat_map_more}

-- nothing was added before the first step
pub added_none : {X A : Type 0} (f : X → List A) (base : List A) (xs : List X)
    → base ≡ base ++ flat_map f (take 0 xs)
added_none f base xs = sym (append-nil base)

-- one step more
pub added_more : {X A : Type 0} (f : X → List A) (base now next : List A) (xs : List X) (i : ℕ)
    (x : X) → now ≡ base ++ flat_map f (take i xs) → i < length xs → x ≡ get_or xs i x
    → next ≡ now ++ f x → next ≡ base ++ flat_map f (take (i + 1) xs)
added_more f base now next xs i x was inside read step =
    step ∙ ap (λ (l : List _). l ++ f x) was ∙ flat_map_more f base (take i xs) x
    ∙ ap (λ (l : List _). base ++ flat_map f l)
    (ap (λ (y : _). take i xs ++ y ∷ []) read ∙ sym (take_more xs i x inside))

-- all steps
pub added_all : {X A : Type 0} (f : X → List A) (base now : List A) (xs : List X) (i : ℕ)
    → now ≡ base ++ flat_map f (take i xs) → length xs ≤ i → now ≡ base ++ flat_map f xs
added_all f base now xs i was past =
    was ∙ ap (λ (l : List _). base ++ flat_map f l) (take_all i xs past)
