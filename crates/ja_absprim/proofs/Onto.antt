-- What is given over a list, taken from its end.
use Rattle.std.proofs.Common.{◌≡◌, Bool, ◌||◌, List, [], ◌∷◌, ◌++◌, length, map, Result, refl, sym, ap, ◌∙◌}
use Rattle.std.proofs.lemmas.Result.{IfOk-weaker}
use Rattle.std.specs.Result.{IfOk}
use Rattle.ja_base.proofs.Lists.{empty_by_length}
use Rattle.ja_abstract.specs.AbstractValue.{AbstractValue}
use Rattle.ja_abstract.specs.Primitives.{Abstracted, either, stops_if, over, over_pairs}

abbrev pub abstracted : AbstractValue → Bool → Abstracted
abstracted v b = record { value = v; may_stop = b }

-- what is given over a list, before what is given already
abbrev pub onto : {X : Type 0} → (X → Abstracted) → Abstracted → List X → Abstracted
onto f all [] = all
onto f all (x ∷ xs) = either (f x) (onto f all xs)

onto_last : {X : Type 0} (f : X → Abstracted) (all : Abstracted) (xs : List X) (x : X)
    → onto f all (xs ++ x ∷ []) ≡ onto f (either (f x) all) xs
onto_last f all [] x = refl
onto_last f all (y ∷ ys) x = ap (either (f y)) (onto_last f all ys x)

-- what the last one gives is joined in
pub onto_more : {X : Type 0} (f : X → Abstracted) (all more : Abstracted) (xs rest : List X)
    (x : X) (whole : Abstracted) → xs ≡ rest ++ x ∷ [] → more ≡ either (f x) all
    → onto f all xs ≡ whole → onto f more rest ≡ whole
onto_more f all more xs rest x whole is joined h =
    ap (λ (r : Abstracted). onto f r rest) joined
    ∙ (sym (onto_last f all rest x) ∙ (sym (ap (onto f all) is) ∙ h))

-- none is left
pub onto_end : {X : Type 0} (f : X → Abstracted) (all : Abstracted) (xs : List X)
    (whole : Abstracted) → length xs ≡ 0 → onto f all xs ≡ whole → all ≡ whole
onto_end f all xs whole none h = sym (ap (onto f all) (empty_by_length xs none)) ∙ h

-- ---- over what the elements of a list stand for

over_map : {X Y : Type 0} (h : X → Y) (f : Y → Abstracted) (xs : List X)
    → over (λ x. f (h x)) xs ≡ over f (map h xs)
over_map h f [] = refl
over_map h f (x ∷ xs) = ap (either (f (h x))) (over_map h f xs)

over_pairs_map : {X Y : Type 0} (h : X → Y) (f : Y → Y → Abstracted) (xs ys : List X)
    → over_pairs (λ x y. f (h x) (h y)) xs ys ≡ over_pairs f (map h xs) (map h ys)
over_pairs_map h f [] ys = refl
over_pairs_map h f (x ∷ xs) ys =
    ap (λ (r : Abstracted). either r (over_pairs (λ x y. f (h x) (h y)) xs ys))
    (over_map h (f (h x)) ys) ∙ ap (either (over (f (h x)) (map h ys))) (over_pairs_map h f xs ys)

-- a call over a list, in the words of what it stands for
pub call_over : {X Y T E : Type 0} (call : Result T E) (view : T → Abstracted) (h : X → Y)
    (f : Y → Abstracted) (xs items : List X) (ys : List Y) → xs ≡ items → map h items ≡ ys
    → IfOk call (λ r. view r ≡ over (λ x. f (h x)) xs) → IfOk call (λ r. view r ≡ over f ys)
call_over call view h f xs items ys is stand given =
    IfOk-weaker call (λ r. view r ≡ over (λ x. f (h x)) xs) (λ r. view r ≡ over f ys)
    (λ r e. e ∙ (over_map h f xs ∙ ap (over f) (ap (map h) is ∙ stand))) given

-- two lists, and what they stand for
pub over_pairs_standing : {X Y : Type 0} (h : X → Y) (f : Y → Y → Abstracted)
    (xs items us others : List X) (ys ws : List Y) → xs ≡ items → map h items ≡ ys → us ≡ others
    → map h others ≡ ws → over_pairs (λ x y. f (h x) (h y)) xs us ≡ over_pairs f ys ws
over_pairs_standing h f xs items us others ys ws is stand are stands =
    over_pairs_map h f xs us ∙ (ap (λ (l : List _). over_pairs f l (map h us))
    (ap (map h) is ∙ stand) ∙ ap (over_pairs f ys) (ap (map h) are ∙ stands))

-- a call over two lists
pub call_over_pairs : {X Y T E : Type 0} (call : Result T E) (view : T → Abstracted) (h : X → Y)
    (f : Y → Y → Abstracted) (xs items us others : List X) (ys ws : List Y) → xs ≡ items
    → map h items ≡ ys → us ≡ others → map h others ≡ ws
    → IfOk call (λ r. view r ≡ over_pairs (λ x y. f (h x) (h y)) xs us)
    → IfOk call (λ r. view r ≡ over_pairs f ys ws)
call_over_pairs call view h f xs items us others ys ws is stand are stands given =
    IfOk-weaker call (λ r. view r ≡ over_pairs (λ x y. f (h x) (h y)) xs us)
    (λ r. view r ≡ over_pairs f ys ws)
    (λ r e. e ∙ over_pairs_standing h f xs items us others ys ws is stand are stands) given

-- what is given, or that a conversion stops
pub or_stops : (a b s t : Bool) (r given : Abstracted) → a ≡ s → b ≡ t → r ≡ given
    → abstracted r.value ((a || b) || r.may_stop) ≡ either (stops_if (s || t)) given
or_stops a b s t r given e g h =
    ap (λ (c : Bool). either (stops_if c) r) (ap (λ (c : Bool). c || b) e
    ∙ ap (λ (c : Bool). s || c) g) ∙ ap (either (stops_if (s || t))) h
