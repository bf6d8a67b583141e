-- Lines added one after another.
use Rattle.std.proofs.Common.{◌≡◌, ℕ, ◌+◌, ◌<◌, ◌≤◌, List, [], ◌∷◌, ◌++◌, take, length, get_or, subst, ap, sym, ◌∙◌, append-nil, append_assoc, arith}
use Rattle.std.specs.List.{flat_map, range_with_len}
use Rattle.std.proofs.lemmas.List.{take_more, take_all, map-id}
use Rattle.std.proofs.lemmas.List.FromFn.{map-range_with_len_more}
use Rattle.std.proofs.lemmas.List.Concat.{flat_map-append}
use Rattle.ja_graph.specs.declared.program.Program.{Program}
use Rattle.ja_report.specs.declared.output.Output.{Output}
use Rattle.ja_report.specs.Lines.{Line, line_text, line_sites}
use Rattle.ja_report.specs.code.Output.{Adds}

pub adds_none : (p : Program) (a : Output) → Adds p [] a a
adds_none p a =
    record { text = sym (append-nil a.text.items); named = sym (append-nil a.named.items) }

pub adds_one : (p : Program) (x : Line) (a b : Output)
    → b.text.items ≡ a.text.items ++ line_text p x → b.named.items ≡ a.named.items ++ line_sites p x
    → Adds p (x ∷ []) a b
adds_one p x a b text named = record {
  text = text ∙ ap (λ (l : List ℕ). a.text.items ++ l) (sym (append-nil (line_text p x)));
  named = named ∙ ap (λ (l : List ℕ). a.named.items ++ l) (sym (append-nil (line_sites p x)));
}

appended : {X : Type 0} (f : X → List ℕ) (base now next : List ℕ) (xs ys : List X)
    → now ≡ base ++ flat_map f xs → next ≡ now ++ flat_map f ys
    → next ≡ base ++ flat_map f (xs ++ ys)
appended f base now next xs ys was step =
    step ∙ ap (λ (l : List ℕ). l ++ flat_map f ys) was
    ∙ append_assoc base (flat_map f xs) (flat_map f ys)
    ∙ ap (λ (l : List ℕ). base ++ l) (sym (flat_map-append f xs ys))

pub adds_append : (p : Program) (xs ys : List Line) (a b c : Output) → Adds p xs a b → Adds p ys b c
    → Adds p (xs ++ ys) a c
adds_append p xs ys a b c first second = record {
  text = appended (line_text p) a.text.items b.text.items c.text.items xs ys first.text second.text;
  named =
      appended (line_sites p) a.named.items b.named.items c.named.items xs ys first.named
      second.named;
}

pub adds_same : (p : Program) (xs ys : List Line) (a b : Output) → xs ≡ ys → Adds p xs a b
    → Adds p ys a b
adds_same p xs ys a b same adds = let P : List Line → Type 0 = λ (l : List Line). Adds p l a b in
    subst P same adds

-- a loop over a list, line by line
pub adds_more : {X : Type 0} (p : Program) (f : X → List Line) (a b c : Output) (xs : List X)
    (i : ℕ) (d : X) → Adds p (flat_map f (take i xs)) a b → i < length xs
    → Adds p (f (get_or xs i d)) b c → Adds p (flat_map f (take (i + 1) xs)) a c
adds_more p f a b c xs i d was inside step =
    adds_same p _ _ a c (sym (ap (flat_map f) (take_more xs i d inside)
    ∙ flat_map-append f (take i xs) (get_or xs i d ∷ [])
    ∙ ap (λ (l : List Line). flat_map f (take i xs) ++ l) (append-nil (f (get_or xs i d)))))
    (adds_append p _ _ a b c was step)

pub adds_all : {X : Type 0} (p : Program) (f : X → List Line) (a b : Output) (xs : List X) (i : ℕ)
    → Adds p (flat_map f (take i xs)) a b → length xs ≤ i → Adds p (flat_map f xs) a b
adds_all p f a b xs i was past = adds_same p _ _ a b (ap (flat_map f) (take_all i xs past)) was

pub range_more : (i : ℕ) → range_with_len 0 (i + 1) ≡ range_with_len 0 i ++ i ∷ []
range_more i =
    sym (map-id (range_with_len 0 (i + 1)))
    ∙ map-range_with_len_more (λ (n : ℕ). n) 0 i i (omega arith)
    ∙ ap (λ (l : List ℕ). l ++ i ∷ []) (map-id (range_with_len 0 i))

-- a loop over the numbers from 0
pub adds_number : (p : Program) (f : ℕ → List Line) (a b c : Output) (i : ℕ)
    → Adds p (flat_map f (range_with_len 0 i)) a b → Adds p (f i) b c
    → Adds p (flat_map f (range_with_len 0 (i + 1))) a c
adds_number p f a b c i was step =
    adds_same p _ _ a c (sym (ap (flat_map f) (range_more i)
    ∙ flat_map-append f (range_with_len 0 i) (i ∷ [])
    ∙ ap (λ (l : List Line). flat_map f (range_with_len 0 i) ++ l) (append-nil (f i))))
    (adds_append p _ _ a b c was step)
