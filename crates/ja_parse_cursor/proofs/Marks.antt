-- Labels of which the first are marked as a loop's.
use Rattle.std.proofs.Common.{◌≡◌, ℕ, zero, suc, ◌+◌, ◌-◌, ◌<◌, ◌≤◌, length, List, [], ◌∷◌, ◌++◌, drop, map, get_or, sym, refl, ap, ◌∙◌, append_assoc, arith}
use Rattle.std.proofs.Math.Dec.{eqb-suc-zero}
use Rattle.std.proofs.Math.Numerals.{add-one}
use Rattle.std.proofs.Math.Seq.{drop-cons}
use Rattle.std.proofs.lemmas.List.{drop_all, append-nil}
use Rattle.std.proofs.Math.ListN.{get_or-map}
use Rattle.std.proofs.lemmas.List.{map-append, length-map}
use Rattle.ja_grammar.specs.declared.context.Label.{Label as Stored}
use Rattle.ja_grammar.specs.Contexts.{Label, marked}
use Rattle.ja_grammar.specs.code.Contexts.{label_of}
use Rattle.ja_parse_cursor.specs.code.Marks.{marked_one}

pub one_mark : (n : ℕ) (l : Label) (ls : List Label)
    → marked n (l ∷ ls) ≡ marked_one n l ∷ marked (n - 1) ls
unfolding marked
one_mark zero l ls = refl
one_mark (suc n) l ls = let e : suc n - 1 ≡ n = omega arith in rw (eqb-suc-zero n, e) refl

no_mark : (n : ℕ) → marked n [] ≡ []
unfolding marked
no_mark zero = refl
no_mark (suc n) = refl

pub mark_turn : (n i : ℕ) (xs copy : List Label) (y d : Label) → i < length xs
    → y ≡ marked_one n (get_or xs i d)
    → (copy ++ y ∷ []) ++ marked (n - 1) (drop (i + 1) xs) ≡ copy ++ marked n (drop i xs)
mark_turn n i xs copy y d h e =
    append_assoc copy (y ∷ []) _
    ∙ ap (λ z. copy ++ z) (rw (
      e,
      drop-cons xs i d h,
      one_mark n (get_or xs i d) (drop (suc i) xs),
      add-one i,
    ) refl)

pub mark_end : (n i : ℕ) (xs copy : List Label) → length xs ≤ i
    → copy ++ marked n (drop i xs) ≡ copy
mark_end n i xs copy h = rw (drop_all i xs h, no_mark n) (append-nil copy)

pub mark_stored : (labels copy more : List Stored) (i n : ℕ) (y d : Stored) → i < length labels
    → label_of y ≡ marked_one n (label_of (get_or labels i d))
    → more ≡ copy ++ y ∷ []
    → map label_of more ++ marked (n - 1) (drop (i + 1) (map label_of labels)) ≡ map label_of copy
    ++ marked n (drop i (map label_of labels))
mark_stored labels copy more i n y d h e m =
    rw (m, map-append label_of copy (y ∷ []))
    (mark_turn n i (map label_of labels) (map label_of copy) (label_of y) (label_of d)
    (rw (length-map labels label_of) h) (e
    ∙ ap (marked_one n) (sym (get_or-map label_of labels i d))))

pub mark_all : (labels copy : List Stored) (i n : ℕ) → length labels ≤ i
    → map label_of copy ++ marked n (drop i (map label_of labels)) ≡ map label_of copy
mark_all labels copy i n h =
    mark_end n i (map label_of labels) (map label_of copy) (rw (length-map labels label_of) h)
