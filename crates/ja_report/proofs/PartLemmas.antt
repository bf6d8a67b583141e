-- Parts with a bar behind each, and with bars between them.
use Rattle.std.proofs.Common.{◌≡◌, ◌≢◌, ℕ, ◌+◌, ◌-◌, ◌<◌, ◌≤◌, List, [], ◌∷◌, ◌++◌, map, take, length, get_or, refl, ap, sym, ◌∙◌, append-nil, append_assoc, arith}
use Rattle.std.specs.List.{join_with_byte}
use Rattle.std.proofs.lemmas.List.{take_at, take_more, take_all, map-append, length-append, length_push}
use Rattle.std.proofs.lemmas.List.Concat.{flat_map-append}
use lib.Chars.{codes}
use Rattle.ja_base.specs.declared.ids.Label.{Label}
use Rattle.ja_graph.specs.declared.program.Program.{Program}
use Rattle.ja_report.specs.Texts.{joined, label_text}
use Rattle.ja_report.specs.code.Texts.{with_bars}
use Rattle.ja_report.specs.Lines.{label_sites}

bars_append : (xs ys : List (List ℕ)) → with_bars (xs ++ ys) ≡ with_bars xs ++ with_bars ys
unfolding with_bars
bars_append xs ys = flat_map-append (λ (x : List ℕ). x ++ 124 ∷ []) xs ys

-- more parts, behind others
pub bars_more : (base now next : List ℕ) (xs ys : List (List ℕ)) → now ≡ base ++ with_bars xs
    → next ≡ now ++ with_bars ys → next ≡ base ++ with_bars (xs ++ ys)
bars_more base now next xs ys was step =
    step ∙ ap (λ (l : List ℕ). l ++ with_bars ys) was
    ∙ append_assoc base (with_bars xs) (with_bars ys)
    ∙ ap (λ (l : List ℕ). base ++ l) (sym (bars_append xs ys))

bars_one : (x : List ℕ) → with_bars (x ∷ []) ≡ x ++ 124 ∷ []
unfolding with_bars
bars_one x = append-nil _

bars_cons : (x : List ℕ) (xs : List (List ℕ)) → with_bars (x ∷ xs) ≡ (x ++ 124 ∷ []) ++ with_bars xs
unfolding with_bars
bars_cons x xs = refl

bars_none : with_bars [] ≡ []
unfolding with_bars
bars_none = refl

bars_joined : (x : List ℕ) (xs : List (List ℕ))
    → with_bars (x ∷ xs) ≡ join_with_byte 124 (x ∷ xs) ++ 124 ∷ []
bars_joined x [] = bars_one x
bars_joined x (y ∷ ys) =
    bars_cons x (y ∷ ys) ∙ ap (λ (l : List ℕ). (x ++ 124 ∷ []) ++ l) (bars_joined y ys)
    ∙ simp append_assoc

-- ---- the end of a value

pub closed_none : (base now text : List ℕ) (parts : List (List ℕ)) → text ≡ base ++ with_bars parts
    → length text ≡ length base → now ≡ text ++ codes "none" → now ≡ base ++ joined parts
unfolding joined
closed_none base now text [] was same step =
    step ∙ ap (λ (l : List ℕ). l ++ codes "none")
    (was ∙ ap (λ (l : List ℕ). base ++ l) bars_none ∙ append-nil base)
closed_none base now text (x ∷ xs) was same step =
    absurd (omega (
      arith,
      simp length-append at
          (ap length (was ∙ ap (λ (l : List ℕ). base ++ l) (bars_joined x xs))),
    ))

pub length_end : (xs : List ℕ) (x : ℕ) → length (xs ++ x ∷ []) - 1 ≡ length xs
length_end xs x = ap (λ (n : ℕ). n - 1) (length_push xs x) ∙ omega arith

pub closed_some : (base now text : List ℕ) (parts : List (List ℕ)) → text ≡ base ++ with_bars parts
    → length text ≢ length base → now ≡ take (length text - 1) text → now ≡ base ++ joined parts
unfolding joined
closed_some base now text [] was other step =
    absurd (other (ap length (was ∙ ap (λ (l : List ℕ). base ++ l) bars_none ∙ append-nil base)))
closed_some base now text (x ∷ xs) was other step =
    let front : List ℕ = base ++ join_with_byte 124 (x ∷ xs) in
    let whole : text ≡ front ++ 124 ∷ [] = was ∙ ap (λ (l : List ℕ). base ++ l) (bars_joined x xs)
    ∙ sym (append_assoc base (join_with_byte 124 (x ∷ xs)) (124 ∷ [])) in
    let size : length front ≡ length text - 1 = sym
    (ap (λ (l : List ℕ). length l - 1) whole ∙ length_end front 124) in
    step ∙ ap (take (length text - 1)) whole ∙ take_at front (124 ∷ []) (length text - 1) size

-- ---- the labels of a value, one by one

pub labels_none : (base : List ℕ) → base ≡ base ++ with_bars []
labels_none base = sym (ap (λ (l : List ℕ). base ++ l) bars_none ∙ append-nil base)

pub labels_more : (p : Program) (base now named next : List ℕ) (ls : List Label) (i : ℕ) (d : Label)
    → now ≡ base ++ with_bars (map (label_text p) (take i ls)) → i < length ls
    → named ≡ now ++ label_text p (get_or ls i d) → next ≡ named ++ 124 ∷ []
    → next ≡ base ++ with_bars (map (label_text p) (take (i + 1) ls))
labels_more p base now named next ls i d was inside first step =
    let l : Label = get_or ls i d in
    let one : next ≡ now ++ with_bars (label_text p l ∷ []) =
    step ∙ ap (λ (x : List ℕ). x ++ 124 ∷ []) first ∙ append_assoc now (label_text p l) (124 ∷ [])
    ∙ ap (λ (x : List ℕ). now ++ x) (sym (bars_one (label_text p l))) in
    let parts : map (label_text p) (take (i + 1) ls) ≡ map (label_text p) (take i ls)
    ++ label_text p l ∷ [] =
    ap (map (label_text p)) (take_more ls i d inside)
    ∙ map-append (label_text p) (take i ls) (l ∷ []) in
    bars_more base now next (map (label_text p) (take i ls)) (label_text p l ∷ []) was one
    ∙ ap (λ (x : List (List ℕ)). base ++ with_bars x) (sym parts)

pub labels_all : (p : Program) (base now : List ℕ) (ls : List Label) (i : ℕ)
    → now ≡ base ++ with_bars (map (label_text p) (take i ls)) → length ls ≤ i
    → now ≡ base ++ with_bars (map (label_text p) ls)
labels_all p base now ls i was past =
    was ∙ ap (λ (l : List Label). base ++ with_bars (map (label_text p) l)) (take_all i ls past)

pub sites_more : (base now next : List ℕ) (ls : List Label) (i : ℕ) (d : Label)
    → now ≡ base ++ label_sites (take i ls) → i < length ls
    → next ≡ now ++ (get_or ls i d).site.0 ∷ [] → next ≡ base ++ label_sites (take (i + 1) ls)
sites_more base now next ls i d was inside step =
    step ∙ ap (λ (x : List ℕ). x ++ (get_or ls i d).site.0 ∷ []) was
    ∙ append_assoc base (label_sites (take i ls)) ((get_or ls i d).site.0 ∷ [])
    ∙ ap (λ (x : List ℕ). base ++ x) (sym
    (ap label_sites (take_more ls i d inside)
    ∙ map-append (λ (m : Label). m.site.0) (take i ls) (get_or ls i d ∷ [])))

pub sites_all : (base now : List ℕ) (ls : List Label) (i : ℕ)
    → now ≡ base ++ label_sites (take i ls) → length ls ≤ i → now ≡ base ++ label_sites ls
sites_all base now ls i was past =
    was ∙ ap (λ (l : List Label). base ++ label_sites l) (take_all i ls past)
