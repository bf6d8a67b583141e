-- Members of lists with a comma behind each, and lists that are written so.
use Rattle.std.proofs.Common.{◌≡◌, ℕ, ◌+◌, ◌-◌, ◌<◌, ◌≤◌, List, [], ◌∷◌, ◌++◌, map, take, length, refl, ap, sym, ◌∙◌, append-nil, append_assoc, arith, false, true}
use Rattle.std.specs.List.{flat_map, range_with_len}
use Rattle.std.proofs.lemmas.List.{take_at, take_all, map-append, length-append, length_push}
use Rattle.std.proofs.lemmas.List.Concat.{flat_map-append}
use Rattle.std.specs.Prelude.{Result}
use Rattle.std.specs.Result.{OnOk}
use Rattle.std.proofs.lemmas.Result.{MatchResult-weaker}
use Rattle.serde_json.specs.Data.{Data, array}
use Rattle.serde_json.specs.View.{items_of}
use Rattle.serde_json.specs.Written.{compact_text, items_text}
use Rattle.ja_graph.specs.declared.program.Program.{Program}
use Rattle.ja_report.specs.Lines.{Line}
use Rattle.ja_report.proofs.OutputLemmas.{range_more}
use Rattle.ja_cert.specs.Certificate.{line_data, lines_data, listed}
use Rattle.ja_cert.specs.code.Writing.{with_commas, lines_text}
use Rattle.ja_report.proofs.PartLemmas.{length_end}

-- ---- members

pub commas_one : (old now next : List ℕ) (d : Data) → now ≡ old ++ compact_text d
    → next ≡ now ++ 44 ∷ [] → next ≡ old ++ with_commas (d ∷ [])
unfolding with_commas
commas_one old now next d was step =
    step ∙ ap (λ (l : List ℕ). l ++ 44 ∷ []) was ∙ append_assoc old (compact_text d) (44 ∷ [])
    ∙ ap (λ (l : List ℕ). old ++ l) (sym (append-nil (compact_text d ++ 44 ∷ [])))

pub commas_last : (old next : List ℕ) (d : Data) → next ≡ old ++ (compact_text d ++ 44 ∷ [])
    → next ≡ old ++ with_commas (d ∷ [])
unfolding with_commas
commas_last old next d is =
    is ∙ ap (λ (l : List ℕ). old ++ l) (sym (append-nil (compact_text d ++ 44 ∷ [])))

pub commas_none : (old : List ℕ) → old ≡ old ++ with_commas []
unfolding with_commas
commas_none old = sym (append-nil old)

commas_append : (xs ys : List Data) → with_commas (xs ++ ys) ≡ with_commas xs ++ with_commas ys
unfolding with_commas
commas_append xs ys = flat_map-append (λ (d : Data). compact_text d ++ 44 ∷ []) xs ys

-- elements that have some members each
pub commas_each : {X : Type 0} (f : X → List Data) (xs : List X)
    → flat_map (λ (x : X). with_commas (f x)) xs ≡ with_commas (flat_map f xs)
unfolding with_commas
commas_each f [] = refl
commas_each f (x ∷ xs) =
    ap (λ (l : List ℕ). with_commas (f x) ++ l) (commas_each f xs)
    ∙ sym (commas_append (f x) (flat_map f xs))

-- and one each
pub commas_map : {X : Type 0} (f : X → Data) (xs : List X)
    → flat_map (λ (x : X). with_commas (f x ∷ [])) xs ≡ with_commas (map f xs)
unfolding with_commas
commas_map f [] = refl
commas_map f (x ∷ xs) =
    ap (λ (l : List ℕ). with_commas (f x ∷ []) ++ l) (commas_map f xs)
    ∙ sym (commas_append (f x ∷ []) (map f xs))

-- a loop over a list, of which each element has one
pub commas_listed : {X : Type 0} (f : X → Data) (base now : List ℕ) (xs : List X) (i : ℕ)
    → now ≡ base ++ flat_map (λ (x : X). with_commas (f x ∷ [])) (take i xs) → length xs ≤ i
    → now ≡ base ++ with_commas (map f xs)
commas_listed f base now xs i was past =
    was ∙ ap (λ (l : List ℕ). base ++ l) (commas_map f (take i xs)
    ∙ ap (λ (ys : List _). with_commas (map f ys)) (take_all i xs past))

-- a loop over the numbers from 0
pub added_number : (f : ℕ → List ℕ) (base now next : List ℕ) (i : ℕ)
    → now ≡ base ++ flat_map f (range_with_len 0 i) → next ≡ now ++ f i
    → next ≡ base ++ flat_map f (range_with_len 0 (i + 1))
added_number f base now next i was step =
    step ∙ ap (λ (l : List ℕ). l ++ f i) was
    ∙ append_assoc base (flat_map f (range_with_len 0 i)) (f i)
    ∙ ap (λ (l : List ℕ). base ++ l) (ap (λ (l : List ℕ). flat_map f (range_with_len 0 i) ++ l)
    (sym (append-nil (f i))) ∙ sym (ap (flat_map f) (range_more i)
    ∙ flat_map-append f (range_with_len 0 i) (i ∷ [])))

-- ---- lines

module _ (p : Program) where
  pub lines_none : (old : List ℕ) → old ≡ old ++ lines_text p []
  unfolding lines_text
  lines_none old = commas_none old

  pub lines_one : (old next : List ℕ) (x : Line) (d : Data) → d ≡ line_data p x
      → next ≡ old ++ with_commas (d ∷ []) → next ≡ old ++ lines_text p (x ∷ [])
  unfolding lines_text
  lines_one old next x d is step =
      step ∙ ap (λ (e : Data). old ++ with_commas (e ∷ [])) is

  -- where a line is the last thing that is written
  pub line_written : {T E : Type 0} (old next : List ℕ) (x : Line) (d : Data) (r : Result T E)
      → d ≡ line_data p x → OnOk r (next ≡ old ++ with_commas (d ∷ []))
      → OnOk r (next ≡ old ++ lines_text p (x ∷ []))
  line_written old next x d r is step =
      MatchResult-weaker r step (λ _ h. lines_one old next x d is h) (λ _ h. h)

  lines_append : (xs ys : List Line) → lines_text p (xs ++ ys) ≡ lines_text p xs ++ lines_text p ys
  unfolding lines_text
  lines_append xs ys =
      ap with_commas (map-append (line_data p) xs ys)
      ∙ commas_append (map (line_data p) xs) (map (line_data p) ys)

  pub lines_more : (base now next : List ℕ) (xs ys : List Line) → now ≡ base ++ lines_text p xs
      → next ≡ now ++ lines_text p ys → next ≡ base ++ lines_text p (xs ++ ys)
  lines_more base now next xs ys was step =
      step ∙ ap (λ (l : List ℕ). l ++ lines_text p ys) was
      ∙ append_assoc base (lines_text p xs) (lines_text p ys)
      ∙ ap (λ (l : List ℕ). base ++ l) (sym (lines_append xs ys))

  pub lines_same : (base now : List ℕ) (xs ys : List Line) → xs ≡ ys
      → now ≡ base ++ lines_text p xs → now ≡ base ++ lines_text p ys
  lines_same base now xs ys same was =
      was ∙ ap (λ (l : List Line). base ++ lines_text p l) same

  lines_nil : lines_text p [] ≡ []
  unfolding lines_text with_commas
  lines_nil = refl

  pub lines_each : {X : Type 0} (f : X → List Line) (xs : List X)
      → flat_map (λ (x : X). lines_text p (f x)) xs ≡ lines_text p (flat_map f xs)
  lines_each f [] = sym lines_nil
  lines_each f (x ∷ xs) =
      ap (λ (l : List ℕ). lines_text p (f x) ++ l) (lines_each f xs)
      ∙ sym (lines_append (f x) (flat_map f xs))

  -- a loop over a list, of which each element has some lines
  pub lines_listed : {X : Type 0} (f : X → List Line) (base now : List ℕ) (xs : List X) (i : ℕ)
      → now ≡ base ++ flat_map (λ (x : X). lines_text p (f x)) (take i xs) → length xs ≤ i
      → now ≡ base ++ lines_text p (flat_map f xs)
  lines_listed f base now xs i was past =
      was ∙ ap (λ (l : List ℕ). base ++ l) (lines_each f (take i xs)
      ∙ ap (λ (ys : List _). lines_text p (flat_map f ys)) (take_all i xs past))

-- ---- the end of a list

commas_cons : (d : Data) (ds : List Data)
    → with_commas (d ∷ ds) ≡ (compact_text d ++ 44 ∷ []) ++ with_commas ds
unfolding with_commas
commas_cons d ds = refl

commas_nil : with_commas [] ≡ []
unfolding with_commas
commas_nil = refl

-- with the last comma away, and a bracket in its place
inner : Data → List Data → List ℕ
inner d [] = compact_text d
inner d (e ∷ ds) = compact_text d ++ 44 ∷ inner e ds

commas_inner : (d : Data) (ds : List Data) → with_commas (d ∷ ds) ≡ inner d ds ++ 44 ∷ []
unfolding inner
commas_inner d [] =
    commas_cons d [] ∙ ap (λ (l : List ℕ). (compact_text d ++ 44 ∷ []) ++ l) commas_nil
    ∙ append-nil (compact_text d ++ 44 ∷ [])
commas_inner d (e ∷ ds) =
    commas_cons d (e ∷ ds)
    ∙ ap (λ (l : List ℕ). (compact_text d ++ 44 ∷ []) ++ l) (commas_inner e ds)
    ∙ simp append_assoc

later_inner : (d : Data) (ds : List Data)
    → compact_text d ++ items_text true (items_of ds) ≡ inner d ds ++ 93 ∷ []
unfolding inner
later_inner d [] = refl
later_inner d (e ∷ ds) =
    ap (λ (l : List ℕ). compact_text d ++ 44 ∷ l) (later_inner e ds)
    ∙ sym (append_assoc (compact_text d) (44 ∷ inner e ds) (93 ∷ []))

pub closed_none : (base text next : List ℕ) (ds : List Data) → text ≡ base ++ with_commas ds
    → length text ≤ length base → next ≡ text ++ 93 ∷ []
    → next ≡ base ++ items_text false (items_of ds)
closed_none base text next [] was same step =
    step ∙ ap (λ (l : List ℕ). l ++ 93 ∷ [])
    (was ∙ ap (λ (l : List ℕ). base ++ l) commas_nil ∙ append-nil base)
closed_none base text next (d ∷ ds) was same step =
    absurd (omega (
      arith,
      same,
      simp length-append at
          (ap length (was ∙ ap (λ (l : List ℕ). base ++ l) (commas_inner d ds))),
    ))

pub closed_some : (base text now next : List ℕ) (n : ℕ) (ds : List Data)
    → text ≡ base ++ with_commas ds → length base < length text → now ≡ take n text
    → n ≡ length text - 1 → next ≡ now ++ 93 ∷ []
    → next ≡ base ++ items_text false (items_of ds)
closed_some base text now next n [] was more cut less step =
    absurd (omega (
      arith,
      more,
      ap length (was ∙ ap (λ (l : List ℕ). base ++ l) commas_nil ∙ append-nil base),
    ))
closed_some base text now next n (d ∷ ds) was more cut less step =
    let front : List ℕ = base ++ inner d ds in
    let whole : text ≡ front ++ 44 ∷ [] =
    was ∙ ap (λ (l : List ℕ). base ++ l) (commas_inner d ds)
    ∙ sym (append_assoc base (inner d ds) (44 ∷ [])) in
    let size : length front ≡ n = sym
    (less ∙ ap (λ (l : List ℕ). length l - 1) whole ∙ length_end front 44) in
    let short : now ≡ front =
    cut ∙ ap (take n) whole ∙ take_at front (44 ∷ []) n size in
    step ∙ ap (λ (l : List ℕ). l ++ 93 ∷ []) short ∙ append_assoc base (inner d ds) (93 ∷ [])
    ∙ ap (λ (l : List ℕ). base ++ l) (sym (later_inner d ds))

-- a list from its bracket on
pub list_closed : (before opened listed closed : List ℕ) (start : ℕ) (ds : List Data)
    → opened ≡ before ++ 91 ∷ [] → start ≡ length opened → listed ≡ opened ++ with_commas ds
    → ((base : List ℕ) (es : List Data) → length base ≡ start → listed ≡ base ++ with_commas es
    → closed ≡ base ++ items_text false (items_of es))
    → closed ≡ before ++ compact_text (array (items_of ds))
list_closed before opened listed closed start ds opens at members close =
    close opened ds (sym at) members
    ∙ ap (λ (l : List ℕ). l ++ items_text false (items_of ds)) opens
    ∙ append_assoc before (91 ∷ []) (items_text false (items_of ds))

pub lines_closed : (p : Program) (before opened listed closed : List ℕ) (start : ℕ)
    (xs : List Line) → opened ≡ before ++ 91 ∷ [] → start ≡ length opened
    → listed ≡ opened ++ lines_text p xs
    → ((base : List ℕ) (es : List Data) → length base ≡ start → listed ≡ base ++ with_commas es
    → closed ≡ base ++ items_text false (items_of es))
    → closed ≡ before ++ compact_text (lines_data p xs)
unfolding lines_text
lines_closed p before opened listed closed start xs opens at members close =
    list_closed before opened listed closed start (map (line_data p) xs) opens at members close
