-- The functions that are run, one after another, and the call edges into them.
use Rattle.std.proofs.Common.{arith, ◌≡◌, ◌==◌, ◌+◌, ◌-◌, ◌<◌, ◌≤◌, ℕ, zero, suc, Bool, true, false, not, ◌||◌, if◌then◌else◌, List, [], ◌∷◌, ◌++◌, length, map, take, get_or, Option, Some, None, refl, subst, sym, ap, ◌∙◌, append-nil, add-zero}
use Rattle.std.specs.List.{filter, list_any, flat_map, range_with_len}
use Rattle.std.specs.Option.{is_some, option_map_or}
use Rattle.std.proofs.lemmas.Bool.{ne_eqb, eq-eqb}
use Rattle.std.proofs.lemmas.List.Concat.{flat_map-append}
use Rattle.std.proofs.lemmas.List.Folds.{flat_map-map, list_any_more}
use Rattle.std.proofs.lemmas.List.FromFn.{map-range_with_len_more}
use Rattle.ja_base.specs.declared.ids.FnId.{FnId}
use Rattle.ja_base.specs.declared.ids.Label.{Label}
use Rattle.ja_graph.specs.declared.program.Program.{Program}
use Rattle.ja_abstract.specs.AbstractValue.{Labels, AbstractValue}
use Rattle.ja_abstract.specs.AbstractState.{labels_of}
use Rattle.ja_abstract.specs.Reading.{View}
use Rattle.ja_abstract.specs.Values.{has_atoms}
use Rattle.ja_rows.specs.declared.table.Edge.{Edge}
use Rattle.ja_rows.specs.Out.{Point}
use Rattle.ja_rows.specs.Edges.{runs, edge, edges_to, some_runs, has_other}
use Rattle.ja_transfer.specs.declared.sites.Entry.{Entry}
use Rattle.ja_transfer.specs.code.Callees.{entry_by, some_run, IsNext, edges_at, edges_below}
use Rattle.ja_transfer.proofs.Filters.{any_filter}

-- ---- the next function

-- a label more
pub next_more : (entry : Entry) (p : Program) (labels : List Label) (i : ℕ) (d : Label) (from end : ℕ)
    (called next : Option FnId) → i < length labels → called ≡ entry_by entry p (get_or labels i d)
    → IsNext (λ f. some_run entry p (take i labels) f
    || option_map_or (λ (g : FnId). g.0 == f) called false) from end next
    → IsNext (some_run entry p (take (i + 1) labels)) from end next
next_more entry p labels i d from end called next within is least =
    let run_is : (λ f. some_run entry p (take i labels) f
    || option_map_or (λ (g : FnId). g.0 == f) called false) ≡ some_run entry p (take (i + 1) labels) =
    (λ j f. some_run entry p (take i labels) f || option_map_or (λ (g : FnId). g.0 == f) (is j) false)
    ∙ sym (λ j f. list_any_more (runs (entry_by entry p) f) labels i d within j) in
    subst (λ (is_run : ℕ → Bool). IsNext is_run from end next) run_is least

-- none is next
pub none_next : (is_run : ℕ → Bool) (from end : ℕ) (next : Option FnId) → is_some next ≡ false
    → IsNext is_run from end next → (f : ℕ) → from ≤ f → f < end → is_run f ≡ false
none_next is_run from end None none least = least
none_next is_run from end (Some g) none least = absurd (cc)

-- ---- edges

module _ (x : Point) (is_run : ℕ → Bool) (receivers : List Label) where
  -- the edges into a function more
  edges_more : (n : ℕ) → edges_below x is_run receivers (n + 1)
      ≡ edges_below x is_run receivers n ++ edges_at x is_run receivers n
  edges_more n =
      let to : ℕ → List Edge = edges_at x is_run receivers in
      let same : ℕ → ℕ = λ f. f in
      sym (flat_map-map to same (range_with_len 0 (n + 1)))
      ∙ ap (flat_map to) (map-range_with_len_more same 0 n n (omega arith))
      ∙ flat_map-append to (map same (range_with_len 0 n)) (n ∷ [])
      ∙ ap (λ (es : List Edge). es ++ (to n ++ [])) (flat_map-map to same (range_with_len 0 n))
      ∙ ap (λ (es : List Edge). edges_below x is_run receivers n ++ es) (append-nil (to n))

  -- what is not run has none
  edges_past : (from k : ℕ) → ((f : ℕ) → from ≤ f → f < from + k → is_run f ≡ false)
      → edges_below x is_run receivers (from + k) ≡ edges_below x is_run receivers from
  edges_past from zero none = ap (edges_below x is_run receivers) (add-zero from)
  edges_past from (suc k) none =
      let next : from + suc k ≡ from + k + 1 = omega arith in
      let before : edges_below x is_run receivers (from + k)
      ≡ edges_below x is_run receivers from = edges_past from k (λ f low high. none f low
      (omega arith)) in
      let stays : is_run (from + k) ≡ false = none (from + k) (omega arith) (omega arith) in
      ap (edges_below x is_run receivers) next ∙ edges_more (from + k)
      ∙ ap (λ (b : Bool). edges_below x is_run receivers (from + k)
      ++ (if b then map (edge x (from + k)) receivers else [])) stays
      ∙ append-nil (edges_below x is_run receivers (from + k)) ∙ before

  pub edges_rest : (from end : ℕ) → from ≤ end
      → ((f : ℕ) → from ≤ f → f < end → is_run f ≡ false)
      → edges_below x is_run receivers from ≡ edges_below x is_run receivers end
  edges_rest from end within none =
      let k : ℕ = end - from in
      let is : from + k ≡ end = omega arith in
      sym (edges_past from k (λ f low high. none f low (omega arith)))
      ∙ ap (edges_below x is_run receivers) is

  -- the edges into the next function that is run
  pub edges_next : (from g : ℕ) → from ≤ g → is_run g ≡ true
      → ((f : ℕ) → from ≤ f → f < g → is_run f ≡ false)
      → edges_below x is_run receivers from ++ map (edge x g) receivers
      ≡ edges_below x is_run receivers (g + 1)
  edges_next from g within run first =
      ap (λ (es : List Edge). es ++ map (edge x g) receivers) (edges_rest from g within first)
      ∙ ap (λ (b : Bool). edges_below x is_run receivers g
      ++ (if b then map (edge x g) receivers else [])) (sym run) ∙ sym (edges_more g)

-- the edges into one function
pub edges_to_one : (x : Point) (receivers : List Label) (f n : ℕ) → f < n
    → map (edge x f) receivers ≡ edges_below x (λ g. g == f) receivers n
edges_to_one x receivers f n within =
    edges_next x (λ g. g == f) receivers 0 f (omega arith) (eq-eqb f f refl)
    (λ g low high. ne_eqb g f (λ e. omega (arith, e)))
    ∙ edges_rest x (λ g. g == f) receivers (f + 1) n (omega arith)
    (λ g low high. ne_eqb g f (λ e. omega (arith, e)))

-- .. which the program doesn't have
pub edges_to_none : (x : Point) (receivers : List Label) (f n : ℕ) → n ≤ f
    → [] ≡ edges_below x (λ g. g == f) receivers n
edges_to_none x receivers f n past =
    edges_rest x (λ g. g == f) receivers 0 n (omega arith)
    (λ g low high. ne_eqb g f (λ e. omega (arith, e)))

-- ---- calls and constructions

module _ (w : View) (entry : Entry) (u : AbstractValue) (labels : List Label)
    (are : labels ≡ filter u.label (labels_of w.program)) where
  abbrev run : Label → Option FnId
  run = entry_by entry w.program

  -- the functions that some callee runs are those that the labels of the callee run
  pub entered_edges : (x : Point) (receivers : Labels)
      → edges_below x (some_run entry w.program labels)
      (filter receivers (labels_of w.program)) (length w.program.functions)
      ≡ edges_to w x (some_runs w run u) receivers
  entered_edges x receivers =
      let runs_of : ℕ → Labels = λ f. runs run f in
      let run_is : some_run entry w.program labels ≡ some_runs w run u =
      (λ i f. list_any (runs_of f) (are i))
      ∙ (λ i f. any_filter u.label (runs_of f) (labels_of w.program) i) in
      ap (λ (is_run : ℕ → Bool). edges_below x is_run
      (filter receivers (labels_of w.program)) (length w.program.functions)) run_is

  -- .. and so are those that run none
  pub other_callees : (atoms : Bool) → atoms ≡ has_atoms u
      → (atoms || list_any (λ l. not (is_some (run l))) labels) ≡ has_other w run u
  other_callees atoms atoms_are =
      let without : Labels = λ l. not (is_some (run l)) in
      ap (λ b. b || list_any without labels) atoms_are
      ∙ ap (λ b. has_atoms u || b) (ap (list_any without) are
      ∙ any_filter u.label without (labels_of w.program))
