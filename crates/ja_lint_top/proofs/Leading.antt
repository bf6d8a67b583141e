-- The functions from which calls of built-in functions lead to one.
use Rattle.std.specs.Prelude.{◌≡◌, ◌⊎◌, ◌<◌, ◌≤◌, ◌+◌, ℕ, zero, suc, Bool, true, false, not, ◌||◌, ◌==◌, if◌then◌else◌, IsTrue, All, List, ◌++◌, length, count_by, drop, slice_index_or, slice_set, take}
use Rattle.std.proofs.Common.{cond, get_or, set, refl, sym, ◌∙◌, ap, subst, inl, inr, arith}
use Rattle.std.proofs.Math.Bool.{or-false}
use Rattle.std.proofs.Math.Seq.{take-append_seam}
use Rattle.std.proofs.lemmas.Bool.{cases_eq, cases_lt, eqb-true, eq-eqb, false≢true, true≢false}
use Rattle.std.proofs.lemmas.List.{get_or-set_same, get_or-set_other, get_or_past, length-set}
use Rattle.std.proofs.lemmas.List.FromFn.{get_or-map-range_with_len, length-map-range_with_len}
use Rattle.std.proofs.lemmas.List.Elements.{All-more, All-contains, Contains-get_or}
use Rattle.std.proofs.lemmas.List.Sums.{sum_by-set}
use Rattle.ja_base.specs.declared.ids.FnId.{FnId}
use Rattle.ja_base.proofs.Tests.{or_right_false}
use Rattle.ja_graph.specs.declared.program.Program.{Program}
use Rattle.ja_rows.specs.declared.table.Edge.{Edge}
use Rattle.ja_rows.specs.Table.{Table}
use Rattle.ja_table.specs.declared.table.ATable.{ATable}
use Rattle.ja_table.specs.declared.table.CallEdge.{CallEdge}
use Rattle.ja_table.specs.Tables.{table_of, Fits}
use Rattle.ja_lint_top.specs.Calls.{IsOfText, Leads}
use Rattle.ja_lint_top.specs.code.Calls.{alone, is_marked, Adds, AllLead, AreLeading, Grows, IsDone, IsNext}
use Rattle.ja_lint_top.proofs.Edges.{edge_kept, edge_found, callee_within}

-- ---- one mark more

marked_then : (marks : List Bool) (n g : ℕ) → n < length marks
    → IsTrue (slice_index_or marks g false)
    → IsTrue (slice_index_or (slice_set marks n true) g false)
marked_then marks n g within is =
    elim (cases_eq g n) [
      | inl e ↦
          ap (λ k. get_or (set marks n true) k false) e
          ∙ get_or-set_same marks n true false within
      | inr apart ↦ get_or-set_other marks n g true false apart ∙ is
    ]

marked_before : (marks : List Bool) (n g : ℕ)
    → IsTrue (slice_index_or (slice_set marks n true) g false)
    → (g ≡ n) ⊎ IsTrue (slice_index_or marks g false)
marked_before marks n g is =
    elim (cases_eq g n) [
      | inl e ↦ inl e
      | inr apart ↦ inr (sym (get_or-set_other marks n g true false apart) ∙ is)
    ]

abbrev one_if_left : Bool → ℕ
one_if_left b = cond (not b) 1 0

fewer_left : (marks : List Bool) (n : ℕ) → n < length marks → slice_index_or marks n false ≡ false
    → count_by not (slice_set marks n true) + 1 ≤ count_by not marks
fewer_left marks n within new =
    omega (arith, sum_by-set one_if_left marks n true false within, ap one_if_left new)

same_function : (f g : FnId) → f.0 ≡ g.0 → f ≡ g
same_function f g e = λ i. record { 0 = e i }

-- ---- the edges so far

module _ (p : Program) (t : Table) where
  -- the caller of an edge that leads on is marked
  leads_on : (e : Edge) (marks : List Bool) (f : FnId) → IsTrue (t.edge e) → IsNext p marks e
      → AllLead p t f marks → AllLead p t f (slice_set marks e.caller.function.0 true)
  leads_on e marks f edge_is next all g is =
      elim (marked_before marks e.caller.function.0 g.0 is) [
        | inl same ↦
            let (n, leads) = all e.callee.function next.0 in
            let caller : e.caller.function ≡ g =
            same_function e.caller.function g (sym same) in (
              suc n,
              (
                e,
                edge_is,
                caller,
                (λ (of : IsOfText p g).
                    next.1 (subst (IsOfText p) (sym caller) of)),
                leads,
              ),
            )
        | inr was ↦ all g was
      ]

module _ (p : Program) (t : ATable) (i : ℕ) (e : CallEdge) (within : i < length t.edges.items) where
  -- the edge at a place, or another one past the last
  abbrev at_place : CallEdge
  at_place = get_or t.edges.items i e

  abbrev grown : List Bool → List Bool → Bool → Type 0
  grown old next grows = Grows p (table_of t) (take (i + 1) t.edges.items) old next grows

  pub grows_more : (old now next : List Bool) (grows adds : Bool)
      → Grows p (table_of t) (take i t.edges.items) old now grows
      → Adds p at_place.edge now next adds → grown old next (grows || adds)
  grows_more old now next grows true was (is_next, new, inside, next_is) =
      let n = at_place.edge.caller.function.0 in
      let edge_is : IsTrue ((table_of t).edge at_place.edge) =
      edge_kept t at_place (Contains-get_or t.edges.items i e within) in
      record {
        size = ap length next_is ∙ length-set now n true ∙ was.size;
        kept =
            λ g is. ap (λ xs. slice_index_or xs g.0 false) next_is
            ∙ marked_then now n g.0 inside (was.kept g is);
        sound =
            λ f all. subst (AllLead p (table_of t) f) (sym next_is)
            (leads_on p (table_of t) at_place.edge now f edge_is is_next (was.sound f all));
        fewer = left grows was.fewer (ap (count_by not) next_is) (fewer_left now n inside new);
        done = λ none. absurd (true≢false (or_right_false grows true none));
      }
    where
      left : (b : Bool) → count_by not now + (if b then 1 else 0) ≤ count_by not old
          → count_by not next ≡ count_by not (slice_set now at_place.edge.caller.function.0 true)
          → count_by not (slice_set now at_place.edge.caller.function.0 true) + 1
          ≤ count_by not now
          → count_by not next + (if b || true then 1 else 0) ≤ count_by not old
      left true h is fall = omega (arith, h, is, fall)
      left false h is fall = omega (arith, h, is, fall)
  grows_more old now next grows false was (next_is, done) =
      subst (grown old next) (sym (or-false grows)) (subst (λ xs. grown old xs grows) (sym next_is)
      (record {
        size = was.size;
        kept = was.kept;
        sound = was.sound;
        fewer = was.fewer;
        done =
            λ none. All-more (λ (d : CallEdge). IsDone p now d.edge) t.edges.items i e within
            (was.done none) done;
      }))

-- ---- all that lead to a function

-- what holds of the marks, from that of the function alone on
pub record AreFound (p : Program) (t : Table) (f : FnId) (marks : List Bool) : Type 0 where
  pub size : length marks ≡ length p.functions
  pub itself : f.0 < length p.functions → IsTrue (is_marked marks f)
  pub sound : AllLead p t f marks

-- the marks of one function of the program alone
marked_alone : (p : Program) (f : FnId) (n : ℕ) → n < length p.functions
    → slice_index_or (alone p f) n false ≡ (n == f.0)
marked_alone p f n within =
    get_or-map-range_with_len (λ (k : ℕ). k == f.0) 0 (length p.functions) n n false within
    (omega arith)

length-alone : (p : Program) (f : FnId) → length (alone p f) ≡ length p.functions
length-alone p f = length-map-range_with_len (λ (k : ℕ). k == f.0) 0 (length p.functions)

-- what is marked is within
marked_within : (marks : List Bool) (n : ℕ) → IsTrue (slice_index_or marks n false)
    → n < length marks
marked_within marks n is =
    elim (cases_lt n (length marks)) [
      | inl within ↦ within
      | inr past ↦ absurd (false≢true (sym (get_or_past marks n false past) ∙ is))
    ]

module _ (p : Program) (t : Table) (f : FnId) where
  pub found_alone : AreFound p t f (alone p f)
  found_alone = record {
    size = length-alone p f;
    itself = λ within. marked_alone p f f.0 within ∙ eq-eqb f.0 f.0 refl;
    sound =
        λ g is. let within : g.0 < length p.functions =
        omega (arith, marked_within (alone p f) g.0 is, length-alone p f) in
        (0, same_function g f (eqb-true g.0 f.0 (sym (marked_alone p f g.0 within) ∙ is)));
  }

  pub found_more : (es : List CallEdge) (old new : List Bool) (grows : Bool)
      → AreFound p t f old → Grows p t es old new grows → AreFound p t f new
  found_more es old new grows was step = record {
    size = step.size ∙ was.size;
    itself = λ within. step.kept f (was.itself within);
    sound = step.sound f was.sound;
  }

-- what a vector holds once as much was written as it held
pub written_back : (new old : List Bool) (n : ℕ) → n ≡ length new
    → take n (new ++ drop (length new) old) ≡ new
written_back new old n e =
    ap (λ k. take k (new ++ drop (length new) old)) e
    ∙ take-append_seam new (drop (length new) old)

-- where the edges have nothing to add, each that leads to the function is marked
pub are_leading : (p : Program) (t : ATable) (f : FnId) (marks : List Bool) → Fits p t
    → AreFound p (table_of t) f marks
    → All (λ (d : CallEdge). IsDone p marks d.edge) t.edges.items
    → AreLeading p (table_of t) f marks
are_leading p t f marks fits found done = record { sound = found.sound; complete = complete }
  where
    complete : (g : FnId) (n : ℕ) → g.0 < length p.functions → Leads p (table_of t) n g f
        → IsTrue (is_marked marks g)
    complete g zero within is =
        subst (λ h. IsTrue (is_marked marks h)) (sym is)
        (found.itself (subst (λ (h : FnId). h.0 < length p.functions) is within))
    complete g (suc n) within (e, edge_is, caller, built_in, leads) =
        let callee : IsTrue (is_marked marks e.callee.function) =
        complete e.callee.function n (callee_within p t fits e edge_is) leads in
        let next : IsNext p marks e =
        (callee, λ of. built_in (subst (IsOfText p) caller of)) in
        let inside : e.caller.function.0 < length marks =
        omega (arith, within, found.size, ap (λ (h : FnId). h.0) caller) in
        let (d, here, same) = edge_found t e edge_is in
        let d_done : IsDone p marks d.edge =
        All-contains (λ (c : CallEdge). IsDone p marks c.edge) t.edges.items d done here in
        subst (λ h. IsTrue (is_marked marks h)) caller
        (subst (λ (c : Edge). IsDone p marks c) same d_done next inside)
