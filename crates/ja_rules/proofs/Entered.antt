-- The entries along the edges of a step: they fit the program, and what they give.
use Rattle.std.specs.Prelude.{◌≡◌, ◌<◌, ◌+◌, ◌++◌, ℕ, zero, suc, IsTrue, List, [], ◌∷◌, Some, length, map, take}
use Rattle.std.specs.List.{fold, AllByRecursion}
use Rattle.std.proofs.Common.{refl, sym, subst, ap, ◌∙◌, add-one, arith, get_or}
use Rattle.std.proofs.Math.Seq.{take-suc}
use Rattle.std.proofs.lemmas.List.{map-append}
use Rattle.ja_base.proofs.Lists.{all_append}
use Rattle.ja_base.specs.declared.ids.Context.{Context}
use Rattle.ja_base.specs.declared.ids.NodeId.{NodeId}
use Rattle.ja_graph.specs.declared.node.NodeInfo.{NodeInfo}
use Rattle.ja_graph.specs.declared.program.Program.{Program}
use Rattle.ja_graph.specs.Program.{node_at}
use Rattle.ja_graph.specs.WellFormed.{IsWellFormed}
use Rattle.ja_machine.specs.Frames.{registers_of}
use Rattle.ja_machine.proofs.Lists.{is_some_from}
use Rattle.ja_abstract.specs.AbstractState.{is_key, is_label}
use Rattle.ja_abstract.specs.Made.{length_key}
use Rattle.ja_abstract.specs.Reading.{View}
use Rattle.ja_abstract.specs.Resolved.{Demands}
use Rattle.ja_aheap.specs.Objects.{demands_in}
use Rattle.ja_astate.specs.declared.state.AState.{AState}
use Rattle.ja_astate.specs.State.{state_of, IsStateOf}
use Rattle.ja_rows.specs.declared.table.Edge.{Edge}
use Rattle.ja_rows.specs.Calls.{entered_by}
use Rattle.ja_rows.specs.Table.{applied, point, Table}
use Rattle.ja_rows.specs.Transfer.{transfer}
use Rattle.ja_rows.proofs.StepEdges.{edges_from_node, IsFrom}
use Rattle.ja_rows.proofs.TablesInProgram.{has_length}
use Rattle.ja_flow.specs.Flow.{IsCallerAt, IsEnteredBy}
use Rattle.ja_rules.specs.declared.visits.Entry.{Entry}
use Rattle.ja_rules.specs.code.Stepping.{with_entered, AreEntered, FitsEntered}
use Rattle.ja_height.proofs.DemandsInProgram.{entry_of, IsPairOf}
use Rattle.ja_height.proofs.EdgesInProgram.{edges_into, IsInto}
use Rattle.ja_rules.proofs.VisitEffects.{edge_entered, edges_more, of_edges}

module _ (p : Program) (good : IsWellFormed p) (w : View) (in_program : w.program ≡ p)
    (x : Context) (n : NodeId) (i : NodeInfo) (is : node_at p x.function n ≡ Some i) where
  -- edges that a step may give, from its node into functions of the program
  pub record AreSteps (edges : List Edge) : Type 0 where
    pub from : AllByRecursion (IsFrom x n) edges
    pub into : AllByRecursion (IsInto w (point x n i)) edges

  pub steps_are : (edges : List Edge) → edges ≡ (transfer w (point x n i)).edges → AreSteps edges
  steps_are edges e = record {
    from = subst (AllByRecursion (IsFrom x n)) (sym e) (edges_from_node w (point x n i) i i.node);
    into =
        subst (AllByRecursion (IsInto w (point x n i))) (sym e)
        (edges_into w (point x n i) i i.node);
  }

  node_of_edge : (e : Edge) → IsFrom x n e → node_at p e.caller.function e.node ≡ Some i
  node_of_edge e from =
      ap (λ (y : Context). node_at p y.function e.node) from.0
      ∙ ap (node_at p x.function) from.1 ∙ is

  -- the caller of an edge
  pub caller_at : (a : AState) → IsStateOf p (registers_of p x.function) a → (e : Edge)
      → IsFrom x n e → IsInto w (point x n i) e → IsCallerAt p i a e
  caller_at a state e from into = record {
    at_node = record {
      well_formed = good;
      node_is = node_of_edge e from;
      state_is =
          subst (λ (y : Context). IsStateOf p (registers_of p y.function) a) (sym from.0) state;
    };
    callee = subst (λ (q : Program). e.callee.function.0 < length q.functions) in_program into.0;
  }

  pub callers_are : (a : AState) → IsStateOf p (registers_of p x.function) a
      → (edges : List Edge) → AllByRecursion (IsFrom x n) edges
      → AllByRecursion (IsInto w (point x n i)) edges → AllByRecursion (IsCallerAt p i a) edges
  callers_are a state [] from into = tt
  callers_are a state (e ∷ es) from into =
      (caller_at a state e from.0 into.0, callers_are a state es from.1 into.1)

  abbrev Enters : Entry → Type 0
  Enters y = IsEnteredBy p y.edge (entered_by w y.edge i.node) y.entered

  abbrev edges_of : List Entry → List Edge
  edges_of entries = map (λ (y : Entry). y.edge) entries

  -- entries of a context that is reached fit the table
  pub entries_fit : (t : Table) → IsTrue (t.context x) → (entries : List Entry)
      → AllByRecursion (IsFrom x n) (edges_of entries)
      → AllByRecursion (IsInto w (point x n i)) (edges_of entries)
      → AllByRecursion Enters entries → AllByRecursion (FitsEntered p t) entries
  entries_fit t reached [] from into entered = tt
  entries_fit t reached (y ∷ ys) from into entered = (
    record {
      caller = subst (λ (z : Context). IsTrue (t.context z)) (sym from.0.0) reached;
      node = is_some_from _ i (node_of_edge y.edge from.0);
      callee = record {
        function = subst (λ (q : Program). y.edge.callee.function.0 < length q.functions)
            in_program into.0.0;
        receiver = subst (λ (q : Program). IsTrue (is_label q y.edge.callee.receiver))
            in_program into.0.1;
      };
      state = entered.0.fits;
      demands =
          λ l k h. subst (λ (q : Program). IsPairOf q l k) in_program
          (entry_of w (subst (λ (q : Program). IsTrue (is_key q length_key)) (sym in_program)
          (has_length p good)) y.edge i.node l k
          (subst (λ (d : Demands). IsTrue (d l k)) entered.0.demands_are h));
    },
    entries_fit t reached ys from.1 into.1 entered.1,
  )

  -- what the entries give
  pub entries_applied : (t : Table) (entries : List Entry)
      → AllByRecursion (IsFrom x n) (edges_of entries) → AllByRecursion Enters entries
      → fold with_entered t entries ≡ applied t (of_edges w x i (edges_of entries))
  entries_applied t [] from entered = refl
  entries_applied t (y ∷ ys) from entered =
      edges_more t (with_entered t y) (fold with_entered (with_entered t y) ys) w x i y.edge
      (edges_of ys)
      (edge_entered t w x i y.edge (state_of y.entered.state) (demands_in y.entered.demands)
      from.0.0 entered.0.state entered.0.demands_are)
      (entries_applied (with_entered t y) ys from.1 entered.1)

-- ---- entries one after another

pub all_or : {X : Type 0} (P : X → Type 0) (xs : List X) → AllByRecursion P xs → (k : ℕ)
    → k < length xs → (d : X) → P (get_or xs k d)
all_or P [] all k h d = absurd (omega arith)
all_or P (x ∷ xs) all zero h d = all.0
all_or P (x ∷ xs) all (suc k) h d = all_or P xs all.1 k (omega arith) d

-- an entry more
pub entered_more : (p : Program) (w : View) (i : NodeInfo) (edges : List Edge) (k : ℕ)
    (xs ys : List Entry) (y : Entry) (d : Edge) → k < length edges
    → AreEntered p w i (take k edges) xs → y.edge ≡ get_or edges k d
    → IsEnteredBy p y.edge (entered_by w y.edge i.node) y.entered → ys ≡ xs ++ y ∷ []
    → AreEntered p w i (take (k + 1) edges) ys
entered_more p w i edges k xs ys y d h before is here more = record {
  edges_are =
      ap (λ (zs : List Entry). map (λ (z : Entry). z.edge) zs) more
      ∙ map-append (λ (z : Entry). z.edge) xs (y ∷ [])
      ∙ ap (λ (es : List Edge). es ++ y.edge ∷ []) before.edges_are
      ∙ ap (λ (e : Edge). take k edges ++ e ∷ []) is
      ∙ sym (take-suc edges k d h)
      ∙ ap (λ n. take n edges) (sym (add-one k));
  entered = subst (AllByRecursion
      (λ (z : Entry). IsEnteredBy p z.edge (entered_by w z.edge i.node) z.entered)) (sym more)
      (all_append (λ (z : Entry). IsEnteredBy p z.edge (entered_by w z.edge i.node) z.entered)
      xs (y ∷ []) before.entered (here, tt));
}
