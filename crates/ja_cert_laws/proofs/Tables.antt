-- Tables of which the contexts and the edges are written the same say the same.
use Rattle.std.proofs.Common.{◌≡◌, ℕ, Bool, true, false, ◌||◌, cond, List, [], ◌∷◌, map, length, get_or, drop, Option, Some, refl, sym, ap, ◌∙◌, arith}
use Rattle.std.specs.List.{list_any, AllByRecursion}
use Rattle.std.specs.Option.{option_and_then, option_map, option_map_or}
use Rattle.serde_json.specs.Data.{null}
use Rattle.ja_base.specs.declared.ids.Context.{Context}
use Rattle.ja_base.specs.declared.ids.Label.{Label}
use Rattle.ja_graph.specs.declared.program.Program.{Program}
use Rattle.ja_abstract.specs.declared.abstraction.Key.{Key}
use Rattle.ja_abstract.specs.AbstractState.{AbstractState, label_number}
use Rattle.ja_abstract.specs.Resolved.{Entries}
use Rattle.ja_aheap.specs.Entries.{entries_of}
use Rattle.ja_rows.specs.declared.table.Edge.{Edge}
use Rattle.ja_rows.specs.Table.{same_context, same_edge}
use Rattle.ja_table.specs.declared.table.ATable.{ATable}
use Rattle.ja_table.specs.declared.table.CallEdge.{CallEdge}
use Rattle.ja_table.specs.declared.table.ContextTable.{ContextTable}
use Rattle.ja_table.specs.Tables.{find_context, is_of, no_entries, states_in, table_of, FitsContext}
use Rattle.ja_cert.specs.Certificate.{edge_data}
use Rattle.ja_cert.specs.Wrong.{number_at}
use Rattle.ja_cert_read.specs.Said.{said_property, said_state, said_table}
use Rattle.ja_cert_read.specs.code.Contexts.{own_data}
use Rattle.ja_cert_laws.proofs.Contexts.{context_same, IsContextOfProfile, SameContext}
use Rattle.ja_table.proofs.Places.{label_tells}

-- ---- contexts, one after another

pub record IsListed (p : Program) (c : ContextTable) : Type 0 where
  pub fits : FitsContext p c
  pub profile : IsContextOfProfile c

abbrev pub SameContexts : Program → List ContextTable → List ContextTable → Type 0
SameContexts p [] [] = Unit {0}
SameContexts p [] (d ∷ ds) = ⊥
SameContexts p (c ∷ cs) [] = ⊥
SameContexts p (c ∷ cs) (d ∷ ds) = SameContext p c d × SameContexts p cs ds

pub contexts_same : (p : Program) (cs ds : List ContextTable) → AllByRecursion (IsListed p) cs
    → AllByRecursion (IsListed p) ds → map (own_data p) cs ≡ map (own_data p) ds
    → SameContexts p cs ds
contexts_same p [] [] all also same = tt
contexts_same p [] (d ∷ ds) all also same = absurd (omega (arith, ap length same))
contexts_same p (c ∷ cs) [] all also same = absurd (omega (arith, ap length same))
contexts_same p (c ∷ cs) (d ∷ ds) all also same = (
  context_same p c d all.0.fits also.0.fits all.0.profile also.0.profile
      (ap (λ es. get_or es 0 null) same),
  contexts_same p cs ds all.1 also.1 (ap (drop 1) same),
)

module _ (p : Program) where
  context_at : (cs ds : List ContextTable) → SameContexts p cs ds → (x : Context)
      → list_any (is_of x) cs ≡ list_any (is_of x) ds
  context_at [] [] same x = refl
  context_at [] (d ∷ ds) same x = absurd same
  context_at (c ∷ cs) [] same x = absurd same
  context_at (c ∷ cs) (d ∷ ds) same x =
      let rest = context_at cs ds same.1 x in
      λ i. same_context (same.0.context i) x || rest i

  abbrev state_in : Option ContextTable → ℕ → Option AbstractState
  state_in o n = option_and_then (λ (c : ContextTable). states_in c.nodes.items n) o

  abbrev entry_in : Option ContextTable → Entries
  entry_in o = option_map_or (λ (c : ContextTable). entries_of c.entries) o no_entries

  -- what is found says the same
  record SameFound (o r : Option ContextTable) : Type 0 where
    state : (n : ℕ) → option_map (said_state p) (state_in o n)
        ≡ option_map (said_state p) (state_in r n)
    entry : (l : Label) (k : Key) → option_map (said_property p k) (entry_in o l k)
        ≡ option_map (said_property p k) (entry_in r l k)

  found_by : (b e : Bool) (c d : ContextTable) (o r : Option ContextTable) → b ≡ e
      → SameContext p c d → SameFound o r → SameFound (cond b (Some c) o) (cond e (Some d) r)
  found_by true true c d o r is first rest =
      record { state = first.state; entry = first.entry }
  found_by true false c d o r is first rest = absurd (cc)
  found_by false true c d o r is first rest = absurd (cc)
  found_by false false c d o r is first rest = rest

  found_at : (cs ds : List ContextTable) → SameContexts p cs ds → (x : Context)
      → SameFound (find_context x cs) (find_context x ds)
  found_at [] [] same x = record { state = λ n. refl; entry = λ l k. refl }
  found_at [] (d ∷ ds) same x = absurd same
  found_at (c ∷ cs) [] same x = absurd same
  found_at (c ∷ cs) (d ∷ ds) same x =
      found_by (is_of x c) (is_of x d) c d (find_context x cs) (find_context x ds)
      (ap (λ (y : Context). same_context y x) same.0.context) same.0 (found_at cs ds same.1 x)

-- ---- edges

pub context_is : (x y : Context) → x.function.0 ≡ y.function.0
    → label_number x.receiver ≡ label_number y.receiver → x ≡ y
context_is x y function receiver =
    let label = label_tells x.receiver y.receiver receiver in
    λ i. record { function = record { 0 = function i }; receiver = label i }

pub edge_same : (e d : Edge) → edge_data e ≡ edge_data d → e ≡ d
unfolding edge_data
edge_same e d same =
    let field : (i : ℕ) → number_at i (edge_data e) ≡ number_at i (edge_data d) =
    λ i. ap (number_at i) same in
    let caller = context_is e.caller d.caller (field 0) (field 1) in
    let node = field 2 in
    let callee = context_is e.callee d.callee (field 3) (field 4) in
    λ i. record { caller = caller i; node = record { 0 = node i }; callee = callee i }

pub edges_same : (es ds : List Edge) → map edge_data es ≡ map edge_data ds → es ≡ ds
edges_same [] [] same = refl
edges_same [] (d ∷ ds) same = absurd (omega (arith, ap length same))
edges_same (e ∷ es) [] same = absurd (omega (arith, ap length same))
edges_same (e ∷ es) (d ∷ ds) same =
    let first = edge_same e d (ap (λ xs. get_or xs 0 null) same) in
    let rest = edges_same es ds (ap (drop 1) same) in
    λ i. first i ∷ rest i

any_edge : (es : List CallEdge) (e : Edge) → list_any (λ (d : CallEdge). same_edge d.edge e) es
    ≡ list_any (λ (d : Edge). same_edge d e) (map (λ (d : CallEdge). d.edge) es)
any_edge [] e = refl
any_edge (d ∷ es) e = ap (λ b. same_edge d.edge e || b) (any_edge es e)

-- ---- the table

pub table_same : (p : Program) (t u : ATable) → SameContexts p t.contexts.items u.contexts.items
    → map (λ (d : CallEdge). d.edge) t.edges.items ≡ map (λ (d : CallEdge). d.edge) u.edges.items
    → said_table p (table_of t) ≡ said_table p (table_of u)
table_same p t u contexts edges =
    let found : (x : Context)
    → SameFound p (find_context x t.contexts.items) (find_context x u.contexts.items) =
    found_at p t.contexts.items u.contexts.items contexts in
    let edge : (e : Edge) → (table_of t).edge e ≡ (table_of u).edge e = λ e.
    any_edge t.edges.items e ∙ ap (list_any (λ (d : Edge). same_edge d e)) edges
    ∙ sym (any_edge u.edges.items e) in
    λ i. record {
      context = λ x. context_at p t.contexts.items u.contexts.items contexts x i;
      state = λ x n. (found x).state n i;
      entry = λ x l k. (found x).entry l k i;
      edge = λ e. edge e i;
    }
