-- The rank of a table: it rises with each visit that changes it, and is at most the program's
-- height.
use Rattle.std.specs.Prelude.{◌≡◌, ◌≤◌, ◌+◌, ◌*◌, ℕ, Bool, true, false, if◌then◌else◌, IsTrue, length, Option, Some, None, slice_get}
use Rattle.std.proofs.Common.{refl, sym, subst, ◌∙◌, arith}
use Rattle.std.proofs.lemmas.Bool.{false≢true}
use Rattle.std.proofs.lemmas.Option.{same_Some}
use Rattle.ja_base.specs.declared.ids.Context.{Context}
use Rattle.ja_base.specs.declared.ids.Label.{Label}
use Rattle.ja_graph.specs.declared.node.NodeInfo.{NodeInfo}
use Rattle.ja_graph.specs.declared.program.Function.{Function}
use Rattle.ja_graph.specs.declared.program.Program.{Program}
use Rattle.ja_abstract.specs.declared.abstraction.Key.{Key}
use Rattle.ja_abstract.specs.AbstractValue.{AbstractProperty}
use Rattle.ja_abstract.specs.AbstractState.{AbstractState, is_key, is_label}
use Rattle.ja_abstract.specs.Resolved.{Entries}
use Rattle.ja_abstract.specs.Rank.{flag_rank}
use Rattle.ja_abstract.proofs.Order.{LeqOptionState, LeqOptionProperty}
use Rattle.ja_rows.specs.declared.table.Edge.{Edge}
use Rattle.ja_rows.specs.Listed.{context_at}
use Rattle.ja_rows.specs.Table.{Table}
use Rattle.ja_height.specs.Height.{label_count, key_count, property_height, state_height, context_height, enters_functions, entering_count, height}
use Rattle.ja_height.proofs.Grows.{Grows}
use Rattle.ja_height.proofs.More.{IsMore, more_both, more_then, more_flag, more_nothing, sum_at, AtEach, more_at, few_at, few_each, few_passing, few_times}
use Rattle.ja_height.proofs.Sums.{sum_labels, AtLabels, more_labels, few_labels, sum_keys, AtKeys, more_keys, few_keys}
use Rattle.ja_height.proofs.States.{IsOf, IsWithin, option_rank, property_rank, state_rank, more_state, few_state, more_option_property, few_option_property}

-- ---- tables within a program

module _ (p : Program) where
  -- a context of the program, with its function
  pub record IsContextOf (x : Context) : Type 0 where
    pub function : Function
    pub function_is : slice_get p.functions x.function.0 ≡ Some function
    pub receiver : IsTrue (is_label p x.receiver)

  -- a state of a context at a node of its function
  pub record IsStateAt (x : Context) (n : ℕ) (a : AbstractState) : Type 0 where
    pub context : IsContextOf x
    pub info : NodeInfo
    pub info_is : slice_get context.function.nodes n ≡ Some info
    pub within : IsWithin p context.function.registers a

  -- a value at the entry of a context
  pub record IsEntryAt (x : Context) (l : Label) (k : Key) (q : AbstractProperty) : Type 0 where
    pub context : IsContextOf x
    pub label : IsTrue (is_label p l)
    pub key : IsTrue (is_key p k)
    pub value : IsOf p q.value

  -- an edge from a node that enters functions
  pub record IsEdgeOf (e : Edge) : Type 0 where
    pub caller : IsContextOf e.caller
    pub info : NodeInfo
    pub info_is : slice_get caller.function.nodes e.node.0 ≡ Some info
    pub enters : enters_functions info ≡ true
    pub callee : IsContextOf e.callee

  pub record IsTableOf (t : Table) : Type 0 where
    pub contexts : (x : Context) → IsTrue (t.context x) → IsContextOf x
    pub states : (x : Context) (n : ℕ) (a : AbstractState) → t.state x n ≡ Some a
        → IsStateAt x n a
    pub entries : (x : Context) (l : Label) (k : Key) (q : AbstractProperty)
        → t.entry x l k ≡ Some q → IsEntryAt x l k q
    pub edges : (e : Edge) → IsTrue (t.edge e) → IsEdgeOf e

  -- ---- ranks

  abbrev pub entries_rank : Entries → ℕ
  entries_rank e =
      sum_labels p (λ l. sum_keys p (λ k. option_rank (property_rank p) (e l k)))

  abbrev pub context_rank : Table → Context → Function → ℕ
  context_rank t x fn =
      flag_rank (t.context x) + (entries_rank (t.entry x)
      + sum_at fn.nodes (λ n i. option_rank (state_rank p fn.registers) (t.state x n)))

  abbrev pub edge_at : ℕ → Label → ℕ → ℕ → Label → Edge
  edge_at f l n g m =
      record { caller = context_at f l; node = record { 0 = n }; callee = context_at g m }

  abbrev pub edges_from : Table → ℕ → Label → ℕ → ℕ
  edges_from t f l n =
      sum_at p.functions (λ g fn. sum_labels p (λ m. flag_rank (t.edge (edge_at f l n g m))))

  abbrev pub edges_rank : Table → ℕ → Label → Function → ℕ
  edges_rank t f l fn =
      sum_at fn.nodes (λ n i. if enters_functions i then edges_from t f l n else 0)

  abbrev pub table_rank : Table → ℕ
  table_rank t =
      sum_at p.functions (λ f fn. sum_labels p (λ l. context_rank t (context_at f l) fn))
      + sum_at p.functions (λ f fn. sum_labels p (λ l. edges_rank t f l fn))

  -- ---- ranks rise

  more_option_state : (count : ℕ) (o r : Option AbstractState) → LeqOptionState o r
      → ((a : AbstractState) → o ≡ Some a → IsWithin p count a)
      → ((a : AbstractState) → r ≡ Some a → IsWithin p count a)
      → IsMore (option_rank (state_rank p count) o) (option_rank (state_rank p count) r)
      (LeqOptionState r o)
  more_option_state count None None h f g = record { le = omega arith; same = λ back. tt }
  more_option_state count None (Some b) h f g =
      record { le = omega arith; same = λ back. absurd (omega arith) }
  more_option_state count (Some a) None h f g = absurd h
  more_option_state count (Some a) (Some b) h f g =
      let more = more_state p count a b h (f a refl) (g b refl) in
      record { le = let x = more.le in omega arith; same = λ back. more.same (omega arith) }

  -- a state at a node has the registers of its function
  state_within : (t : Table) → IsTableOf t → (x : Context) (n : ℕ) (fn : Function)
      → slice_get p.functions x.function.0 ≡ Some fn → (a : AbstractState) → t.state x n ≡ Some a
      → IsWithin p fn.registers a
  state_within t f x n fn is a e =
      let at = f.states x n a e in
      subst (λ (g : Function). IsWithin p g.registers a)
      (same_Some at.context.function fn (sym at.context.function_is ∙ is)) at.within

  module _ (t u : Table) (h : Grows t u) (f : IsTableOf t) (g : IsTableOf u) where
    abbrev SameEntries : Context → Type 0
    SameEntries x =
        AtLabels p (λ l. AtKeys p (λ k. LeqOptionProperty (u.entry x l k) (t.entry x l k)))

    abbrev SameStates : Context → Function → Type 0
    SameStates x fn = AtEach fn.nodes (λ n i. LeqOptionState (u.state x n) (t.state x n))

    abbrev SameContext : Context → Function → Type 0
    SameContext x fn =
        (IsTrue (u.context x) → IsTrue (t.context x)) × (SameEntries x × SameStates x fn)

    more_context : (x : Context) (fn : Function) → slice_get p.functions x.function.0 ≡ Some fn
        → IsMore (context_rank t x fn) (context_rank u x fn) (SameContext x fn)
    more_context x fn is =
        more_both _ _ _ _ (more_flag (t.context x) (u.context x) (h.context x))
        (more_both _ _ _ _ (more_labels p _ _
        (λ l. AtKeys p (λ k. LeqOptionProperty (u.entry x l k) (t.entry x l k)))
        (λ l of. more_keys p _ _ (λ k. LeqOptionProperty (u.entry x l k) (t.entry x l k))
        (λ k at. more_option_property p (t.entry x l k) (u.entry x l k) (h.entry x l k)
        (λ q e. (g.entries x l k q e).value))))
        (more_at fn.nodes _ _ (λ n i. LeqOptionState (u.state x n) (t.state x n))
        (λ n i e. more_option_state fn.registers (t.state x n) (u.state x n) (h.state x n)
        (state_within t f x n fn is) (state_within u g x n fn is))))

    abbrev SameEdge : Edge → Type 0
    SameEdge e = IsTrue (u.edge e) → IsTrue (t.edge e)

    abbrev SameEdgesFrom : ℕ → Label → ℕ → Type 0
    SameEdgesFrom k l n =
        AtEach p.functions (λ j fn. AtLabels p (λ m. SameEdge (edge_at k l n j m)))

    abbrev SameEdges : ℕ → Label → ℕ → NodeInfo → Type 0
    SameEdges k l n i = enters_functions i ≡ true → SameEdgesFrom k l n

    more_edges_from : (k : ℕ) (l : Label) (n : ℕ)
        → IsMore (edges_from t k l n) (edges_from u k l n) (SameEdgesFrom k l n)
    more_edges_from k l n =
        more_at p.functions _ _ (λ j fn. AtLabels p (λ m. SameEdge (edge_at k l n j m)))
        (λ j fn is. more_labels p _ _ (λ m. SameEdge (edge_at k l n j m))
        (λ m of. more_flag (t.edge (edge_at k l n j m)) (u.edge (edge_at k l n j m))
        (h.edge (edge_at k l n j m))))

    more_if : (b : Bool) (k : ℕ) (l : Label) (n : ℕ)
        → IsMore (if b then edges_from t k l n else 0) (if b then edges_from u k l n else 0)
        (b ≡ true → SameEdgesFrom k l n)
    more_if true k l n = more_then _ _ (λ s e. s) (more_edges_from k l n)
    more_if false k l n = more_nothing 0 (λ e. absurd (false≢true e))

    more_edges : (k : ℕ) (l : Label) (fn : Function)
        → IsMore (edges_rank t k l fn) (edges_rank u k l fn)
        (AtEach fn.nodes (λ n i. SameEdges k l n i))
    more_edges k l fn =
        more_at fn.nodes _ _ (λ n i. SameEdges k l n i)
        (λ n i e. more_if (enters_functions i) k l n)

    abbrev SameContexts : Type 0
    SameContexts = AtEach p.functions (λ k fn. AtLabels p (λ l. SameContext (context_at k l) fn))

    abbrev SameAllEdges : Type 0
    SameAllEdges =
        AtEach p.functions (λ k fn. AtLabels p (λ l. AtEach fn.nodes (λ n i. SameEdges k l n i)))

    -- what is in range is all that there is
    state_back : SameContexts → (x : Context) (n : ℕ) (o : Option AbstractState) → u.state x n ≡ o
        → LeqOptionState o (t.state x n)
    state_back each x n None e = tt
    state_back each x n (Some a) e =
        let at = g.states x n a e in
        let same = each x.function.0 at.context.function at.context.function_is x.receiver
        at.context.receiver in
        subst (λ o. LeqOptionState o (t.state x n)) e (same.1.1 n at.info at.info_is)

    entry_back : SameContexts → (x : Context) (l : Label) (k : Key) (o : Option AbstractProperty)
        → u.entry x l k ≡ o → LeqOptionProperty o (t.entry x l k)
    entry_back each x l k None e = tt
    entry_back each x l k (Some q) e =
        let at = g.entries x l k q e in
        let same = each x.function.0 at.context.function at.context.function_is x.receiver
        at.context.receiver in
        subst (λ o. LeqOptionProperty o (t.entry x l k)) e (same.1.0 l at.label k at.key)

    grows_back : SameContexts × SameAllEdges → Grows u t
    grows_back each = record {
      context =
          λ x i. let at = g.contexts x i in
          (each.0 x.function.0 at.function at.function_is x.receiver at.receiver).0 i;
      state = λ x n. state_back each.0 x n (u.state x n) refl;
      entry = λ x l k. entry_back each.0 x l k (u.entry x l k) refl;
      edge = λ e i.
          let at = g.edges e i in
          let nodes = each.1 e.caller.function.0 at.caller.function at.caller.function_is
          e.caller.receiver at.caller.receiver in
          nodes e.node.0 at.info at.info_is at.enters e.callee.function.0 at.callee.function
          at.callee.function_is e.callee.receiver at.callee.receiver i;
    }

    pub more_table : IsMore (table_rank t) (table_rank u) (Grows u t)
    more_table =
        more_then _ _ grows_back (more_both _ _ _ _
        (more_at p.functions _ _ (λ k fn. AtLabels p (λ l. SameContext (context_at k l) fn))
        (λ k fn is. more_labels p _ _ (λ l. SameContext (context_at k l) fn)
        (λ l of. more_context (context_at k l) fn is)))
        (more_at p.functions _ _
        (λ k fn. AtLabels p (λ l. AtEach fn.nodes (λ n i. SameEdges k l n i)))
        (λ k fn is. more_labels p _ _ (λ l. AtEach fn.nodes (λ n i. SameEdges k l n i))
        (λ l of. more_edges k l fn))))

  -- ---- ranks are bounded

  few_flag : (x : Bool) → flag_rank x ≤ 1
  few_flag true = omega arith
  few_flag false = omega arith

  few_option_state : (fn : Function) (o : Option AbstractState)
      → option_rank (state_rank p fn.registers) o ≤ state_height p fn
  few_option_state fn None = omega arith
  few_option_state fn (Some a) = let few = few_state p fn.registers a in omega arith

  few_context : (t : Table) (x : Context) (fn : Function)
      → context_rank t x fn ≤ context_height p fn
  few_context t x fn =
      let flag = few_flag (t.context x) in
      let entries = few_labels p
      (λ l. sum_keys p (λ k. option_rank (property_rank p) (t.entry x l k)))
      (key_count p * (1 + property_height p)) (λ l of. few_keys p _ (1 + property_height p)
      (λ k at. few_option_property p (t.entry x l k))) in
      let states = few_at fn.nodes (λ n i. option_rank (state_rank p fn.registers) (t.state x n))
      (λ i. state_height p fn) (λ n i e. few_option_state fn (t.state x n)) in
      let all = few_each fn.nodes (state_height p fn) in
      omega arith

  few_edges_from : (t : Table) (k : ℕ) (l : Label) (n : ℕ)
      → edges_from t k l n ≤ length p.functions * label_count p
  few_edges_from t k l n =
      let each = few_at p.functions
      (λ j fn. sum_labels p (λ m. flag_rank (t.edge (edge_at k l n j m))))
      (λ fn. label_count p) (λ j fn is.
      let few = few_labels p (λ m. flag_rank (t.edge (edge_at k l n j m))) 1
      (λ m of. few_flag (t.edge (edge_at k l n j m))) in omega arith) in
      let all = few_each p.functions (label_count p) in
      omega arith

  few_if : (b : Bool) (t : Table) (k : ℕ) (l : Label) (n : ℕ)
      → (if b then edges_from t k l n else 0)
      ≤ (if b then length p.functions * label_count p else 0)
  few_if true t k l n = few_edges_from t k l n
  few_if false t k l n = omega arith

  few_edges : (t : Table) (k : ℕ) (l : Label) (fn : Function)
      → edges_rank t k l fn ≤ entering_count fn * (length p.functions * label_count p)
  few_edges t k l fn =
      let each = few_at fn.nodes (λ n i. if enters_functions i then edges_from t k l n else 0)
      (λ i. if enters_functions i then length p.functions * label_count p else 0)
      (λ n i e. few_if (enters_functions i) t k l n) in
      let all = few_passing enters_functions fn.nodes (length p.functions * label_count p) in
      omega arith

  pub few_table : (t : Table) → table_rank t ≤ height p
  few_table t =
      let contexts = few_at p.functions
      (λ k fn. sum_labels p (λ l. context_rank t (context_at k l) fn))
      (λ (fn : Function). label_count p * context_height p fn)
      (λ k fn is. few_labels p (λ l. context_rank t (context_at k l) fn) (context_height p fn)
      (λ l of. few_context t (context_at k l) fn)) in
      let c = label_count p * (length p.functions * label_count p) in
      let edges = few_at p.functions (λ k fn. sum_labels p (λ l. edges_rank t k l fn))
      (λ (fn : Function). entering_count fn * c)
      (λ k fn is. let few = few_labels p (λ l. edges_rank t k l fn)
      (entering_count fn * (length p.functions * label_count p))
      (λ l of. few_edges t k l fn) in omega arith) in
      let all = few_times entering_count p.functions c in
      omega arith
