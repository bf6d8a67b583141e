-- Tables that are built of what is listed.
use Rattle.std.specs.Prelude.{◌≡◌, ◌≤◌, ◌+◌, ◌-◌, ℕ, zero, suc, List, [], ◌∷◌, ◌++◌, length, map, slice_get, Option, Some, None}
use Rattle.std.specs.List.{AllByRecursion, flat_map, range_with_len}
use Rattle.std.specs.Option.{option_and_then}
use Rattle.std.proofs.Common.{refl, sym, subst, ap, ◌∙◌, arith, append_assoc, append-nil}
use Rattle.std.proofs.lemmas.List.{length-append, length_push, map-append}
use lib.Chars.{codes}
use Rattle.serde_json.specs.Data.{Data, object, member, no_members}
use Rattle.ja_base.specs.declared.ids.Context.{Context}
use Rattle.ja_base.specs.declared.ids.FnId.{FnId}
use Rattle.ja_base.proofs.Lists.{all_append, all_at, all_weaker}
use Rattle.ja_graph.specs.declared.program.Program.{Program}
use Rattle.ja_graph.specs.Program.{nodes_of}
use Rattle.ja_machine.specs.Frames.{registers_of}
use Rattle.ja_aheap.specs.Entries.{entries_of}
use Rattle.ja_astate.specs.declared.state.AState.{AState}
use Rattle.ja_astate.specs.State.{IsStateOf}
use Rattle.ja_rows.specs.Table.{node_numbers}
use Rattle.ja_table.specs.declared.table.ContextTable.{ContextTable}
use Rattle.ja_table.specs.declared.table.NodeTable.{NodeTable}
use Rattle.ja_table.specs.Tables.{kept_state, FitsContext, IsContext}
use Rattle.ja_table.specs.code.Growing.{no_nodes}
use Rattle.ja_table.proofs.Ascending.{Ascends}
use Rattle.ja_report.specs.Lines.{entry_lines}
use Rattle.ja_cert_read.specs.declared.contexts.ContextAt.{ContextAt}
use Rattle.ja_cert_read.specs.declared.points.PointAt.{PointAt}
use Rattle.ja_cert.specs.Certificate.{context_data, label_data, line_data, listed, points_data, whole}
use Rattle.ja_cert.specs.Wrong.{point_wrong}
use Rattle.ja_cert_read.specs.code.Building.{entry_data, AreEntriesOfParts, AreRight, IsOwnState}
use Rattle.ja_cert_read.specs.code.Contexts.{listed_data, node_state, own_data, point_data, AreNodesOf, AreTablesOf, HasOwnState, IsContextAt, IsSaidOf}
use Rattle.ja_cert_read.proofs.Said.{node_said}
use Rattle.ja_cert_read.proofs.ContextsRight.{points_ascend, points_placed, IsPlaced, NodeBefore}

-- ---- the nodes of a function, one after another

-- what is written of nodes that are numbered from a number on
abbrev pub nodes_from : Program → FnId → ℕ → List NodeTable → List Data
nodes_from p f n [] = []
nodes_from p f n (t ∷ ts) = node_state p f n (Some t) ++ nodes_from p f (n + 1) ts

nodes_append : (p : Program) (f : FnId) (n : ℕ) (xs ys : List NodeTable)
    → nodes_from p f n (xs ++ ys) ≡ nodes_from p f n xs ++ nodes_from p f (n + length xs) ys
nodes_append p f n [] ys = let here : n ≡ n + 0 = omega arith in ap (λ k. nodes_from p f k ys) here
nodes_append p f n (x ∷ xs) ys =
    let more : n + 1 + length xs ≡ n + suc (length xs) = omega arith in
    ap (λ r. node_state p f n (Some x) ++ r) (nodes_append p f (n + 1) xs ys)
    ∙ sym (append_assoc (node_state p f n (Some x)) (nodes_from p f (n + 1) xs)
    (nodes_from p f (n + 1 + length xs) ys))
    ∙ ap (λ k. (node_state p f n (Some x) ++ nodes_from p f (n + 1) xs) ++ nodes_from p f k ys) more

nodes_none : (p : Program) (f : FnId) (n m : ℕ) → nodes_from p f n (no_nodes m) ≡ []
nodes_none p f n zero = refl
nodes_none p f n (suc m) = nodes_none p f (n + 1) m

nodes_filled : (p : Program) (f : FnId) (nodes : List NodeTable) (m : ℕ)
    → nodes_from p f 0 (nodes ++ no_nodes m) ≡ nodes_from p f 0 nodes
nodes_filled p f nodes m =
    nodes_append p f 0 nodes (no_nodes m)
    ∙ ap (λ r. nodes_from p f 0 nodes ++ r) (nodes_none p f (0 + length nodes) m)
    ∙ append-nil (nodes_from p f 0 nodes)

-- the same by the numbers of nodes
at_place : {X : Type 0} (front ts : List X) (t : X)
    → slice_get (front ++ t ∷ ts) (length front) ≡ Some t
at_place [] ts t = refl
at_place (x ∷ front) ts t = at_place front ts t

abbrev written_at : Program → FnId → List NodeTable → ℕ → List Data
written_at p f nodes n = node_state p f n (slice_get nodes n)

by_numbers : (p : Program) (f : FnId) (front ts : List NodeTable)
    → flat_map (written_at p f (front ++ ts)) (range_with_len (length front) (length ts))
    ≡ nodes_from p f (length front) ts
by_numbers p f front [] = refl
by_numbers p f front (t ∷ ts) =
    let Numbered : List NodeTable → ℕ → Type 0 =
    λ all k. flat_map (written_at p f all) (range_with_len k (length ts)) ≡ nodes_from p f k ts in
    let later : Numbered ((front ++ t ∷ []) ++ ts) (length (front ++ t ∷ [])) =
    by_numbers p f (front ++ t ∷ []) ts in
    let counted : Numbered ((front ++ t ∷ []) ++ ts) (length front + 1) =
    subst (Numbered ((front ++ t ∷ []) ++ ts)) (length_push front t) later in
    let rest : Numbered (front ++ t ∷ ts) (length front + 1) =
    subst (λ all. Numbered all (length front + 1)) (append_assoc front (t ∷ []) ts) counted in
    ap (λ o. node_state p f (length front) o ++ flat_map (written_at p f (front ++ t ∷ ts))
    (range_with_len (length front + 1) (length ts))) (at_place front ts t)
    ∙ ap (λ r. node_state p f (length front) (Some t) ++ r) rest

-- ---- so far

abbrev pub HasState : Program → FnId → NodeTable → Type 0
HasState p f t = (s : AState) → t.state ≡ Some s → IsOwnState p f s

-- the nodes up to the next one that is listed
pub record IsFront (p : Program) (f : FnId) (all rest : List PointAt) (nodes : List NodeTable) :
    Type 0 where
  pub written : nodes_from p f 0 nodes ++ map (point_data p f) rest ≡ map (point_data p f) all
  pub states : AllByRecursion (HasState p f) nodes
  pub ahead : AllByRecursion (λ (x : PointAt). length nodes ≤ x.node.0) rest
  pub placed : AllByRecursion (IsPlaced p f) rest
  pub ascends : Ascends NodeBefore rest
  pub within : length nodes ≤ length (nodes_of p f)

none_have : (p : Program) (f : FnId) (n : ℕ) → AllByRecursion (HasState p f) (no_nodes n)
none_have p f zero = tt
none_have p f (suc n) = ((λ s e. absurd (cc)), none_have p f n)

none_count : (n : ℕ) → length (no_nodes n) ≡ n
none_count zero = refl
none_count (suc n) = ap suc (none_count n)

each_ahead : (xs : List PointAt) → AllByRecursion (λ (x : PointAt). 0 ≤ x.node.0) xs
each_ahead [] = tt
each_ahead (x ∷ xs) = (omega arith, each_ahead xs)

pub front_start : (p : Program) (f : FnId) (all : List PointAt)
    → AreRight (point_wrong p f) (point_data p f) all → AllByRecursion (HasOwnState p f) all
    → IsFront p f all all []
front_start p f all right have = record {
  written = refl;
  states = tt;
  ahead = each_ahead all;
  placed = points_placed p f all right have;
  ascends = points_ascend p f all right;
  within = omega arith;
}

pub front_more : (p : Program) (f : FnId) (all : List PointAt) (x : PointAt) (rest : List PointAt)
    (nodes filled more : List NodeTable) (t : NodeTable) → IsFront p f all (x ∷ rest) nodes
    → filled ≡ nodes ++ no_nodes (x.node.0 - length nodes)
    → t ≡ record { state = Some x.state } → more ≡ filled ++ t ∷ []
    → IsFront p f all rest more
front_more p f all x rest nodes filled more t was filling is adding =
    let s : AState = x.state in
    let own : IsOwnState p f s =
    record { fits = was.placed.0.0.fits; said = was.placed.0.0.said } in
    let gap : List NodeTable = no_nodes (x.node.0 - length nodes) in
    let reached : length nodes ≤ x.node.0 = was.ahead.0 in
    let count : length filled ≡ x.node.0 =
    omega (
      arith,
      ap length filling,
      length-append nodes gap,
      none_count (x.node.0 - length nodes),
      reached,
    ) in
    let here : nodes_from p f 0 filled ≡ nodes_from p f 0 nodes =
    ap (nodes_from p f 0) filling ∙ nodes_filled p f nodes (x.node.0 - length nodes) in
    let number : 0 + length filled ≡ x.node.0 = omega (arith, count) in
    let one : nodes_from p f (0 + length filled) (t ∷ []) ≡ point_data p f x ∷ [] =
    ap (λ k. nodes_from p f k (t ∷ [])) number
    ∙ ap (λ (u : NodeTable). node_state p f x.node.0 (Some u) ++ []) is in
    let whole : nodes_from p f 0 more ≡ nodes_from p f 0 nodes ++ point_data p f x ∷ [] =
    ap (nodes_from p f 0) adding ∙ nodes_append p f 0 filled (t ∷ [])
    ∙ ap (λ r. r ++ nodes_from p f (0 + length filled) (t ∷ [])) here
    ∙ ap (λ r. nodes_from p f 0 nodes ++ r) one in
    let size : length more ≡ x.node.0 + 1 =
    omega (arith, ap length adding, length_push filled t, count) in
    record {
      written =
          ap (λ r. r ++ map (point_data p f) rest) whole
          ∙ append_assoc (nodes_from p f 0 nodes) (point_data p f x ∷ []) (map (point_data p f) rest)
          ∙ was.written;
      states =
          subst (AllByRecursion (HasState p f)) (sym (adding ∙ ap (λ l. l ++ t ∷ []) filling))
          (all_append (HasState p f) (nodes ++ gap) (t ∷ [])
          (all_append (HasState p f) nodes gap was.states (none_have p f _))
          ((λ u e. let same : s ≡ u = cc in subst (IsOwnState p f) same own), tt));
      ahead = all_weaker (NodeBefore x) (λ (y : PointAt). length more ≤ y.node.0)
          (λ y k. omega (arith, k, size)) rest was.ascends.0;
      placed = was.placed.1;
      ascends = was.ascends.1;
      within = omega (arith, size, was.placed.0.1);
    }

kept_has : (p : Program) (f : FnId) (nodes : List NodeTable) (n : ℕ) (s : AState)
    (o : Option NodeTable) → AllByRecursion (HasState p f) nodes → slice_get nodes n ≡ o
    → option_and_then (λ (t : NodeTable). t.state) o ≡ Some s → IsOwnState p f s
kept_has p f nodes n s None all is h = absurd (cc)
kept_has p f nodes n s (Some t) all is h = all_at (HasState p f) nodes n t all is s h

pub front_end : (p : Program) (f : FnId) (all rest : List PointAt) (nodes filled : List NodeTable)
    (count : ℕ) → IsFront p f all rest nodes → rest ≡ []
    → filled ≡ nodes ++ no_nodes (count - length nodes) → count ≡ length (nodes_of p f)
    → AreNodesOf p f all filled
front_end p f all rest nodes filled count was none filling count_is =
    let gap : List NodeTable = no_nodes (count - length nodes) in
    let size : length filled ≡ length (nodes_of p f) =
    omega (
      arith,
      ap length filling,
      length-append nodes gap,
      none_count (count - length nodes),
      was.within,
      count_is,
    ) in
    let have : AllByRecursion (HasState p f) filled = subst (AllByRecursion (HasState p f))
    (sym filling) (all_append (HasState p f) nodes gap was.states (none_have p f _)) in
    let written : nodes_from p f 0 filled ≡ map (point_data p f) all =
    ap (nodes_from p f 0) filling ∙ nodes_filled p f nodes (count - length nodes)
    ∙ sym (append-nil (nodes_from p f 0 nodes))
    ∙ ap (λ xs. nodes_from p f 0 nodes ++ map (point_data p f) xs) (sym none) ∙ was.written in
    record {
      count = size;
      states = λ n s k. kept_has p f filled n s (slice_get filled n) have refl k;
      listed =
          ap (λ n. flat_map (written_at p f filled) (range_with_len 0 n)) (sym size)
          ∙ by_numbers p f [] filled ∙ written;
    }

-- ---- the tables of contexts, one after another

pub record AreFrontTables (p : Program) (all rest : List ContextAt) (tables : List ContextTable) :
    Type 0 where
  pub fit : AllByRecursion (FitsContext p) tables
  pub contexts_are : map (λ (c : ContextTable). c.context) tables
      ++ map (λ (x : ContextAt). x.context) rest ≡ map (λ (x : ContextAt). x.context) all
  pub listed : map (own_data p) tables ++ map (listed_data p) rest ≡ map (listed_data p) all
  pub said : AllByRecursion (IsSaidOf p) tables
  pub right : AllByRecursion (IsContextAt p) rest

pub tables_start : (p : Program) (all : List ContextAt) → AllByRecursion (IsContextAt p) all
    → AreFrontTables p all all []
tables_start p all right =
    record { fit = tt; contexts_are = refl; listed = refl; said = tt; right = right }

pub tables_more : (p : Program) (all : List ContextAt) (x : ContextAt) (rest : List ContextAt)
    (tables more : List ContextTable) (c : ContextTable) → AreFrontTables p all (x ∷ rest) tables
    → FitsContext p c → c.context ≡ x.context → own_data p c ≡ listed_data p x → IsSaidOf p c
    → more ≡ tables ++ c ∷ [] → AreFrontTables p all rest more
tables_more p all x rest tables more c was fits context written said adding =
    let of : ContextTable → Context = λ d. d.context in
    let listed_of : ContextAt → Context = λ y. y.context in
    record {
      fit =
          subst (AllByRecursion (FitsContext p)) (sym adding)
          (all_append (FitsContext p) tables (c ∷ []) was.fit (fits, tt));
      contexts_are =
          ap (λ cs. map of cs ++ map listed_of rest) adding
          ∙ ap (λ ks. ks ++ map listed_of rest) (map-append of tables (c ∷ []))
          ∙ ap (λ k. (map of tables ++ k ∷ []) ++ map listed_of rest) context
          ∙ append_assoc (map of tables) (x.context ∷ []) (map listed_of rest) ∙ was.contexts_are;
      listed =
          ap (λ cs. map (own_data p) cs ++ map (listed_data p) rest) adding
          ∙ ap (λ ds. ds ++ map (listed_data p) rest) (map-append (own_data p) tables (c ∷ []))
          ∙ ap (λ d. (map (own_data p) tables ++ d ∷ []) ++ map (listed_data p) rest) written
          ∙ append_assoc (map (own_data p) tables) (listed_data p x ∷ [])
          (map (listed_data p) rest) ∙ was.listed;
      said =
          subst (AllByRecursion (IsSaidOf p)) (sym adding)
          (all_append (IsSaidOf p) tables (c ∷ []) was.said (said, tt));
      right = was.right.1;
    }

pub tables_end : (p : Program) (all : List ContextAt) (tables : List ContextTable)
    → AreFrontTables p all [] tables → AreTablesOf p all tables
tables_end p all tables was = record {
  fit = was.fit;
  contexts_are = sym (append-nil (map (λ (c : ContextTable). c.context) tables)) ∙ was.contexts_are;
  listed = sym (append-nil (map (own_data p) tables)) ∙ was.listed;
  said = was.said;
}

-- ---- one table

pub table_listed : (p : Program) (x : ContextAt) (c : ContextTable) → c.context ≡ x.context
    → AreNodesOf p x.context.function x.points.items c.nodes.items
    → AreEntriesOfParts p x.entries.items c.entries → own_data p c ≡ listed_data p x
unfolding own_data listed_data context_data points_data
table_listed p x c same nodes entries =
    let filled : Context → List Data → List Data → Data =
    λ y es ns. object (member (codes "entries") (listed es)
    (member (codes "function") (whole y.function.0)
    (member (codes "points") (listed ns)
    (member (codes "receiver") (label_data y.receiver) no_members)))) in
    let es : List Data = map (line_data p) (entry_lines p (entries_of c.entries)) in
    let ns : Context → List Data =
    λ y. flat_map (λ n. node_state p y.function n (slice_get c.nodes.items n))
    (node_numbers p y.function) in
    ap (λ y. filled y es (ns y)) same
    ∙ ap (λ ds. filled x.context ds (ns x.context)) entries.entries_listed
    ∙ ap (filled x.context (map (entry_data p) x.entries.items)) nodes.listed

pub table_fits_context : (p : Program) (x : ContextAt) (c : ContextTable) → c.context ≡ x.context
    → IsContext p x.context → AreNodesOf p x.context.function x.points.items c.nodes.items
    → AreEntriesOfParts p x.entries.items c.entries → FitsContext p c
table_fits_context p x c same is nodes entries = record {
  context = subst (IsContext p) (sym same) is;
  nodes =
      c.nodes.ok.0 ∙ nodes.count
      ∙ ap (λ (y : Context). length (nodes_of p y.function)) (sym same);
  states =
      λ n s k. subst (λ (y : Context). IsStateOf p (registers_of p y.function) s) (sym same)
      (nodes.states n s k).fits;
  labels = entries.labels;
  keys = entries.keys;
}

-- .. which says nothing of what no program has
pub context_said : (p : Program) (x : ContextAt) (c : ContextTable)
    → AreNodesOf p x.context.function x.points.items c.nodes.items
    → AreEntriesOfParts p x.entries.items c.entries → IsSaidOf p c
context_said p x c nodes entries = record {
  states = λ n. node_said p x.context.function (kept_state c.nodes.items n) (nodes.states n);
  entries = entries.said;
}

-- ---- by what an iterator has left

pub front_begin : (p : Program) (f : FnId) (all rest : List PointAt) (nodes : List NodeTable)
    → AreRight (point_wrong p f) (point_data p f) all → AllByRecursion (HasOwnState p f) all
    → rest ≡ all → nodes ≡ [] → IsFront p f all rest nodes
front_begin p f all rest nodes right have left none =
    subst (λ (ts : List NodeTable). IsFront p f all rest ts) (sym none)
    (subst (λ (xs : List PointAt). IsFront p f all xs []) (sym left)
    (front_start p f all right have))

pub front_next : (p : Program) (f : FnId) (all old : List PointAt) (x : PointAt)
    (rest : List PointAt) (nodes : List NodeTable) → IsFront p f all old nodes → old ≡ x ∷ rest
    → IsFront p f all (x ∷ rest) nodes
front_next p f all old x rest nodes was next =
    subst (λ (xs : List PointAt). IsFront p f all xs nodes) next was

pub tables_begin : (p : Program) (all rest : List ContextAt) (tables : List ContextTable)
    → AllByRecursion (IsContextAt p) all → rest ≡ all → tables ≡ []
    → AreFrontTables p all rest tables
tables_begin p all rest tables right left none =
    subst (λ (cs : List ContextTable). AreFrontTables p all rest cs) (sym none)
    (subst (λ (xs : List ContextAt). AreFrontTables p all xs []) (sym left)
    (tables_start p all right))

pub tables_next : (p : Program) (all old : List ContextAt) (x : ContextAt) (rest : List ContextAt)
    (tables : List ContextTable) → AreFrontTables p all old tables → old ≡ x ∷ rest
    → AreFrontTables p all (x ∷ rest) tables
tables_next p all old x rest tables was next =
    subst (λ (xs : List ContextAt). AreFrontTables p all xs tables) next was

pub tables_ended : (p : Program) (all rest : List ContextAt) (tables : List ContextTable)
    → AreFrontTables p all rest tables → rest ≡ [] → AreTablesOf p all tables
tables_ended p all rest tables was none =
    tables_end p all tables
    (subst (λ (xs : List ContextAt). AreFrontTables p all xs tables) none was)
