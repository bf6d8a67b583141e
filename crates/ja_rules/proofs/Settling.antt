-- Items that are settled: each part that a visit joins in changes nothing.
use Rattle.std.specs.Prelude.{◌≡◌, ◌≢◌, ◌<◌, ◌==◌, ◌+◌, ◌&&◌, ◌↔◌, ◌++◌, ℕ, Bool, true, false, not, if◌then◌else◌, All, IsSome, IsTrue, List, [], ◌∷◌, length, map, take, get_or, Option, None, Some, is_some}
use Rattle.std.specs.List.{fold, list_any, AllByRecursion}
use Rattle.std.proofs.Common.{refl, sym, subst, ap, ◌∙◌, inl, inr, arith}
use Rattle.std.proofs.lemmas.Bool.{and_from, and_parts, cond-true, eq-eqb, eqb-true, false≢true, or_cases, true≢false}
use Rattle.std.proofs.lemmas.List.{map-append, take_more}
use Rattle.std.proofs.lemmas.List.Elements.{recursion_from_All}
use Rattle.std.proofs.lemmas.List.Sums.{fold-append}
use Rattle.std.proofs.lemmas.Map.Keys.{any_passes_from_place}
use Rattle.std.proofs.lemmas.Option.{same_Some, slice_get-get_or}
use Rattle.ja_base.specs.declared.ids.Context.{Context}
use Rattle.ja_base.specs.declared.ids.Label.{Label}
use Rattle.ja_base.specs.declared.ids.NodeId.{NodeId}
use Rattle.ja_base.proofs.Options.{none_not_some}
use Rattle.ja_graph.specs.declared.program.Program.{Program}
use Rattle.ja_abstract.specs.declared.abstraction.Key.{Key}
use Rattle.ja_abstract.specs.AbstractState.{join_states, same_key, AbstractState}
use Rattle.ja_abstract.specs.AbstractValue.{same_label, AbstractProperty}
use Rattle.ja_abstract.specs.Order.{LeqState}
use Rattle.ja_abstract.specs.Resolved.{Demands, Entries}
use Rattle.ja_abstract.proofs.Keys.{same_key-self, same_key-true}
use Rattle.ja_abstract.proofs.Labels.{same_label-self, same_label-true}
use denote.Ref.{Bor}
use Rattle.ja_value.specs.declared.property.AProp.{AProp}
use Rattle.ja_aheap.specs.declared.entries.DemandedEntries.{DemandedEntries}
use Rattle.ja_aheap.specs.Entries.{entries_of, IsEntryAt}
use Rattle.ja_aheap.specs.Objects.{demands_in, is_pair}
use Rattle.ja_astate.specs.declared.state.AState.{AState}
use Rattle.ja_astate.specs.State.{state_of}
use Rattle.ja_rows.specs.declared.table.Edge.{Edge}
use Rattle.ja_rows.specs.declared.table.Item.{Item}
use Rattle.ja_rows.specs.declared.table.Item.TheVariants.{Open}
use Rattle.ja_rows.specs.Out.{Given}
use Rattle.ja_rows.specs.Table.{applied, joined_state, root, same_context, same_edge, visited, with_demand, Effects, Table}
use Rattle.ja_rows.proofs.Applied.{same_context-self, same_edge-self}
use Rattle.ja_rows.proofs.Views.{same_context-true}
use Rattle.ja_transfer.specs.Outcomes.{given_by}
use Rattle.ja_flow.specs.code.Pairs.{with_set}
use Rattle.ja_flow.specs.declared.values.EntryValue.{EntryValue}
use Rattle.ja_rules.specs.declared.visits.Entry.{Entry}
use Rattle.ja_rules.specs.code.Entries.{demanded, IsDemanded}
use Rattle.ja_rules.specs.code.Filling.{IsOpened}
use Rattle.ja_table.specs.code.Growing.{with_context, with_edge, with_entries_at, with_given, with_state_at, with_states_at}
use Rattle.ja_rules.specs.code.Entries.{with_demands_at}
use Rattle.ja_rules.specs.code.Stepping.{with_entered}
use Rattle.ja_rules.proofs.Applied.{context_applied, demands_applied, edge_applied, of_context, of_demands, of_edge, of_given, of_state, state_applied, states_applied}
use Rattle.ja_rules.proofs.Demands.{demands_of_list}
use Rattle.ja_height.proofs.Grows.{applied_grows, grows_both, grows_equal, grows_same, Grows}
use Rattle.ja_table.proofs.StateOrder.{state_by_join}
use Rattle.ja_table.proofs.TableLemmas.{context_there, edge_there}
use Rattle.ja_table.proofs.Told.{told_both, told_by}
use Rattle.ja_rules.proofs.VisitEffects.{of_parts, parts_applied}
use Rattle.ja_rules.proofs.Visiting.{entries_back, open_told}

-- ---- one part after another

-- a part more: behind parts that change nothing it changes nothing exactly where it doesn't by
-- itself
pub told_next : (t u v : Table) (step : Table → Table) (b c : Bool) → Grows t u → Grows u v
    → v ≡ step u → IsTrue b ↔ (u ≡ t) → IsTrue c ↔ (step t ≡ t) → IsTrue (b && c) ↔ (v ≡ t)
told_next t u v step b c h k is first second =
    told_both b c first second (λ u_is step_is. is ∙ ap step u_is ∙ step_is) before
    (λ v_is. ap step (sym (before v_is)) ∙ sym is ∙ v_is)
  where
    before : v ≡ t → u ≡ t
    before v_is = sym (grows_equal t u h (subst (λ (w : Table). Grows u w) v_is k))

-- what was told of the visited table
pub told_visit : (p : Program) (item : Item) (t u : Table) (b : Bool) → visited p t item ≡ u
    → IsTrue b ↔ (u ≡ t) → IsTrue b ↔ (visited p t item ≡ t)
told_visit p item t u b is told = ((λ e. is ∙ told.0 e), (λ same. told.1 (sym is ∙ same)))

-- what a change tells
pub told_unchanged : (t u : Table) (b : Bool) → (not b ≡ true → u ≢ t) → (not b ≡ false → u ≡ t)
    → IsTrue b ↔ (u ≡ t)
told_unchanged t u true other same = told_by true (λ e. same refl) (λ e. absurd (true≢false e))
told_unchanged t u false other same =
    told_by false (λ e. absurd (false≢true e)) (λ e. other refl)

-- ---- each part grows

grows_by : (t u : Table) (fx : Effects) → u ≡ applied t fx → Grows t u
grows_by t u fx is = subst (λ (v : Table). Grows t v) (sym is) (applied_grows t fx)

pub context_grows : (t : Table) (x : Context) → Grows t (with_context t x)
context_grows t x = grows_by t (with_context t x) (of_context x) (context_applied t x)

pub edge_grows : (t : Table) (e : Edge) → Grows t (with_edge t e)
edge_grows t e = grows_by t (with_edge t e) (of_edge e) (edge_applied t e)

pub state_grows : (t : Table) (x : Context) (n : ℕ) (a : AbstractState)
    → Grows t (with_state_at t x n a)
state_grows t x n a =
    grows_by t (with_state_at t x n a) (of_state (record { context = x; node = n; state = a }))
    (state_applied t x n a)

pub states_grow : (t : Table) (x : Context) (given : Given) → Grows t (with_states_at t x given)
states_grow t x given =
    grows_by t (with_states_at t x given) (of_given x given) (states_applied t x given)

pub demands_grow : (t : Table) (x : Context) (d : Demands) → Grows t (with_demands_at t x d)
demands_grow t x d = grows_by t (with_demands_at t x d) (of_demands x d) (demands_applied t x d)

pub entry_grows : (t : Table) (e : Entry) → Grows t (with_entered t e)
entry_grows t e =
    grows_by t (with_entered t e) (of_parts e.edge e.edge.caller (state_of e.entered.state)
    (demands_in e.entered.demands))
    (parts_applied t e.edge (state_of e.entered.state) (demands_in e.entered.demands))

pub entries_grow : (t : Table) (es : List Entry) → Grows t (fold with_entered t es)
entries_grow t [] = grows_same t
entries_grow t (e ∷ es) =
    grows_both t (with_entered t e) (fold with_entered (with_entered t e) es) (entry_grows t e)
    (entries_grow (with_entered t e) es)

-- ---- a context, an edge

pub context_telling : (t : Table) (x : Context) (b : Bool) → t.context x ≡ b
    → IsTrue b ↔ (with_context t x ≡ t)
context_telling t x b is = (
  (λ e. sym (context_there t x (is ∙ e))),
  (λ same. sym is ∙ sym (ap (λ (u : Table). u.context x) same)
      ∙ cond-true (same_context x x) true (t.context x) (same_context-self x)),
)

pub edge_telling : (t : Table) (e : Edge) (b : Bool) → t.edge e ≡ b
    → IsTrue b ↔ (with_edge t e ≡ t)
edge_telling t e b is = (
  (λ h. sym (edge_there t e (is ∙ h))),
  (λ same. sym is ∙ sym (ap (λ (u : Table). u.edge e) same)
      ∙ cond-true (same_edge e e) true (t.edge e) (same_edge-self e)),
)

-- ---- a state

-- the one that is joined in is there
joined_there : (t : Table) (x : Context) (n : ℕ) (a : AbstractState)
    → (with_state_at t x n a).state x n ≡ Some (joined_state (t.state x n) a)
joined_there t x n a =
    ap (λ (f : ℕ → Option AbstractState). f n)
    (cond-true (same_context x x) (with_given (t.state x) (n, a)) (t.state x)
    (same_context-self x))
    ∙ cond-true (n == n) (Some (joined_state (t.state x n) a)) (t.state x n) (eq-eqb n n refl)

pub no_state_same : (t : Table) (x : Context) (n : ℕ) (a : AbstractState) → t.state x n ≡ None
    → with_state_at t x n a ≡ t → ⊥
no_state_same t x n a none same =
    none_not_some (sym none ∙ sym (ap (λ (u : Table). u.state x n) same) ∙ joined_there t x n a)

module _ (t : Table) (x : Context) (n : ℕ) (a k : AbstractState) (is : t.state x n ≡ Some k) where
  joined_is : Some (joined_state (t.state x n) a) ≡ Some (join_states k a)
  joined_is = ap (λ (o : Option AbstractState). Some (joined_state o a)) is

  state_stays : join_states k a ≡ k → with_state_at t x n a ≡ t
  state_stays same = λ i. record t { state = λ y m. at y m (same_context x y) refl i }
    where
      there : (m : ℕ) (b : Bool) → (n == m) ≡ b
          → (if b then Some (joined_state (t.state x m) a) else t.state x m) ≡ t.state x m
      there m true e =
          subst (λ j. Some (joined_state (t.state x j) a) ≡ t.state x j) (eqb-true n m e)
          (joined_is ∙ ap Some same ∙ sym is)
      there m false e = refl

      at : (y : Context) (m : ℕ) (b : Bool) → same_context x y ≡ b
          → (if b then with_given (t.state y) (n, a) else t.state y) m ≡ t.state y m
      at y m true e =
          subst (λ (z : Context). with_given (t.state z) (n, a) m ≡ t.state z m)
          (same_context-true x y e) (there m (n == m) refl)
      at y m false e = refl

  pub state_telling : (b : Bool) → IsTrue b ↔ LeqState a k
      → IsTrue b ↔ (with_state_at t x n a ≡ t)
  state_telling b told = (
    (λ e. state_stays ((state_by_join a k).0 (told.0 e))),
    (λ same. told.1 ((state_by_join a k).1 (same_Some (join_states k a) k
        (sym joined_is ∙ sym (joined_there t x n a)
        ∙ ap (λ (u : Table). u.state x n) same ∙ is)))),
  )

-- ---- states

states_last : (t : Table) (x : Context) (gs : Given) (g : ℕ × AbstractState)
    → with_states_at t x (gs ++ g ∷ []) ≡ with_state_at (with_states_at t x gs) x g.0 g.1
states_last t x [] g = refl
states_last t x (h ∷ hs) g = states_last (with_state_at t x h.0 h.1) x hs g

pub states_next : (t : Table) (x : Context) (xs : List (NodeId × AState)) (k : ℕ)
    (d : NodeId × AState) (b c : Bool) → k < length xs → d ≡ get_or xs k d
    → IsTrue b ↔ (with_states_at t x (map given_by (take k xs)) ≡ t)
    → IsTrue c ↔ (with_state_at t x d.0.0 (state_of d.1) ≡ t)
    → IsTrue (b && c) ↔ (with_states_at t x (map given_by (take (k + 1) xs)) ≡ t)
states_next t x xs k d b c within is first second =
    let g = given_by d in
    let u = with_states_at t x (map given_by (take k xs)) in
    let more : with_states_at t x (map given_by (take (k + 1) xs)) ≡ with_state_at u x g.0 g.1 =
    ap (λ (ys : List (NodeId × AState)). with_states_at t x (map given_by ys))
    (take_more xs k d within ∙ ap (λ (e : NodeId × AState). take k xs ++ e ∷ []) (sym is))
    ∙ ap (with_states_at t x) (map-append given_by (take k xs) (d ∷ []))
    ∙ states_last t x (map given_by (take k xs)) g in
    let told = told_next t u (with_state_at u x g.0 g.1) (λ s. with_state_at s x g.0 g.1) b c
    (states_grow t x (map given_by (take k xs))) (state_grows u x g.0 g.1) refl first second in
    ((λ e. more ∙ told.0 e), (λ same. told.1 (sym more ∙ same)))

-- ---- demands

-- a pair that is looked up
pub entry_missing : (e : DemandedEntries) (l : Label) (k : Key) (o : Option (Bor AProp)) (b : Bool)
    → IsEntryAt e l k o → is_some o ≡ not b → b ≡ true → IsSome (entries_of e l k) → ⊥
entry_missing e l k None b at is none some = false≢true (ap is_some (sym at) ∙ some)
entry_missing e l k (Some q) b at is none some = true≢false (is ∙ ap not none)

pub entry_there : (e : DemandedEntries) (l : Label) (k : Key) (o : Option (Bor AProp)) (b : Bool)
    → IsEntryAt e l k o → is_some o ≡ not b → b ≡ false → IsSome (entries_of e l k)
entry_there e l k None b at is some = absurd (false≢true (is ∙ ap not some))
entry_there e l k (Some q) b at is some = ap is_some at

pair_there : (e : Entries) (pairs : List (Label × Key)) → AllByRecursion (IsDemanded e) pairs
    → (l : Label) (k : Key) → list_any (is_pair l k) pairs ≡ true → IsSome (e l k)
pair_there e [] all l k h = absurd (false≢true h)
pair_there e (q ∷ qs) all l k h =
    elim (or_cases (is_pair l k q) (list_any (is_pair l k) qs) h) [
      | inl here ↦
          let parts = and_parts (same_label q.0 l) (same_key q.1 k) here in
          subst (λ (m : Label). IsSome (e m k)) (same_label-true q.0 l parts.0)
          (subst (λ (j : Key). IsSome (e q.0 j)) (same_key-true q.1 k parts.1) all.0)
      | inr rest ↦ pair_there e qs all.1 l k rest
    ]

undemanded : (o : Option AbstractProperty) (b : Bool) → (b ≡ true → IsSome o)
    → with_demand o b ≡ o
undemanded o false h = refl
undemanded (Some q) true h = refl
undemanded None true h = absurd (false≢true (h refl))

demanded_some : (o : Option AbstractProperty) (b : Bool) → b ≡ true → with_demand o b ≡ o
    → IsSome o
demanded_some o b e same =
    ap is_some (sym same ∙ ap (with_demand o) e)

module _ (t : Table) (x : Context) (e : Entries) (pairs : List (Label × Key))
    (is : t.entry x ≡ e) where
  demands_there : All (IsDemanded e) pairs → with_demands_at t x (demands_of_list pairs) ≡ t
  demands_there all = ap (with_entries_at t x) entries_are ∙ entries_back t x
    where
      at : (l : Label) (k : Key)
          → demanded (t.entry x) (demands_of_list pairs) l k ≡ t.entry x l k
      at l k =
          undemanded (t.entry x l k) (list_any (is_pair l k) pairs)
          (λ h. subst (λ (f : Entries). IsSome (f l k)) (sym is)
          (pair_there e pairs (recursion_from_All (IsDemanded e) pairs all) l k h))

      entries_are : demanded (t.entry x) (demands_of_list pairs) ≡ t.entry x
      entries_are = λ i l k. at l k i

  demands_same : with_demands_at t x (demands_of_list pairs) ≡ t → All (IsDemanded e) pairs
  demands_same same k d within =
      let q = get_or pairs k d in
      let among = any_passes_from_place (is_pair q.0 q.1) pairs k q
      (slice_get-get_or pairs k d within) (is_itself q) in
      subst (λ (f : Entries). IsSome (f q.0 q.1)) is
      (demanded_some (t.entry x q.0 q.1) (list_any (is_pair q.0 q.1) pairs) among
      (λ i. entries_are i q.0 q.1))
    where
      is_itself : (q : Label × Key) → is_pair q.0 q.1 q ≡ true
      is_itself q = and_from (same_label q.0 q.0) (same_key q.1 q.1) (same_label-self q.0)
          (same_key-self q.1)

      entries_are : demanded (t.entry x) (demands_of_list pairs) ≡ t.entry x
      entries_are =
          sym (cond-true (same_context x x) (demanded (t.entry x) (demands_of_list pairs))
          (t.entry x) (same_context-self x)) ∙ ap (λ (u : Table). u.entry x) same

  pub demands_telling : (b : Bool) → IsTrue b ↔ All (IsDemanded e) pairs
      → IsTrue b ↔ (with_demands_at t x (demands_of_list pairs) ≡ t)
  demands_telling b told =
      ((λ h. demands_there (told.0 h)), (λ same. told.1 (demands_same same)))

-- ---- entries

pub entry_telling : (t : Table) (e : Entry) (reached joined asked called : Bool)
    → t.context e.edge.callee ≡ reached
    → IsTrue joined ↔ (with_state_at t e.edge.callee 0 (state_of e.entered.state) ≡ t)
    → IsTrue asked ↔ (with_demands_at t e.edge.caller (demands_in e.entered.demands) ≡ t)
    → t.edge e.edge ≡ called
    → IsTrue (((reached && joined) && asked) && called) ↔ (with_entered t e ≡ t)
entry_telling t e reached joined asked called reached_is joined_told asked_told called_is =
    let x = e.edge.callee in
    let a = state_of e.entered.state in
    let d = demands_in e.entered.demands in
    let u = with_context t x in
    let v = with_state_at u x 0 a in
    let w = with_demands_at v e.edge.caller d in
    let to_v = grows_both t u v (context_grows t x) (state_grows u x 0 a) in
    let to_w = grows_both t v w to_v (demands_grow v e.edge.caller d) in
    told_next t w (with_edge w e.edge) (λ s. with_edge s e.edge) ((reached && joined) && asked)
    called to_w (edge_grows w e.edge) refl
    (told_next t v w (λ s. with_demands_at s e.edge.caller d) (reached && joined) asked to_v
    (demands_grow v e.edge.caller d) refl
    (told_next t u v (λ s. with_state_at s x 0 a) reached joined (context_grows t x)
    (state_grows u x 0 a) refl (context_telling t x reached reached_is) joined_told)
    asked_told)
    (edge_telling t e.edge called called_is)

pub entries_next : (t : Table) (xs : List Entry) (k : ℕ) (d : Entry) (b c : Bool)
    → k < length xs → d ≡ get_or xs k d
    → IsTrue b ↔ (fold with_entered t (take k xs) ≡ t)
    → IsTrue c ↔ (with_entered t d ≡ t)
    → IsTrue (b && c) ↔ (fold with_entered t (take (k + 1) xs) ≡ t)
entries_next t xs k d b c within is first second =
    let u = fold with_entered t (take k xs) in
    let more : fold with_entered t (take (k + 1) xs) ≡ with_entered u d =
    ap (λ (ys : List Entry). fold with_entered t ys)
    (take_more xs k d within ∙ ap (λ (e : Entry). take k xs ++ e ∷ []) (sym is))
    ∙ fold-append with_entered t (take k xs) (d ∷ []) in
    let told = told_next t u (with_entered u d) (λ s. with_entered s d) b c
    (entries_grow t (take k xs)) (entry_grows u d) refl first second in
    ((λ h. more ∙ told.0 h), (λ same. told.1 (sym more ∙ same)))

-- ---- items

pub none_left : (vs : List EntryValue) (b : Bool) → IsTrue b ↔ (vs ≡ []) → not b ≡ false ↔ (vs ≡ [])
none_left vs true told = ((λ e. told.0 refl), (λ e. refl))
none_left vs false told =
    ((λ e. absurd (true≢false e)), (λ e. absurd (false≢true (told.1 e))))

pub none_told : {X : Type 0} (xs : List X) (n : ℕ) (b : Bool) → n ≡ length xs → b ≡ (n == 0)
    → IsTrue b ↔ (xs ≡ [])
none_told [] n b count is =
    told_by b (λ e. refl) (λ e none. false≢true (sym e ∙ is ∙ eq-eqb n 0 count))
none_told (x ∷ xs) n b count is =
    told_by b (λ e. absurd (omega (arith, eqb-true n 0 (sym is ∙ e), count)))
    (λ e none. absurd (cc))

pub open_settled : (p : Program) (t : Table) (vs : List EntryValue) (b : Bool)
    → IsOpened p t vs → IsTrue b ↔ (vs ≡ []) → IsTrue b ↔ (visited p t Open ≡ t)
open_settled p t vs b opens told =
    let u = with_entries_at t root (with_set (t.entry root) vs) in
    let done = open_told p t u root (t.entry root) vs (not b) refl refl refl opens.set
    opens.changed (none_left vs b told) in
    told_visit p Open t u b done.visited_is (told_unchanged t u b done.other done.same)
