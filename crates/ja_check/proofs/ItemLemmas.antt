-- The items of a table that is kept are those of its table, in order: each is an item, and no
-- other is.
use Rattle.std.specs.Prelude.{◌≡◌, ◌≢◌, ◌<◌, ◌≤◌, ◌+◌, ◌++◌, ℕ, IsSome, IsTrue, List, [], ◌∷◌, Some, Result, Ok, Err, IfErr, is_some, length, map, take, drop, get_or, slice_get, All}
use Rattle.std.specs.List.{flat_map, AllByRecursion}
use Rattle.std.proofs.Common.{refl, sym, ap, ◌∙◌, subst, inl, inr, arith}
use Rattle.std.proofs.lemmas.Bool.{cases_Bool, cond_both, false≢true}
use Rattle.std.proofs.lemmas.List.Elements.{All-from_recursion, recursion_from_All}
use Rattle.std.proofs.lemmas.List.Folds.{flat_map-map}
use Rattle.ja_base.specs.declared.ids.Context.{Context}
use Rattle.ja_base.specs.declared.ids.NodeId.{NodeId}
use Rattle.ja_base.proofs.Lists.{all_append, map_after, within_from_some}
use Rattle.ja_graph.specs.declared.program.Program.{Program}
use Rattle.ja_graph.specs.Program.{nodes_of}
use Rattle.ja_machine.proofs.Lists.{all_from, all_map, all_of, range_within}
use Rattle.ja_abstract.specs.Lists.{Member}
use Rattle.ja_abstract.proofs.Lists.{member-append_left, member-append_right, member-flat_map, member-map}
use Rattle.ja_rows.specs.declared.table.Edge.{Edge}
use Rattle.ja_rows.specs.declared.table.Item.{Item}
use Rattle.ja_rows.specs.declared.table.Item.TheVariants.{Open, Step, Fill, Back}
use Rattle.ja_rows.specs.Listed.{contexts_of, edges_of}
use Rattle.ja_rows.specs.Table.{Table, node_numbers, same_edge, visited, HasOpening, IsClosed, IsItem}
use Rattle.ja_table.specs.declared.table.ATable.{ATable}
use Rattle.ja_table.specs.declared.table.CallEdge.{CallEdge}
use Rattle.ja_table.specs.declared.table.ContextTable.{ContextTable}
use Rattle.ja_table.specs.Tables.{table_of, Fits}
use Rattle.ja_table.proofs.Found.{found_state, unreached_state}
use Rattle.ja_rules.proofs.NodeFacts.{node_there}
use Rattle.ja_table.proofs.Kept.{edge_there}
use Rattle.ja_table.proofs.Places.{edges_order}
use Rattle.ja_table.proofs.TableUpdates.{own_found}
use Rattle.ja_table.proofs.Ascending.{first_kept, flat_map_each, listed, number_listed, of_member}
use Rattle.ja_table.proofs.ListedContexts.{contexts_listed, kept_is_reached}
use Rattle.ja_table.proofs.ListedEdges.{edges_listed}
use Rattle.ja_check.specs.declared.fault.CheckFault.{CheckFault}
use Rattle.ja_check.specs.declared.fault.CheckFault.TheVariants.{NotOpen, NotClosed, Memory}
use Rattle.ja_check.specs.Check.{items_of, step_at, steps_at, steps_of, Explains, IsFirstAmong}
use Rattle.ja_check.specs.code.Checking.{steps_in, StopsAt}
use Rattle.ja_check.proofs.Lists.{all_flat_map, parted}

-- ---- the list

module _ (p : Program) (t : ATable) (fits : Fits p t) where
  abbrev steps_from : Context → List Item
  steps_from x = steps_at p x ((table_of t).state x)

  kept_steps : (i : ℕ) (c : ContextTable) → slice_get t.contexts.items i ≡ Some c
      → steps_from c.context ≡ steps_in p c
  kept_steps i c is =
      let found = own_found t.contexts.items t.edges.items i c c fits.ordered is refl in
      λ j. steps_at p c.context (λ n. found_state t c.context c found n j)

  steps_listed : flat_map (steps_in p) t.contexts.items ≡ steps_of p (table_of t)
  steps_listed =
      sym (ap (flat_map steps_from) (contexts_listed p t fits)
      ∙ flat_map-map steps_from (λ (c : ContextTable). c.context) t.contexts.items
      ∙ flat_map_each (λ (c : ContextTable). steps_from c.context) (steps_in p) t.contexts.items
      (all_from (λ (c : ContextTable). steps_from c.context ≡ steps_in p c) t.contexts.items
      kept_steps))

  along_listed : (f : Edge → Item)
      → map (λ (d : CallEdge). f d.edge) t.edges.items ≡ map f (edges_of p (table_of t))
  along_listed f =
      sym (map_after (λ (d : CallEdge). d.edge) f (λ (d : CallEdge). f d.edge) (λ d. refl)
      t.edges.items) ∙ ap (map f) (sym (edges_listed p t fits))

  -- as they are listed one part after another
  pub items_listed : (one two three four : List Item) → one ≡ Open ∷ []
      → two ≡ one ++ flat_map (steps_in p) t.contexts.items
      → three ≡ two ++ map (λ (d : CallEdge). Fill d.edge) t.edges.items
      → four ≡ three ++ map (λ (d : CallEdge). Back d.edge) t.edges.items
      → four ≡ items_of p (table_of t)
  items_listed one two three four first second third last =
      last ∙ (λ i. third i ++ along_listed Back i)
      ∙ (λ i. (second i ++ along_listed Fill i) ++ backs)
      ∙ (λ i. ((first i ++ steps_listed i) ++ fills) ++ backs)
    where
      fills : List Item
      fills = map Fill (edges_of p (table_of t))

      backs : List Item
      backs = map Back (edges_of p (table_of t))

  -- ---- each of them is an item

  abbrev IsOne : Item → Type 0
  IsOne i = IsItem p (table_of t) i

  steps_are : (x : Context) → AllByRecursion IsOne (steps_from x)
  steps_are x =
      let count : ℕ = length (nodes_of p x.function) in
      all_flat_map (λ n. (0 ≤ n) × (n < 0 + count)) IsOne (step_at x ((table_of t).state x))
      (λ n within. cond_both (is_some ((table_of t).state x n)) (Step x (record { 0 = n }) ∷ []) []
      (AllByRecursion IsOne)
      (λ some. ((node_there p x.function n (omega (arith, within.1)), some), tt)) (λ none. tt))
      (node_numbers p x.function) (range_within 0 count)

  along_are : (f : Edge → Item) → ((e : Edge) → IsTrue ((table_of t).edge e) → IsOne (f e))
      → AllByRecursion IsOne (map f (edges_of p (table_of t)))
  along_are f h =
      subst (AllByRecursion IsOne) (along_listed f)
      (all_map (λ (d : CallEdge). IsTrue ((table_of t).edge d.edge)) IsOne
      (λ (d : CallEdge). f d.edge) (λ d there. h d.edge there) t.edges.items
      (all_from (λ (d : CallEdge). IsTrue ((table_of t).edge d.edge)) t.edges.items
      (edge_there t)))

  items_are : AllByRecursion IsOne (items_of p (table_of t))
  items_are = (
    tt,
    all_append IsOne (steps_of p (table_of t) ++ map Fill (edges_of p (table_of t)))
        (map Back (edges_of p (table_of t)))
        (all_append IsOne (steps_of p (table_of t)) (map Fill (edges_of p (table_of t)))
        (all_flat_map (λ (x : Context). Unit {0}) IsOne steps_from (λ x here. steps_are x)
        (contexts_of p (table_of t)) (all_of (λ (x : Context). Unit {0}) (λ x. tt)
        (contexts_of p (table_of t)))) (along_are Fill (λ e there. there)))
        (along_are Back (λ e there. there)),
  )

  pub all_items : (items : List Item) → items ≡ items_of p (table_of t) → All IsOne items
  all_items items is =
      subst (All IsOne) (sym is)
      (All-from_recursion IsOne (items_of p (table_of t)) items_are)

  -- ---- and each item is one of them

  abbrev IsListed : Item → Type 0
  IsListed i = Member i (items_of p (table_of t))

  reached : (x : Context) (n : ℕ) → IsSome ((table_of t).state x n)
      → IsTrue ((table_of t).context x)
  reached x n some =
      elim (cases_Bool ((table_of t).context x)) [
        | inl e ↦ e
        | inr e ↦ absurd (false≢true (ap is_some (sym (unreached_state t x n e)) ∙ some))
      ]

  step_is : (x : Context) (n : NodeId) → IsOne (Step x n)
      → Member (Step x n) (steps_of p (table_of t))
  step_is x n i =
      member-flat_map steps_from x (Step x n) (contexts_of p (table_of t))
      (kept_is_reached p t fits x (reached x n.0 i.1))
      (member-flat_map (step_at x ((table_of t).state x)) n.0 (Step x n)
      (node_numbers p x.function) (number_listed (length (nodes_of p x.function)) n.0
      (within_from_some (nodes_of p x.function) n.0 i.0))
      (first_kept (Step x n) (Step x n) [] (is_some ((table_of t).state x n.0)) i.1 refl))

  along_is : (f : Edge → Item) (e : Edge) → IsTrue ((table_of t).edge e)
      → Member (f e) (map f (edges_of p (table_of t)))
  along_is f e there =
      member-map f e (edges_of p (table_of t))
      (subst (Member e) (sym (edges_listed p t fits))
      (listed (λ (d : CallEdge). d.edge) same_edge edges_order.exact t.edges.items e there))

  item_listed : (i : Item) → IsOne i → IsListed i
  item_listed Open h = inl refl
  item_listed (Step x n) h =
      inr (member-append_left (Step x n)
      (steps_of p (table_of t) ++ map Fill (edges_of p (table_of t)))
      (map Back (edges_of p (table_of t)))
      (member-append_left (Step x n) (steps_of p (table_of t))
      (map Fill (edges_of p (table_of t))) (step_is x n h)))
  item_listed (Fill e) h =
      inr (member-append_left (Fill e)
      (steps_of p (table_of t) ++ map Fill (edges_of p (table_of t)))
      (map Back (edges_of p (table_of t)))
      (member-append_right (Fill e) (steps_of p (table_of t))
      (map Fill (edges_of p (table_of t))) (along_is Fill e h)))
  item_listed (Back e) h =
      inr (member-append_right (Back e)
      (steps_of p (table_of t) ++ map Fill (edges_of p (table_of t)))
      (map Back (edges_of p (table_of t))) (along_is Back e h))

  -- so a table each of whose items in the list is settled is closed
  pub closed_by : HasOpening p (table_of t) → (items : List Item)
      → items ≡ items_of p (table_of t)
      → All (λ (i : Item). visited p (table_of t) i ≡ table_of t) items → IsClosed p (table_of t)
  closed_by opening items is settled = record {
    opening = opening;
    settled =
        λ i one. of_member (λ (i : Item). visited p (table_of t) i ≡ table_of t) items i
        (recursion_from_All (λ (i : Item). visited p (table_of t) i ≡ table_of t) items settled)
        (subst (Member i) (sym is) (item_listed i one));
  }

-- ---- the first that isn't settled

pub first_among : (p : Program) (t : Table) (items : List Item) (k : ℕ) (d : Item)
    → k < length items → All (λ (i : Item). visited p t i ≡ t) (take k items)
    → visited p t (get_or items k d) ≢ t → IsFirstAmong p t items (get_or items k d)
first_among p t items k d within settled changes = record {
  before = take k items;
  after = drop (k + 1) items;
  items_are = parted items k d within;
  settled = settled;
  changes = changes;
}

-- why a table isn't told to be closed, by why its items weren't gone through
pub explained_by : {T : Type 0} → (p : Program) (t : Table) → HasOpening p t → (items : List Item)
    → items ≡ items_of p t → (r : Result T CheckFault) → IfErr r (StopsAt p t items)
    → IfErr r (Explains p t)
explained_by p t opening items is (Ok x) h = tt
explained_by p t opening items is (Err NotOpen) h = absurd h
explained_by p t opening items is (Err (NotClosed item)) h =
    (opening, subst (λ (xs : List Item). IsFirstAmong p t xs item) is h)
explained_by p t opening items is (Err Memory) h = tt
