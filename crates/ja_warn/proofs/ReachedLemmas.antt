-- The operations of a table's nodes are those that it reaches.
use Rattle.std.specs.Prelude.{◌≡◌, ◌<◌, ◌+◌, ℕ, zero, suc, Bool, not, List, [], ◌∷◌, find, length, Option, Some, None, slice_index_or, Contains}
use Rattle.std.specs.Option.{option_map_or}
use Rattle.std.specs.List.{AllByRecursion, flat_map}
use Rattle.std.proofs.Common.{refl, sym, ◌∙◌, ap, subst, inl, inr, arith}
use Rattle.std.proofs.lemmas.Bool.{cases_Bool, cond-true, cond-false}
use Rattle.std.proofs.lemmas.List.Elements.{All-contains_itself, recursion_from_All}
use Rattle.std.proofs.lemmas.Option.{none-some, same_Some, slice_get_within}
use Rattle.ja_base.specs.declared.ids.Context.{Context}
use Rattle.ja_base.specs.declared.ids.FnId.{FnId}
use Rattle.ja_base.specs.declared.ids.NodeId.{NodeId}
use Rattle.ja_base.proofs.Lists.{all_append}
use Rattle.ja_graph.specs.declared.node.NodeInfo.{NodeInfo}
use Rattle.ja_graph.specs.declared.program.Program.{Program}
use Rattle.ja_graph.specs.Program.{node_at, nodes_of}
use Rattle.ja_machine.proofs.Lists.{all_from, all_map}
use Rattle.ja_abstract.specs.AbstractState.{AbstractState}
use Rattle.ja_abstract.specs.AbstractValue.{AbstractValue}
use Rattle.ja_abstract.specs.Reading.{View}
use Rattle.ja_abstract.proofs.Lists.{Member, member-flat_map, member-map, member-range}
use Rattle.ja_rows.specs.Table.{Table, node_numbers}
use Rattle.ja_rows.specs.Warning.{Test, Operation, operation_of, operation_at, tests, IsReached}
use Rattle.ja_aheap.specs.Entries.{entries_of}
use Rattle.ja_table.specs.declared.table.ATable.{ATable}
use Rattle.ja_table.specs.declared.table.ContextTable.{ContextTable}
use Rattle.ja_table.specs.Tables.{find_context, is_of, states_in, table_of, Fits}
use Rattle.ja_warn.specs.Told.{About, name_at}
use Rattle.ja_warn.specs.code.Faults.{Finding, tested, reached_with, reached_in, reached_at, reached_of_context}
use Rattle.ja_table.proofs.Found.{found_context, found_entry, found_state, missing_state}
use Rattle.ja_table.proofs.TableUpdates.{own_found}

-- ---- lists

-- what stands somewhere in a list is a member
member_from : {X : Type 0} (xs : List X) (k : ℕ) (x : X) → k < length xs
    → slice_index_or xs k x ≡ x → Member x xs
member_from [] k x lt is = absurd (omega arith)
member_from (y ∷ ys) zero x lt is = inl is
member_from (y ∷ ys) (suc k) x lt is = inr (member_from ys k x (omega arith) is)

all_flat : {X Y : Type 0} (P : Y → Type 0) (f : X → List Y) (xs : List X)
    → AllByRecursion (λ x. AllByRecursion P (f x)) xs → AllByRecursion P (flat_map f xs)
all_flat P f [] each = tt
all_flat P f (x ∷ xs) each =
    all_append P (f x) (flat_map f xs) each.0 (all_flat P f xs each.1)

found_member : {X : Type 0} (test : X → Bool) (xs : List X) (x : X) → find test xs ≡ Some x
    → Member x xs
found_member test [] x is = absurd (cc)
found_member test (y ∷ ys) x is =
    elim (cases_Bool (test y)) [
      | inl e ↦ inl (same_Some y x (sym (cond-true (test y) (Some y) (find test ys) e) ∙ is))
      | inr e ↦ inr (found_member test ys x
          (sym (cond-false (test y) (Some y) (find test ys) e) ∙ is))
    ]

-- ---- each of the operations is reached

-- what a test says of its operation at a node of a function
abbrev pub tested_at : View → FnId → NodeId → NodeInfo → Test → Finding
tested_at w f n i test = tested w f i (name_at w f n i.node) test

-- a value of findings is what is said at their nodes
abbrev pub IsSaid : About → (Finding → AbstractValue) → Type 0
IsSaid about get =
    (w : View) (f : FnId) (n : NodeId) (i : NodeInfo) (test : Test)
    → get (tested_at w f n i test) ≡ about w f n i.node

-- the test and the view that say of an operation what is kept of it
pub record IsFrom (p : Program) (t : Table) (o : Finding) : Type 0 where
  pub test : Test
  pub view : View
  pub reached : IsReached p t (operation_of o.warning) test view
  pub fault_is : test.fault view ≡ o.fault
  pub certain_is : not (test.more view) ≡ o.warning.certain
  pub finding_is : o
      ≡ tested_at view reached.context.function reached.number reached.info test

-- the operations of a node, by the node and the state at a number
pub reached_is : (p : Program) (c : ContextTable) (n : ℕ) (i : NodeInfo) (a : Option AbstractState)
    → node_at p c.context.function (record { 0 = n }) ≡ Some i → states_in c.nodes.items n ≡ a
    → reached_at p c n
    ≡ reached_in p (entries_of c.entries) c.context.function (record { 0 = n }) i a
reached_is p c n i a info_is state_is =
    ap (λ (o : Option NodeInfo). option_map_or
    (λ (x : NodeInfo). reached_in p (entries_of c.entries) c.context.function (record { 0 = n }) x
    (states_in c.nodes.items n)) o []) info_is
    ∙ ap (reached_in p (entries_of c.entries) c.context.function (record { 0 = n }) i) state_is

-- a table that fits the program, whose contexts are found by their keys
module _ (p : Program) (t : ATable) (fits : Fits p t) where
  -- the operations of its contexts
  abbrev pub all_reached : List Finding
  all_reached = flat_map (reached_of_context p) t.contexts.items

  module _ (c : ContextTable) (found : find_context c.context t.contexts.items ≡ Some c) where
    from_state : (n : ℕ) (i : NodeInfo)
        → node_at p c.context.function (record { 0 = n }) ≡ Some i → (a : Option AbstractState)
        → states_in c.nodes.items n ≡ a → AllByRecursion (IsFrom p (table_of t))
        (reached_in p (entries_of c.entries) c.context.function (record { 0 = n }) i a)
    from_state n i info_is None none = tt
    from_state n i info_is (Some a) state_is =
        let w : View = record { program = p; state = a; entries = entries_of c.entries } in
        all_map (Contains (tests i.node)) (IsFrom p (table_of t))
        (tested_at w c.context.function (record { 0 = n }) i)
        (λ x here. record {
          test = x;
          view = w;
          reached = record {
            context = c.context;
            number = record { 0 = n };
            info = i;
            info_is = info_is;
            test_is = here;
            operation_is = refl;
            state = a;
            state_is = found_state t c.context c found n ∙ state_is;
            view_is = λ j. record {
              program = p;
              state = a;
              entries = sym (found_entry t c.context c found) j;
            };
          };
          fault_is = refl;
          certain_is = refl;
          finding_is = refl;
        }) (tests i.node) (recursion_from_All _ _ (All-contains_itself (tests i.node)))

    from_node : (n : ℕ) (i : Option NodeInfo)
        → node_at p c.context.function (record { 0 = n }) ≡ i
        → AllByRecursion (IsFrom p (table_of t)) (option_map_or
        (λ (x : NodeInfo). reached_in p (entries_of c.entries) c.context.function
        (record { 0 = n }) x (states_in c.nodes.items n)) i [])
    from_node n None none = tt
    from_node n (Some i) info_is = from_state n i info_is (states_in c.nodes.items n) refl

    from_context : AllByRecursion (IsFrom p (table_of t)) (reached_of_context p c)
    from_context =
        all_flat (IsFrom p (table_of t)) (reached_at p c) (node_numbers p c.context.function)
        (each (node_numbers p c.context.function))
      where
        each : (ns : List ℕ) → AllByRecursion
            (λ n. AllByRecursion (IsFrom p (table_of t)) (reached_at p c n)) ns
        each [] = tt
        each (n ∷ ns) =
            (from_node n (node_at p c.context.function (record { 0 = n })) refl, each ns)

  pub all_are_from : AllByRecursion (IsFrom p (table_of t)) all_reached
  all_are_from =
      all_flat (IsFrom p (table_of t)) (reached_of_context p) t.contexts.items
      (all_from (λ c. AllByRecursion (IsFrom p (table_of t)) (reached_of_context p c))
      t.contexts.items (λ i c at. from_context c
      (own_found t.contexts.items t.edges.items i c c fits.ordered at refl)))

  -- ---- what is reached is among the operations

  -- an operation by a test of a node and a view, among those of the contexts
  pub record IsKept (o : Operation) (f : FnId) (n : NodeId) (i : NodeInfo) (test : Test)
      (w : View) : Type 0 where
    pub kept : Finding
    pub member : Member kept all_reached
    pub operation_is : operation_of kept.warning ≡ o
    pub fault_is : kept.fault ≡ test.fault w
    pub certain_is : kept.warning.certain ≡ not (test.more w)
    pub kept_is : kept ≡ tested_at w f n i test

  module _ (o : Operation) (test : Test) (w : View) (r : IsReached p (table_of t) o test w) where
    kept_in : (c : ContextTable) → find_context r.context t.contexts.items ≡ Some c
        → IsKept o r.context.function r.number r.info test w
    kept_in c found =
        let is : c.context ≡ r.context = found_context t r.context c found in
        let info_is : node_at p c.context.function r.number ≡ Some r.info =
        subst (λ (x : Context). node_at p x.function r.number ≡ Some r.info) (sym is) r.info_is in
        let state_is : states_in c.nodes.items r.number.0 ≡ Some r.state =
        sym (found_state t r.context c found r.number.0) ∙ r.state_is in
        let v : View =
        record { program = p; state = r.state; entries = entries_of c.entries } in
        let view_is : w ≡ v = r.view_is ∙ (λ j. record {
          program = p;
          state = r.state;
          entries = found_entry t r.context c found j;
        }) in
        let kept : Finding = tested_at v c.context.function r.number r.info test in
        let here : reached_at p c r.number.0 ≡ reached_with v c.context.function r.number r.info =
        reached_is p c r.number.0 r.info (Some r.state) info_is state_is in
        let in_range : r.number.0 < length (nodes_of p c.context.function) =
        slice_get_within (nodes_of p c.context.function) r.number.0 r.info info_is in
        let number_is : 0 + r.number.0 ≡ r.number.0 = omega arith in
        record {
          kept = kept;
          member =
              member-flat_map (reached_of_context p) c kept t.contexts.items
              (found_member (is_of r.context) t.contexts.items c found)
              (member-flat_map (reached_at p c) r.number.0 kept
              (node_numbers p c.context.function)
              (subst (λ m. Member m (node_numbers p c.context.function)) number_is
              (member-range 0 (length (nodes_of p c.context.function)) r.number.0 in_range))
              (subst (Member kept) (sym here) (member-map (tested_at v c.context.function r.number r.info)
              test (tests r.info.node)
              (member_from (tests r.info.node) r.test_is.0 test r.test_is.1 r.test_is.2))));
          operation_is =
              subst (λ (x : Context). operation_at p x.function r.info test.kind ≡ o) (sym is)
              r.operation_is;
          fault_is = ap test.fault (sym view_is);
          certain_is = ap (λ (u : View). not (test.more u)) (sym view_is);
          kept_is =
              λ j. tested_at (sym view_is j) (is j).function r.number r.info test;
        }

    by_context : (c : Option ContextTable) → find_context r.context t.contexts.items ≡ c
        → IsKept o r.context.function r.number r.info test w
    by_context None none =
        absurd (none-some r.state (sym (missing_state t r.context r.number.0 none) ∙ r.state_is))
    by_context (Some c) found = kept_in c found

    -- what is reached is kept
    pub reached_kept : IsKept o r.context.function r.number r.info test w
    reached_kept = by_context (find_context r.context t.contexts.items) refl
