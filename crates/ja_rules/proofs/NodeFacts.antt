-- The nodes of a program, and the states at them.
use Rattle.std.specs.Prelude.{◌≡◌, ◌<◌, ◌≤◌, ◌+◌, ◌-◌, ◌++◌, ℕ, zero, suc, Bool, false, List, [], ◌∷◌, Option, None, Some, IsSome, IsTrue, length, map, slice_get}
use Rattle.std.specs.List.{flat_map, list_any, range_with_len, AllByRecursion}
use Rattle.std.specs.Option.{option_map_or, option_to_list}
use Rattle.std.proofs.Common.{refl, sym, subst, ap, ◌∙◌, inl, inr, arith, add-one, append-nil, append_assoc}
use Rattle.std.proofs.lemmas.Bool.{cases_lt, or_left, or_right}
use Rattle.std.proofs.lemmas.Option.{same_Some}
use Rattle.ja_base.specs.declared.ids.FnId.{FnId}
use Rattle.ja_base.specs.declared.ids.NodeId.{NodeId}
use Rattle.ja_base.specs.declared.ids.Reg.{Reg}
use Rattle.ja_base.proofs.Lists.{all_weaker, element_within, within_from_some}
use Rattle.ja_base.proofs.Options.{none_not_some}
use Rattle.ja_graph.specs.declared.node.NodeInfo.{NodeInfo}
use Rattle.ja_graph.specs.declared.program.Function.{Function}
use Rattle.ja_graph.specs.declared.program.Program.{Program}
use Rattle.ja_graph.specs.Node.{name_in, registers_named}
use Rattle.ja_graph.specs.Program.{node_at, nodes_of}
use Rattle.ja_graph.specs.WellFormed.{node_count, IsName, IsNodeWellFormed, IsRegister, IsWellFormed}
use Rattle.ja_machine.specs.Frames.{registers_of}
use Rattle.ja_machine.proofs.Lists.{is_some_from}
use Rattle.ja_abstract.specs.Reading.{View}
use Rattle.ja_astate.specs.declared.state.AState.{AState}
use Rattle.ja_astate.specs.State.{HaveOneShape, IsStateOf}
use Rattle.ja_transfer.specs.Outcomes.{given_by}
use Rattle.ja_transfer.proofs.FunctionAt.{HasFunction, function_at}
use Rattle.ja_table.proofs.JoinedStates.{of_shape}
use Rattle.ja_height.proofs.Targets.{AreBelow, LeadsBelow}

-- ---- nodes

module _ (p : Program) (good : IsWellFormed p) (f : FnId) (n : NodeId) (i : NodeInfo)
    (is : node_at p f n ≡ Some i) where
  stands : HasFunction (slice_get p.functions f.0) n.0 i
  stands = function_at (slice_get p.functions f.0) n.0 i is

  known : IsNodeWellFormed p stands.function i
  known = (good.each f.0 stands.function stands.function_is).each n.0 i stands.info_is

  -- the registers that a node names are of its function
  pub named_registers : AllByRecursion (λ (r : Reg). r.0 < registers_of p f)
      (registers_named i.node)
  named_registers =
      all_weaker (IsRegister stands.function) (λ (r : Reg). r.0 < registers_of p f)
      (λ r within. subst (λ o. r.0 < option_map_or (λ (fn : Function). fn.registers) o 0)
      (sym stands.function_is) within) (registers_named i.node) known.names_registers

  -- its name is one of the program
  pub known_name : AllByRecursion (IsName p) (option_to_list (name_in i.node))
  known_name = known.name

  count_is : length (nodes_of p f) ≡ length stands.function.nodes
  count_is =
      ap (λ o. length (option_map_or (λ (fn : Function). fn.nodes) o [])) stands.function_is

  -- and it leads to nodes of its function
  pub leads : (w : View) → LeadsBelow w (length (nodes_of p f)) i
  leads w = record {
    next = subst (λ m. i.next.0 < m) (sym count_is) known.next;
    other = subst (λ m. i.other.0 < m) (sym count_is) known.other;
    handler = subst (λ m. i.handler.0 < m) (sym count_is) known.handler;
  }

pub node_there : (p : Program) (f : FnId) (n : ℕ) → n < length (nodes_of p f)
    → IsSome (node_at p f (record { 0 = n }))
node_there p f n h =
    let (i, is) = element_within (nodes_of p f) n h in
    is_some_from (slice_get (nodes_of p f) n) i is

-- each function has few nodes
counted : (fns : List Function) (k : ℕ) (fn : Function) → slice_get fns k ≡ Some fn
    → length fn.nodes ≤ node_count fns
counted [] k fn e = absurd (none_not_some e)
counted (x ∷ fns) zero fn e =
    let same : length x.nodes ≡ length fn.nodes =
    ap (λ (g : Function). length g.nodes) (same_Some x fn e) in
    omega (arith, same)
counted (x ∷ fns) (suc k) fn e = let rest = counted fns k fn e in omega (arith, rest)

pub few_nodes : (p : Program) → IsWellFormed p → (f : FnId)
    → length (nodes_of p f) < 4294967296
few_nodes p good f = by (slice_get p.functions f.0) refl
  where
    by : (o : Option Function) → slice_get p.functions f.0 ≡ o
        → length (option_map_or (λ (fn : Function). fn.nodes) o []) < 4294967296
    by None e = omega arith
    by (Some fn) e = omega (arith, counted p.functions f.0 fn e, good.few_nodes)

-- ---- states at nodes

pub given_fit : (p : Program) (count : ℕ) (a : AState) (given : List (NodeId × AState))
    → IsStateOf p count a → AllByRecursion (λ (s : NodeId × AState). HaveOneShape a s.1) given
    → AllByRecursion (λ (s : NodeId × AState). IsStateOf p count s.1) given
given_fit p count a given h all =
    all_weaker (λ (s : NodeId × AState). HaveOneShape a s.1)
    (λ (s : NodeId × AState). IsStateOf p count s.1) (λ s shape. of_shape p count a s.1 shape h)
    given all

pub given_nodes : (p : Program) (f : FnId) (w : View) (given : List (NodeId × AState))
    → AreBelow w (length (nodes_of p f)) (map given_by given)
    → AllByRecursion (λ (s : NodeId × AState). IsSome (node_at p f s.0)) given
given_nodes p f w [] h = tt
given_nodes p f w (s ∷ given) h = (node_there p f s.0.0 h.0, given_nodes p f w given h.1)

-- ---- the numbers of nodes

pub none_range : (test : ℕ → Bool) (a n : ℕ)
    → ((k : ℕ) → a ≤ k → k < a + n → test k ≡ false) → list_any test (range_with_len a n) ≡ false
none_range test a zero h = refl
none_range test a (suc n) h =
    rw (h a (omega arith) (omega arith)) (none_range test (a + 1) n
    (λ k low high. h k (omega arith) (omega arith)))

pub some_range : (test : ℕ → Bool) (a n k : ℕ) → a ≤ k → k < a + n → IsTrue (test k)
    → IsTrue (list_any test (range_with_len a n))
some_range test a zero k low high h = absurd (omega arith)
some_range test a (suc n) k low high h =
    elim (cases_lt a k) [
      | inl behind ↦
          or_right (test a) _ (some_range test (a + 1) n k (omega arith) (omega arith) h)
      | inr here ↦
          let e : k ≡ a = omega (arith, low, here) in
          or_left (test a) _ (subst (λ m. IsTrue (test m)) e h)
    ]

-- what each of so many numbers gives, and one more
more_from : {X : Type 0} (f : ℕ → List X) (a n : ℕ)
    → flat_map f (range_with_len a (suc n)) ≡ flat_map f (range_with_len a n) ++ f (a + n)
more_from f a zero =
    append-nil (f a) ∙ ap f (let e : a ≡ a + 0 = omega arith in e)
more_from f a (suc n) =
    ap (λ ys. f a ++ ys) (more_from f (a + 1) n)
    ∙ sym (append_assoc (f a) (flat_map f (range_with_len (a + 1) n)) (f (a + 1 + n)))
    ∙ ap (λ m. (f a ++ flat_map f (range_with_len (a + 1) n)) ++ f m)
    (let e : a + 1 + n ≡ a + suc n = omega arith in e)

pub one_more : {X : Type 0} (f : ℕ → List X) (n : ℕ)
    → flat_map f (range_with_len 0 (n + 1)) ≡ flat_map f (range_with_len 0 n) ++ f n
one_more f n =
    ap (λ m. flat_map f (range_with_len 0 m)) (add-one n)
    ∙ more_from f 0 n ∙ ap (λ m. flat_map f (range_with_len 0 n) ++ f m)
    (let e : 0 + n ≡ n = omega arith in e)

-- each function has a first node
pub first_node : (p : Program) → IsWellFormed p → (f : FnId) → f.0 < length p.functions
    → IsSome (node_at p f (record { 0 = 0 }))
first_node p good f within =
    let (fn, fn_is) = element_within p.functions f.0 within in
    let well = good.each f.0 fn fn_is in
    let some = within_from_some fn.nodes (length fn.nodes - 1)
    (is_some_from (slice_get fn.nodes (length fn.nodes - 1)) well.last well.last_is) in
    let count : length (nodes_of p f) ≡ length fn.nodes =
    ap (λ o. length (option_map_or (λ (g : Function). g.nodes) o [])) fn_is in
    node_there p f 0 (omega (arith, some, count))
