-- Numbers as data.
use Rattle.std.proofs.Common.{◌≡◌, ℕ, zero, suc, ◌-◌, ◌^◌, ◌<◌, ◌≤◌, false, nat_lt, List, [], ◌∷◌, length, Option, Some, None, refl, ap, sym, arith}
use Rattle.std.specs.Prelude.{is_some, slice_get}
use Rattle.std.specs.Option.{option_map_or}
use Rattle.ja_base.proofs.Lists.{within_from_some}
use Rattle.ja_base.specs.declared.ids.FnId.{FnId}
use Rattle.ja_graph.specs.Program.{nodes_of}
use Rattle.ja_graph.specs.declared.node.NodeInfo.{NodeInfo}
use Rattle.ja_graph.specs.declared.program.Function.{Function}
use Rattle.ja_graph.specs.declared.program.Program.{Program}
use Rattle.ja_graph.specs.WellFormed.{IsFunctionWellFormed, IsWellFormed, max_nodes, node_count}
use Rattle.serde_json.specs.Data.{Num, unsigned, negative, float, Data, null, boolean, number, string, array, object}
use Rattle.ja_cert.specs.Certificate.{whole}
use Rattle.ja_cert.specs.Wrong.{whole_of, is_below}

unsigned_is : (m : Num) (n : ℕ) → Some n ≡ whole_of (number m) → whole n ≡ number m
unsigned_is (unsigned m) n is = cc
unsigned_is (negative z) n is = absurd (cc)
unsigned_is (float x) n is = absurd (cc)

pub whole_is : (d : Data) (n : ℕ) → Some n ≡ whole_of d → whole n ≡ d
whole_is null n is = absurd (cc)
whole_is (boolean b) n is = absurd (cc)
whole_is (number m) n is = unsigned_is m n is
whole_is (string s) n is = absurd (cc)
whole_is (array ds) n is = absurd (cc)
whole_is (object ms) n is = absurd (cc)

pub below_none : (bound : ℕ) (d : Data) → None ≡ whole_of d → is_below bound d ≡ false
below_none bound d is =
    ap (λ (o : Option ℕ). option_map_or (λ (m : ℕ). nat_lt m bound) o false) (sym is)

-- ---- how many functions, nodes

nodes_among : (fns : List Function) (f : ℕ) (fn : Function) → slice_get fns f ≡ Some fn
    → length fn.nodes ≤ node_count fns
nodes_among [] f fn is = absurd (cc)
nodes_among (g ∷ fns) zero fn is =
    let same : g ≡ fn = cc in
    omega (arith, ap (λ (h : Function). length h.nodes) same)
nodes_among (g ∷ fns) (suc f) fn is = omega (arith, nodes_among fns f fn is)

functions_within : (fns : List Function)
    → ((f : ℕ) (fn : Function) → slice_get fns f ≡ Some fn → 0 < length fn.nodes)
    → length fns ≤ node_count fns
functions_within [] some = omega arith
functions_within (fn ∷ fns) some =
    omega (arith, some 0 fn refl, functions_within fns (λ f g is. some (suc f) g is))

some_node : (nodes : List NodeInfo) (last : NodeInfo)
    → slice_get nodes (length nodes - 1) ≡ Some last → 0 < length nodes
some_node nodes last is =
    let within : length nodes - 1 < length nodes =
    within_from_some nodes (length nodes - 1) (ap (λ (o : Option NodeInfo). is_some o) is) in
    omega arith

few_by : (fns : List Function) → length fns ≤ node_count fns → node_count fns ≤ max_nodes
    → length fns < 2 ^ 32
few_by fns count few = omega arith

few_of : (fns : List Function) (fn : Function) → length fn.nodes ≤ node_count fns
    → node_count fns ≤ max_nodes → length fn.nodes < 2 ^ 32
few_of fns fn count few = omega arith

last_node : (p : Program) (fn : Function) → IsFunctionWellFormed p fn → 0 < length fn.nodes
last_node p fn w = some_node fn.nodes w.last w.last_is

pub few_functions : (p : Program) → IsWellFormed p → length p.functions < 2 ^ 32
few_functions p w =
    few_by p.functions
    (functions_within p.functions (λ f fn is. last_node p fn (w.each f fn is))) w.few_nodes

few_among : (p : Program) (o : Option Function) → IsWellFormed p
    → ((fn : Function) → o ≡ Some fn → length fn.nodes ≤ node_count p.functions)
    → length (option_map_or (λ (fn : Function). fn.nodes) o []) < 2 ^ 32
few_among p None w among = omega arith
few_among p (Some fn) w among = few_of p.functions fn (among fn refl) w.few_nodes

pub few_nodes : (p : Program) (f : FnId) → IsWellFormed p → length (nodes_of p f) < 2 ^ 32
few_nodes p f w =
    few_among p (slice_get p.functions f.0) w (λ fn is. nodes_among p.functions f.0 fn is)
