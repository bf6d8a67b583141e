-- Tests of nodes, and what they give: each is allowed in any program, and makes no function.
use Rattle.std.proofs.Common.{◌≡◌, ℕ, Bool, true, false, ◌&&◌, nat_le, nat_eq, List, [], ◌∷◌, map, length, Option, Some, None, refl, ap}
use Rattle.std.specs.List.{AllByRecursion}
use Rattle.std.proofs.lemmas.Bool.{eqb-true, leb-true}
use Rattle.ja_graph.specs.Node.{function_in}
use Rattle.ja_graph.specs.WellFormed.{IsAllowed, arguments_taken}
use Rattle.ja_graph.specs.declared.node.Args.TheVariants.{Registers, Elements, Tail}
use Rattle.ja_graph.specs.declared.node.Node.{Node}
use Rattle.ja_graph.specs.declared.node.Node.TheVariants as node
use Rattle.ja_graph.specs.declared.node.NodeInfo.{NodeInfo}
use Rattle.ja_graph.specs.declared.program.Function.{Function}
use Rattle.ja_graph.specs.declared.program.Program.{Program}
use Rattle.ja_lower.specs.Lowering.{AreAllowed, function_of}
use Rattle.ja_lower.specs.declared.body.Body.{Body}
use Rattle.ja_prelude.proofs.Rows.{Row, row_of}

-- so many are taken
abbrev pub takes : Option ℕ → ℕ → Bool
takes None n = false
takes (Some m) n = nat_eq m n

abbrev pub is_plain : ℕ → Node → Bool
is_plain parameters (node.Call dst callee receiver Tail error) = nat_le parameters 1
is_plain parameters (node.Intrinsic dst which args) = takes (arguments_taken which) (length args)
is_plain parameters (node.Device dst which) = false
is_plain parameters (node.MakeFunction dst function site proto_site) = false
is_plain parameters n = true

-- each element passes
abbrev pub all : {A : Type 0} → (A → Bool) → List A → Bool
all test [] = true
all test (x ∷ xs) = test x && all test xs

abbrev pub are_plain : List Row → Bool
are_plain rows = all (λ (r : Row). all (is_plain r.parameters) r.nodes) rows

both : (a b : Bool) → (a && b) ≡ true → (a ≡ true) × (b ≡ true)
both true b h = (refl, h)
both false b h = absurd (cc)

taken : (m : Option ℕ) (n : ℕ) → takes m n ≡ true → m ≡ Some n
taken None n h = absurd (cc)
taken (Some m) n h = ap Some (eqb-true m n h)

plain_allowed : (p : Program) (fn : Function) (n : Node) → is_plain (length fn.parameters) n ≡ true
    → IsAllowed p fn n
plain_allowed p fn (node.Call dst callee receiver (Registers list) error) h = tt
plain_allowed p fn (node.Call dst callee receiver (Elements array) error) h = tt
plain_allowed p fn (node.Call dst callee receiver Tail error) h =
    leb-true (length fn.parameters) 1 h
plain_allowed p fn (node.Intrinsic dst which args) h = taken (arguments_taken which) (length args) h
plain_allowed p fn (node.Device dst which) h = absurd (cc)
plain_allowed p fn n h = tt

plain_alone : (parameters : ℕ) (n : Node) → is_plain parameters n ≡ true → function_in n ≡ None
unfolding function_in
plain_alone parameters (node.MakeFunction dst function site proto_site) h = absurd (cc)
plain_alone parameters n h = refl

nodes_allowed : (body : Body) (infos : List NodeInfo)
    → all (is_plain (length body.parameters)) (map (λ (info : NodeInfo). info.node) infos) ≡ true
    → AllByRecursion (λ (info : NodeInfo). (p : Program)
    → IsAllowed p (function_of 0 body) info.node) infos
nodes_allowed body [] h = tt
nodes_allowed body (info ∷ infos) h =
    let each = both (is_plain (length body.parameters) info.node)
    (all (is_plain (length body.parameters)) (map (λ (i : NodeInfo). i.node) infos)) h in
    ((λ p. plain_allowed p (function_of 0 body) info.node each.0), nodes_allowed body infos each.1)

nodes_alone : (parameters : ℕ) (infos : List NodeInfo)
    → all (is_plain parameters) (map (λ (info : NodeInfo). info.node) infos) ≡ true
    → AllByRecursion (λ (info : NodeInfo). function_in info.node ≡ None) infos
nodes_alone parameters [] h = tt
nodes_alone parameters (info ∷ infos) h =
    let each = both (is_plain parameters info.node)
    (all (is_plain parameters) (map (λ (i : NodeInfo). i.node) infos)) h in
    (plain_alone parameters info.node each.0, nodes_alone parameters infos each.1)

pub all_allowed : (bodies : List Body) → are_plain (map row_of bodies) ≡ true → AreAllowed bodies
all_allowed [] h = tt
all_allowed (body ∷ bodies) h =
    let each = both (all (is_plain (length body.parameters))
    (map (λ (i : NodeInfo). i.node) body.nodes)) (are_plain (map row_of bodies)) h in
    (nodes_allowed body body.nodes each.0, all_allowed bodies each.1)

pub all_alone : (bodies : List Body) → are_plain (map row_of bodies) ≡ true
    → AllByRecursion (λ (body : Body). AllByRecursion
    (λ (info : NodeInfo). function_in info.node ≡ None) body.nodes) bodies
all_alone [] h = tt
all_alone (body ∷ bodies) h =
    let each = both (all (is_plain (length body.parameters))
    (map (λ (i : NodeInfo). i.node) body.nodes)) (are_plain (map row_of bodies)) h in
    (nodes_alone (length body.parameters) body.nodes each.0, all_alone bodies each.1)
