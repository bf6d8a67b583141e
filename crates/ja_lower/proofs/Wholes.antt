-- One more function, and its sites.
use Rattle.std.proofs.Common.{◌≡◌, ◌+◌, ◌++◌, ℕ, suc, List, [], ◌∷◌, length, map, refl, append_assoc, append-nil, length-append, arith}
use Rattle.std.specs.List.{AllByRecursion}
use Rattle.std.proofs.lemmas.List.{length-map}
use Rattle.std.proofs.lemmas.List.Sums.{sum_by-cons}
use Rattle.ja_graph.specs.declared.node.NodeInfo.{NodeInfo}
use Rattle.ja_graph.specs.declared.program.Function.{Function}
use Rattle.ja_graph.specs.declared.program.SiteInfo.{SiteInfo}
use Rattle.ja_graph.specs.Node.{makings}
use Rattle.ja_lower.specs.declared.body.Body.{Body}
use Rattle.ja_lower.specs.Lowering.{site_of, site_count, sites_in, sites_of_nodes, sites_of, function_of, functions_of, at_paths}

-- there are as many sites as are counted
pub sites_counted : (function : ℕ) (nodes : List NodeInfo)
    → length (sites_of_nodes function nodes) ≡ sites_in nodes
unfolding sites_of_nodes sites_in
sites_counted function [] = refl
sites_counted function (info ∷ nodes) =
    let own = length-map (makings info.node) (site_of function info) in
    let rest = sites_counted function nodes in
    let sum = sum_by-cons (λ (i : NodeInfo). site_count i.node) info nodes in
    omega (
      arith,
      length-append (map (site_of function info) (makings info.node))
          (sites_of_nodes function nodes),
    )

pub functions_more : (fs : List Function) (ss : List SiteInfo) (first n : ℕ) (body : Body)
    (bodies : List Body) → (fs ++ function_of (first + length ss) body ∷ [])
    ++ functions_of (first + length (ss ++ sites_of_nodes n body.nodes)) bodies ≡ fs
    ++ functions_of (first + length ss) (body ∷ bodies)
unfolding functions_of
functions_more fs ss first n body bodies =
    let count : first + length (ss ++ sites_of_nodes n body.nodes) ≡ first + length ss
    + sites_in body.nodes = omega (
      arith,
      length-append ss (sites_of_nodes n body.nodes),
      sites_counted n body.nodes,
    ) in
    rw count (append_assoc fs (function_of (first + length ss) body ∷ [])
    (functions_of (first + length ss + sites_in body.nodes) bodies))

pub sites_more : (ss : List SiteInfo) (n : ℕ) (body : Body) (bodies : List Body)
    → (ss ++ sites_of_nodes n body.nodes) ++ sites_of (suc n) bodies ≡ ss
    ++ sites_of n (body ∷ bodies)
unfolding sites_of
sites_more ss n body bodies =
    append_assoc ss (sites_of_nodes n body.nodes) (sites_of (suc n) bodies)

-- no more
pub functions_done : (fs : List Function) (first : ℕ) (bodies : List Body) → length bodies ≡ 0
    → fs ++ functions_of first bodies ≡ fs
unfolding functions_of
functions_done fs first [] h = append-nil fs
functions_done fs first (body ∷ bodies) h = absurd (omega arith)

pub sites_done : (ss : List SiteInfo) (n : ℕ) (bodies : List Body) → length bodies ≡ 0
    → ss ++ sites_of n bodies ≡ ss
unfolding sites_of
sites_done ss n [] h = append-nil ss
sites_done ss n (body ∷ bodies) h = absurd (omega arith)

pub at_paths_done : (list : List Body) (paths : List (List ℕ)) (bodies : List Body)
    → length bodies ≡ 0 → list ++ at_paths paths bodies ≡ list
at_paths_done list [] bodies h = append-nil list
at_paths_done list (path ∷ paths) [] h = append-nil list
at_paths_done list (path ∷ paths) (body ∷ bodies) h = absurd (omega arith)

-- what holds of each element, and of one more
pub all_more : {A : Type 0} (P : A → Type 0) (xs : List A) (x : A) → AllByRecursion P xs → P x
    → AllByRecursion P (xs ++ x ∷ [])
all_more P [] x h p = (p, tt)
all_more P (y ∷ xs) x h p = (h.0, all_more P xs x h.1 p)
