-- What numbering the sites of nodes changes: the sites alone, which then have the numbers from the
-- first on.
use Rattle.std.proofs.Common.{◌≡◌, ℕ, zero, suc, ◌+◌, ◌≤◌, List, [], ◌∷◌, ◌++◌, length, map, Some, None, refl, sym, ap, ◌∙◌, arith, map-id, length-append}
use Rattle.std.specs.List.{AllByRecursion, flat_map, range_with_len}
use Rattle.std.specs.Option.{option_map}
use Rattle.std.proofs.lemmas.Iterator.Adapters.{option_map_id}
use Rattle.std.proofs.lemmas.List.{map-append, length-map}
use Rattle.std.proofs.lemmas.List.Sums.{sum_by-cons}
use Rattle.ja_graph.specs.declared.node.Args.TheVariants as args
use Rattle.ja_graph.specs.declared.node.Node.{Node}
use Rattle.ja_graph.specs.declared.node.Node.TheVariants as node
use Rattle.ja_graph.specs.declared.node.NodeInfo.{NodeInfo}
use Rattle.ja_graph.specs.Node.{Making, making, makings, register_set, registers_named, name_in, function_in}
use Rattle.ja_graph.specs.Renaming.{Renaming, renamed}
use Rattle.ja_graph.specs.WellFormed.{OwnedMaking, owned, makings_of, makings_from}
use Rattle.ja_graph.proofs.RenamingLemmas.{sets_renamed}
use Rattle.ja_lower.specs.declared.body.Body.{Body}
use Rattle.ja_lower.specs.Lowering.{shifting, site_count, numbered, sites_in, functions_of, sites_of_nodes, sites_of, site_of}

-- ---- one node

makings_renamed : (r : Renaming) (n : Node)
    → makings (renamed r n) ≡ map (λ (m : Making). making (r.site m.site) m.class) (makings n)
unfolding makings renamed
makings_renamed r (node.Enter site None) = refl
makings_renamed r (node.Enter site (Some arguments)) = refl
makings_renamed r n = refl

named_renamed : (r : Renaming) (n : Node)
    → registers_named (renamed r n) ≡ map r.register (registers_named n)
unfolding registers_named renamed
named_renamed r (node.Convert dst src hint None) = refl
named_renamed r (node.Convert dst src hint (Some other)) = refl
named_renamed r (node.Call dst callee receiver (args.Registers list) error) = refl
named_renamed r (node.Call dst callee receiver (args.Elements array) error) = refl
named_renamed r (node.Call dst callee receiver args.Tail error) = refl
named_renamed r n = refl

name_renamed : (r : Renaming) (n : Node) → name_in (renamed r n) ≡ option_map r.name (name_in n)
unfolding name_in renamed
name_renamed r (node.Declare name) = refl
name_renamed r n = refl

function_renamed : (r : Renaming) (n : Node)
    → function_in (renamed r n) ≡ option_map r.function (function_in n)
unfolding function_in renamed
function_renamed r (node.MakeFunction dst function site proto_site) = refl
function_renamed r n = refl

-- a node whose sites are numbered from a number on sets and names the same
pub sets_kept : (first : ℕ) (n : Node) → register_set (renamed (shifting first) n) ≡ register_set n
sets_kept first n = sets_renamed (shifting first) n ∙ option_map_id (register_set n)

pub named_kept : (first : ℕ) (n : Node) → registers_named (renamed (shifting first) n)
    ≡ registers_named n
named_kept first n = named_renamed (shifting first) n ∙ map-id (registers_named n)

pub name_kept : (first : ℕ) (n : Node) → name_in (renamed (shifting first) n) ≡ name_in n
name_kept first n = name_renamed (shifting first) n ∙ option_map_id (name_in n)

pub function_kept : (first : ℕ) (n : Node)
    → function_in (renamed (shifting first) n) ≡ function_in n
function_kept first n = function_renamed (shifting first) n ∙ option_map_id (function_in n)

-- what it makes, it makes at sites from the number on
abbrev pub shifted : ℕ → Making → Making
shifted first m = making (record { 0 = first + m.site.0 }) m.class

pub makings_shifted : (first : ℕ) (n : Node)
    → makings (renamed (shifting first) n) ≡ map (shifted first) (makings n)
makings_shifted first n = makings_renamed (shifting first) n

-- a node has at most four sites
pub few_makings : (n : Node) → site_count n ≤ 4
unfolding makings
few_makings (node.Enter site None) = omega arith
few_makings (node.Enter site (Some arguments)) = omega arith
few_makings n = omega arith

-- ---- numbers of sites

-- the sites of a node are numbered from 0 on
abbrev pub IsSited : NodeInfo → Type 0
IsSited info =
    map (λ (m : Making). m.site.0) (makings info.node)
    ≡ range_with_len 0 (length (makings info.node))

range_append : (a m n : ℕ) → range_with_len a m ++ range_with_len (a + m) n
    ≡ range_with_len a (m + n)
range_append a zero n = let here : a + 0 ≡ a = omega arith in let all : 0 + n ≡ n = omega arith in
    rw (here, all) refl
range_append a (suc m) n =
    let there : a + suc m ≡ a + 1 + m = omega arith in
    let all : suc m + n ≡ suc (m + n) = omega arith in
    rw (there, all) (ap (λ ns. a ∷ ns) (range_append (a + 1) m n))

range_shifted : (a b n : ℕ) → map (λ k. a + k) (range_with_len b n) ≡ range_with_len (a + b) n
range_shifted a b zero = refl
range_shifted a b (suc n) =
    let there : a + (b + 1) ≡ a + b + 1 = omega arith in
    ap (λ ns. (a + b) ∷ ns) (range_shifted a (b + 1) n ∙ ap (λ c. range_with_len c n) there)

-- the number of a making's site
abbrev pub number_of : OwnedMaking → ℕ
number_of m = m.making.site.0

numbers_of_makings : (f first : ℕ) (ms : List Making)
    → map number_of (map (owned f) (map (shifted first) ms))
    ≡ map (λ k. first + k) (map (λ (m : Making). m.site.0) ms)
numbers_of_makings f first [] = refl
numbers_of_makings f first (m ∷ ms) =
    ap (λ ns. (first + m.site.0) ∷ ns) (numbers_of_makings f first ms)

numbers_of_node : (f first : ℕ) (info : NodeInfo) → IsSited info
    → map number_of (map (owned f) (makings (renamed (shifting first) info.node)))
    ≡ range_with_len first (site_count info.node)
numbers_of_node f first info sited =
    let all : first + 0 ≡ first = omega arith in
    ap (λ ms. map number_of (map (owned f) ms)) (makings_shifted first info.node)
    ∙ numbers_of_makings f first (makings info.node)
    ∙ ap (map (λ k. first + k)) sited
    ∙ range_shifted first 0 (site_count info.node)
    ∙ ap (λ a. range_with_len a (site_count info.node)) all

pub sites_in-cons : (info : NodeInfo) (infos : List NodeInfo)
    → sites_in (info ∷ infos) ≡ site_count info.node + sites_in infos
unfolding sites_in
sites_in-cons info infos = sum_by-cons (λ (i : NodeInfo). site_count i.node) info infos

pub sites_in-nil : sites_in [] ≡ 0
unfolding sites_in
sites_in-nil = refl

-- of nodes
numbers_of_nodes : (f first : ℕ) (infos : List NodeInfo) → AllByRecursion IsSited infos
    → map number_of (makings_of f (numbered first infos)) ≡ range_with_len first (sites_in infos)
unfolding numbered
numbers_of_nodes f first [] sited = rw sites_in-nil refl
numbers_of_nodes f first (info ∷ infos) sited =
    let here = map (owned f) (makings (renamed (shifting first) info.node)) in
    let rest = makings_of f (numbered (first + site_count info.node) infos) in
    map-append number_of here rest
    ∙ ap (λ ns. ns ++ map number_of rest) (numbers_of_node f first info sited.0)
    ∙ ap (λ ns. range_with_len first (site_count info.node) ++ ns)
    (numbers_of_nodes f (first + site_count info.node) infos sited.1)
    ∙ range_append first (site_count info.node) (sites_in infos)
    ∙ ap (range_with_len first) (sym (sites_in-cons info infos))

-- ---- sites of functions

pub count_of_nodes : (f : ℕ) (infos : List NodeInfo)
    → length (sites_of_nodes f infos) ≡ sites_in infos
unfolding sites_of_nodes
count_of_nodes f [] = sym sites_in-nil
count_of_nodes f (info ∷ infos) =
    omega (
      arith,
      length-append (map (site_of f info) (makings info.node))
          (flat_map (λ (i : NodeInfo). map (site_of f i) (makings i.node)) infos),
      length-map (makings info.node) (site_of f info),
      count_of_nodes f infos,
      sites_in-cons info infos,
    )

-- the sites of the nodes of each function are numbered from 0 on, node by node
abbrev pub AreSited : List Body → Type 0
AreSited bodies = AllByRecursion (λ (body : Body). AllByRecursion IsSited body.nodes) bodies

pub numbers_of_bodies : (f first : ℕ) (bodies : List Body) → AreSited bodies
    → map number_of (makings_from f (functions_of first bodies))
    ≡ range_with_len first (length (sites_of f bodies))
unfolding functions_of sites_of
numbers_of_bodies f first [] sited = refl
numbers_of_bodies f first (body ∷ bodies) sited =
    let here = makings_of f (numbered first body.nodes) in
    let rest = makings_from (suc f) (functions_of (first + sites_in body.nodes) bodies) in
    let sites = sites_of (suc f) bodies in
    let count : sites_in body.nodes + length sites
    ≡ length (sites_of_nodes f body.nodes ++ sites) = omega
    (arith, length-append (sites_of_nodes f body.nodes) sites, count_of_nodes f body.nodes) in
    map-append number_of here rest
    ∙ ap (λ ns. ns ++ map number_of rest) (numbers_of_nodes f first body.nodes sited.0)
    ∙ ap (λ ns. range_with_len first (sites_in body.nodes) ++ ns)
    (numbers_of_bodies (suc f) (first + sites_in body.nodes) bodies sited.1)
    ∙ range_append first (sites_in body.nodes) (length sites)
    ∙ ap (range_with_len first) count
